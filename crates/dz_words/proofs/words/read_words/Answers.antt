use Rattle.std.proofs.Common.{◌∙◌, rules, ap, refl, sym, subst, map, string_bytes}
use Rattle.std.specs.Prelude.{IsErrOf}
use Rattle.clap.specs.Simple.{matches_of}
use Rattle.dz_words.specs.declared.words.WordsFault.TheVariants.{NotWritten}
use Rattle.dz_words.specs.Commands.{blad_app}
use Rattle.dz_words.specs.Words.{IsWritten}
use Rattle.dz_words.proofs.Clap.{matches_are}
use Rattle.dz_words.proofs.Written.{has_shape, in_range, shape_of, taken_allowed, within_most, written_shape, written_taken}
use Rattle.dz_words.proofs.words.read_words.Goals as goal

pub returns-in_default-clause-refused : goal.returns-in_default-clause-refused
returns-in_default-clause-refused c = λ _ request w.
    let shaped = written_shape (map string_bytes c.args.words.now) request w in
    c.in_default.not-Some request.verb (c.verb_of.ensures ∙ shaped)

pub returns-in_err-matches-clause-refused : goal.returns-in_err-matches-clause-refused
returns-in_err-matches-clause-refused c = λ is request w.
    let refused : IsErrOf c.parse.result NotWritten = search rules in
    c.parse.ensures.refused refused (written_taken (map string_bytes c.args.words.now) request w)

pub returns-in_err-matches-clause-memory : goal.returns-in_err-matches-clause-memory
returns-in_err-matches-clause-memory c = λ _.
    let words = map string_bytes c.args.words.now in
    has_shape c.in-Some.verb words (shape_of c.in-Some.verb words (sym c.verb_of.ensures ∙ c.in-Some.is))

pub returns-clause-read : goal.returns-clause-read
returns-clause-read c =
    let words = map string_bytes c.args.words.now in
    let shape = shape_of c.in-Some.verb words (sym c.verb_of.ensures ∙ c.in-Some.is) in
    let read = c.in_ok-matches.ensures.read in
    let allowed = taken_allowed c.in-Some.verb words shape read.1 in
    let rows = read.0 ∙ (ap (matches_of blad_app) shape.spelled ∙ matches_are c.in-Some.verb shape.settings shape.once) in
    let asked = c.request_of.ensures shape.settings (within_most shape.settings allowed.within) rows in
    subst (IsWritten words) (sym asked) (record { settings = shape.settings; spelled = shape.spelled; allowed = allowed; asked = refl })

pub returns-clause-within : goal.returns-clause-within
returns-clause-within c = in_range (map string_bytes c.args.words.now) c.request_of.result (returns-clause-read c)
