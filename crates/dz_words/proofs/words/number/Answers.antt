use Rattle.std.proofs.Common.{◌≡◌, ◌∙◌, refl, Some, None}
use Rattle.std.specs.Fmt.{decimal}
use Rattle.std.specs.Str.Parse.{ParsesUnsigned, ExplainsUnsignedError, HasUnsignedDigitsIfOk}
use Rattle.clap.specs.Matches.{found_of, one_text}
use Rattle.clap.proofs.WalkLemmas.{one_text-rows}
use Rattle.dz_words.specs.Options.{name_of}
use Rattle.dz_words.proofs.Numbers.{reads_decimal}
use Rattle.dz_words.proofs.words.number.Goals as goal

pub returns-clause-found : goal.returns-clause-found
returns-clause-found c = λ n small is.
    let text : one_text (found_of c.args.matches.now) c.name.result.now ≡ Some (decimal n) =
    rw c.name.ensures (one_text-rows (found_of c.args.matches.now) (name_of c.args.key) ∙ is) in
    let one : c.get_one.result ≡ Some n =
    reads_decimal (λ bs r. ParsesUnsigned 32 10 bs r × ExplainsUnsignedError 10 bs r × HasUnsignedDigitsIfOk bs r) n c.get_one.result (λ u x g. g.0) small
    (c.get_one.ensures.value (decimal n) text) in
    c.unwrap_or.ensures ∙ rw one refl

pub returns-clause-unset : goal.returns-clause-unset
returns-clause-unset c = λ is.
    let text : one_text (found_of c.args.matches.now) c.name.result.now ≡ None =
    rw c.name.ensures (one_text-rows (found_of c.args.matches.now) (name_of c.args.key) ∙ is) in
    let one = c.get_one.ensures.none text in
    c.unwrap_or.ensures ∙ rw one c.default_number.ensures
