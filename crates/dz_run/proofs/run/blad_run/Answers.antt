use Rattle.std.proofs.Common.{map, string_bytes, subst, sym, ◌∙◌}
use Rattle.dz_run.specs.Run.{Input, Output}
use Rattle.dz_run.proofs.CheckedInputs.{given_checked}
use Rattle.dz_run.proofs.Decompositions.{given_decomposed, given_reduced, zero_given}
use Rattle.dz_run.proofs.Descriptions.{given_described}
use Rattle.dz_run.proofs.EarlyReports.{IsEarlyStatus, early_given, given_early, given_partly}
use Rattle.dz_run.proofs.PreparedAnswers.{given_prepared, given_prepared_early}
use Rattle.dz_run.proofs.run.blad_run.Goals as goal

pub returns-clause-headline : goal.returns-clause-headline
returns-clause-headline g c = λ status request written verb.
    let words = map string_bytes c.args.words.now in
    let before : Input = record { rest = g.S.Source.rest c.args.input.now; faults = g.S.Source.faults c.args.input.now } in
    let after : Input = record { rest = g.S.Source.rest c.run-ending.new.input; faults = g.S.Source.faults c.run-ending.new.input } in
    let out : Output = record { written = g.K.Sink.written c.args.out.now; faults = g.K.Sink.faults c.args.out.now; stalls = g.K.Sink.stalls c.args.out.now } in
    let out' : Output = record { written = g.K.Sink.written c.run-ending.new.out; faults = g.K.Sink.faults c.run-ending.new.out; stalls = g.K.Sink.stalls c.run-ending.new.out } in
    given_decomposed g.D.Domain.laws c.is_point.ensures words before after out out' _ request written verb
    (zero_given words before after out out' c.run-ending.result.0 c.run-ending.result.1.items c.run-ending.ensures.ends (sym c.tell.ensures.status ∙ status))

pub returns-clause-vanishing : goal.returns-clause-vanishing
returns-clause-vanishing g c = λ status request written verb.
    let words = map string_bytes c.args.words.now in
    let before : Input = record { rest = g.S.Source.rest c.args.input.now; faults = g.S.Source.faults c.args.input.now } in
    let after : Input = record { rest = g.S.Source.rest c.run-ending.new.input; faults = g.S.Source.faults c.run-ending.new.input } in
    let out : Output = record { written = g.K.Sink.written c.args.out.now; faults = g.K.Sink.faults c.args.out.now; stalls = g.K.Sink.stalls c.args.out.now } in
    let out' : Output = record { written = g.K.Sink.written c.run-ending.new.out; faults = g.K.Sink.faults c.run-ending.new.out; stalls = g.K.Sink.stalls c.run-ending.new.out } in
    given_reduced g.D.Domain.laws c.is_point.ensures words before after out out' _ request written verb
    (zero_given words before after out out' c.run-ending.result.0 c.run-ending.result.1.items c.run-ending.ensures.ends (sym c.tell.ensures.status ∙ status))

pub returns-clause-described : goal.returns-clause-described
returns-clause-described g c = λ status request written verb.
    let words = map string_bytes c.args.words.now in
    let before : Input = record { rest = g.S.Source.rest c.args.input.now; faults = g.S.Source.faults c.args.input.now } in
    let after : Input = record { rest = g.S.Source.rest c.run-ending.new.input; faults = g.S.Source.faults c.run-ending.new.input } in
    let out : Output = record { written = g.K.Sink.written c.args.out.now; faults = g.K.Sink.faults c.args.out.now; stalls = g.K.Sink.stalls c.args.out.now } in
    let out' : Output = record { written = g.K.Sink.written c.run-ending.new.out; faults = g.K.Sink.faults c.run-ending.new.out; stalls = g.K.Sink.stalls c.run-ending.new.out } in
    given_described words before after out out' _ request written verb
    (zero_given words before after out out' c.run-ending.result.0 c.run-ending.result.1.items c.run-ending.ensures.ends (sym c.tell.ensures.status ∙ status))

pub returns-clause-vanishing_told : goal.returns-clause-vanishing_told
returns-clause-vanishing_told g c = λ status request written verb.
    let words = map string_bytes c.args.words.now in
    let before : Input = record { rest = g.S.Source.rest c.args.input.now; faults = g.S.Source.faults c.args.input.now } in
    let after : Input = record { rest = g.S.Source.rest c.run-ending.new.input; faults = g.S.Source.faults c.run-ending.new.input } in
    let out : Output = record { written = g.K.Sink.written c.args.out.now; faults = g.K.Sink.faults c.args.out.now; stalls = g.K.Sink.stalls c.args.out.now } in
    let out' : Output = record { written = g.K.Sink.written c.run-ending.new.out; faults = g.K.Sink.faults c.run-ending.new.out; stalls = g.K.Sink.stalls c.run-ending.new.out } in
    let early = early_given words before after out out' c.run-ending.result.0 c.run-ending.result.1.items c.run-ending.ensures.ends (subst IsEarlyStatus c.tell.ensures.status status) in
    given_early g.D.Domain.laws c.is_point.ensures words before after out out' _ _ request written verb early.0 early.1

pub returns-clause-checked : goal.returns-clause-checked
returns-clause-checked g c = λ status request written verb.
    let words = map string_bytes c.args.words.now in
    let before : Input = record { rest = g.S.Source.rest c.args.input.now; faults = g.S.Source.faults c.args.input.now } in
    let after : Input = record { rest = g.S.Source.rest c.run-ending.new.input; faults = g.S.Source.faults c.run-ending.new.input } in
    let out : Output = record { written = g.K.Sink.written c.args.out.now; faults = g.K.Sink.faults c.args.out.now; stalls = g.K.Sink.stalls c.args.out.now } in
    let out' : Output = record { written = g.K.Sink.written c.run-ending.new.out; faults = g.K.Sink.faults c.run-ending.new.out; stalls = g.K.Sink.stalls c.run-ending.new.out } in
    given_checked g.D.Domain.laws c.is_point.ensures words before after out out' _ request written verb
    (zero_given words before after out out' c.run-ending.result.0 c.run-ending.result.1.items c.run-ending.ensures.ends (sym c.tell.ensures.status ∙ status))

pub returns-clause-partly : goal.returns-clause-partly
returns-clause-partly g c = λ status request written verb.
    let words = map string_bytes c.args.words.now in
    let before : Input = record { rest = g.S.Source.rest c.args.input.now; faults = g.S.Source.faults c.args.input.now } in
    let after : Input = record { rest = g.S.Source.rest c.run-ending.new.input; faults = g.S.Source.faults c.run-ending.new.input } in
    let out : Output = record { written = g.K.Sink.written c.args.out.now; faults = g.K.Sink.faults c.args.out.now; stalls = g.K.Sink.stalls c.args.out.now } in
    let out' : Output = record { written = g.K.Sink.written c.run-ending.new.out; faults = g.K.Sink.faults c.run-ending.new.out; stalls = g.K.Sink.stalls c.run-ending.new.out } in
    let early = early_given words before after out out' c.run-ending.result.0 c.run-ending.result.1.items c.run-ending.ensures.ends (subst IsEarlyStatus c.tell.ensures.status status) in
    given_partly g.D.Domain.laws c.is_point.ensures words before after out out' _ _ request written verb early.0 early.1

pub returns-clause-prepared : goal.returns-clause-prepared
returns-clause-prepared g c = λ status request written verb.
    let words = map string_bytes c.args.words.now in
    let before : Input = record { rest = g.S.Source.rest c.args.input.now; faults = g.S.Source.faults c.args.input.now } in
    let after : Input = record { rest = g.S.Source.rest c.run-ending.new.input; faults = g.S.Source.faults c.run-ending.new.input } in
    let out : Output = record { written = g.K.Sink.written c.args.out.now; faults = g.K.Sink.faults c.args.out.now; stalls = g.K.Sink.stalls c.args.out.now } in
    let out' : Output = record { written = g.K.Sink.written c.run-ending.new.out; faults = g.K.Sink.faults c.run-ending.new.out; stalls = g.K.Sink.stalls c.run-ending.new.out } in
    given_prepared words before after out out' _ request written verb
    (zero_given words before after out out' c.run-ending.result.0 c.run-ending.result.1.items c.run-ending.ensures.ends (sym c.tell.ensures.status ∙ status))

pub returns-clause-prepared_told : goal.returns-clause-prepared_told
returns-clause-prepared_told g c = λ status request written verb.
    let words = map string_bytes c.args.words.now in
    let before : Input = record { rest = g.S.Source.rest c.args.input.now; faults = g.S.Source.faults c.args.input.now } in
    let after : Input = record { rest = g.S.Source.rest c.run-ending.new.input; faults = g.S.Source.faults c.run-ending.new.input } in
    let out : Output = record { written = g.K.Sink.written c.args.out.now; faults = g.K.Sink.faults c.args.out.now; stalls = g.K.Sink.stalls c.args.out.now } in
    let out' : Output = record { written = g.K.Sink.written c.run-ending.new.out; faults = g.K.Sink.faults c.run-ending.new.out; stalls = g.K.Sink.stalls c.run-ending.new.out } in
    let early = early_given words before after out out' c.run-ending.result.0 c.run-ending.result.1.items c.run-ending.ensures.ends (subst IsEarlyStatus c.tell.ensures.status status) in
    given_prepared_early words before after out out' _ _ request written verb early.0 early.1
