use Rattle.std.proofs.Common.{map, string_bytes, [], List, ℕ, ◌≡◌, Err, subst, arith, rules}
use Rattle.std.proofs.lemmas.Grind.{common_steps}
use Rattle.std.specs.Io.KnownBytes.{Appends}
use Rattle.dz_run.specs.Answer.{answer_of}
use Rattle.dz_run.specs.Run.{Input, Output, WritesAnswer}
use Rattle.dz_run.proofs.Endings.{answer_ends, answered_orderly, cut_ends, nothing_ends, some_bytes}
use Rattle.dz_run.proofs.run.run.Goals as goal

pub returns-in-Err-clause-ends : goal.returns-in-Err-clause-ends
returns-in-Err-clause-ends g c = c.in-Err.ensures.ended record { written = g.K.Sink.written c.args.out.now; faults = g.K.Sink.faults c.args.out.now; stalls = g.K.Sink.stalls c.args.out.now } _

pub returns-then-is_empty-clause-ends : goal.returns-then-is_empty-clause-ends
returns-then-is_empty-clause-ends g c =
    let before : Input = record { rest = g.S.Source.rest c.args.input.now; faults = g.S.Source.faults c.args.input.now } in
    let after : Input = record { rest = g.S.Source.rest c.input_answer.new.input; faults = g.S.Source.faults c.input_answer.new.input } in
    let out : Output = record { written = g.K.Sink.written c.args.out.now; faults = g.K.Sink.faults c.args.out.now; stalls = g.K.Sink.stalls c.args.out.now } in
    let none : c.in-Ok.told.output.items ≡ [] = first_of (search rules, grind (arith, common_steps)) in
    nothing_ends (map string_bytes c.args.words.now) before after out (answer_of c.in-Ok.told) c.in-Ok.ensures.answered none

pub returns-in-Ok-write_answer-clause-ends : goal.returns-in-Ok-write_answer-clause-ends
returns-in-Ok-write_answer-clause-ends g c =
    let before : Input = record { rest = g.S.Source.rest c.args.input.now; faults = g.S.Source.faults c.args.input.now } in
    let after : Input = record { rest = g.S.Source.rest c.input_answer.new.input; faults = g.S.Source.faults c.input_answer.new.input } in
    let out : Output = record { written = g.K.Sink.written c.args.out.now; faults = g.K.Sink.faults c.args.out.now; stalls = g.K.Sink.stalls c.args.out.now } in
    let out' : Output = record { written = g.K.Sink.written c.write_answer.new.out; faults = g.K.Sink.faults c.write_answer.new.out; stalls = g.K.Sink.stalls c.write_answer.new.out } in
    answer_ends (map string_bytes c.args.words.now) before after out out' (answer_of c.in-Ok.told) c.in-Ok.ensures.answered
    (subst (λ (bs : List ℕ). Appends out.written out'.written bs) c.deref.ensures.value c.in-Ok-write_answer.ensures)

pub returns-in-Ok-write_answer-clause-silent : goal.returns-in-Ok-write_answer-clause-silent
returns-in-Ok-write_answer-clause-silent g c = λ silent.
    let before : Input = record { rest = g.S.Source.rest c.args.input.now; faults = g.S.Source.faults c.args.input.now } in
    let after : Input = record { rest = g.S.Source.rest c.input_answer.new.input; faults = g.S.Source.faults c.input_answer.new.input } in
    let none = (answered_orderly (map string_bytes c.args.words.now) before after (answer_of c.in-Ok.told) c.in-Ok.ensures.answered).silent silent in
    absurd (some_bytes c.in-Ok.told.output.items c.deref.result.now _ c.deref.ensures.value c.deref.ensures.len c.if-is_empty.ensures none)

pub returns-in-Err-write_answer-clause-ends : goal.returns-in-Err-write_answer-clause-ends
returns-in-Err-write_answer-clause-ends g c =
    let before : Input = record { rest = g.S.Source.rest c.args.input.now; faults = g.S.Source.faults c.args.input.now } in
    let after : Input = record { rest = g.S.Source.rest c.input_answer.new.input; faults = g.S.Source.faults c.input_answer.new.input } in
    let out : Output = record { written = g.K.Sink.written c.args.out.now; faults = g.K.Sink.faults c.args.out.now; stalls = g.K.Sink.stalls c.args.out.now } in
    let out' : Output = record { written = g.K.Sink.written c.write_answer.new.out; faults = g.K.Sink.faults c.write_answer.new.out; stalls = g.K.Sink.stalls c.write_answer.new.out } in
    cut_ends (map string_bytes c.args.words.now) before after out out' (answer_of c.in-Ok.told) c.in-Err-write_answer.ending _ c.in-Ok.ensures.answered
    (subst (λ (bs : List ℕ). WritesAnswer out out' bs (Err c.in-Err-write_answer.ending)) c.deref.ensures.value c.in-Err-write_answer.ensures)
