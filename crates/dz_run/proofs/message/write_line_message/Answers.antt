use Rattle.std.proofs.Common.{◌++◌, ◌∙◌, List, OnErr, OnOk, ℕ, subst}
use Rattle.std.specs.Prelude.{codes}
use Rattle.std.specs.Io.KnownBytes.{Appends}
use Rattle.dz_outside.specs.Writing.{AppendsPart}
use Rattle.dz_run.proofs.message.write_line_message.Goals as goal

pub returns-clause-ok : goal.returns-clause-ok
returns-clause-ok g c =
    subst (λ (t : List ℕ). OnOk c.write_pieces.result (Appends (g.L.Sink.written c.args.err.now) (g.L.Sink.written c.write_pieces.new.sink) (codes "blad: document: line " ++ t ++ codes "\n")))
    (c.as_bytes.ensures.value ∙ c.format-line.ensures.text) c.write_pieces.ensures.ok

pub returns-clause-err : goal.returns-clause-err
returns-clause-err g c =
    subst (λ (t : List ℕ). OnErr c.write_pieces.result (AppendsPart (g.L.Sink.written c.args.err.now) (g.L.Sink.written c.write_pieces.new.sink) (codes "blad: document: line " ++ t ++ codes "\n")))
    (c.as_bytes.ensures.value ∙ c.format-line.ensures.text) c.write_pieces.ensures.err
