use Rattle.std.proofs.Common.{◌≤◌, map, drop}
use Rattle.std.specs.List.{concat}
use Rattle.dz_run.proofs.Pieces.{IsWritten}
use Rattle.dz_run.proofs.message.write_pieces.Given as goal

abbrev pub invariant-pieces : goal.invariant-pieces
invariant-pieces g l = record {
  written : IsWritten (g.L.Sink.written l.initial.sink) (g.L.Sink.written l.sink) (concat (map (λ p. p.now) (drop l.piece-index l.pieces))) (concat (map (λ p. p.now) l.pieces));
  later : g.L.Sink.faults l.initial.sink ≤ g.L.Sink.faults l.sink;
  stalls_later : g.L.Sink.stalls l.initial.sink ≤ g.L.Sink.stalls l.sink;
}
