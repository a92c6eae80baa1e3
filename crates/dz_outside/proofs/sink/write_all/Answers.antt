use Rattle.std.proofs.Common.{arith}
use Rattle.dz_outside.proofs.Pieces.{piece_written}
use Rattle.dz_outside.proofs.sink.write_all.Goals as goal

pub pieces-preserved : goal.pieces-preserved
pieces-preserved g c = record {
  inside = omega (arith, c.in_ok-count.ensures.bound);
  written = piece_written _ _ _ _ _ _ c.pieces.invariant.written c.in_ok-count.ensures.bytes;
  later = omega arith;
  stalls_later = omega arith;
}
