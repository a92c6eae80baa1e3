use Rattle.std.proofs.Common.{arith}
use Rattle.dz_outside.proofs.Pieces.{piece_read}
use Rattle.dz_outside.proofs.memory.MemSourceSource.read.Goals as goal

pub returns-clause-bytes : goal.returns-clause-bytes
returns-clause-bytes c =
    let source = c.self.inside in
    let bytes = c.deref-2.result.now in
    let copied = c.copy_from_slice in
    let moved = rw c.deref-2.ensures.value at
    (piece_read bytes c.args.into.now copied.new.self source.at source.most c.min-count.result c.self.invariant.1
    (omega arith) copied.ensures.after) in
    (rw (← c.self.view_is) moved.0, moved.1)
