use Rattle.std.proofs.Common.{◌≡◌, ◌+◌, length, take, Some}
use Rattle.dz_arena.proofs.tests.write.Given as goal

abbrev pub invariant-cells : goal.invariant-cells
invariant-cells l = record {
  begun : l.stack.begun ≡ Some (record { beginning = length l.fn.stack.cells; length = l.fn.count });
  count : length l.stack.cells ≡ length l.fn.stack.cells + l.number;
  front : take (length l.fn.stack.cells) l.stack.cells ≡ l.fn.stack.cells;
  chunks : l.stack.chunks ≡ l.fn.stack.chunks;
}
