use Rattle.std.proofs.Common.{◌≡◌, ◌+◌, ◌≤◌, ◌++◌, length, take}
use Rattle.dz_arena.proofs.chunk.put_all.Given as goal

-- so many cells are written
abbrev pub invariant-loop-i : goal.invariant-loop-i
invariant-loop-i g l = record {
  start : l.block.start ≡ l.fn.block.start;
  room : l.block.room ≡ l.fn.block.room;
  written : l.index + l.i ≤ length l.block.cells;
  within : length l.block.cells ≤ l.block.room;
  cells : take (l.index + l.i) l.block.cells ≡ take l.index l.fn.block.cells ++ take l.i l.cells;
}
