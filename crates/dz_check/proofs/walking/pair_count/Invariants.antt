use Rattle.std.proofs.Common.{◌≡◌, ◌+◌, length, drop, map}
use Rattle.dz_move.specs.Lines.{grouped}
use Rattle.dz_move.specs.TreeLines.{line_of}
use Rattle.dz_check.proofs.walking.pair_count.Given as goal

abbrev pub invariant-lines : goal.invariant-lines
invariant-lines l = l.k + length (grouped (map line_of (drop l.k l.lines))).0 ≡ length (grouped (map line_of l.lines)).0
