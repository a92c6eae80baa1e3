use Rattle.std.proofs.Common.{◌≡◌, drop, map}
use Rattle.dz_move.specs.TreeLines.{line_of}
use Rattle.dz_run.specs.Decomposed.{lines_ending}
use Rattle.dz_run.proofs.decomposing.lines_ending.Given as goal

-- the lines that are left decide
abbrev pub invariant-lines : goal.invariant-lines
invariant-lines l = lines_ending (map line_of (drop l.line-index l.lines)) ≡ lines_ending (map line_of l.lines)
