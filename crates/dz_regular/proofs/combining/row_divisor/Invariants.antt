use Rattle.std.proofs.Common.{◌≡◌, ◌-◌, drop, length}
use Rattle.dz_regular.specs.Combining.{common_content}
use Rattle.dz_regular.specs.Working.{polynomials_of}
use Rattle.dz_regular.proofs.combining.row_divisor.Given as goal

abbrev pub invariant-loop-i : goal.invariant-loop-i
invariant-loop-i l = l.all ≡ common_content (polynomials_of (drop (length l.entries - l.i) l.entries))
