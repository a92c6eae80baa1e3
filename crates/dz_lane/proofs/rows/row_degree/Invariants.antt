use Rattle.std.proofs.Common.{◌≡◌, ◌-◌, ◌≤◌, length, take}
use Rattle.std.specs.Prelude.{sum}
use Rattle.std.specs.Simd.Lanes.{sum_l}
use Rattle.dz_lane.proofs.rows.row_degree.Given as goal

abbrev pub invariant-vectors : goal.invariant-vectors
invariant-vectors l = record { inside : l.i ≤ length l.a; summed : sum_l l.sums ≡ sum (take l.i l.a) }

abbrev pub decreases-vectors : goal.decreases-vectors
decreases-vectors l = length l.a - l.i

abbrev pub invariant-entries : goal.invariant-entries
invariant-entries l = record { inside : l.i ≤ length l.a; summed : l.degree ≡ sum (take l.i l.a) }

abbrev pub decreases-entries : goal.decreases-entries
decreases-entries l = length l.a - l.i
