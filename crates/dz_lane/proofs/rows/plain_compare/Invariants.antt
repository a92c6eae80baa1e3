use Rattle.std.proofs.Common.{◌≡◌, drop}
use Rattle.std.specs.Ordering.{nat_cmp}
use Rattle.std.specs.Cmp.Lexicographic.{slice_cmp}
use Rattle.dz_lane.proofs.rows.plain_compare.Given as goal

abbrev pub invariant-places : goal.invariant-places
invariant-places l = slice_cmp nat_cmp l.a l.b ≡ slice_cmp nat_cmp (drop l.i l.a) (drop l.i l.b)
