use Rattle.std.proofs.Common.{◌≡◌, ◌-◌, ◌≤◌, length, take}
use Rattle.std.specs.Simd.Lanes.{zip2}
use Rattle.dz_lane.proofs.rows.put_few_differences.Given as goal

abbrev pub invariant-vectors : goal.invariant-vectors
invariant-vectors l = record {
  inside : l.i ≤ length l.a;
  long : length l.into ≡ length l.a;
  done : take l.i l.into ≡ zip2 (λ x y. x - y) (take l.i l.a) (take l.i l.b);
}

abbrev pub decreases-vectors : goal.decreases-vectors
decreases-vectors l = length l.a - l.i
