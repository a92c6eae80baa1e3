use Rattle.std.proofs.Common.{◌≡◌, ◌+◌, ◌-◌, ◌≤◌, length, drop, nat_lt}
use Rattle.dz_lane.specs.Rows.{any_pair}
use Rattle.dz_lane.proofs.rows.few_sum_passes.Given as goal

abbrev pub invariant-vectors : goal.invariant-vectors
invariant-vectors l = record {
  inside : l.i ≤ length l.a;
  same : any_pair (λ x y. nat_lt 65535 (x + y)) l.a l.b ≡ any_pair (λ x y. nat_lt 65535 (x + y)) (drop l.i l.a) (drop l.i l.b);
}

abbrev pub decreases-vectors : goal.decreases-vectors
decreases-vectors l = length l.a - l.i
