use Rattle.std.specs.List.{flat_map, range_with_len}
use Rattle.std.proofs.Common.{◌≡◌, ◌≤◌, ◌++◌, ◌-◌, length}
use Rattle.dz_parametric.proofs.Splits.{fixed_part}
use Rattle.dz_parametric.proofs.dividing.+add_cones.Given as goal

abbrev pub decreases-add_cones : goal.decreases-add_cones
decreases-add_cones l = l.independents - l.i

abbrev pub invariant-loop-k : goal.invariant-loop-k
invariant-loop-k l = record {
  parts : l.found.items ≡ l.fn.found.items ++ flat_map (fixed_part l.fn.independents l.fn.i l.fn.cone l.fn.operators) (range_with_len 0 l.k);
  room : length l.found.items ≤ 4096;
}
