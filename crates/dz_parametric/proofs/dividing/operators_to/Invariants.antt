use Rattle.std.proofs.Common.{◌≡◌, take, slice_index_or}
use Rattle.std.specs.Prelude.{nat_le}
use Rattle.std.specs.List.{filter}
use Rattle.dz_parametric.proofs.dividing.operators_to.Given as goal

abbrev pub invariant-loop-operator : goal.invariant-loop-operator
invariant-loop-operator l = l.kept.items ≡ filter (λ t. nat_le (slice_index_or t.counts l.fn.i 0) l.fn.most) (take l.operator-index l.fn.operators)
