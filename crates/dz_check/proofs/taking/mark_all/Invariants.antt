use Rattle.std.proofs.Common.{◌≡◌, ◌++◌, map, take, drop}
use Rattle.dz_check.specs.Collecting.{marked}
use Rattle.dz_check.proofs.taking.mark_all.Given as goal

abbrev pub invariant-loop-pending : goal.invariant-loop-pending
invariant-loop-pending l = l.pending-items ≡ map (marked l.mark) (take l.pending-index l.initial.pending-items) ++ drop l.pending-index l.initial.pending-items
