use Rattle.std.proofs.Common.{◌≡◌, take}
use Rattle.dz_diff.specs.States.{state_in}
use Rattle.dz_step.specs.Divisors.{AreKeptOf}
use Rattle.dz_step.specs.Step.{usable}
use Rattle.dz_step.proofs.divisors.divisors_of.Given as goal

abbrev pub invariant-loop-p : goal.invariant-loop-p
invariant-loop-p l = record {
  counted : l.place ≡ l.p-index;
  kept : AreKeptOf l.book.ranking (usable l.role (state_in l.book l.state).inequations) l.role 1 (take l.p-index (state_in l.book l.state).equations) l.table.items;
}
