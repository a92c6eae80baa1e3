use Rattle.std.proofs.Common.{◌≡◌, ◌+◌, drop}
use Rattle.dz_diff.specs.Operations.{setting_of}
use Rattle.dz_diff.specs.States.{state_in}
use Rattle.dz_step.specs.Divisors.{AreDivisors}
use Rattle.dz_step.specs.FullRun.{admits}
use Rattle.dz_step.specs.declared.Role.TheVariants.{Free}
use Rattle.dz_engine.specs.declared.admitting.Members.TheVariants.{Inequations}
use Rattle.dz_engine.specs.Finding.{first_that, weedable, role_in}
use Rattle.dz_engine.proofs.admitting.weedable.Given as goal

abbrev pub invariant-places : goal.invariant-places
invariant-places l = record {
  kept : AreDivisors l.book.ranking (state_in l.book l.state) Free l.table.items;
  rest : weedable (setting_of l.book.ranking) (state_in l.book l.state)
      ≡ first_that (l.k + 1) (λ i p. admits (setting_of l.book.ranking) (state_in l.book l.state) (role_in Inequations i) p) (drop l.k (state_in l.book l.state).inequations);
}
