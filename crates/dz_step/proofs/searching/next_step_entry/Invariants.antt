use Rattle.std.proofs.Common.{◌≡◌}
use Rattle.dz_diff.specs.Operations.{setting_of}
use Rattle.dz_diff.specs.States.{state_in}
use Rattle.dz_step.specs.Divisors.{AreDivisors}
use Rattle.dz_step.specs.FullRun.{next_step}
use Rattle.dz_step.proofs.Searches.{from_symbol}
use Rattle.dz_step.proofs.searching.next_step_entry.Given as goal

abbrev pub invariant-loop-power : goal.invariant-loop-power
invariant-loop-power l = record {
  kept : AreDivisors l.book.ranking (state_in l.book l.state) l.role l.table.items;
  rest : next_step (setting_of l.book.ranking) (state_in l.book l.state) l.role l.f.terms ≡ from_symbol l.book.ranking (state_in l.book l.state) l.role l.f.terms l.power-items l.power-index;
}
