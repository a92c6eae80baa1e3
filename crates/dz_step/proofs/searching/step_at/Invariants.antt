use Rattle.std.proofs.Common.{◌≡◌}
use Rattle.dz_algebra.specs.Parts.{degree}
use Rattle.dz_algebra.specs.Polynomial.{Polynomial}
use Rattle.dz_rank.specs.Rankings.{ranking_cmp}
use Rattle.dz_rank.specs.declared.symbols.Symbol.{Symbol}
use Rattle.dz_diff.specs.Operations.{setting_of}
use Rattle.dz_diff.specs.States.{state_in}
use Rattle.dz_step.specs.Divisors.{AreDivisors}
use Rattle.dz_step.specs.FullRun.{step_at}
use Rattle.dz_step.proofs.Searches.{from_place}
use Rattle.dz_step.proofs.searching.step_at.Given as goal

abbrev pub invariant-loop-i : goal.invariant-loop-i
invariant-loop-i l = record {
  kept : AreDivisors l.book.ranking (state_in l.book l.state) l.role l.table.items;
  rest : (f : Polynomial Symbol) → l.d ≡ degree (ranking_cmp l.book.ranking) l.v f
      → step_at (setting_of l.book.ranking) (state_in l.book l.state) l.role f l.v 1 (state_in l.book l.state).equations ≡ from_place l.book.ranking (state_in l.book l.state) l.role f l.v (state_in l.book l.state).equations l.i;
}
