-- What the report of full runs tells of vanishing; the crate's law function asks for its proof.
use Rattle.std.specs.Prelude.{◌≡◌, ◌↔◌, ℕ, codes, List, Some, None}
use Rattle.std.specs.List.{last_or}
use Rattle.dz_algebra.specs.Polynomial.{Polynomial}
use Rattle.dz_rank.specs.declared.symbols.Symbol.{Symbol}
use Rattle.dz_monomials.specs.Lists.{AllOf}
use Rattle.dz_diff.specs.Operations.{Setting}
use Rattle.dz_diff.specs.State.{State}
use Rattle.dz_ask.specs.Vanishing.{RunsToZero}
use Rattle.dz_syntax.specs.Names.{Declared}
use Rattle.dz_report.specs.Reductions.{all_run_to_zero, question_report, vanishing_line}

-- what is told of a question by chains
pub record VanishingLaws (g : Setting) (names : Declared) (budget : ℕ) (chains : List State) (f : Polynomial Symbol) : Type 0 where
  -- the line on vanishing says yes exactly where the run by each chain ends at zero
  pub line : (vanishing_line (all_run_to_zero g budget f chains) ≡ codes "vanishing yes") ↔ AllOf (RunsToZero g budget f) chains
  -- and the report of the question ends with that line exactly there
  pub report : (last_or None (question_report g names budget chains f).lines ≡ Some (codes "vanishing yes")) ↔ AllOf (RunsToZero g budget f) chains
