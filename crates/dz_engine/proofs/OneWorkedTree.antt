-- The worked tree of a system and a budget is the one that is computed.
use Rattle.std.proofs.Common.{◌≡◌, ◌∙◌, ◌≤◌, ℕ, List, ap, subst, None}
use Rattle.dz_rank.specs.Rankings.{RankingValue}
use Rattle.dz_diff.specs.Operations.{setting_of}
use Rattle.dz_move.specs.Lines.{Line}
use Rattle.dz_move.specs.Root.{System}
use Rattle.dz_move.specs.Standing.{MayStand}
use Rattle.dz_move.specs.Systems.{system_limit}
use Rattle.dz_tree.specs.Trees.{Tree}
use Rattle.dz_engine.specs.Worked.{IsWorked, worked_tree}
use Rattle.dz_engine.proofs.OrderLaws.{order_laws}
use Rattle.dz_engine.proofs.WorkedTrees.{worked_laws}

module _ (r : RankingValue) (few : r.signature.independents ≤ 4) (named : r.signature.dependents ≤ 16) where
  -- a tree that is worked with a budget is that of the budget
  pub one_worked_tree : (budget : ℕ) → budget ≤ 20000000 → (system : System) → MayStand r system.equations system.inequations → system_limit system ≡ None
      → (tree : Tree) → IsWorked (setting_of r) system tree → tree.budget ≡ budget → tree ≡ worked_tree (setting_of r) budget system
  one_worked_tree budget most system stand within tree h e =
      let there = (order_laws r few named budget most).is_there system stand within in
      let mine : IsWorked (setting_of r) system (record { budget = budget; lines = tree.lines }) = subst (λ n. IsWorked (setting_of r) system (record { budget = n; lines = tree.lines })) e h in
      ap (λ n. record { budget = n; lines = tree.lines }) e
      ∙ ap (λ (lines : List Line). record { budget = budget; lines = lines }) ((worked_laws (setting_of r)).once system budget tree.lines (worked_tree (setting_of r) budget system).lines mine there)
