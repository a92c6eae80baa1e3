-- The document of a worked tree is what is answered to its system.
use Rattle.std.proofs.Common.{◌≡◌, ◌∙◌, ◌≤◌, ℕ, List, ap, sym, subst}
use Rattle.std.specs.List.{AllByRecursion}
use Rattle.dz_rank.specs.declared.rankings.Signature.{Signature}
use Rattle.dz_poly.specs.Books.{BookValue, IsBook}
use Rattle.dz_diff.specs.Operations.{setting_of}
use Rattle.dz_diff.specs.State.{State}
use Rattle.dz_syntax.specs.Names.{Declared, signature_of}
use Rattle.dz_tree.specs.Belonging.{IsLineOf}
use Rattle.dz_check.specs.Certified.{IsCertified}
use Rattle.dz_move.specs.Lines.{Line}
use Rattle.dz_move.specs.Standing.{MayStand}
use Rattle.dz_move.specs.Systems.{IsSystemIn, SystemValue, system_in}
use Rattle.dz_tree.specs.Trees.{Tree}
use Rattle.dz_cert.specs.Documents.{document_of}
use Rattle.dz_engine.specs.Worked.{IsWorked, worked_tree}
use Rattle.dz_engine.proofs.NamedLines.{keepables_in}
use Rattle.dz_engine.proofs.OneWorkedTree.{one_worked_tree}
use Rattle.dz_engine.proofs.WorkedTrees.{worked_laws}
use Rattle.dz_run.specs.declared.ending.Ending.{Ending}
use Rattle.dz_run.specs.Answer.{printed}
use Rattle.dz_run.specs.Decomposed.{decomposed, lines_ending, tree_answer, tree_chains, worked_chains}

module _ (old new : BookValue) (same : new ≡ old) (system : SystemValue) (tree : Tree) where
  -- a worked tree is certified, in the same book
  pub worked_certified : IsWorked (setting_of old.ranking) (system_in old system) tree → IsCertified (setting_of new.ranking) (system_in new system) tree
  worked_certified h =
      subst (λ (b : BookValue). IsCertified (setting_of b.ranking) (system_in b system) tree) (sym same)
      ((worked_laws (setting_of old.ranking)).certified (system_in old system) tree h)

  -- it is the worked tree of the system and the budget
  pub worked_is : IsBook old → IsSystemIn old system → old.ranking.signature.independents ≤ 4 → old.ranking.signature.dependents ≤ 16
      → (budget : ℕ) → budget ≤ 20000000 → IsWorked (setting_of old.ranking) (system_in old system) tree → tree.budget ≡ budget
      → tree ≡ worked_tree (setting_of old.ranking) budget (system_in old system)
  worked_is book stands few named budget most h e =
      let stand : MayStand old.ranking (system_in old system).equations (system_in old system).inequations = record {
        equations_keepable = keepables_in old book system.equations stands.equations_live;
        inequations_keepable = keepables_in old book system.inequations stands.inequations_live;
      } in
      one_worked_tree old.ranking few named budget most (system_in old system) stand stands.within_limits tree h e

  -- its document and its ending are the answer
  pub worked_answer : (budget : ℕ) → tree ≡ worked_tree (setting_of old.ranking) budget (system_in old system) → (names : Declared)
      → (output : List ℕ) → output ≡ document_of (setting_of new.ranking) names (system_in new system) tree → (ending : Ending) → ending ≡ lines_ending tree.lines
      → printed output ending ≡ decomposed old.ranking names budget (system_in old system)
  unfolding decomposed
  worked_answer budget one names output o ending f =
      let there : output ≡ document_of (setting_of old.ranking) names (system_in old system) tree = o ∙ ap (λ (b : BookValue). document_of (setting_of b.ranking) names (system_in b system) tree) same in
      ap (λ (x : List ℕ). printed x ending) there
      ∙ ap (λ (x : Ending). printed (document_of (setting_of old.ranking) names (system_in old system) tree) x) f
      ∙ ap (tree_answer old.ranking names (system_in old system)) one

  -- so are the states of its chains
  pub worked_states : (budget : ℕ) → tree ≡ worked_tree (setting_of old.ranking) budget (system_in old system) → (states : List State)
      → states ≡ tree_chains new.ranking (system_in new system) tree → states ≡ worked_chains old.ranking budget (system_in old system)
  unfolding worked_chains
  worked_states budget one states e =
      e ∙ ap (λ (b : BookValue). tree_chains b.ranking (system_in b system) tree) same ∙ ap (tree_chains old.ranking (system_in old system)) one

-- lines of a signature are lines of its names
pub lines_named : (names : Declared) (g : Signature) → signature_of names ≡ g → (lines : List Line) → AllByRecursion (λ line. IsLineOf g line) lines → AllByRecursion (λ line. IsLineOf (signature_of names) line) lines
lines_named names g e lines h = subst (λ (g : Signature). AllByRecursion (λ line. IsLineOf g line) lines) (sym e) h
