-- The worked tree of a system, from its lines.
use Rattle.std.specs.List.{AllByRecursion}
use Rattle.std.proofs.Common.{◌≡◌, ◌≤◌, ◌∙◌, ℕ, List, [], ◌∷◌, map, sym, ap, subst}
use Rattle.dz_rank.specs.Rankings.{RankingValue}
use Rattle.dz_monomials.specs.Ranked.{symbols_under}
use Rattle.dz_poly.specs.Books.{BookValue, IsBook, IsKept}
use Rattle.dz_diff.specs.Operations.{setting_of}
use Rattle.dz_diff.specs.State.{State}
use Rattle.dz_diff.specs.States.{IsStateOf, StandsIn, StateValue, state_in}
use Rattle.dz_move.specs.declared.lines.Line.{Line as ProgramLine}
use Rattle.dz_tree.specs.Belonging.{IsLineOf}
use Rattle.dz_tree.specs.Forms.{FormTree, IsTree}
use Rattle.dz_move.specs.Lines.{Evidence, Line, Entry, entries_of}
use Rattle.dz_move.specs.Root.{System, root_of}
use Rattle.dz_move.specs.TreeLines.{line_of}
use Rattle.dz_tree.specs.Trees.{tree_of}
use Rattle.dz_engine.specs.Turning.{AreWorkedLines}
use Rattle.dz_engine.specs.Worked.{IsWorked, IsWorkedFrom}
use Rattle.dz_engine.proofs.NamedLines.{state_over}
use Rattle.dz_engine.proofs.OrderOfWork.{worked_grouped}
use Rattle.dz_engine.proofs.WorkedForms.{worked_belong, worked_forms}

module _ (old book : BookValue) (keeps : IsKept old book) (whole : IsBook book) (few : old.ranking.signature.independents ≤ 4) (named : old.ranking.signature.dependents ≤ 16) (budget : ℕ) (most : budget ≤ 20000000)
    (root : StateValue) (stands : StandsIn book root) (facts : IsStateOf (symbols_under book.ranking) (state_in book root)) (lines : List ProgramLine) (h : AreWorkedLines (setting_of book.ranking) budget (state_in book root) lines) where
  few_now : book.ranking.signature.independents ≤ 4
  few_now = subst (λ (r : RankingValue). r.signature.independents ≤ 4) (sym keeps.ranking) few

  named_now : book.ranking.signature.dependents ≤ 16
  named_now = subst (λ (r : RankingValue). r.signature.dependents ≤ 16) (sym keeps.ranking) named

  -- the lines form one tree
  pub worked_tree : IsTree (tree_of budget lines)
  worked_tree = record {
    budget = most;
    lines = subst FormTree (sym h.are) (worked_forms book.ranking few_now named_now budget (state_in book root) h.entries (state_over book whole root stands facts) h.worked);
  }

  -- and belong to the signature
  pub worked_lines_belong : AllByRecursion (λ line. IsLineOf old.ranking.signature line) (map line_of lines)
  worked_lines_belong =
      subst (λ (r : RankingValue). AllByRecursion (λ line. IsLineOf r.signature line) (map line_of lines)) keeps.ranking
      (subst (λ (ls : List Line). AllByRecursion (λ line. IsLineOf book.ranking.signature line) ls) (sym h.are) (worked_belong book.ranking few_now named_now budget (state_in book root) h.entries (state_over book whole root stands facts) h.worked))

  -- and it is worked
  pub worked_system : (system : System) → state_in book root ≡ root_of (symbols_under old.ranking) system → IsWorked (setting_of old.ranking) system (tree_of budget lines)
  worked_system system e =
      let same : entries_of (map line_of lines) ≡ h.entries = ap entries_of h.are ∙ ap (λ (q : List Evidence × List Entry). q.1) (worked_grouped (setting_of book.ranking) budget 0 (state_in book root ∷ []) h.entries h.worked) in
      record {
        formed = worked_tree;
        named =
            subst (λ (es : List Entry). IsWorkedFrom (setting_of old.ranking) budget 0 (root_of (symbols_under old.ranking) system ∷ []) es) (sym same)
            (subst (λ (s : State). IsWorkedFrom (setting_of old.ranking) budget 0 (s ∷ []) h.entries) e
            (subst (λ (r : RankingValue). IsWorkedFrom (setting_of r) budget 0 (state_in book root ∷ []) h.entries) keeps.ranking h.worked));
      }
