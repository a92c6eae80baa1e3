-- What the states after an action are, from its drafts.
use Rattle.std.proofs.Common.{◌≡◌, ◌≤◌, ◌∙◌, inl, inr, ℕ, true, false, not, Bool, cond, List, length, refl, sym, ap, subst, Result, Ok, Err, Option, Some, None}
use Rattle.dz_rank.specs.Rankings.{RankingValue}
use Rattle.dz_poly.specs.Books.{BookValue, IsBook, IsKept}
use Rattle.dz_monomials.specs.Ranked.{symbols_under}
use Rattle.dz_monomials.specs.Lists.{AllOf}
use Rattle.dz_diff.specs.Operations.{Setting, setting_of}
use Rattle.dz_algebra.specs.Outcome.{◌>>=◌, numbered}
use Rattle.dz_diff.specs.State.{State, limit_passed}
use Rattle.dz_diff.specs.States.{IsStateOf, StandsIn, StateValue, state_in}
use Rattle.dz_move.specs.declared.drafts.Drafted.{Drafted}
use Rattle.dz_move.specs.declared.drafts.Performed.{Performed}
use Rattle.dz_move.specs.declared.fault.ActionStop.{ActionStop}
use Rattle.dz_move.specs.Actions.{IsActionStop, IsDrafted, IsMoveFault, IsPerformed, drafts_in, move_fault, reached_in}
use Rattle.dz_move.specs.Fault.{Fault}
use Rattle.dz_move.specs.Lines.{Line, act, closed, chain, pair, spent, spent_pairs, open_wide, open_separant, open_large, is_fork_line, is_move_line}
use Rattle.dz_move.specs.Moves.{Action, is_fork, perform, settled, within}
use Rattle.dz_move.specs.Parts.{is_act}
use Rattle.dz_move.proofs.Progress.{perform_leads}
use Rattle.dz_move.proofs.RootFacts.{all_over}
use Rattle.dz_move.proofs.StateFacts.{perform_facts}

-- states within the limits are settled
pub settled_ok : (k : ℕ) (ss : List State) (w : ℕ) → limit_passed ss ≡ None → settled k ss w ≡ Ok (record { after = ss; weight = w })
settled_ok k ss w e = ap (λ o. numbered k (within o) >>= (λ _. Ok (record { after = ss; weight = w }))) e

-- ---- the drafts of an action
module _ (old new : BookValue) (keeps : IsKept old new) (few : old.ranking.signature.independents ≤ 4) (whole : IsBook old) (s : StateValue) (stands : StandsIn old s) (facts : IsStateOf (symbols_under old.ranking) (state_in old s)) (action : Action) (x : Drafted) (h : IsDrafted new x (perform (setting_of old.ranking) (state_in old s) action)) where
  -- within the limits they have the facts of states
  pub drafts_facts : limit_passed (drafts_in new x.after) ≡ None → AllOf (IsStateOf (symbols_under new.ranking)) (drafts_in new x.after)
  drafts_facts e = subst (λ (r : RankingValue). AllOf (IsStateOf (symbols_under r)) (drafts_in new x.after)) (sym keeps.ranking)
      (perform_facts old.ranking few (state_in old s) action (record { after = drafts_in new x.after; weight = h.weight })
      (record { equations_over = all_over old whole s.equations stands.equations_live; inequations_over = all_over old whole s.inequations stands.inequations_live })
      facts (h.is ∙ settled_ok x.steps (drafts_in new x.after) h.weight e))

-- ---- lines that are actions
-- such a line is one
pub acts : (line : Line) → is_act line ≡ true → (action : Action) × (line ≡ act action)
acts (act action) e = (action, refl)
acts closed e = cc
acts chain e = cc
acts (pair x) e = cc
acts (spent action) e = cc
acts spent_pairs e = cc
acts (open_wide action) e = cc
acts (open_separant i) e = cc
acts (open_large limit action) e = cc

pub move_acts : (line : Line) → is_move_line line ≡ true → (action : Action) × (line ≡ act action) × (is_fork action ≡ false)
move_acts (act action) e = (action, refl, no (is_fork action) e)
  where
    no : (b : Bool) → not b ≡ true → b ≡ false
    no true e = cc
    no false e = refl
move_acts closed e = cc
move_acts chain e = cc
move_acts (pair x) e = cc
move_acts (spent action) e = cc
move_acts spent_pairs e = cc
move_acts (open_wide action) e = cc
move_acts (open_separant i) e = cc
move_acts (open_large limit action) e = cc

pub fork_acts : (line : Line) → is_fork_line line ≡ true → (action : Action) × (line ≡ act action) × (is_fork action ≡ true)
fork_acts (act action) e = (action, refl, e)
fork_acts closed e = cc
fork_acts chain e = cc
fork_acts (pair x) e = cc
fork_acts (spent action) e = cc
fork_acts spent_pairs e = cc
fork_acts (open_wide action) e = cc
fork_acts (open_separant i) e = cc
fork_acts (open_large limit action) e = cc

-- a fault without its number
pub stop_fault : {A : Type 0} (stop : ActionStop) (q : Result A (ℕ × Fault)) → IsActionStop stop q → IsMoveFault stop.fault q
stop_fault stop q (inl e) = inl e
stop_fault stop (Ok x) (inr e) = absurd (nothing e)
  where
    nothing : ◌≡◌ {A = Option ActionStop} None (Some stop) → ⊥
    nothing e = cc
stop_fault stop (Err k) (inr e) = inr (ap Some (ap (λ (s : ActionStop). s.fault) (same e)))
  where
    same : ◌≡◌ {A = Option ActionStop} (Some (record { steps = k.0; fault = move_fault k.1 })) (Some stop) → record { steps = k.0; fault = move_fault k.1 } ≡ stop
    same e = cc

-- ---- how many states there are
module _ (g : Setting) (s : State) (action : Action) (book : BookValue) (x : Performed) (h : IsPerformed book x (perform g s action)) where
  -- one after a move
  pub one_after : is_fork action ≡ false → length (reached_in book x.after) ≡ 1
  one_after e = (perform_leads g s action (record { after = reached_in book x.after; weight = h.weight }) h.is).states ∙ ap (λ b. cond b 2 1) e

  -- two after a fork
  pub two_after : is_fork action ≡ true → length (reached_in book x.after) ≡ 2
  two_after e = (perform_leads g s action (record { after = reached_in book x.after; weight = h.weight }) h.is).states ∙ ap (λ b. cond b 2 1) e
