-- How a preparation that has come so far goes on.
use Rattle.std.specs.Prelude.{slice_index_or}
use Rattle.std.proofs.Common.{◌≡◌, ◌<◌, ◌≤◌, ◌+◌, ◌-◌, ◌++◌, ◌∙◌, ℕ, zero, suc, nat_lt, true, false, cond, List, [], ◌∷◌, pos, length, sym, ap, ap₂, arith, Result, Ok, Err, Option, Some, None}
use Rattle.std.proofs.lemmas.Bool.Decides.{nat_tests}
use Rattle.dz_algebra.specs.Polynomial.{Polynomial}
use Rattle.dz_algebra.specs.Size.{wide, large}
use Rattle.dz_rank.specs.Rankings.{RankingValue}
use Rattle.dz_rank.specs.declared.symbols.Symbol.{Symbol}
use Rattle.dz_diff.specs.Operations.{setting_of}
use Rattle.dz_diff.specs.State.{State}
use Rattle.dz_monomials.specs.Ranked.{symbols_under}
use Rattle.dz_algebra.specs.Outcome.{◌>>=◌}
use Rattle.dz_diff.proofs.SameTests.{other_not_same}
use Rattle.dz_step.specs.Step.{Stop, refused}
use Rattle.dz_step.specs.declared.Step.{Step}
use Rattle.dz_step.specs.declared.attempts.AttemptStop.{AttemptStop}
use Rattle.dz_step.specs.declared.attempts.AttemptStop.TheVariants.{Memory, Wide, Large, Spent}
use Rattle.dz_ask.specs.Preparation.{Prepared, Term}
use Rattle.dz_ask.specs.Progress.{IsAt, IsHalt, IsTurnFault, polynomials_of, working_in}
use Rattle.dz_ask.specs.Turns.{Course, Turn, finished, stopped, passed, coefficient_terms, next_turn, preparation, preparation_from, turn_answer, turned_terms, unprepared, with_factor}
use Rattle.dz_ask.specs.Working.{terms_in, turn_by}
use Rattle.dz_ask.specs.declared.working.WorkingTerm.{WorkingTerm}
use Rattle.dz_ask.specs.declared.preparing.Working.{Working}

module _ (r : RankingValue) (s : State) (budget : ℕ) (x : Prepared) (count : ℕ) where
  -- how it goes on after the answer of a turn
  abbrev after : ℕ → Turn → Result Prepared Stop → Course
  after rounds t q = elim q as (λ _. Course) [
    | Err stop ↦ stopped x stop
    | Ok y ↦ cond (nat_lt budget (count + 1 + coefficient_terms y.terms)) (passed x) (preparation_from (setting_of r) s budget rounds y (count + 1 + coefficient_terms y.terms))
  ]

  -- how it goes on where there is a turn or none
  abbrev made : ℕ → Option Turn → Course
  made rounds o = elim o as (λ _. Course) [ None ↦ finished x | Some t ↦ after rounds t (turn_answer (setting_of r) s x t) ]

  -- without a turn it is at its end
  pub at_end : (rounds : ℕ) → next_turn (setting_of r) s x.terms ≡ None → preparation_from (setting_of r) s budget (suc rounds) x count ≡ finished x
  at_end rounds e = ap (made rounds) e

  -- a turn that is refused stops it
  pub refused_at : (rounds : ℕ) (t : Turn) (stop : Stop) → next_turn (setting_of r) s x.terms ≡ Some t → turn_answer (setting_of r) s x t ≡ Err stop → preparation_from (setting_of r) s budget (suc rounds) x count ≡ stopped x stop
  refused_at rounds t stop e h = ap (made rounds) e ∙ ap (after rounds t) h

  -- a turn past the budget ends it
  pub spent_at : (rounds : ℕ) (t : Turn) (y : Prepared) → next_turn (setting_of r) s x.terms ≡ Some t → turn_answer (setting_of r) s x t ≡ Ok y → budget < count + 1 + coefficient_terms y.terms → preparation_from (setting_of r) s budget (suc rounds) x count ≡ passed x
  spent_at rounds t y e h l =
      let high : nat_lt budget (count + 1 + coefficient_terms y.terms) ≡ true = grind (arith, nat_tests) in
      ap (made rounds) e ∙ ap (after rounds t) h ∙ ap (λ b. cond b (passed x) (preparation_from (setting_of r) s budget rounds y (count + 1 + coefficient_terms y.terms))) high

  -- and one within it goes on
  pub goes_on : (rounds : ℕ) (t : Turn) (y : Prepared) → next_turn (setting_of r) s x.terms ≡ Some t → turn_answer (setting_of r) s x t ≡ Ok y → count + 1 + coefficient_terms y.terms ≤ budget
      → preparation_from (setting_of r) s budget (suc rounds) x count ≡ preparation_from (setting_of r) s budget rounds y (count + 1 + coefficient_terms y.terms)
  goes_on rounds t y e h l =
      let low : nat_lt budget (count + 1 + coefficient_terms y.terms) ≡ false = grind (arith, nat_tests) in
      ap (made rounds) e ∙ ap (after rounds t) h ∙ ap (λ b. cond b (passed x) (preparation_from (setting_of r) s budget rounds y (count + 1 + coefficient_terms y.terms))) low

module _ (r : RankingValue) (s : State) (budget : ℕ) (f : Polynomial Symbol) (w : Working) (at : IsAt r s budget f w) where
  -- the preparation so far
  abbrev x : Prepared
  x = working_in w

  pub ends_here : next_turn (setting_of r) s x.terms ≡ None → preparation (setting_of r) s budget f ≡ finished x
  ends_here e = at.3 ∙ at_end r s budget x (budget - w.left) at.0 e

  pub stops_here : (t : Turn) (stop : Stop) → next_turn (setting_of r) s x.terms ≡ Some t → turn_answer (setting_of r) s x t ≡ Err stop → preparation (setting_of r) s budget f ≡ stopped x stop
  stops_here t stop e h = at.3 ∙ refused_at r s budget x (budget - w.left) at.0 t stop e h

  pub passes_here : (t : Turn) (y : Prepared) → next_turn (setting_of r) s x.terms ≡ Some t → turn_answer (setting_of r) s x t ≡ Ok y → w.left ≤ coefficient_terms y.terms → preparation (setting_of r) s budget f ≡ passed x
  passes_here t y e h l = at.3 ∙ spent_at r s budget x (budget - w.left) at.0 t y e h (omega (arith, l, at.2))

  pub moves_on : (t : Turn) (v : Working) → next_turn (setting_of r) s x.terms ≡ Some t → turn_answer (setting_of r) s x t ≡ Ok (working_in v) → v.left + 1 + coefficient_terms (working_in v).terms ≡ w.left → IsAt r s budget f v
  moves_on t v e h l = by_rounds at.0 at.1 at.3
    where
      by_rounds : (k : ℕ) → w.left ≤ k → preparation (setting_of r) s budget f ≡ preparation_from (setting_of r) s budget (suc k) x (budget - w.left) → IsAt r s budget f v
      by_rounds zero a g = absurd (omega (arith, a, l))
      by_rounds (suc k) a g =
          let low : budget - w.left + 1 + coefficient_terms (working_in v).terms ≤ budget = omega (arith, l, at.2) in
          let count : budget - w.left + 1 + coefficient_terms (working_in v).terms ≡ budget - v.left = omega (arith, l, at.2) in
          (k, omega (arith, a, l), omega (arith, at.2, l), g ∙ goes_on r s budget x (budget - w.left) (suc k) t (working_in v) e h low ∙ ap (preparation_from (setting_of r) s budget (suc k) (working_in v)) count)

-- ---- what a turn's answer says
module _ (r : RankingValue) (s : State) (budget : ℕ) (f : Polynomial Symbol) (w : Working) (at : IsAt r s budget f w) (index : ℕ) (t : WorkingTerm) (step : Step) (inside : index < length w.terms.items)
    (there : t ≡ slice_index_or w.terms.items index t) (next : next_turn (setting_of r) s (terms_in w.terms.items) ≡ Some (turn_by w.terms.items index t step)) where
  -- the turn at the term
  abbrev turn : Turn
  turn = turn_by w.terms.items index t step

  -- what a turn makes of its factor and terms
  abbrev finish : Polynomial Symbol × List Term → Result Prepared Stop
  finish y = Ok (record { factors = with_factor (symbols_under r) y.0 (working_in w).factors; terms = y.1 })

  -- a turn that stops the preparation
  pub halts : (stop : AttemptStop) → IsTurnFault w.left step (turned_terms (setting_of r) s turn) stop → IsHalt r s budget f w (record { index = index; stop = stop }) stop
  halts Memory h = tt
  halts (Wide st) h = record { term = t; step = step; inside = inside; is_there = there; next = next; names = h.0; stops = stops_here r s budget f w at turn (refused wide) next (ap (λ (x : Result (Polynomial Symbol × List Term) Stop). x >>= finish) h.1) }
  halts (Large limit st) h = record { term = t; step = step; inside = inside; is_there = there; next = next; names = h.0; stops = stops_here r s budget f w at turn (refused (large limit)) next (ap (λ (x : Result (Polynomial Symbol × List Term) Stop). x >>= finish) h.1) }
  halts (Spent st) h = record {
    term = t;
    step = step;
    inside = inside;
    is_there = there;
    next = next;
    names = h.0;
    stops = passes_here r s budget f w at turn (record { factors = with_factor (symbols_under r) h.1.0.0 (working_in w).factors; terms = h.1.0.1 }) next (ap (λ (x : Result (Polynomial Symbol × List Term) Stop). x >>= finish) h.1.1) h.1.2;
  }

  -- a turn that is made
  pub moves : (v : Working) (a : Polynomial Symbol) → turned_terms (setting_of r) s turn ≡ Ok (a, terms_in v.terms.items) → polynomials_of v.factors.items ≡ with_factor (symbols_under r) a (polynomials_of w.factors.items)
      → v.left + 1 + coefficient_terms (terms_in v.terms.items) ≡ w.left → IsAt r s budget f v
  moves v a e h l =
      moves_on r s budget f w at turn v next
      (ap (λ (x : Result (Polynomial Symbol × List Term) Stop). x >>= finish) e ∙ ap (λ fs. Ok (record { factors = fs; terms = terms_in v.terms.items })) (sym h)) l

-- ---- the beginning
-- a preparation begins with all of its budget
pub begins : (r : RankingValue) (s : State) (budget : ℕ) (f : Polynomial Symbol) (w : Working) → working_in w ≡ unprepared f → w.left ≡ budget → IsAt r s budget f w
unfolding preparation
begins r s budget f w e l =
    let none : 0 ≡ budget - w.left = omega (arith, l) in
    (budget, omega (arith, l), omega (arith, l), ap₂ (λ x n. preparation_from (setting_of r) s budget (suc budget) x n) (sym e) none)

-- ---- factors
-- a factor that is not one is one more
pub other_factor : (r : RankingValue) (a : Polynomial Symbol) (fs all : List (Polynomial Symbol)) → (a ≡ ([], pos 1) ∷ [] → ⊥) → all ≡ fs ++ a ∷ [] → all ≡ with_factor (symbols_under r) a fs
other_factor r a fs all n e = e ∙ ap (λ b. cond b fs (fs ++ a ∷ [])) (sym (other_not_same r a (([], pos 1) ∷ []) n))
