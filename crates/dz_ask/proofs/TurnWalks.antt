-- What each turn keeps holds of what the turns have come to.
use Rattle.std.proofs.Common.{◌≡◌, ◌+◌, ℕ, zero, suc, nat_lt, Bool, true, false, cond, refl, Result, Ok, Err, Option, Some, None}
use Rattle.dz_algebra.specs.Polynomial.{Polynomial}
use Rattle.dz_rank.specs.declared.symbols.Symbol.{Symbol}
use Rattle.dz_diff.specs.Operations.{Setting}
use Rattle.dz_diff.specs.State.{State}
use Rattle.dz_step.specs.Step.{Stop}
use Rattle.dz_ask.specs.Preparation.{Prepared}
use Rattle.dz_ask.specs.Turns.{Course, Turn, coefficient_terms, finished, next_turn, passed, preparation, preparation_from, stopped, turn_answer, unprepared}

module _ (Holds : Prepared → Type 0) (g : Setting) (s : State) where
  -- it holds of what has been made, and where the turns came to an end no coefficient admits a step
  abbrev pub HasCome : Course → Type 0
  HasCome (finished x) = Holds x × (next_turn g s x.terms ≡ None)
  HasCome (stopped x stop) = Holds x
  HasCome (passed x) = Holds x

  module _ (keeps : (x y : Prepared) (t : Turn) → Holds x → next_turn g s x.terms ≡ Some t → turn_answer g s x t ≡ Ok y → Holds y) where
    from : (budget rounds : ℕ) (x : Prepared) (count : ℕ) → Holds x → HasCome (preparation_from g s budget rounds x count)
    from budget zero x count holds = holds
    from budget (suc rounds) x count holds = by_turn (next_turn g s x.terms) refl (λ y h. from budget rounds y (count + 1 + coefficient_terms y.terms) h)
      where
        by_budget : (b : Bool) (y : Prepared) → HasCome (preparation_from g s budget rounds y (count + 1 + coefficient_terms y.terms))
            → HasCome (cond b (passed x) (preparation_from g s budget rounds y (count + 1 + coefficient_terms y.terms)))
        by_budget true y h = holds
        by_budget false y h = h

        by_answer : (t : Turn) → next_turn g s x.terms ≡ Some t → (q : Result Prepared Stop) → turn_answer g s x t ≡ q
            → ((y : Prepared) → Holds y → HasCome (preparation_from g s budget rounds y (count + 1 + coefficient_terms y.terms)))
            → HasCome (elim q as (λ _. Course) [ Err stop ↦ stopped x stop | Ok y ↦ cond (nat_lt budget (count + 1 + coefficient_terms y.terms)) (passed x) (preparation_from g s budget rounds y (count + 1 + coefficient_terms y.terms)) ])
        by_answer t n (Err stop) e more = holds
        by_answer t n (Ok y) e more = by_budget (nat_lt budget (count + 1 + coefficient_terms y.terms)) y (more y (keeps x y t holds n e))

        by_turn : (o : Option Turn) → next_turn g s x.terms ≡ o
            → ((y : Prepared) → Holds y → HasCome (preparation_from g s budget rounds y (count + 1 + coefficient_terms y.terms)))
            → HasCome (elim o as (λ _. Course) [
              | None ↦ finished x
              | Some t ↦ elim (turn_answer g s x t) [ Err stop ↦ stopped x stop | Ok y ↦ cond (nat_lt budget (count + 1 + coefficient_terms y.terms)) (passed x) (preparation_from g s budget rounds y (count + 1 + coefficient_terms y.terms)) ]
            ])
        by_turn None e more = (holds, e)
        by_turn (Some t) e more = by_answer t e (turn_answer g s x t) refl more

    -- in the preparation of a polynomial
    pub walked : (budget : ℕ) (f : Polynomial Symbol) → Holds (unprepared f) → HasCome (preparation g s budget f)
    unfolding preparation
    walked budget f begun = from budget (suc budget) (unprepared f) 0 begun
