-- How a run that has come so far goes on.
use Rattle.std.specs.Prelude.{nat_lt, cond}
use Rattle.std.proofs.Common.{◌≡◌, ◌≤◌, ◌+◌, ◌-◌, ◌++◌, ◌∙◌, inl, inr, ℕ, zero, suc, true, false, [], ◌∷◌, length, refl, sym, ap, ap₂, arith, Result, Ok, Err}
use Rattle.std.proofs.lemmas.Bool.Decides.{nat_tests}
use Rattle.dz_algebra.specs.Polynomial.{Polynomial}
use Rattle.dz_algebra.specs.Size.{Refusal, wide, large}
use Rattle.dz_algebra.specs.declared.Limit.{Limit}
use Rattle.dz_rank.specs.Rankings.{RankingValue}
use Rattle.dz_rank.specs.declared.symbols.Symbol.{Symbol}
use Rattle.dz_monomials.specs.Ranked.{symbols_under}
use Rattle.dz_monomials.specs.Stops.{IsStop}
use Rattle.dz_monomials.specs.declared.PolyStop.{PolyStop}
use Rattle.dz_monomials.specs.declared.PolyStop.TheVariants as stops
use Rattle.dz_diff.specs.Tests.{Polynomials}
use Rattle.dz_regular.specs.Answers.{IsStopOf}
use Rattle.dz_regular.specs.Combining.{terms_in_all}
use Rattle.dz_regular.specs.Progress.{IsAt, IsAtStage, combine_stop}
use Rattle.dz_regular.specs.Runs.{Course, Pair, Stage, stopped, passed, after, at_work, in_hand, next_combine, next_row, regularity_run, run_from}
use Rattle.dz_regular.specs.Rows.{inequation_row}
use Rattle.dz_regular.specs.Working.{pair_in}
use Rattle.dz_regular.specs.declared.runs.WorkingRun.{WorkingRun}
use Rattle.dz_regular.specs.declared.stages.WorkingPair.{WorkingPair}

-- a stop that is no want of memory tells the refusal
refused_wide : {A : Type 0} (x : Result A Refusal) → IsStop stops.Wide x → x ≡ Err wide
refused_wide (Ok a) (inl h) = cc
refused_wide (Ok a) (inr h) = cc
refused_wide (Err wide) h = refl
refused_wide (Err (large l)) (inl h) = cc
refused_wide (Err (large l)) (inr h) = cc

refused_large : {A : Type 0} (limit : Limit) (x : Result A Refusal) → IsStop (stops.Large limit) x → x ≡ Err (large limit)
refused_large limit (Ok a) (inl h) = cc
refused_large limit (Ok a) (inr h) = cc
refused_large limit (Err wide) (inl h) = cc
refused_large limit (Err wide) (inr h) = cc
refused_large limit (Err (large l)) (inl h) = cc
refused_large limit (Err (large l)) (inr h) = cc

module _ (r : RankingValue) (es : Polynomials) (budget : ℕ) (course : Course) (w : WorkingRun) (pair : WorkingPair) (at : IsAt r es budget course w pair) where
  -- the rows at work
  abbrev p : Pair
  p = pair_in pair

  -- what the run has counted
  abbrev count : ℕ
  count = budget - w.left

  -- how it goes on after a row was made
  abbrev made : ℕ → Polynomials → Course
  made rounds row =
      cond (nat_lt budget (count + 1 + terms_in_all row)) (passed w.run.items (next_combine p))
      (run_from (symbols_under r) es budget rounds (w.next + 1) (count + 1 + terms_in_all row) (w.run.items ++ next_combine p ∷ []) (after (symbols_under r) es p (record { number = w.next; components = row })))

  -- or not
  abbrev answered : ℕ → Result Polynomials Refusal → Course
  answered rounds q = elim q as (λ _. Course) [ Err refusal ↦ stopped w.run.items (next_combine p) refusal | Ok row ↦ made rounds row ]

  -- a combination that is refused stops it
  pub stops_here : (stop : PolyStop) → IsStop stop (next_row (symbols_under r) p) → IsStopOf course w.run.items (combine_stop (next_combine p) stop)
  stops_here stops.Memory h = tt
  stops_here stops.Wide h = at.3 ∙ ap (answered at.0) (refused_wide (next_row (symbols_under r) p) h)
  stops_here (stops.Large limit) h = at.3 ∙ ap (answered at.0) (refused_large limit (next_row (symbols_under r) p) h)

  module _ (row : Polynomials) (e : next_row (symbols_under r) p ≡ Ok row) where
    -- one past the budget ends it
    pub passes_here : w.left ≤ terms_in_all row → course ≡ passed w.run.items (next_combine p)
    passes_here l =
        let within = at.2 in
        let high : nat_lt budget (count + 1 + terms_in_all row) ≡ true = grind (arith, nat_tests) in
        at.3 ∙ ap (answered at.0) e ∙ ap (λ b. cond b (passed w.run.items (next_combine p)) (run_from (symbols_under r) es budget at.0 (w.next + 1) (count + 1 + terms_in_all row) (w.run.items ++ next_combine p ∷ []) (after (symbols_under r) es p (record { number = w.next; components = row })))) high

    -- and one within it goes on
    pub moves_on : (v : WorkingRun) (stage : Stage) → v.left + 1 + terms_in_all row ≡ w.left → v.next ≡ w.next + 1 → v.run.items ≡ w.run.items ++ next_combine p ∷ []
        → stage ≡ after (symbols_under r) es p (record { number = w.next; components = row }) → IsAtStage (symbols_under r) es budget course v stage
    moves_on v stage l n c s = by_rounds at.0 at.1 at.3
      where
        by_rounds : (k : ℕ) → w.left ≤ k → course ≡ run_from (symbols_under r) es budget (suc k) w.next count w.run.items (at_work p) → IsAtStage (symbols_under r) es budget course v stage
        by_rounds zero a g = absurd (omega (arith, a, l))
        by_rounds (suc k) a g =
            let within = at.2 in
            let low : nat_lt budget (count + 1 + terms_in_all row) ≡ false = let le : count + 1 + terms_in_all row ≤ budget = omega (arith, l, within) in grind (arith, nat_tests) in
            let counted : count + 1 + terms_in_all row ≡ budget - v.left = omega (arith, l, within) in
            let goes : course ≡ run_from (symbols_under r) es budget (suc k) (w.next + 1) (count + 1 + terms_in_all row) (w.run.items ++ next_combine p ∷ []) (after (symbols_under r) es p (record { number = w.next; components = row })) =
            g ∙ ap (answered (suc k)) e ∙ ap (λ b. cond b (passed w.run.items (next_combine p)) (run_from (symbols_under r) es budget (suc k) (w.next + 1) (count + 1 + terms_in_all row) (w.run.items ++ next_combine p ∷ []) (after (symbols_under r) es p (record { number = w.next; components = row })))) low in
            (k, omega (arith, a, l), omega (arith, within, l), goes ∙ rw (counted, sym n, sym c, sym s) refl)

-- a run begins with all of its budget
pub begins : (r : RankingValue) (es : Polynomials) (budget : ℕ) (h : Polynomial Symbol) (w : WorkingRun) (stage : Stage) → w.left ≡ budget → w.next ≡ length es + 1 → w.run.items ≡ []
    → stage ≡ in_hand (symbols_under r) es (record { number = 0; components = inequation_row es h }) → IsAtStage (symbols_under r) es budget (regularity_run (symbols_under r) es budget h) w stage
unfolding regularity_run
begins r es budget h w stage l n c s =
    let none : 0 ≡ budget - w.left = omega (arith, l) in
    let first = in_hand (symbols_under r) es (record { number = 0; components = inequation_row es h }) in (
      budget,
      omega (arith, l),
      omega (arith, l),
      ap₂ (λ x y. run_from (symbols_under r) es budget (suc budget) x y [] first) (sym n) none
          ∙ ap₂ (λ x y. run_from (symbols_under r) es budget (suc budget) w.next (budget - w.left) x y) (sym c) (sym s),
    )
