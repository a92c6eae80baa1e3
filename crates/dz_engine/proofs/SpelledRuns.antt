-- The steps of full runs can be spelled, and belong to the signature.
use Rattle.std.specs.Prelude.{is_some}
use Rattle.std.specs.List.{list_all, list_any}
use Rattle.std.proofs.Common.{◌≡◌, ◌≤◌, ◌<◌, ◌-◌, ◌+◌, ◌==◌, ◌^◌, ℕ, zero, suc, nat_lt, nat_le, sum, Bool, true, false, ◌&&◌, cond, List, [], ◌∷◌, ◌++◌, length, map, refl, sym, ap, ◌∙◌, subst, Result, Ok, Err, Option, Some, None, arith}
use Rattle.std.proofs.lemmas.Bool.{ltb-false, le-leb, lt-ltb}
use Rattle.std.proofs.lemmas.List.Sums.{sum_by-cons}
use Rattle.dz_algebra.specs.declared.Limit.{Limit}
use Rattle.dz_algebra.specs.declared.Limit.TheVariants as limits
use Rattle.dz_algebra.specs.Monomial.{Monomial, MonomialIn}
use Rattle.dz_algebra.specs.Norm.{norm}
use Rattle.dz_algebra.specs.Polynomial.{Polynomial, PolynomialIn}
use Rattle.dz_algebra.specs.Size.{has_high_order}
use Rattle.dz_rank.specs.Rankings.{RankingValue}
use Rattle.dz_rank.specs.Symbols.{BelongsTo, total_order}
use Rattle.dz_rank.specs.declared.symbols.Operator.{Operator}
use Rattle.dz_rank.specs.declared.symbols.Symbol.{Symbol}
use Rattle.dz_rank.specs.declared.symbols.Symbol.TheVariants.{Independent, Derivative}
use Rattle.dz_monomials.specs.Keeping.{IsKeepable}
use Rattle.dz_monomials.specs.Ranked.{symbols_under}
use Rattle.dz_monomials.specs.Lists.{AllOf}
use Rattle.dz_diff.specs.Operators.{divides, exponent_differences, quotient}
use Rattle.dz_diff.specs.Operations.{Setting, setting_of}
use Rattle.dz_diff.specs.State.{State, at_place}
use Rattle.dz_step.specs.declared.Role.{Role}
use Rattle.dz_step.specs.declared.Step.{Step}
use Rattle.dz_step.specs.Step.{Stop, step_in}
use Rattle.dz_step.specs.FullRun.{derivatives_of, next_step, admits, Course, finished, stopped, passed, full_run, full_run_from}
use Rattle.dz_step.specs.StepOperators.{course_steps}
use Rattle.dz_step.proofs.CourseSteps.{full_run_has}
use Rattle.dz_step.proofs.NextSteps.{found_first, in_derivatives}
use Rattle.dz_tree.specs.Belonging.{AreStepsOf, IsStepOf}
use Rattle.dz_tree.specs.Forms.{is_place, is_spelled_operator, is_spelled_symbol, is_spelled_step}
use Rattle.dz_tree.specs.Forms.{is_empty}
use Rattle.dz_move.proofs.KeepableStates.{keepables_over, norm_keepable, step_keepable}
use Rattle.dz_step.proofs.OverSteps.{next_fits}
use Rattle.dz_move.proofs.RootStates.{or_none}
use Rattle.dz_engine.proofs.EasyRules.{and_is}

-- a full run after some steps has some
module _ (g : Setting) (s : State) (role : Role) (budget : ℕ) where
  -- one more step is one
  one_more : (done : List Step) (st : Step) → is_empty (done ++ st ∷ []) ≡ false
  one_more [] st = refl
  one_more (x ∷ done) st = refl

  -- after the first
  some_from : (rounds : ℕ) (done : List Step) (f : Polynomial Symbol) (count : ℕ) → is_empty done ≡ false → is_empty (course_steps (full_run_from g s role budget rounds done f count)) ≡ false
  some_from zero done f count h = h
  some_from (suc rounds) done f count h = by_step (next_step g s role f) (λ st r n. some_from rounds (done ++ st ∷ []) r n (one_more done st))
    where
      by_test : (b : Bool) (st : Step) (r : Polynomial Symbol) → ((st : Step) (r : Polynomial Symbol) (n : ℕ) → is_empty (course_steps (full_run_from g s role budget rounds (done ++ st ∷ []) r n)) ≡ false)
          → is_empty (course_steps (cond b (passed (done ++ st ∷ [])) (full_run_from g s role budget rounds (done ++ st ∷ []) r (count + 1 + length r)))) ≡ false
      by_test true st r ih = one_more done st
      by_test false st r ih = ih st r (count + 1 + length r)

      by_answer : (st : Step) (q : Result (Polynomial Symbol) Stop) → ((st : Step) (r : Polynomial Symbol) (n : ℕ) → is_empty (course_steps (full_run_from g s role budget rounds (done ++ st ∷ []) r n)) ≡ false)
          → is_empty (course_steps (elim q as (λ _. Course) [
            | Err stop ↦ stopped (done ++ st ∷ []) stop
            | Ok r ↦ cond (nat_lt budget (count + 1 + length r)) (passed (done ++ st ∷ [])) (full_run_from g s role budget rounds (done ++ st ∷ []) r (count + 1 + length r))
          ])) ≡ false
      by_answer st (Err stop) ih = one_more done st
      by_answer st (Ok r) ih = by_test (nat_lt budget (count + 1 + length r)) st r ih

      by_step : (o : Option Step) → ((st : Step) (r : Polynomial Symbol) (n : ℕ) → is_empty (course_steps (full_run_from g s role budget rounds (done ++ st ∷ []) r n)) ≡ false)
          → is_empty (course_steps (elim o as (λ _. Course) [
            | None ↦ finished done f count
            | Some st ↦ elim (step_in g s role f st) as (λ _. Course) [
              | Err stop ↦ stopped (done ++ st ∷ []) stop
              | Ok r ↦ cond (nat_lt budget (count + 1 + length r)) (passed (done ++ st ∷ [])) (full_run_from g s role budget rounds (done ++ st ∷ []) r (count + 1 + length r))
            ]
          ])) ≡ false
      by_step None ih = h
      by_step (Some st) ih = by_answer st (step_in g s role f st) ih

  -- on a norm that admits a step
  pub full_run_some : (f : Polynomial Symbol) → norm f ≡ f → admits g s role f ≡ true → is_empty (course_steps (full_run g s role budget f)) ≡ false
  unfolding full_run
  full_run_some f normal h = by_step (next_step g s role (norm f)) (ap (λ x. is_some (next_step g s role x)) normal ∙ h)
    where
      by_test : (b : Bool) (st : Step) (r : Polynomial Symbol) → is_empty (course_steps (cond b (passed (st ∷ [])) (full_run_from g s role budget budget (st ∷ []) r (0 + 1 + length r)))) ≡ false
      by_test true st r = refl
      by_test false st r = some_from budget (st ∷ []) r (0 + 1 + length r) refl

      by_answer : (st : Step) (q : Result (Polynomial Symbol) Stop) → is_empty (course_steps (elim q as (λ _. Course) [
        | Err stop ↦ stopped (st ∷ []) stop
        | Ok r ↦ cond (nat_lt budget (0 + 1 + length r)) (passed (st ∷ [])) (full_run_from g s role budget budget (st ∷ []) r (0 + 1 + length r))
      ])) ≡ false
      by_answer st (Err stop) = refl
      by_answer st (Ok r) = by_test (nat_lt budget (0 + 1 + length r)) st r

      by_step : (o : Option Step) → is_some o ≡ true → is_empty (course_steps (elim o as (λ _. Course) [
        | None ↦ finished [] (norm f) 0
        | Some st ↦ elim (step_in g s role (norm f) st) as (λ _. Course) [
          | Err stop ↦ stopped (st ∷ []) stop
          | Ok r ↦ cond (nat_lt budget (0 + 1 + length r)) (passed (st ∷ [])) (full_run_from g s role budget budget (st ∷ []) r (0 + 1 + length r))
        ]
      ])) ≡ false
      by_step None k = cc
      by_step (Some st) k = by_answer st (step_in g s role (norm f) st)

-- a place at which something stands
pub place_counts : {A : Type 0} (i : ℕ) (x : A) (xs : List A) → at_place i xs ≡ Some x → 0 < i
place_counts i x [] e = cc
place_counts zero x (y ∷ ys) e = cc
place_counts (suc i) x (y ∷ ys) e = omega arith

-- is among the places
place_most : {A : Type 0} (i : ℕ) (x : A) (xs : List A) → at_place i xs ≡ Some x → i ≤ length xs
place_most i x [] e = cc
place_most zero x (y ∷ ys) e = cc
place_most (suc zero) x (y ∷ ys) e = omega arith
place_most (suc (suc i)) x (y ∷ ys) e = omega (arith, place_most (suc i) x ys e)

-- a place that counts from 1, up to 65,535
abbrev pub IsNumbered : ℕ → Type 0
IsNumbered i = (is_place i ≡ true) × (i < 2 ^ 16)

-- so is one at which something stands, among at most 256
pub numbered_place : {A : Type 0} (i : ℕ) (x : A) (xs : List A) → length xs ≤ 256 → at_place i xs ≡ Some x → IsNumbered i
numbered_place i x xs few a = let most : i ≤ 256 = omega (arith, few, place_most i x xs a) in (lt-ltb 0 i (place_counts i x xs a), omega (arith, most))

-- ---- symbols
-- exponents less others are no more
differences_low : (ts ss : List ℕ) → sum (exponent_differences ts ss) ≤ sum ts
differences_low [] ss = omega arith
differences_low (t ∷ ts) [] = omega arith
differences_low (t ∷ ts) (s ∷ ss) = omega (arith, differences_low ts ss, sum_by-cons (λ x. x) t ts, sum_by-cons (λ x. x) (t - s) (exponent_differences ts ss))

-- the operator between two derivatives takes no more derivations than the first
quotient_low : (v l : Symbol) (t : Operator) → quotient v l ≡ Some t → sum t.counts ≤ total_order v
quotient_low (Independent i) l t e = cc
quotient_low (Derivative u a) (Independent j) t e = cc
quotient_low (Derivative u a) (Derivative w b) t e = by_test ((u == w) && divides b.counts a.counts) e
  where
    by_test : (c : Bool) → cond c (Some (record { counts = exponent_differences a.counts b.counts })) None ≡ Some t → sum t.counts ≤ sum a.counts
    by_test true e = let o : record { counts = exponent_differences a.counts b.counts } ≡ t = cc in subst (λ (x : Operator). sum x.counts ≤ sum a.counts) o (differences_low a.counts b.counts)
    by_test false e = cc

-- the symbol can be spelled, and takes few derivations
abbrev pub IsSpelled : Symbol → Type 0
IsSpelled v = (is_spelled_symbol v ≡ true) × (total_order v ≤ 60)

module _ (r : RankingValue) (few : r.signature.independents ≤ 4) (named : r.signature.dependents ≤ 16) where
  -- a symbol of the signature
  spelled_symbol : (v : Symbol) → BelongsTo r.signature v → nat_lt 60 (total_order v) ≡ false → IsSpelled v
  spelled_symbol (Independent i) h low = (lt-ltb i 4 (omega (arith, h, few)), omega arith)
  spelled_symbol (Derivative u t) h low =
      let l : sum t.counts ≤ 60 = omega (arith, ltb-false 60 (sum t.counts) low) in
      (and_is (nat_lt u 16) (nat_le (sum t.counts) 60) (lt-ltb u 16 (omega (arith, h.0, named))) (le-leb (sum t.counts) 60 l), l)

  -- the symbols of a monomial
  spelled_monomial : (m : Monomial Symbol) → MonomialIn (BelongsTo r.signature) m → list_any (λ p. nat_lt 60 (total_order p.0)) m ≡ false → MonomialIn IsSpelled m
  spelled_monomial [] h low = tt
  spelled_monomial (p ∷ m) h low =
      let a = or_none (nat_lt 60 (total_order p.0)) (list_any (λ (p : Symbol × ℕ). nat_lt 60 (total_order p.0)) m) low in
      (spelled_symbol p.0 h.0 a.0, spelled_monomial m h.1 a.1)

  -- those of a polynomial
  spelled_terms : (p : Polynomial Symbol) → PolynomialIn (BelongsTo r.signature) p → has_high_order (symbols_under r) (map (λ t. t.0) p) ≡ false → PolynomialIn IsSpelled p
  spelled_terms [] h low = tt
  spelled_terms (t ∷ p) h low =
      let a = or_none (list_any (λ (p : Symbol × ℕ). nat_lt 60 (total_order p.0)) t.0) (has_high_order (symbols_under r) (map (λ t. t.0) p)) low in
      (spelled_monomial t.0 h.0 a.0, spelled_terms p h.1 a.1)

  -- of a polynomial that may stand in a book
  pub spelled_symbols : (p : Polynomial Symbol) → IsKeepable r p → PolynomialIn IsSpelled p
  spelled_symbols p h = spelled_terms p h.belongs (low_orders (has_high_order (symbols_under r) (map (λ t. t.0) p)) _ h.small)
    where
      low_orders : (b : Bool) (o : Option Limit) → cond b (Some limits.Order) o ≡ None → b ≡ false
      low_orders true o e = cc
      low_orders false o e = refl

  -- a step that can be spelled, and belongs to the signature
  abbrev pub IsWrittenStep : Step → Type 0
  IsWrittenStep st = (is_spelled_step st ≡ true) × IsStepOf r.signature st

  -- and such steps
  abbrev pub AreWrittenSteps : List Step → Type 0
  AreWrittenSteps steps = (list_all is_spelled_step steps ≡ true) × AreStepsOf r.signature steps

  -- the step that is next
  next_written : (s : State) (role : Role) (f : Polynomial Symbol) (st : Step) → length s.equations ≤ 256 → AllOf (IsKeepable r) s.equations → IsKeepable r f → next_step (setting_of r) s role f ≡ Some st → IsWrittenStep st
  next_written s role f st most all h e =
      let k = found_first r s role f IsSpelled st (derivatives_of (symbols_under r) f) e (in_derivatives (symbols_under r) IsSpelled IsSpelled (λ v i _. i) f (spelled_symbols f h)) in
      let q = k.2 in
      let low = quotient_low k.0 q.top st.operator q.quotient_is in
      let place = subst IsNumbered (sym (q.place_is ∙ omega arith)) (numbered_place q.index q.equation s.equations most q.is_there) in (
        and_is (is_place st.place) (is_spelled_operator st.operator) place.0 (le-leb (sum (st.operator).counts) 60 (omega (arith, low, k.1.1))),
        record { place = place.1; operator = next_fits r few s role f st (keepables_over r few s.equations all) h.belongs e },
      )

  -- ---- full runs
  -- all steps of a full run from a polynomial that may stand in a book, by equations that may
  pub full_run_written : (s : State) (role : Role) (budget : ℕ) (f : Polynomial Symbol) → length s.equations ≤ 256 → AllOf (IsKeepable r) s.equations → IsKeepable r f → AreWrittenSteps (course_steps (full_run (setting_of r) s role budget f))
  full_run_written s role budget f most all h = all_written _ (full_run_has (setting_of r) s role budget (IsKeepable r) IsWrittenStep (λ f x st k fit e. step_keepable r few s role f x st all k e) (λ f st k e. next_written s role f st most all k e) f (norm_keepable r few f h))
    where
      all_written : (steps : List Step) → AllOf IsWrittenStep steps → AreWrittenSteps steps
      all_written [] k = (refl, tt)
      all_written (st ∷ steps) k = let more = all_written steps k.1 in (and_is (is_spelled_step st) (list_all is_spelled_step steps) k.0.0 more.0, (k.0.1, more.1))
