-- Where a full run finds no step there is none.
use Rattle.std.specs.Prelude.{⊤}
use Rattle.std.proofs.Common.{◌≡◌, ◌⊎◌, inl, inr, ℕ, zero, suc, ◌+◌, ◌≤◌, nat_le, max, Bool, true, false, ◌&&◌, cond, List, [], ◌∷◌, length, refl, sym, ap, ap₂, ◌∙◌, subst, Result, Err, Option, Some, None, arith}
use Rattle.std.proofs.lemmas.Bool.{eq-eqb, leb-true, le-leb}
use Rattle.std.specs.declared.cmp.Ordering.{Ordering}
use Rattle.std.specs.declared.cmp.Ordering.TheVariants.{Less, Equal, Greater}
use Rattle.std.specs.Ordering.{match_ordering}
use Rattle.dz_algebra.specs.Order.{IsOrder}
use Rattle.dz_algebra.specs.Symbols.{Symbols}
use Rattle.dz_algebra.specs.Monomial.{Monomial, exponent}
use Rattle.dz_algebra.specs.Polynomial.{Polynomial, PolynomialIn}
use Rattle.dz_algebra.specs.Parts.{degree, leader}
use Rattle.dz_algebra.specs.Size.{with_symbol}
use Rattle.dz_algebra.proofs.Leaders.{leader_occurs}
use Rattle.dz_rank.specs.Rankings.{RankingValue, ranking_cmp}
use Rattle.dz_rank.specs.Symbols.{derivative_by, exponent_sums, is_derivative}
use Rattle.dz_rank.specs.declared.symbols.Operator.{Operator}
use Rattle.dz_rank.specs.declared.symbols.Symbol.{Symbol}
use Rattle.dz_rank.specs.declared.symbols.Symbol.TheVariants.{Independent, Derivative}
use Rattle.dz_monomials.specs.Ranked.{symbols_under}
use Rattle.dz_monomials.proofs.SymbolLaws.{ranking_order}
use Rattle.dz_algebra.specs.Outcome.{◌>>=◌, needs, given}
use Rattle.dz_monomials.specs.Lists.{AllOf}
use Rattle.dz_diff.specs.Operators.{divides, exponent_differences, is_proper, quotient}
use Rattle.dz_diff.specs.Operations.{setting_of}
use Rattle.dz_diff.specs.State.{State, at_place}
use Rattle.dz_diff.specs.Tests.{Polynomials}
use Rattle.dz_diff.proofs.Goodness.{Good}
use Rattle.dz_diff.proofs.LeaderDerivations.{IsRegular}
use Rattle.dz_step.specs.declared.Role.{Role}
use Rattle.dz_step.specs.declared.Step.{Step}
use Rattle.dz_step.specs.Step.{Reduction, Stop, no_step, is_divisor, is_permitted, step_degree, normed, step_in}
use Rattle.dz_step.specs.FullRun.{with_derivatives, derivatives_of, or_else, step_with, step_at, first_step, next_step}
use Rattle.dz_step.proofs.TakenSteps.{leader_is_derivative}
use Rattle.dz_diff.proofs.LeaderBounds.{leader_regular}

-- a conjunction holds with both parts
pub and_is : (a b : Bool) → a ≡ true → b ≡ true → (a && b) ≡ true
and_is true b e f = f
and_is false b e f = e

-- neither of two
none_parts : {A : Type 0} (o p : Option A) → or_else o p ≡ None → (o ≡ None) × (p ≡ None)
none_parts None p e = (refl, e)
none_parts (Some x) p e = cc

-- ---- what all derivatives of a polynomial pass
module _ (g : Symbols Symbol) (order : IsOrder g.cmp) (P : Symbol → Type 0) where
  was_inserted : (s : Symbol) (ss : List Symbol) → AllOf P (with_symbol g.cmp s ss) → P s × AllOf P ss
  was_inserted s [] h = h
  was_inserted s (t ∷ ts) h = by_order (g.cmp s t) refl (was_inserted s ts) h
    where
      by_order : (o : Ordering) → g.cmp s t ≡ o → (AllOf P (with_symbol g.cmp s ts) → P s × AllOf P ts) → AllOf P (match_ordering o (t ∷ with_symbol g.cmp s ts) (t ∷ ts) (s ∷ t ∷ ts)) → P s × AllOf P (t ∷ ts)
      by_order Less e ih h = let r = ih h.1 in (r.0, (h.0, r.1))
      by_order Equal e ih h = (subst P (sym (order.same s t e)) h.0, h)
      by_order Greater e ih h = (h.0, h.1)

  of_monomial : (v : Symbol) (m : Monomial Symbol) (ss : List Symbol) → g.is_derivative v ≡ true → AllOf P (with_derivatives g m ss) → (1 ≤ exponent g.cmp v m → P v) × AllOf P ss
  of_monomial v [] ss d h = ((λ l. absurd (omega (arith, l))), h)
  of_monomial v (p ∷ m) ss d h = by_test (g.is_derivative p.0) refl (of_monomial v m ss d) h
    where
      by_order : (o : Ordering) → g.cmp v p.0 ≡ o → P p.0 → (1 ≤ exponent g.cmp v m → P v) → 1 ≤ match_ordering o (exponent g.cmp v m) (p.1 + exponent g.cmp v m) (exponent g.cmp v m) → P v
      by_order Less e h k l = k l
      by_order Equal e h k l = subst P (sym (order.same v p.0 e)) h
      by_order Greater e h k l = k l

      by_none : (o : Ordering) → g.cmp v p.0 ≡ o → g.is_derivative p.0 ≡ false → (1 ≤ exponent g.cmp v m → P v) → 1 ≤ match_ordering o (exponent g.cmp v m) (p.1 + exponent g.cmp v m) (exponent g.cmp v m) → P v
      by_none Less e f k l = k l
      by_none Equal e f k l = absurd (no_two (g.is_derivative p.0) (ap g.is_derivative (sym (order.same v p.0 e)) ∙ d) f)
        where
          no_two : (b : Bool) → b ≡ true → b ≡ false → ⊥
          no_two true h k = cc
          no_two false h k = cc
      by_none Greater e f k l = k l

      by_test : (b : Bool) → g.is_derivative p.0 ≡ b → (AllOf P (with_derivatives g m ss) → (1 ≤ exponent g.cmp v m → P v) × AllOf P ss)
          → AllOf P (cond b (with_symbol g.cmp p.0 (with_derivatives g m ss)) (with_derivatives g m ss)) → (1 ≤ exponent g.cmp v (p ∷ m) → P v) × AllOf P ss
      by_test true e ih h =
          let a = was_inserted p.0 (with_derivatives g m ss) h in
          let r = ih a.1 in
          ((λ l. by_order (g.cmp v p.0) refl a.0 r.0 l), r.1)
      by_test false e ih h =
          let r = ih h in
          ((λ l. by_none (g.cmp v p.0) refl e r.0 l), r.1)

  -- a derivative that occurs passes what all of them do
  pub occurring : (v : Symbol) (p : Polynomial Symbol) → g.is_derivative v ≡ true → 1 ≤ degree g.cmp v p → AllOf P (derivatives_of g p) → P v
  occurring v [] d l h = absurd (omega (arith, l))
  occurring v (t ∷ p) d l h =
      let r = of_monomial v t.0 (derivatives_of g p) d h in
      by_case (one_of (exponent g.cmp v t.0) (degree g.cmp v p) l) r.0 (λ k. occurring v p d k r.1)
    where
      one_of : (a b : ℕ) → 1 ≤ max a b → (1 ≤ a) ⊎ (1 ≤ b)
      one_of zero b l = inr (omega (arith, l))
      one_of (suc a) b l = inl (omega arith)

      by_case : (1 ≤ exponent g.cmp v t.0) ⊎ (1 ≤ degree g.cmp v p) → (1 ≤ exponent g.cmp v t.0 → P v) → (1 ≤ degree g.cmp v p → P v) → P v
      by_case (inl k) f g = f k
      by_case (inr k) f g = g k

-- ---- no step is found
module _ (R : RankingValue) (s : State) (role : Role) (f : Polynomial Symbol) where
  -- no equation from the suc n-th place on has a step at v
  none_at_place : (v : Symbol) (n i : ℕ) (qs : Polynomials) (q : Polynomial Symbol) → step_at (setting_of R) s role f v (suc n) qs ≡ None → at_place i qs ≡ Some q → step_with (setting_of R) s role f v (n + i) q (leader (symbols_under R) q) ≡ None
  none_at_place v n i [] q h k = cc
  none_at_place v n zero (y ∷ ys) q h k = cc
  none_at_place v n (suc zero) (y ∷ ys) q h k =
      let a = none_parts (step_with (setting_of R) s role f v (suc n) y (leader (symbols_under R) y)) (step_at (setting_of R) s role f v (suc (suc n)) ys) h in
      let e : y ≡ q = cc in
      ap (λ i. step_with (setting_of R) s role f v i q (leader (symbols_under R) q)) (omega arith) ∙ subst (λ z. step_with (setting_of R) s role f v (suc n) z (leader (symbols_under R) z) ≡ None) e a.0
  none_at_place v n (suc (suc i)) (y ∷ ys) q h k =
      let a = none_parts (step_with (setting_of R) s role f v (suc n) y (leader (symbols_under R) y)) (step_at (setting_of R) s role f v (suc (suc n)) ys) h in
      ap (λ i. step_with (setting_of R) s role f v i q (leader (symbols_under R) q)) (omega arith) ∙ none_at_place v (suc n) (suc i) ys q a.1 k

  none_first : (vs : List Symbol) → first_step (setting_of R) s role f vs ≡ None → AllOf (λ v. step_at (setting_of R) s role f v 1 s.equations ≡ None) vs
  none_first [] h = tt
  none_first (v ∷ vs) h = let a = none_parts (step_at (setting_of R) s role f v 1 s.equations) (first_step (setting_of R) s role f vs) h in (a.0, none_first vs a.1)

  -- so the tests of a step fail at each derivative that occurs
  pub no_step_at : next_step (setting_of R) s role f ≡ None → (v : Symbol) → is_derivative v ≡ true → 1 ≤ degree (ranking_cmp R) v f
      → (j : ℕ) (q : Polynomial Symbol) (l : Symbol) (t : Operator) → at_place j s.equations ≡ Some q → leader (symbols_under R) q ≡ Some l → quotient v l ≡ Some t
      → (is_divisor role j && nat_le (step_degree (symbols_under R) t l q) (degree (ranking_cmp R) v f) && is_permitted (setting_of R) s role q l t) ≡ true → ⊥
  no_step_at e v d low j q l t a b c h =
      let n = occurring (symbols_under R) (ranking_order R) (λ v. step_at (setting_of R) s role f v 1 s.equations ≡ None) v f d low (none_first (derivatives_of (symbols_under R) f) e) in
      let m : step_with (setting_of R) s role f v j q (leader (symbols_under R) q) ≡ None = ap (λ i. step_with (setting_of R) s role f v i q (leader (symbols_under R) q)) (omega arith) ∙ none_at_place v 0 j s.equations q n a in
      by_parts (ap (λ o. step_with (setting_of R) s role f v j q o) (sym b) ∙ m)
    where
      fails : (x : Step) → ◌≡◌ {A = Option Step} (Some x) None → ⊥
      fails x e = cc

      by_parts : step_with (setting_of R) s role f v j q (Some l) ≡ None → ⊥
      by_parts m = fails (record { place = j; operator = t })
          (sym (ap (λ o. elim o as (λ _. Option Step) [ None ↦ None | Some t ↦ cond (is_divisor role j && nat_le (step_degree (symbols_under R) t l q) (degree (ranking_cmp R) v f) && is_permitted (setting_of R) s role q l t) (Some (record { place = j; operator = t })) None ]) c
          ∙ ap (λ b. cond b (Some (record { place = j; operator = t })) None) h) ∙ m)

-- ---- quotients of derivatives
divides_sums : (ks ts : List ℕ) → length ts ≡ length ks → divides ks (exponent_sums ks ts) ≡ true
divides_sums [] ts e = refl
divides_sums (k ∷ ks) [] e = absurd (omega arith)
divides_sums (k ∷ ks) (t ∷ ts) e = and_is _ _ (le-leb k (k + t) (omega arith)) (divides_sums ks ts (omega arith))

differences_sums : (ks ts : List ℕ) → length ts ≡ length ks → exponent_differences (exponent_sums ks ts) ks ≡ ts
differences_sums [] [] e = refl
differences_sums [] (t ∷ ts) e = absurd (omega arith)
differences_sums (k ∷ ks) [] e = absurd (omega arith)
differences_sums (k ∷ ks) (t ∷ ts) e = ap₂ (λ (x : ℕ) (xs : List ℕ). x ∷ xs) (omega arith) (differences_sums ks ts (omega arith))

-- an operator is the quotient of what it makes of a derivative
pub quotient_derivative : (n : ℕ) (t : Operator) (l : Symbol) → is_derivative l ≡ true → length t.counts ≡ n → IsRegular n l → quotient (derivative_by t l) l ≡ Some t
quotient_derivative n t (Independent j) d e h = cc
quotient_derivative n t (Derivative u b) d e h =
    let k : length t.counts ≡ length b.counts = e ∙ sym h in
    ap (λ c. cond c (Some (record { counts = exponent_differences (exponent_sums b.counts t.counts) b.counts })) None) (and_is _ _ (eq-eqb u u refl) (divides_sums b.counts t.counts k))
    ∙ ap (λ (ks : List ℕ). Some (record { counts = ks })) (differences_sums b.counts t.counts k)

derivative_is_one : (t : Operator) (l : Symbol) → is_derivative l ≡ true → is_derivative (derivative_by t l) ≡ true
derivative_is_one t (Independent j) d = d
derivative_is_one t (Derivative u b) d = refl

needs_or : {A : Type 0} (b : Bool) (k : Stop) (f : ⊤ → Result A Stop) → (b ≡ true → f tt ≡ Err k) → (needs b k >>= f) ≡ Err k
needs_or true k f h = h refl
needs_or false k f h = refl

given_or : {A B : Type 0} (o : Option A) (k : Stop) (f : A → Result B Stop) → ((x : A) → o ≡ Some x → f x ≡ Err k) → (given o k >>= f) ≡ Err k
given_or (Some x) k f h = h x refl
given_or None k f h = refl

normed_or : (x : Result Reduction Stop) (k : Stop) → x ≡ Err k → normed x ≡ Err k
normed_or x k e = ap normed e

some_same : {A : Type 0} (x y : A) (o : Option A) → o ≡ Some x → o ≡ Some y → x ≡ y
some_same x y o e f = cc

module _ (R : RankingValue) (s : State) (role : Role) (f : Polynomial Symbol) where
  degree_one : (t : Operator) (l : Symbol) (q : Polynomial Symbol) → 1 ≤ degree (ranking_cmp R) l q → 1 ≤ step_degree (symbols_under R) t l q
  degree_one t l q h = by_test (is_proper t)
    where
      by_test : (b : Bool) → 1 ≤ cond b 1 (degree (ranking_cmp R) l q)
      by_test true = omega arith
      by_test false = h

  -- where a full run finds no step there is none
  pub none_is_step : (st : Step) → next_step (setting_of R) s role f ≡ None → ((j : ℕ) (q : Polynomial Symbol) → at_place j s.equations ≡ Some q → Good R q × PolynomialIn (IsRegular 4) q) → length st.operator.counts ≡ 4 → step_in (setting_of R) s role f st ≡ Err no_step
  none_is_step st e regular k =
      needs_or (is_divisor role st.place) no_step _ (λ a. given_or (at_place st.place s.equations) no_step _ (λ q b. given_or (leader (symbols_under R) q) no_step _ (λ l c.
      needs_or (is_permitted (setting_of R) s role q l st.operator) no_step _ (λ p. normed_or _ no_step (given_or (leader (symbols_under R) q) no_step _ (λ l' c'.
      needs_or (nat_le (step_degree (symbols_under R) st.operator l' q) (degree (ranking_cmp R) (derivative_by st.operator l') f)) no_step _ (λ d. absurd (no_one q l' a b c' (subst (λ l. is_permitted (setting_of R) s role q l st.operator ≡ true) (some_same l l' (leader (symbols_under R) q) c c') p) d))))))))
    where
      no_one : (q : Polynomial Symbol) (l : Symbol) → is_divisor role st.place ≡ true → at_place st.place s.equations ≡ Some q → leader (symbols_under R) q ≡ Some l → is_permitted (setting_of R) s role q l st.operator ≡ true
          → nat_le (step_degree (symbols_under R) st.operator l q) (degree (ranking_cmp R) (derivative_by st.operator l) f) ≡ true → ⊥
      no_one q l a b c p d =
          let good = regular st.place q b in
          let one : 1 ≤ degree (ranking_cmp R) l q = (leader_occurs (symbols_under R) (ranking_order R) q l (good.0).0 c).1 in
          let is_der : is_derivative l ≡ true = leader_is_derivative R q l c good.0 in
          no_step_at R s role f e (derivative_by st.operator l) (derivative_is_one st.operator l is_der) (omega (arith, leb-true _ _ d, degree_one st.operator l q one))
          st.place q l st.operator b c (quotient_derivative 4 st.operator l is_der k (leader_regular R q l c good.1)) (and_is _ _ (and_is _ _ a d) p)
