-- The step that a full run takes is a step: where it has no result, an operation of it is refused.
use Rattle.std.specs.Prelude.{⊤}
use Rattle.std.proofs.Common.{◌≡◌, ◌⊎◌, ℕ, zero, suc, ◌+◌, ◌==◌, nat_le, Bool, true, false, ◌&&◌, cond, List, [], ◌∷◌, length, refl, sym, ap, ap₂, ◌∙◌, subst, Result, Ok, Err, Option, Some, None, inl, inr, arith}
use Rattle.std.proofs.lemmas.Bool.{eqb-true, leb-true}
use Rattle.std.specs.declared.cmp.Ordering.TheVariants.{Less, Equal, Greater}
use Rattle.std.specs.Ordering.{match_ordering}
use Rattle.dz_algebra.specs.Symbols.{Symbols}
use Rattle.dz_algebra.specs.Monomial.{Monomial, MonomialIn}
use Rattle.dz_algebra.specs.Polynomial.{Polynomial, PolynomialIn}
use Rattle.dz_algebra.specs.Parts.{degree, leader}
use Rattle.dz_algebra.specs.Size.{Refusal, with_symbol}
use Rattle.dz_rank.specs.Rankings.{RankingValue, ranking_cmp}
use Rattle.dz_rank.specs.Symbols.{derivative_by, exponent_sums}
use Rattle.dz_rank.specs.declared.symbols.Operator.{Operator}
use Rattle.dz_rank.specs.declared.symbols.Symbol.{Symbol}
use Rattle.dz_rank.specs.declared.symbols.Symbol.TheVariants.{Independent, Derivative}
use Rattle.dz_monomials.specs.Ranked.{symbols_under}
use Rattle.dz_algebra.specs.Outcome.{◌>>=◌, needs, given, told_as}
use Rattle.dz_monomials.specs.Lists.{AllOf}
use Rattle.dz_diff.specs.Operators.{divides, exponent_differences, quotient}
use Rattle.dz_diff.specs.Operations.{operator_answer, setting_of}
use Rattle.dz_diff.specs.State.{State, at_place}
use Rattle.dz_diff.specs.Tests.{Polynomials}
use Rattle.dz_algebra.proofs.Outcomes.{both}
use Rattle.dz_diff.proofs.LeaderDerivations.{IsRegular}
use Rattle.dz_diff.proofs.Places.{taken}
use Rattle.dz_step.specs.declared.Role.{Role}
use Rattle.dz_step.specs.declared.Step.{Step}
use Rattle.dz_step.specs.Step.{Stop, refused, no_step, multiplier_answer, multiplier_of, is_divisor, is_permitted, step_degree, reduction_by, reduction_answer, step_answer, step_in}
use Rattle.dz_step.specs.FullRun.{with_derivatives, derivatives_of, or_else, step_with, step_at, first_step, next_step}
use Rattle.dz_diff.proofs.LeaderBounds.{leader_regular}

-- ---- answers that only an operation refuses
-- an operation is refused
abbrev pub IsRefusal : Stop → Type 0
IsRefusal (refused r) = ⊤
IsRefusal no_step = ⊥

-- there is an answer, or an operation is refused
abbrev pub Limited : {A : Type 0} → Result A Stop → Type 0
Limited (Ok x) = ⊤
Limited (Err stop) = IsRefusal stop

limited_bind : {A B : Type 0} (q : Result A Stop) (f : A → Result B Stop) → Limited q → ((x : A) → Limited (f x)) → Limited (q >>= f)
limited_bind (Ok x) f h k = k x
limited_bind (Err stop) f h k = h

limited_told : {A : Type 0} (q : Result A Refusal) → Limited (told_as refused q)
limited_told (Ok x) = tt
limited_told (Err r) = tt

limited_given : {A B : Type 0} (o : Option A) (k : Stop) (f : A → Result B Stop) (x : A) → o ≡ Some x → Limited (f x) → Limited (given o k >>= f)
limited_given o k f x e h = subst (λ q. Limited (given q k >>= f)) (sym e) h

limited_needs : {A : Type 0} (b : Bool) (k : Stop) (f : ⊤ → Result A Stop) → b ≡ true → Limited (f tt) → Limited (needs b k >>= f)
limited_needs b k f e h = subst (λ c. Limited (needs c k >>= f)) (sym e) h

-- ---- one of two
-- what is the first of two is one of them
pub or_else_is : {A : Type 0} (o p : Option A) (x : A) → or_else o p ≡ Some x → (o ≡ Some x) ⊎ (p ≡ Some x)
or_else_is (Some y) p x e = inl e
or_else_is None p x e = inr e

-- ---- quotients
-- what an operator is divided by, put back
sums_differences : (ts ks : List ℕ) → length ts ≡ length ks → divides ks ts ≡ true → exponent_sums ks (exponent_differences ts ks) ≡ ts
sums_differences [] [] e h = refl
sums_differences [] (k ∷ ks) e h = absurd (omega arith)
sums_differences (t ∷ ts) [] e h = absurd (omega arith)
sums_differences (t ∷ ts) (k ∷ ks) e h =
    let b = both (nat_le k t) (divides ks ts) h in
    ap₂ (λ (x : ℕ) (xs : List ℕ). x ∷ xs) (omega (arith, leb-true k t b.0)) (sums_differences ts ks (omega arith) b.1)

-- the quotient takes the second symbol to the first
pub derivative_quotient : (n : ℕ) (v l : Symbol) (t : Operator) → quotient v l ≡ Some t → IsRegular n v → IsRegular n l → derivative_by t l ≡ v
derivative_quotient n (Independent i) l t e h k = cc
derivative_quotient n (Derivative u a) (Independent j) t e h k = cc
derivative_quotient n (Derivative u a) (Derivative w b) t e h k = by_test ((u == w) && divides b.counts a.counts) refl e
  where
    by_test : (c : Bool) → ((u == w) && divides b.counts a.counts) ≡ c → cond c (Some (record { counts = exponent_differences a.counts b.counts })) None ≡ Some t → derivative_by t (Derivative w b) ≡ Derivative u a
    by_test true f e =
        let p = both (u == w) (divides b.counts a.counts) f in
        let o : record { counts = exponent_differences a.counts b.counts } ≡ t = cc in
        let c : exponent_sums b.counts t.counts ≡ a.counts = ap (λ (x : Operator). exponent_sums b.counts x.counts) (sym o) ∙ sums_differences a.counts b.counts (h ∙ sym k) p.1 in
        ap₂ (λ (x : ℕ) (y : List ℕ). Derivative x (record { counts = y })) (sym (eqb-true u w p.0)) c
    by_test false f e = cc

-- ---- the derivatives of a polynomial
module _ (g : Symbols Symbol) (P : Symbol → Type 0) where
  inserted : (s : Symbol) (ss : List Symbol) → P s → AllOf P ss → AllOf P (with_symbol g.cmp s ss)
  inserted s [] h k = (h, tt)
  inserted s (t ∷ ts) h k = elim (g.cmp s t) as (λ o. AllOf P (match_ordering o (t ∷ with_symbol g.cmp s ts) (t ∷ ts) (s ∷ t ∷ ts))) [
    | Less ↦ (k.0, inserted s ts h k.1)
    | Equal ↦ k
    | Greater ↦ (h, k)
  ]

  in_monomial : (Q : Symbol → Type 0) → ((s : Symbol) → Q s → g.is_derivative s ≡ true → P s) → (m : Monomial Symbol) (ss : List Symbol) → MonomialIn Q m → AllOf P ss → AllOf P (with_derivatives g m ss)
  in_monomial Q give [] ss h k = k
  in_monomial Q give (p ∷ m) ss h k = by_test (g.is_derivative p.0) refl (in_monomial Q give m ss h.1 k)
    where
      by_test : (b : Bool) → g.is_derivative p.0 ≡ b → AllOf P (with_derivatives g m ss) → AllOf P (cond b (with_symbol g.cmp p.0 (with_derivatives g m ss)) (with_derivatives g m ss))
      by_test true e r = inserted p.0 (with_derivatives g m ss) (give p.0 h.0 e) r
      by_test false e r = r

  -- they have what follows for derivatives from what all symbols have
  pub in_derivatives : (Q : Symbol → Type 0) → ((s : Symbol) → Q s → g.is_derivative s ≡ true → P s) → (p : Polynomial Symbol) → PolynomialIn Q p → AllOf P (derivatives_of g p)
  in_derivatives Q give [] h = tt
  in_derivatives Q give (t ∷ p) h = in_monomial Q give t.0 (derivatives_of g p) h.0 (in_derivatives Q give p h.1)

module _ (R : RankingValue) where
  -- a step by an equation that has a leader, of a degree that the polynomial has
  limited_step : (f q : Polynomial Symbol) (t : Operator) (l : Symbol) → leader (symbols_under R) q ≡ Some l → nat_le (step_degree (symbols_under R) t l q) (degree (ranking_cmp R) (derivative_by t l) f) ≡ true → Limited (step_answer (setting_of R) f q t)
  limited_step f q t l e h =
      limited_bind (reduction_answer (setting_of R) f q t) _
      (limited_given (leader (symbols_under R) q) _ _ l e (limited_needs (nat_le (step_degree (symbols_under R) t l q) (degree (ranking_cmp R) (derivative_by t l) f)) _ _ h
      (limited_bind (told_as refused (operator_answer (setting_of R) t q)) _ (limited_told (operator_answer (setting_of R) t q)) (λ p.
      limited_bind (told_as refused (multiplier_answer (symbols_under R) (multiplier_of t) l q)) _ (limited_told (multiplier_answer (symbols_under R) (multiplier_of t) l q)) (λ m.
      limited_told (reduction_by (symbols_under R) f p m (derivative_by t l) (degree (ranking_cmp R) (derivative_by t l) f) (step_degree (symbols_under R) t l q)))))))
      (λ y. tt)

  -- ---- what a search for a step found
  module _ (s : State) (role : Role) (f : Polynomial Symbol) where
    -- a step by the equation at a place of a list, whose places are counted from suc n
    pub record FoundStep (v : Symbol) (st : Step) (n : ℕ) (qs : Polynomials) : Type 0 where
      pub index : ℕ
      pub equation : Polynomial Symbol
      pub top : Symbol
      pub is_there : at_place index qs ≡ Some equation
      pub place_is : st.place ≡ n + index
      pub leader_is : leader (symbols_under R) equation ≡ Some top
      pub quotient_is : quotient v top ≡ Some st.operator
      pub tests : (is_divisor role st.place && nat_le (step_degree (symbols_under R) st.operator top equation) (degree (ranking_cmp R) v f) && is_permitted (setting_of R) s role equation top st.operator) ≡ true

    found_with : (v : Symbol) (st : Step) (j : ℕ) (q : Polynomial Symbol) (o : Option Symbol) → leader (symbols_under R) q ≡ o → step_with (setting_of R) s role f v j q o ≡ Some st
        → (l : Symbol) × (leader (symbols_under R) q ≡ Some l) × (st.place ≡ j) × (quotient v l ≡ Some st.operator) × ((is_divisor role st.place && nat_le (step_degree (symbols_under R) st.operator l q) (degree (ranking_cmp R) v f) && is_permitted (setting_of R) s role q l st.operator) ≡ true)
    found_with v st j q None i e = cc
    found_with v st j q (Some l) i e = by_quotient (quotient v l) refl e
      where
        by_test : (t : Operator) → quotient v l ≡ Some t → (b : Bool) → (is_divisor role j && nat_le (step_degree (symbols_under R) t l q) (degree (ranking_cmp R) v f) && is_permitted (setting_of R) s role q l t) ≡ b
            → cond b (Some (record { place = j; operator = t })) None ≡ Some st
            → (l : Symbol) × (leader (symbols_under R) q ≡ Some l) × (st.place ≡ j) × (quotient v l ≡ Some st.operator) × ((is_divisor role st.place && nat_le (step_degree (symbols_under R) st.operator l q) (degree (ranking_cmp R) v f) && is_permitted (setting_of R) s role q l st.operator) ≡ true)
        by_test t k true h e =
            let c : record { place = j; operator = t } ≡ st = cc in
            (l, i, sym (ap (λ (x : Step). x.place) c), k ∙ ap (λ (x : Step). Some x.operator) c, subst (λ (x : Step). (is_divisor role x.place && nat_le (step_degree (symbols_under R) x.operator l q) (degree (ranking_cmp R) v f) && is_permitted (setting_of R) s role q l x.operator) ≡ true) c h)
        by_test t k false h e = cc

        by_quotient : (o : Option Operator) → quotient v l ≡ o
            → (elim o as (λ _. Option Step) [ None ↦ None | Some t ↦ cond (is_divisor role j && nat_le (step_degree (symbols_under R) t l q) (degree (ranking_cmp R) v f) && is_permitted (setting_of R) s role q l t) (Some (record { place = j; operator = t })) None ]) ≡ Some st
            → (l : Symbol) × (leader (symbols_under R) q ≡ Some l) × (st.place ≡ j) × (quotient v l ≡ Some st.operator) × ((is_divisor role st.place && nat_le (step_degree (symbols_under R) st.operator l q) (degree (ranking_cmp R) v f) && is_permitted (setting_of R) s role q l st.operator) ≡ true)
        by_quotient None k e = cc
        by_quotient (Some t) k e = by_test t k _ refl e

    found_at : (v : Symbol) (st : Step) (n : ℕ) (qs : Polynomials) → step_at (setting_of R) s role f v (suc n) qs ≡ Some st → FoundStep v st n qs
    found_at v st n [] e = cc
    found_at v st n (q ∷ qs) e = elim (or_else_is (step_with (setting_of R) s role f v (suc n) q (leader (symbols_under R) q)) (step_at (setting_of R) s role f v (suc (suc n)) qs) st e) [
      | inl h ↦ let r = found_with v st (suc n) q (leader (symbols_under R) q) refl h in record { index = 1; equation = q; top = r.0; is_there = refl; place_is = r.2 ∙ omega arith; leader_is = r.1; quotient_is = r.3; tests = r.4 }
      | inr h ↦ by_rest (found_at v st (suc n) qs h)
    ]
      where
        by_index : (i : ℕ) (p : Polynomial Symbol) → at_place i qs ≡ Some p → at_place (suc i) (q ∷ qs) ≡ Some p
        by_index zero p h = absurd (no_zero qs h)
          where
            no_zero : (xs : Polynomials) → at_place zero xs ≡ Some p → ⊥
            no_zero [] a = cc
            no_zero (x ∷ xs) a = cc
        by_index (suc i) p h = h

        by_rest : FoundStep v st (suc n) qs → FoundStep v st n (q ∷ qs)
        by_rest r = record { index = suc r.index; equation = r.equation; top = r.top; is_there = by_index r.index r.equation r.is_there; place_is = r.place_is ∙ omega arith; leader_is = r.leader_is; quotient_is = r.quotient_is; tests = r.tests }

    -- a step at one of some symbols
    pub found_first : (P : Symbol → Type 0) (st : Step) (vs : List Symbol) → first_step (setting_of R) s role f vs ≡ Some st → AllOf P vs → (v : Symbol) × P v × FoundStep v st 0 s.equations
    found_first P st [] e h = cc
    found_first P st (v ∷ vs) e h = elim (or_else_is (step_at (setting_of R) s role f v 1 s.equations) (first_step (setting_of R) s role f vs) st e) [
      | inl k ↦ (v, h.0, found_at v st 0 s.equations k)
      | inr k ↦ found_first P st vs k h.1
    ]

    -- the step that a full run takes is one: a limit alone refuses it
    pub next_step_is_step : (st : Step) → next_step (setting_of R) s role f ≡ Some st → PolynomialIn (IsRegular 4) f → AllOf (PolynomialIn (IsRegular 4)) s.equations → Limited (step_in (setting_of R) s role f st)
    next_step_is_step st e h k =
        let r = found_first (IsRegular 4) st (derivatives_of (symbols_under R) f) e (in_derivatives (symbols_under R) (IsRegular 4) (IsRegular 4) (λ s h _. h) f h) in by_found r.0 r.1 r.2
      where
        by_found : (v : Symbol) → IsRegular 4 v → FoundStep v st 0 s.equations → Limited (step_in (setting_of R) s role f st)
        by_found v c r =
            let there : at_place st.place s.equations ≡ Some r.equation = ap (λ i. at_place i s.equations) (r.place_is ∙ omega arith) ∙ r.is_there in
            let b = both (is_divisor role st.place && nat_le (step_degree (symbols_under R) st.operator r.top r.equation) (degree (ranking_cmp R) v f)) (is_permitted (setting_of R) s role r.equation r.top st.operator) r.tests in
            let d = both (is_divisor role st.place) (nat_le (step_degree (symbols_under R) st.operator r.top r.equation) (degree (ranking_cmp R) v f)) b.0 in
            let top : IsRegular 4 r.top = leader_regular R r.equation r.top r.leader_is (taken (PolynomialIn (IsRegular 4)) st.place r.equation s.equations there k).0 in
            let raised : derivative_by st.operator r.top ≡ v = derivative_quotient 4 v r.top st.operator r.quotient_is c top in
            limited_needs (is_divisor role st.place) _ _ d.0 (limited_given (at_place st.place s.equations) _ _ r.equation there (limited_given (leader (symbols_under R) r.equation) _ _ r.top r.leader_is
            (limited_needs (is_permitted (setting_of R) s role r.equation r.top st.operator) _ _ b.1
            (limited_step f r.equation st.operator r.top r.leader_is (ap (λ u. nat_le (step_degree (symbols_under R) st.operator r.top r.equation) (degree (ranking_cmp R) u f)) raised ∙ d.1)))))
