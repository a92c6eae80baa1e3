-- The symbols of the equations of a chain and of their derivatives.
use Rattle.std.specs.Option.{is_none}
use Rattle.std.proofs.Common.{◌≡◌, ◌⊎◌, inl, inr, ◌<◌, ◌≤◌, ◌+◌, ◌==◌, ◌∙◌, ℕ, zero, suc, max, nat_le, Bool, true, false, cond, List, [], ◌∷◌, length, take, Option, Some, None, Ok, refl, sym, ap, subst, arith, eqb-true}
use Rattle.std.specs.List.{list_any}
use Rattle.std.proofs.lemmas.Bool.{eq-eqb, le-leb}
use Rattle.std.proofs.lemmas.Cmp.{tied_itself}
use Rattle.std.specs.declared.cmp.Ordering.{Ordering}
use Rattle.std.specs.declared.cmp.Ordering.TheVariants.{Less, Equal, Greater}
use Rattle.std.specs.Ordering.{match_ordering}
use Rattle.dz_algebra.specs.Derivation.{RateIn, constant, unit, rate_by, polynomial_derivative}
use Rattle.dz_algebra.specs.Monomial.{Monomial, MonomialIn, IsMonomial, exponent}
use Rattle.dz_algebra.specs.Parts.{degree, initial, leader, separant}
use Rattle.dz_algebra.specs.Polynomial.{Polynomial, Contributions, IsPolynomial, PolynomialIn}
use Rattle.dz_algebra.specs.Size.{operation, derivation_answer}
use Rattle.dz_algebra.proofs.Inside.{in_collect, in_derivative, in_coefficient}
use Rattle.dz_algebra.proofs.Operations.{operation_is}
use Rattle.dz_rank.specs.Rankings.{RankingValue, ranking_cmp}
use Rattle.dz_rank.specs.Symbols.{derivative_by, is_derivative, BelongsTo}
use Rattle.dz_rank.specs.declared.symbols.Operator.{Operator}
use Rattle.dz_rank.specs.declared.symbols.Symbol.{Symbol}
use Rattle.dz_rank.specs.declared.symbols.Symbol.TheVariants.{Independent, Derivative}
use Rattle.dz_monomials.specs.Ranked.{symbol_rate, symbols_under}
use Rattle.dz_monomials.proofs.SymbolLaws.{ranking_order}
use Rattle.dz_monomials.specs.Lists.{AllOf}
use Rattle.dz_diff.specs.Over.{IsOver}
use Rattle.dz_diff.specs.Operations.{Setting, iterated_answer, derivations_answer, operator_answer, setting_of}
use Rattle.dz_diff.specs.Operators.{is_proper, quotient}
use Rattle.dz_diff.specs.State.{State, at_place}
use Rattle.dz_diff.specs.Tests.{Polynomials}
use Rattle.dz_algebra.proofs.Outcomes.{bind_ok}
use Rattle.dz_diff.proofs.LeaderBounds.{under_leader}
use Rattle.dz_diff.proofs.LeaderDerivations.{IsUnder}
use Rattle.dz_diff.proofs.OperatorLeaders.{derivative_grows}
use Rattle.dz_diff.proofs.Overs.{regular_over}
use Rattle.dz_step.specs.FullRun.{derivatives_of}
use Rattle.dz_step.specs.Step.{step_degree}
use Rattle.dz_step.proofs.NoSteps.{occurring}
use Rattle.dz_move.specs.Lines.{Evidence}
use Rattle.dz_tree.specs.Chain.{passes}
use Rattle.dz_jet.specs.Jets.{Leading, led_by, leading_to, is_needed}
use Rattle.dz_jet.proofs.ChainFacts.{ChainFacts, no_two, none_of, not_reducible}
use Rattle.dz_jet.proofs.PairSteps.{quotient_leads, four}
use Rattle.dz_jet.proofs.Raisings.{one_belongs}
use Rattle.dz_jet.proofs.Reachings.{same_some, equation_over, top_belongs}

-- ---- properties of the symbols of a polynomial
module _ (P Q : Symbol → Type 0) where
  monomial_both : (m : Monomial Symbol) → MonomialIn P m → MonomialIn Q m → MonomialIn (λ s. P s × Q s) m
  monomial_both [] h k = tt
  monomial_both (p ∷ m) h k = ((h.0, k.0), monomial_both m h.1 k.1)

  pub in_both : (p : Contributions Symbol) → PolynomialIn P p → PolynomialIn Q p → PolynomialIn (λ s. P s × Q s) p
  in_both [] h k = tt
  in_both (t ∷ p) h k = (monomial_both t.0 h.0 k.0, in_both p h.1 k.1)

  monomial_more : ((s : Symbol) → P s → Q s) → (m : Monomial Symbol) → MonomialIn P m → MonomialIn Q m
  monomial_more f [] h = tt
  monomial_more f (p ∷ m) h = (f p.0 h.0, monomial_more f m h.1)

  pub in_more : ((s : Symbol) → P s → Q s) → (p : Contributions Symbol) → PolynomialIn P p → PolynomialIn Q p
  in_more f [] h = tt
  in_more f (t ∷ p) h = (monomial_more f t.0 h.0, in_more f p h.1)

-- ---- what occurs has a positive degree
module _ (r : RankingValue) where
  grown : (x : Symbol × ℕ) (whole m : Monomial Symbol) → MonomialIn (λ s. 1 ≤ exponent (ranking_cmp r) s whole) m → MonomialIn (λ s. 1 ≤ exponent (ranking_cmp r) s (x ∷ whole)) m
  grown x whole [] h = tt
  grown x whole (p ∷ m) h = (by_order (ranking_cmp r p.0 x.0) h.0, grown x whole m h.1)
    where
      by_order : (o : Ordering) → 1 ≤ exponent (ranking_cmp r) p.0 whole → 1 ≤ match_ordering o (exponent (ranking_cmp r) p.0 whole) (x.1 + exponent (ranking_cmp r) p.0 whole) (exponent (ranking_cmp r) p.0 whole)
      by_order Less h = h
      by_order Equal h = omega arith
      by_order Greater h = h

  monomial_occurs : (m : Monomial Symbol) → IsMonomial (ranking_cmp r) m → MonomialIn (λ s. 1 ≤ exponent (ranking_cmp r) s m) m
  monomial_occurs [] h = tt
  monomial_occurs (p ∷ m) h = (first (ranking_cmp r p.0 p.0) (tied_itself (ranking_order r).total p.0), grown p m m (monomial_occurs m h.2))
    where
      first : (o : Ordering) → o ≡ Equal → 1 ≤ match_ordering o (exponent (ranking_cmp r) p.0 m) (p.1 + exponent (ranking_cmp r) p.0 m) (exponent (ranking_cmp r) p.0 m)
      first Less e = cc
      first Equal e = omega (arith, h.0)
      first Greater e = cc

  occurs : (p : Polynomial Symbol) → IsPolynomial (ranking_cmp r) p → PolynomialIn (λ s. 1 ≤ degree (ranking_cmp r) s p) p
  occurs [] h = tt
  occurs (t ∷ p) h = (
    monomial_more (λ s. 1 ≤ exponent (ranking_cmp r) s t.0) (λ s. 1 ≤ degree (ranking_cmp r) s (t ∷ p)) (λ s k. left (exponent (ranking_cmp r) s t.0) (degree (ranking_cmp r) s p) k) t.0 (monomial_occurs t.0 h.1),
    in_more (λ s. 1 ≤ degree (ranking_cmp r) s p) (λ s. 1 ≤ degree (ranking_cmp r) s (t ∷ p)) (λ s k. right (exponent (ranking_cmp r) s t.0) (degree (ranking_cmp r) s p) k) p (occurs p h.3),
  )
    where
      left : (a b : ℕ) → 1 ≤ a → 1 ≤ max a b
      left a b h = omega arith

      right : (a b : ℕ) → 1 ≤ b → 1 ≤ max a b
      right a b h = omega arith

  -- ---- derivatives stay in the signature
  module _ (few : r.signature.independents ≤ 4) where
    rate_belongs : (i : ℕ) (s : Symbol) → i < r.signature.independents → BelongsTo r.signature s → RateIn (BelongsTo r.signature) (symbol_rate i s)
    unfolding symbol_rate
    rate_belongs i (Independent j) l h = elim (i == j) as (λ b. RateIn (BelongsTo r.signature) (cond b unit constant)) [ true ↦ tt | false ↦ tt ]
    rate_belongs i (Derivative u t) l h = one_belongs r few i (Derivative u t) l h

    operation_in : (ts : Contributions Symbol) (a : Polynomial Symbol) → operation (symbols_under r) ts ≡ Ok a → PolynomialIn (BelongsTo r.signature) ts → PolynomialIn (BelongsTo r.signature) a
    operation_in ts a e h = subst (PolynomialIn (BelongsTo r.signature)) (operation_is (symbols_under r) ts a e) (in_collect (ranking_cmp r) (BelongsTo r.signature) ts h)

    derivation_in : (i : ℕ) (a b : Polynomial Symbol) → i < r.signature.independents → derivation_answer (symbols_under r) i a ≡ Ok b → PolynomialIn (BelongsTo r.signature) a → PolynomialIn (BelongsTo r.signature) b
    derivation_in i a b l e h = operation_in _ b e (in_derivative (ranking_cmp r) (BelongsTo r.signature) (symbol_rate i) (λ s k. rate_belongs i s l k) a h)

    iterated_in : (i k : ℕ) (a b : Polynomial Symbol) → i < r.signature.independents → iterated_answer (symbols_under r) i k a ≡ Ok b → PolynomialIn (BelongsTo r.signature) a → PolynomialIn (BelongsTo r.signature) b
    iterated_in i zero a b l e h = let f : a ≡ b = cc in subst (PolynomialIn (BelongsTo r.signature)) f h
    iterated_in i (suc k) a b l e h =
        let s = bind_ok (iterated_answer (symbols_under r) i k a) (derivation_answer (symbols_under r) i) b e in
        derivation_in i s.0 b l s.2 (iterated_in i k a s.0 l s.1 h)

    derivations_in : (i : ℕ) (ks : List ℕ) (a b : Polynomial Symbol) → i + length ks ≤ r.signature.independents → derivations_answer (symbols_under r) i ks a ≡ Ok b → PolynomialIn (BelongsTo r.signature) a → PolynomialIn (BelongsTo r.signature) b
    derivations_in i [] a b l e h = let f : a ≡ b = cc in subst (PolynomialIn (BelongsTo r.signature)) f h
    derivations_in i (k ∷ ks) a b l e h =
        let s = bind_ok (iterated_answer (symbols_under r) i k a) (derivations_answer (symbols_under r) (suc i) ks) b e in
        derivations_in (suc i) ks s.0 b (omega arith) s.2 (iterated_in i k a s.0 (omega arith) s.1 h)

    pub operator_in : (t : Operator) (a b : Polynomial Symbol) → operator_answer (setting_of r) t a ≡ Ok b → PolynomialIn (BelongsTo r.signature) a → PolynomialIn (BelongsTo r.signature) b
    operator_in t a b e h = derivations_in 0 (take r.signature.independents t.counts) a b (let k = taken_length r.signature.independents t.counts in omega arith) e h
      where
        taken_length : (n : ℕ) (ks : List ℕ) → length (take n ks) ≤ n
        taken_length zero ks = omega arith
        taken_length (suc n) [] = omega arith
        taken_length (suc n) (k ∷ ks) = let h = taken_length n ks in omega arith

  -- ---- parts have the symbols of the whole
  pub separant_in : (P : Symbol → Type 0) (v : Symbol) (p : Polynomial Symbol) → PolynomialIn P p → PolynomialIn P (separant (ranking_cmp r) v p)
  unfolding polynomial_derivative
  separant_in P v p h = in_collect (ranking_cmp r) P _ (in_derivative (ranking_cmp r) P (rate_by (ranking_cmp r) v) keeps p h)
    where
      keeps : (s : Symbol) → P s → RateIn P (rate_by (ranking_cmp r) v s)
      keeps s k = elim (ranking_cmp r s v) as (λ o. RateIn P (match_ordering o constant unit constant)) [ Less ↦ tt | Equal ↦ tt | Greater ↦ tt ]

  pub initial_in : (P : Symbol → Type 0) (v : Symbol) (p : Polynomial Symbol) → PolynomialIn P p → PolynomialIn P (initial (ranking_cmp r) v p)
  initial_in P v p h = in_coefficient (ranking_cmp r) P v (degree (ranking_cmp r) v p) p h

-- ---- a value is needed where no proper operator leads
module _ (g : Setting) (w : Symbol) where
  pub none_leads : (j : ℕ) (es : Polynomials) → ((b : ℕ) (q : Polynomial Symbol) (l : Symbol) (t : Operator) → at_place (suc b) es ≡ Some q → leader g.symbols q ≡ Some l → quotient w l ≡ Some t → is_proper t ≡ true → ⊥) → leading_to g.symbols w j es ≡ None
  none_leads j [] f = refl
  none_leads j (p ∷ es) f = ap (led_by j p (leader g.symbols p) w) (none_leads (suc j) es (λ b q l t e. f (suc b) q l t e)) ∙ by_leader (leader g.symbols p) refl
    where
      by_leader : (o : Option Symbol) → leader g.symbols p ≡ o → led_by j p o w None ≡ None
      by_leader None e = refl
      by_leader (Some l) e = by_quotient (quotient w l) refl
        where
          by_proper : (t : Operator) (b : Bool) → is_proper t ≡ b → quotient w l ≡ Some t → cond {A = Option Leading} b (Some (record { place = j; divisor = p; top = l; operator = t })) None ≡ None
          by_proper t true h k = absurd (f 0 p l t refl e k h)
          by_proper t false h k = refl

          by_quotient : (o : Option Operator) → quotient w l ≡ o → (elim o as (λ _. Option Leading) [ None ↦ None | Some t ↦ cond {A = Option Leading} (is_proper t) (Some (record { place = j; divisor = p; top = l; operator = t })) None ]) ≡ None
          by_quotient None h = refl
          by_quotient (Some t) h = by_proper t (is_proper t) refl h

  pub needs_value : (o : Option Leading) → o ≡ None → is_none o ≡ true
  needs_value None e = refl
  needs_value (Some x) e = cc

module _ (r : RankingValue) (few : r.signature.independents ≤ 4) (s : State) (over : AllOf (IsOver r) s.equations) (evidence : List Evidence) (facts : ChainFacts (setting_of r) s evidence) where
  -- in the equation p no proper derivative of a leader occurs
  not_led : (a b : ℕ) (p q : Polynomial Symbol) (l v : Symbol) (t : Operator) → at_place (suc a) s.equations ≡ Some p → at_place (suc b) s.equations ≡ Some q → leader (symbols_under r) q ≡ Some l
      → BelongsTo r.signature v → 1 ≤ degree (ranking_cmp r) v p → ((m : Symbol) → leader (symbols_under r) p ≡ Some m → (ranking_cmp r v m ≡ Less) ⊎ (v ≡ m)) → quotient v l ≡ Some t → is_proper t ≡ true → ⊥
  not_led a b p q l v t e f c inside low under k proper = by_test (a == b) refl
    where
      l_in : BelongsTo r.signature l
      l_in = top_belongs r few s over (suc b) q l f c

      leads : derivative_by t l ≡ v
      leads = (quotient_leads v l t (four r v inside) (four r l l_in) k).0

      -- v is a derivative, since a quotient leads to it
      quotient_of_derivative : (v : Symbol) → quotient v l ≡ Some t → is_derivative v ≡ true
      quotient_of_derivative (Independent i) h = cc
      quotient_of_derivative (Derivative u x) h = refl

      quotient_by_derivative : (v l : Symbol) → quotient v l ≡ Some t → is_derivative l ≡ true
      quotient_by_derivative (Independent i) l h = cc
      quotient_by_derivative (Derivative u x) (Independent j) h = cc
      quotient_by_derivative (Derivative u x) (Derivative w y) h = refl

      grows : ranking_cmp r l v ≡ Less
      grows = subst (λ z. ranking_cmp r l z ≡ Less) leads (derivative_grows r t l (quotient_by_derivative v l k) proper)

      below_itself : (ranking_cmp r v l ≡ Less) ⊎ (v ≡ l) → ⊥
      below_itself (inl h) = let x = (ranking_order r).total.trans l v l grows h in let y = tied_itself (ranking_order r).total l in cc
      below_itself (inr h) = let y = tied_itself (ranking_order r).total l in let x : ranking_cmp r l l ≡ Less = subst (λ z. ranking_cmp r l z ≡ Less) h grows in cc

      by_test : (c : Bool) → (a == b) ≡ c → ⊥
      by_test true h =
          let same : p ≡ q = same_some (at_place (suc b) s.equations) p q (ap (λ n. at_place (suc n) s.equations) (sym (eqb-true a b h)) ∙ e) f in
          below_itself (under l (ap (leader (symbols_under r)) same ∙ c))
      by_test false h =
          let none = not_reducible r s.equations a b p q facts.autoreduced e f (λ z. no_two (a == b) (eq-eqb a b z) h) in
          let test : Symbol → Bool = λ v. passes (λ t. nat_le (step_degree (symbols_under r) t l q) (degree (ranking_cmp r) v p)) (quotient v l) in
          let each = none_of r test (derivatives_of (symbols_under r) p) (sym (ap (passes (λ l. list_any (λ v. passes (λ t. nat_le (step_degree (symbols_under r) t l q) (degree (ranking_cmp r) v p)) (quotient v l)) (derivatives_of (symbols_under r) p))) c) ∙ none) in
          let no = occurring (symbols_under r) (ranking_order r) (λ v. test v ≡ false) v p (quotient_of_derivative v k) low each in
          no_two (nat_le (step_degree (symbols_under r) t l q) (degree (ranking_cmp r) v p))
          (ap (λ d. nat_le (cond d 1 (degree (ranking_cmp r) l q)) (degree (ranking_cmp r) v p)) proper ∙ le-leb 1 (degree (ranking_cmp r) v p) low)
          (sym (ap (passes (λ t. nat_le (step_degree (symbols_under r) t l q) (degree (ranking_cmp r) v p))) k) ∙ no)

  -- the symbols of an equation are not above its leader
  pub under_top : (p : Polynomial Symbol) (l : Symbol) → IsOver r p → leader (symbols_under r) p ≡ Some l → is_derivative l ≡ true → PolynomialIn (λ v. (ranking_cmp r v l ≡ Less) ⊎ (v ≡ l)) p
  under_top p (Independent i) o e d = cc
  under_top p (Derivative u t) o e d = in_more (IsUnder (ranking_cmp r) 4 (Derivative u t)) (λ v. (ranking_cmp r v (Derivative u t) ≡ Less) ⊎ (v ≡ Derivative u t)) (λ v h. h.1) p (under_leader r 4 p u t e (regular_over r p o))

  -- they belong to the signature, and values of them are needed
  pub equation_needed : (a : ℕ) (p : Polynomial Symbol) (m : Symbol) → at_place (suc a) s.equations ≡ Some p → leader (symbols_under r) p ≡ Some m → is_derivative m ≡ true → PolynomialIn (λ v. BelongsTo r.signature v × (is_needed (symbols_under r) s v ≡ true)) p
  equation_needed a p m e c d =
      let o = equation_over r few s over (suc a) p e in
      in_more (λ v. BelongsTo r.signature v × ((1 ≤ degree (ranking_cmp r) v p) × ((ranking_cmp r v m ≡ Less) ⊎ (v ≡ m)))) (λ v. BelongsTo r.signature v × (is_needed (symbols_under r) s v ≡ true))
      (λ v h. (
        h.0,
        needs_value (setting_of r) v (leading_to (symbols_under r) v 1 s.equations)
            (none_leads (setting_of r) v 1 s.equations (λ b q l t f k n proper. not_led a b p q l v t e f k h.0 h.1.0 (λ z k. subst (λ y. (ranking_cmp r v y ≡ Less) ⊎ (v ≡ y)) (same_some (leader (symbols_under r) p) m z c k) h.1.1) n proper)),
      )) p
      (in_both (BelongsTo r.signature) (λ v. (1 ≤ degree (ranking_cmp r) v p) × ((ranking_cmp r v m ≡ Less) ⊎ (v ≡ m))) p o.belongs
      (in_both (λ v. 1 ≤ degree (ranking_cmp r) v p) (λ v. (ranking_cmp r v m ≡ Less) ⊎ (v ≡ m)) p (occurs r p o.canonical) (under_top p m o c d)))
