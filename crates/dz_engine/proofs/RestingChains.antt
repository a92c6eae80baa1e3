-- Where the rules before the pairs name nothing, the conditions of a chain hold, but for the runs of its evidence.
use Rattle.std.specs.List.{list_all, list_any}
use Rattle.std.proofs.Common.{◌≡◌, ◌⊎◌, inl, inr, ℕ, zero, suc, ◌+◌, ◌≤◌, ◌==◌, nat_le, Bool, true, false, not, ◌&&◌, ◌||◌, cond, List, [], ◌∷◌, refl, sym, ap, ap₂, ◌∙◌, Ok, Some, None, is_ok, arith}
use Rattle.std.proofs.lemmas.Bool.{eq-eqb, leb-true, le-leb, leb-false}
use Rattle.std.specs.Cmp.{tied_itself}
use Rattle.std.specs.declared.cmp.Ordering.{Ordering}
use Rattle.std.specs.declared.cmp.Ordering.TheVariants.{Less, Equal, Greater}
use Rattle.std.specs.Ordering.{match_ordering}
use Rattle.dz_algebra.specs.Monomial.{Monomial, IsMonomial, MonomialIn, exponent}
use Rattle.dz_algebra.specs.Norm.{norm}
use Rattle.dz_algebra.specs.Order.{IsOrder}
use Rattle.dz_algebra.specs.Parts.{degree, leader}
use Rattle.dz_algebra.specs.Polynomial.{Polynomial, AreMonomials, PolynomialIn}
use Rattle.dz_algebra.specs.Symbols.{Symbols}
use Rattle.dz_algebra.proofs.Canonical.{are_monomials}
use Rattle.dz_rank.specs.Rankings.{RankingValue, ranking_cmp}
use Rattle.dz_rank.specs.Symbols.{is_derivative}
use Rattle.dz_rank.specs.declared.symbols.Operator.{Operator}
use Rattle.dz_rank.specs.declared.symbols.Symbol.{Symbol}
use Rattle.dz_rank.specs.declared.symbols.Symbol.TheVariants.{Independent, Derivative}
use Rattle.dz_monomials.specs.Ranked.{symbols_under}
use Rattle.dz_monomials.proofs.SymbolLaws.{ranking_order}
use Rattle.dz_monomials.specs.Lists.{AllOf}
use Rattle.dz_diff.specs.Operators.{is_proper, quotient}
use Rattle.dz_diff.specs.Operations.{setting_of}
use Rattle.dz_algebra.specs.Outcome.{needs}
use Rattle.dz_diff.specs.Over.{IsOver}
use Rattle.dz_diff.specs.Tests.{Polynomials, has_unit, has_zero, is_member, is_unit, is_zero, same, same_symbol}
use Rattle.dz_diff.specs.State.{State, at_place, without_place}
use Rattle.dz_algebra.proofs.Outcomes.{both, either}
use Rattle.dz_diff.proofs.LeaderBounds.{leader_is_one, leader_regular, under_leader}
use Rattle.dz_diff.proofs.LeaderDerivations.{IsRegular}
use Rattle.dz_diff.proofs.OperatorLeaders.{derivative_grows}
use Rattle.dz_diff.proofs.Overs.{regular_over}
use Rattle.dz_diff.proofs.Places.{taken}
use Rattle.dz_move.proofs.RootStates.{or_none}
use Rattle.dz_diff.proofs.SameTests.{equal_is, same_is}
use Rattle.dz_diff.proofs.LeaderBounds.{most_degree}
use Rattle.dz_step.specs.declared.Role.TheVariants.{Equation, Inequation}
use Rattle.dz_step.specs.declared.Which.TheVariants.{Initial, Separant}
use Rattle.dz_step.specs.FullRun.{admits, derivatives_of, next_step}
use Rattle.dz_step.specs.Step.{multiplier_answer, multiplier_of, permitted_if, step_degree}
use Rattle.dz_step.proofs.NextSteps.{derivative_quotient, in_derivatives}
use Rattle.dz_step.proofs.NoSteps.{no_step_at}
use Rattle.dz_step.proofs.StepsLower.{zero_above}
use Rattle.dz_pair.specs.Pair.{critical_pairs}
use Rattle.dz_move.specs.declared.Rule.TheVariants as rules
use Rattle.dz_move.specs.Lines.{Evidence}
use Rattle.dz_tree.specs.Chain.{passes, has_leaders, is_reducible, reducible_by, autoreduced_from, is_autoreduced, separant_fits, has_permitted, is_free_of, is_reduced, same_pairs, chain_rule}
use Rattle.dz_engine.specs.Order.{weed_next}
use Rattle.dz_engine.proofs.EasyRules.{and_is, needs_is, none_at}
use Rattle.dz_engine.proofs.RestingMultipliers.{Rests, divides_no_other, leads, multiplier_degree, none_there, norm_degree, over_at, permits, rests_at, separant_there, unnamed}
use Rattle.dz_engine.proofs.PairRules.{or_right, places_of}
use Rattle.dz_engine.proofs.RestingPlaces.{passing}
use Rattle.dz_engine.proofs.RunRules.{is_not}
use Rattle.dz_move.proofs.StateFacts.{zeros_none}

-- ---- tests of lists
-- what is not true is false
pub refuted : (b : Bool) → (b ≡ true → ⊥) → b ≡ false
refuted true h = absurd (h refl)
refuted false h = refl

-- a member that passes a test that some member passes
passes_one : {A : Type 0} (test : A → Bool) (P : A → Type 0) (xs : List A) → AllOf P xs → list_any test xs ≡ true → (x : A) × P x × (test x ≡ true)
passes_one test P [] h e = cc
passes_one test P (x ∷ xs) h e = elim (either (test x) (list_any test xs) e) [ inl k ↦ (x, h.0, k) | inr k ↦ passes_one test P xs h.1 k ]

-- a test that all members at places pass
all_at : {A : Type 0} (test : A → Bool) (xs : List A) → ((k : ℕ) (x : A) → at_place (suc k) xs ≡ Some x → test x ≡ true) → list_all test xs ≡ true
all_at test [] h = refl
all_at test (x ∷ xs) h = and_is _ _ (h 0 x refl) (all_at test xs (λ k y a. h (suc k) y a))

-- a test that none of them passes
none_of : {A : Type 0} (test : A → Bool) (xs : List A) → ((k : ℕ) (x : A) → at_place (suc k) xs ≡ Some x → test x ≡ false) → list_any test xs ≡ false
none_of test [] h = refl
none_of test (x ∷ xs) h = ap₂ (λ a b. a || b) (h 0 x refl) (none_of test xs (λ k y a. h (suc k) y a))

-- a member of a list stands at a place, or at another
member_other : (r : RankingValue) (f h : Polynomial Symbol) (j : ℕ) (hs : Polynomials) → at_place j hs ≡ Some h → is_member (symbols_under r) f hs ≡ true → (f ≡ h) ⊎ (is_member (symbols_under r) f (without_place j hs) ≡ true)
member_other r f h j [] a e = cc
member_other r f h zero (x ∷ hs) a e = cc
member_other r f h (suc zero) (x ∷ hs) a e = elim (either (same (symbols_under r) f x) (is_member (symbols_under r) f hs) e) [
  | inl k ↦ inl (let y : x ≡ h = cc in same_is (symbols_under r) (ranking_order r) f x k ∙ y)
  | inr k ↦ inr k
]
member_other r f h (suc (suc j)) (x ∷ hs) a e = elim (either (same (symbols_under r) f x) (is_member (symbols_under r) f hs) e) [
  | inl k ↦ inr (ap (λ b. b || is_member (symbols_under r) f (without_place (suc j) hs)) k)
  | inr k ↦ elim (member_other r f h (suc j) hs a k) [ inl y ↦ inl y | inr y ↦ inr (later (same (symbols_under r) f x) y) ]
]
  where
    later : (b : Bool) → is_member (symbols_under r) f (without_place (suc j) hs) ≡ true → (b || is_member (symbols_under r) f (without_place (suc j) hs)) ≡ true
    later true y = refl
    later false y = y

-- ---- the symbols of a polynomial occur
module _ {cmp : Symbol → Symbol → Ordering} (order : IsOrder cmp) (bound : Symbol → ℕ) where
  occurring_monomial : (m : Monomial Symbol) → IsMonomial cmp m → ((s : Symbol) → exponent cmp s m ≤ bound s) → MonomialIn (λ s. 1 ≤ bound s) m
  occurring_monomial [] i h = tt
  occurring_monomial (p ∷ m) i h = (first (cmp p.0 p.0) (tied_itself order.total p.0) i.0 (h p.0), occurring_monomial m i.2 (λ s. later (cmp s p.0) (exponent cmp s m) (bound s) (h s)))
    where
      first : (o : Ordering) → o ≡ Equal → 1 ≤ p.1 → match_ordering o (exponent cmp p.0 m) (p.1 + exponent cmp p.0 m) (exponent cmp p.0 m) ≤ bound p.0 → 1 ≤ bound p.0
      first Less e l h = cc
      first Equal e l h = omega (arith, l, h)
      first Greater e l h = cc

      later : (o : Ordering) (x y : ℕ) → match_ordering o x (p.1 + x) x ≤ y → x ≤ y
      later Less x y h = h
      later Equal x y h = omega (arith, h)
      later Greater x y h = h

  occurring_all : (p : Polynomial Symbol) → AreMonomials cmp p → ((s : Symbol) → degree cmp s p ≤ bound s) → PolynomialIn (λ s. 1 ≤ bound s) p
  occurring_all [] i h = tt
  occurring_all (t ∷ p) i h = (occurring_monomial t.0 i.0 (λ s. let k = h s in omega (arith, k)), occurring_all p i.1 (λ s. let k = h s in omega (arith, k)))

-- both of two facts of symbols
both_monomial : (P Q : Symbol → Type 0) (m : Monomial Symbol) → MonomialIn P m → MonomialIn Q m → MonomialIn (λ s. P s × Q s) m
both_monomial P Q [] h k = tt
both_monomial P Q (p ∷ m) h k = ((h.0, k.0), both_monomial P Q m h.1 k.1)

both_polynomial : (P Q : Symbol → Type 0) (p : Polynomial Symbol) → PolynomialIn P p → PolynomialIn Q p → PolynomialIn (λ s. P s × Q s) p
both_polynomial P Q [] h k = tt
both_polynomial P Q (t ∷ p) h k = (both_monomial P Q t.0 h.0 k.0, both_polynomial P Q p h.1 k.1)

-- a derivative occurs, and its operator has four exponents
pub record IsIn (r : RankingValue) (p : Polynomial Symbol) (v : Symbol) : Type 0 where
  pub occurs : 1 ≤ degree (ranking_cmp r) v p
  pub regular : IsRegular 4 v
  pub derivative : is_derivative v ≡ true

-- the derivatives of a polynomial are such
pub derivatives_are_in : (r : RankingValue) (p : Polynomial Symbol) → IsOver r p → AllOf (IsIn r p) (derivatives_of (symbols_under r) p)
derivatives_are_in r p h =
    in_derivatives (symbols_under r) (IsIn r p) (λ s. (1 ≤ degree (ranking_cmp r) s p) × IsRegular 4 s) (λ s k d. record { occurs = k.0; regular = k.1; derivative = d }) p
    (both_polynomial (λ s. 1 ≤ degree (ranking_cmp r) s p) (IsRegular 4) p (occurring_all (ranking_order r) (λ s. degree (ranking_cmp r) s p) p (are_monomials (ranking_order r) p h.canonical) (λ s. omega arith)) (regular_over r p h))

-- evidence for these pairs of places
same_places : (es : List Evidence) → same_pairs es (places_of es) ≡ true
same_places [] = refl
same_places (e ∷ es) = and_is _ _ (and_is _ _ (eq-eqb e.first e.first refl) (eq-eqb e.second e.second refl)) (same_places es)

-- ---- a state at which the rules before the pairs name nothing
module _ (r : RankingValue) (few : r.signature.independents ≤ 4) (budget w : ℕ) (s : State) (over : AllOf (IsOver r) s.equations) (inequations_over : AllOf (IsOver r) s.inequations) (rests : Rests r few budget w s over) (unweeded : weed_next (setting_of r) budget w s ≡ None) where
  abbrev g : Symbols Symbol
  g = symbols_under r

  -- two equations at different places have different leaders
  leaders_differ : (i j : ℕ) (p q : Polynomial Symbol) (l : Symbol) → at_place i s.equations ≡ Some p → at_place j s.equations ≡ Some q → (i ≡ j → ⊥) → leader g p ≡ Some l → leader g q ≡ Some l → ⊥
  leaders_differ i j p q l a b apart e f = by_degrees (nat_le (degree g.cmp l q) (degree g.cmp l p)) refl
    where
      by_degrees : (c : Bool) → nat_le (degree g.cmp l q) (degree g.cmp l p) ≡ c → ⊥
      by_degrees true c = divides_no_other r few budget w s over rests i j p q l a b f (permits r few budget w s over rests Initial j q l b f) apart (leb-true _ _ c)
      by_degrees false c = divides_no_other r few budget w s over rests j i q p l b a e (permits r few budget w s over rests Initial i p l a e) (λ z. apart (sym z)) (omega (arith, leb-false _ _ c))

  -- every equation has a leader, and no later one the same
  leaders_from : (n : ℕ) (ps : Polynomials) → ((k : ℕ) (x : Polynomial Symbol) → at_place (suc k) ps ≡ Some x → at_place (suc (n + k)) s.equations ≡ Some x) → has_leaders g ps ≡ true
  leaders_from n [] inside = refl
  leaders_from n (p ∷ ps) inside =
      let a : at_place (suc n) s.equations ≡ Some p = ap (λ k. at_place (suc k) s.equations) (omega arith) ∙ inside 0 p refl in
      let l = leads r few budget w s over rests (suc n) p a in
      and_is _ _ (ap (passes (λ l. not (list_any (λ q. passes (same_symbol g l) (leader g q)) ps))) l.1 ∙ ap not (none_of (λ q. passes (same_symbol g l.0) (leader g q)) ps (λ k x b. refuted _ (λ h.
      let m = passing (same_symbol g l.0) (leader g x) h in
      leaders_differ (suc n) (suc (n + suc k)) p x l.0 a (inside (suc k) x b) (λ z. omega (arith, z)) l.1 (m.1 ∙ ap (λ x. Some x) (sym ((ranking_order r).same l.0 m.0 (equal_is (g.cmp l.0 m.0) m.2))))))))
      (leaders_from (suc n) ps (λ k x b. ap (λ k. at_place (suc k) s.equations) (omega arith) ∙ inside (suc k) x b))

  -- no equation is reducible by another
  irreducible : (i j : ℕ) (p q : Polynomial Symbol) → at_place i s.equations ≡ Some p → at_place j s.equations ≡ Some q → (not (i == j) && is_reducible g p q) ≡ false
  irreducible i j p q a b = refuted _ (λ h.
      let c = both (not (i == j)) (is_reducible g p q) h in
      let l = passing (λ l. list_any (λ v. passes (λ t. nat_le (step_degree g t l q) (degree g.cmp v p)) (quotient v l)) (derivatives_of g p)) (leader g q) c.1 in
      let v = passes_one (λ v. passes (λ t. nat_le (step_degree g t l.0 q) (degree g.cmp v p)) (quotient v l.0)) (IsIn r p) (derivatives_of g p) (derivatives_are_in r p (over_at r few budget w s over rests i p a)) l.2 in
      let t = passing (λ t. nat_le (step_degree g t l.0 q) (degree g.cmp v.0 p)) (quotient v.0 l.0) v.2 in
      no_step_at r s (Equation i) p (rests_at r few budget w s over rests i p a) v.0 (v.1).derivative (v.1).occurs j q l.0 t.0 b l.1 t.1
      (and_is _ _ (and_is _ _ c.0 t.2) (permits r few budget w s over rests (multiplier_of t.0) j q l.0 b l.1)))

  reducible_none : (i n : ℕ) (p : Polynomial Symbol) (qs : Polynomials) → at_place i s.equations ≡ Some p → ((k : ℕ) (x : Polynomial Symbol) → at_place (suc k) qs ≡ Some x → at_place (suc (n + k)) s.equations ≡ Some x) → reducible_by g i (suc n) p qs ≡ false
  reducible_none i n p [] a inside = refl
  reducible_none i n p (q ∷ qs) a inside =
      ap₂ (λ a b. a || b) (irreducible i (suc n) p q a (ap (λ k. at_place (suc k) s.equations) (omega arith) ∙ inside 0 q refl))
      (reducible_none i (suc n) p qs a (λ k x b. ap (λ k. at_place (suc k) s.equations) (omega arith) ∙ inside (suc k) x b))

  autoreduced_is : (n : ℕ) (ps : Polynomials) → ((k : ℕ) (x : Polynomial Symbol) → at_place (suc k) ps ≡ Some x → at_place (suc (n + k)) s.equations ≡ Some x) → autoreduced_from g s.equations (suc n) ps ≡ true
  autoreduced_is n [] inside = refl
  autoreduced_is n (p ∷ ps) inside =
      and_is _ _ (ap not (reducible_none (suc n) 0 p s.equations (ap (λ k. at_place (suc k) s.equations) (omega arith) ∙ inside 0 p refl) (λ k x b. ap (λ k. at_place (suc k) s.equations) (omega arith) ∙ b)))
      (autoreduced_is (suc n) ps (λ k x b. ap (λ k. at_place (suc k) s.equations) (omega arith) ∙ inside (suc k) x b))

  -- the separants can be computed, and all multipliers are permitted
  fits_at : (i : ℕ) (p : Polynomial Symbol) → at_place i s.equations ≡ Some p → separant_fits g p ≡ true
  fits_at i p a =
      let l = leads r few budget w s over rests i p a in
      let m = separant_there r few budget w s over rests i p l.0 a l.1 in
      ap (passes (λ l. is_ok (multiplier_answer g Separant l p))) l.1 ∙ ap is_ok m.1

  permitted_at : (i : ℕ) (p : Polynomial Symbol) → at_place i s.equations ≡ Some p → has_permitted g s p ≡ true
  permitted_at i p a =
      let l = leads r few budget w s over rests i p a in
      ap (passes (λ l. permitted_if g s.inequations (multiplier_answer g Initial l p) && permitted_if g s.inequations (multiplier_answer g Separant l p))) l.1
      ∙ and_is _ _ (permits r few budget w s over rests Initial i p l.0 a l.1) (permits r few budget w s over rests Separant i p l.0 a l.1)

  -- ---- inequations
  -- no step is admitted on an inequation
  inequation_rests : (j : ℕ) (h : Polynomial Symbol) → at_place j s.inequations ≡ Some h → next_step (setting_of r) s (Inequation j) h ≡ None
  inequation_rests j h a = none_there (next_step (setting_of r) s (Inequation j) h) (unnamed (admits (setting_of r) s (Inequation j) h) _ (none_at _ j s.inequations h unweeded a))

  -- a proper derivative of the leader of an equation does not occur in it
  above_leader : (k : ℕ) (p : Polynomial Symbol) (l v : Symbol) (t : Operator) → at_place k s.equations ≡ Some p → leader g p ≡ Some l → quotient v l ≡ Some t → is_proper t ≡ true → IsRegular 4 v → degree g.cmp v p ≤ 0
  above_leader k p (Independent j) v t a e q proper regular = let d : is_derivative (Independent j) ≡ true = leader_is_one r p (Independent j) e in absurd cc
  above_leader k p (Derivative u b) v t a e q proper regular =
      let l : Symbol = Derivative u b in
      let of_p = regular_over r p (over_at r few budget w s over rests k p a) in
      let grows : g.cmp l v ≡ Less = ap (g.cmp l) (sym (derivative_quotient 4 v l t q regular (leader_regular r p l e of_p))) ∙ derivative_grows r t l refl proper in
      most_degree g.cmp v 0 p (zero_above r 4 l v p grows (under_leader r 4 p u b e of_p))

  -- the separant of an equation is permitted in the role of an inequation in which such a derivative occurs
  usable_separant : (j k : ℕ) (h p : Polynomial Symbol) (l v : Symbol) (t : Operator) → at_place j s.inequations ≡ Some h → at_place k s.equations ≡ Some p → leader g p ≡ Some l → quotient v l ≡ Some t → is_proper t ≡ true → IsIn r h v
      → permitted_if g (without_place j s.inequations) (multiplier_answer g Separant l p) ≡ true
  usable_separant j k h p l v t a b e q proper inside =
      let m = separant_there r few budget w s over rests k p l b e in
      ap (permitted_if g (without_place j s.inequations)) m.1 ∙ allowed m.0 m.1 (sym (ap (permitted_if g s.inequations) m.1) ∙ permits r few budget w s over rests Separant k p l b e)
    where
      allowed : (m : Polynomial Symbol) → multiplier_answer g Separant l p ≡ Ok m → (is_unit g m || is_member g (norm m) s.inequations) ≡ true → (is_unit g m || is_member g (norm m) (without_place j s.inequations)) ≡ true
      allowed m f c = elim (either (is_unit g m) (is_member g (norm m) s.inequations) c) [
        | inl x ↦ ap (λ b. b || is_member g (norm m) (without_place j s.inequations)) x
        | inr x ↦ elim (member_other r (norm m) h j s.inequations a x) [
          | inr y ↦ or_right (is_unit g m) _ y
          | inl y ↦ absurd (omega (arith, inside.occurs, ap (degree g.cmp v) y, norm_degree r v m, multiplier_degree r Separant v l p m (over_at r few budget w s over rests k p b) f, above_leader k p l v t b e q proper inside.regular))
        ]
      ]

  free_at : (j k : ℕ) (h p : Polynomial Symbol) → at_place j s.inequations ≡ Some h → at_place k s.equations ≡ Some p → is_free_of g h p ≡ true
  free_at j k h p a b =
      let l = leads r few budget w s over rests k p b in
      ap (passes (λ l. not (list_any (λ v. passes is_proper (quotient v l)) (derivatives_of g h)))) l.1 ∙ is_not _ (λ x.
      let v = passes_one (λ v. passes is_proper (quotient v l.0)) (IsIn r h) (derivatives_of g h) (derivatives_are_in r h (taken (IsOver r) j h s.inequations a inequations_over).0) x in
      let t = passing is_proper (quotient v.0 l.0) v.2 in
      no_step_at r s (Inequation j) h (inequation_rests j h a) v.0 (v.1).derivative (v.1).occurs k p l.0 t.0 b l.1 t.1
      (and_is _ _ (ap (λ c. nat_le (cond c 1 (degree g.cmp l.0 p)) (degree g.cmp v.0 h)) t.2 ∙ le-leb 1 (degree g.cmp v.0 h) (v.1).occurs)
      (ap (λ c. permitted_if g (without_place j s.inequations) (multiplier_answer g (cond c Separant Initial) l.0 p)) t.2 ∙ usable_separant j k h p l.0 v.0 t.0 a b l.1 t.1 t.2 v.1)))

  reduced_at : (j : ℕ) (h : Polynomial Symbol) → at_place j s.inequations ≡ Some h → is_reduced g s h ≡ true
  reduced_at j h a =
      and_is _ _ (ap not (taken (λ q. is_zero q ≡ false) j h s.inequations a (zeros_none s.inequations (or_none (has_unit g s.equations) (has_zero s.inequations) rests.unclosed).1)).0)
      (all_at (is_free_of g h) s.equations (λ k p b. free_at j (suc k) h p a b))

  -- ---- so it is a chain, but for the runs of its evidence
  pub is_chain : (es : List Evidence) → places_of es ≡ critical_pairs g s → chain_rule (setting_of r) s es ≡ Ok tt
  unfolding chain_rule
  is_chain es e =
      needs_is (has_leaders g s.equations) rules.Leader _ (leaders_from 0 s.equations (λ k x a. ap (λ k. at_place (suc k) s.equations) (omega arith) ∙ a))
      ∙ needs_is (is_autoreduced g s.equations) rules.Autoreduced _ (autoreduced_is 0 s.equations (λ k x a. ap (λ k. at_place (suc k) s.equations) (omega arith) ∙ a))
      ∙ needs_is (list_all (separant_fits g) s.equations) rules.Wide _ (all_at (separant_fits g) s.equations (λ k p a. fits_at (suc k) p a))
      ∙ needs_is (list_all (has_permitted g s) s.equations) rules.Multiplier _ (all_at (has_permitted g s) s.equations (λ k p a. permitted_at (suc k) p a))
      ∙ needs_is (list_all (is_reduced g s) s.inequations) rules.Inequation _ (all_at (is_reduced g s) s.inequations (λ k h a. reduced_at (suc k) h a))
      ∙ ap (λ b. needs b rules.Pairs) (ap (same_pairs es) (sym e) ∙ same_places es)
