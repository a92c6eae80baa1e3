-- Where the rules before the pairs name nothing, the multipliers of all equations are permitted.
use Rattle.std.specs.Prelude.{is_some}
use Rattle.std.proofs.Common.{◌≡◌, ◌≢◌, ◌⊎◌, inl, inr, ℕ, zero, suc, ◌+◌, ◌<◌, ◌≤◌, ◌==◌, nat_le, max, Bool, true, false, not, ◌&&◌, ◌||◌, cond, [], ◌∷◌, length, ℤ, refl, sym, ap, ap₂, ◌∙◌, subst, Result, Ok, Err, Option, Some, None, arith}
use Rattle.std.proofs.lemmas.Bool.{eqb-true, le-leb, ne_eqb}
use Rattle.std.specs.declared.cmp.Ordering.TheVariants.{Less, Equal, Greater}
use Rattle.std.specs.Ordering.{match_ordering}
use Rattle.dz_algebra.specs.Derivation.{derivative_contributions, rate_by}
use Rattle.dz_algebra.specs.Monomial.{Monomial, monomial_cmp, exponent, without}
use Rattle.dz_algebra.specs.Norm.{divided, norm, signed_content}
use Rattle.dz_algebra.specs.Parts.{coefficient_of, degree, initial, is_ground, leader}
use Rattle.dz_algebra.specs.Polynomial.{Polynomial, PolynomialIn, collect}
use Rattle.dz_algebra.specs.Size.{Refusal}
use Rattle.dz_algebra.specs.Symbols.{Symbols}
use Rattle.dz_algebra.proofs.Canonical.{are_monomials, collected}
use Rattle.dz_algebra.proofs.Coefficients.{coefficient_of_is, initial_not_zero}
use Rattle.dz_algebra.proofs.Leaders.{no_leader_ground}
use Rattle.dz_algebra.proofs.Operations.{operation_is}
use Rattle.dz_rank.specs.Rankings.{RankingValue, ranking_cmp}
use Rattle.dz_rank.specs.Symbols.{is_derivative}
use Rattle.dz_rank.specs.declared.symbols.Symbol.{Symbol}
use Rattle.dz_rank.specs.declared.symbols.Symbol.TheVariants.{Independent, Derivative}
use Rattle.dz_monomials.specs.Ranked.{symbols_under}
use Rattle.dz_monomials.proofs.SymbolLaws.{ranking_order}
use Rattle.dz_monomials.specs.Lists.{AllOf}
use Rattle.dz_diff.specs.Operations.{setting_of}
use Rattle.dz_diff.specs.Over.{IsOver}
use Rattle.dz_move.specs.Root.{is_closed}
use Rattle.dz_diff.specs.Tests.{Polynomials, has_unit, has_zero, is_member, is_unit, is_zero, same}
use Rattle.dz_diff.specs.State.{State, at_place}
use Rattle.dz_algebra.proofs.Outcomes.{either}
use Rattle.dz_diff.proofs.Degrees.{AtMost, exponent_fewer}
use Rattle.dz_diff.proofs.LeaderBounds.{degree_most, leader_degree, leader_is_one, most_degree, under_leader}
use Rattle.dz_diff.proofs.LeaderDerivations.{IsUnder}
use Rattle.dz_diff.proofs.MarkedSums.{each_collect}
use Rattle.dz_diff.proofs.Overs.{polynomial_in, regular_over}
use Rattle.dz_diff.proofs.Places.{taken}
use Rattle.dz_move.proofs.RootStates.{or_none}
use Rattle.dz_diff.proofs.SameTests.{same_is}
use Rattle.dz_diff.proofs.Separants.{IsNotAbove, separant_nonzero}
use Rattle.dz_step.specs.declared.Role.TheVariants.{Equation}
use Rattle.dz_step.specs.declared.Which.{Which}
use Rattle.dz_step.specs.declared.Which.TheVariants.{Initial, Separant}
use Rattle.dz_step.specs.FullRun.{or_else, next_step, admits}
use Rattle.dz_step.specs.Step.{is_allowed, multiplier_answer, permitted_if}
use Rattle.dz_step.proofs.Lowering.{each_coefficient}
use Rattle.dz_step.proofs.NoSteps.{no_step_at}
use Rattle.dz_move.specs.Lines.{Entry}
use Rattle.dz_engine.specs.Order.{reduce_next, split_next, split_on}
use Rattle.dz_engine.proofs.EasyRules.{and_is, none_at, none_parts}
use Rattle.dz_engine.proofs.RestingPlaces.{quotient_by_itself}
use Rattle.dz_engine.proofs.SmallSeparants.{derivative_lower, derivative_most}
use Rattle.dz_move.proofs.StateFacts.{units_none, zeros_none}

-- ---- what is named
-- nothing is named where the test fails
pub unnamed : {A : Type 0} (b : Bool) (x : A) → cond b (Some x) None ≡ None → b ≡ false
unnamed true x e = cc
unnamed false x e = refl

-- nothing is named where the test holds
named_not : {A : Type 0} (b : Bool) (x : A) → cond b None (Some x) ≡ None → b ≡ true
named_not true x e = refl
named_not false x e = cc

-- nothing is there
pub none_there : {A : Type 0} (o : Option A) → is_some o ≡ false → o ≡ None
none_there None e = refl
none_there (Some x) e = cc

-- ---- the number of powers in a polynomial
-- over all its terms
abbrev powers : Polynomial Symbol → ℕ
powers [] = 0
powers (t ∷ p) = length t.0 + powers p

-- a norm has as many
powers_divided : (c : ℤ) (p : Polynomial Symbol) → powers (divided c p) ≡ powers p
powers_divided c [] = refl
powers_divided c (t ∷ p) = ap (λ n. length t.0 + n) (powers_divided c p)

powers_norm : (p : Polynomial Symbol) → powers (norm p) ≡ powers p
unfolding norm
powers_norm p = powers_divided (signed_content p) p

module _ (r : RankingValue) where
  abbrev g : Symbols Symbol
  g = symbols_under r

  -- a monomial has no more powers without a symbol, and fewer where the symbol occurs
  without_shorter : (v : Symbol) (m : Monomial Symbol) → (length (without g.cmp v m) ≤ length m) × (1 ≤ exponent g.cmp v m → length (without g.cmp v m) < length m)
  without_shorter v [] = (omega arith, λ l. absurd (omega (arith, l)))
  without_shorter v (p ∷ m) = let h = without_shorter v m in
      elim (g.cmp v p.0) as (λ o. (length (match_ordering o (p ∷ without g.cmp v m) (without g.cmp v m) (p ∷ without g.cmp v m)) ≤ suc (length m))
      × (1 ≤ match_ordering o (exponent g.cmp v m) (p.1 + exponent g.cmp v m) (exponent g.cmp v m) → length (match_ordering o (p ∷ without g.cmp v m) (without g.cmp v m) (p ∷ without g.cmp v m)) < suc (length m))) [
        | Less ↦ (omega (arith, h.0), λ l. omega (arith, h.1 l))
        | Equal ↦ (omega (arith, h.0), λ l. omega (arith, h.0))
        | Greater ↦ (omega (arith, h.0), λ l. omega (arith, h.1 l))
      ]

  -- the coefficient of a power has fewer, by one for each of its terms
  fewer_powers : (v : Symbol) (d : ℕ) (p : Polynomial Symbol) → 1 ≤ d → powers (coefficient_of g.cmp v d p) + length (coefficient_of g.cmp v d p) ≤ powers p
  fewer_powers v d [] l = omega arith
  fewer_powers v d (t ∷ p) l = by_test (exponent g.cmp v t.0 == d) refl (fewer_powers v d p l)
    where
      by_test : (b : Bool) → (exponent g.cmp v t.0 == d) ≡ b → powers (coefficient_of g.cmp v d p) + length (coefficient_of g.cmp v d p) ≤ powers p
          → powers (cond b ((without g.cmp v t.0, t.1) ∷ coefficient_of g.cmp v d p) (coefficient_of g.cmp v d p)) + length (cond b ((without g.cmp v t.0, t.1) ∷ coefficient_of g.cmp v d p) (coefficient_of g.cmp v d p)) ≤ powers (t ∷ p)
      by_test true e h = let k = eqb-true (exponent g.cmp v t.0) d e in let n = (without_shorter v t.0).1 (omega (arith, k, l)) in omega (arith, n, h)
      by_test false e h = omega (arith, h)

  -- ---- degrees of parts
  divided_degree : (v : Symbol) (c : ℤ) (p : Polynomial Symbol) → degree g.cmp v (divided c p) ≡ degree g.cmp v p
  divided_degree v c [] = refl
  divided_degree v c (t ∷ p) = ap (max (exponent g.cmp v t.0)) (divided_degree v c p)

  -- a norm has the degrees of its polynomial
  pub norm_degree : (v : Symbol) (p : Polynomial Symbol) → degree g.cmp v (norm p) ≡ degree g.cmp v p
  unfolding norm
  norm_degree v p = divided_degree v (signed_content p) p

  -- the initial and the separant have no greater degrees
  pub multiplier_degree : (which : Which) (v l : Symbol) (p m : Polynomial Symbol) → IsOver r p → multiplier_answer g which l p ≡ Ok m → degree g.cmp v m ≤ degree g.cmp v p
  multiplier_degree Initial v l p m h e =
      let f : collect (monomial_cmp g.cmp) (initial g.cmp l p) ≡ m = cc in
      most_degree g.cmp v (degree g.cmp v p) m (subst (AtMost g.cmp v (degree g.cmp v p)) f (each_collect g.cmp (λ n. exponent g.cmp v n ≤ degree g.cmp v p) (initial g.cmp l p)
      (each_coefficient g (ranking_order r) (λ n. exponent g.cmp v n ≤ degree g.cmp v p) (λ n. exponent g.cmp v n ≤ degree g.cmp v p) l (degree g.cmp l p) (λ n k. lower (exponent g.cmp v (without g.cmp l n)) (exponent g.cmp v n) (exponent_fewer (ranking_order r) l v n) k) p (degree_most g.cmp v p))))
    where
      lower : (x y : ℕ) → x ≤ y → y ≤ degree g.cmp v p → x ≤ degree g.cmp v p
      lower x y a b = omega (arith, a, b)
  multiplier_degree Separant v l p m h e =
      most_degree g.cmp v (degree g.cmp v p) m (subst (AtMost g.cmp v (degree g.cmp v p)) (operation_is g (derivative_contributions g.cmp (rate_by g.cmp l) p) m e)
      (each_collect g.cmp (λ n. exponent g.cmp v n ≤ degree g.cmp v p) (derivative_contributions g.cmp (rate_by g.cmp l) p) (derivative_most (ranking_order r) l v (degree g.cmp v p) p (are_monomials (ranking_order r) p h.canonical) (degree_most g.cmp v p))))

  -- the separant has a less degree in the leader
  separant_lower : (l : Symbol) (p m : Polynomial Symbol) → IsOver r p → 1 ≤ degree g.cmp l p → multiplier_answer g Separant l p ≡ Ok m → degree g.cmp l m < degree g.cmp l p
  separant_lower l p m h some e = by_degree (degree g.cmp l p) some (degree_most g.cmp l p)
    where
      by_degree : (d : ℕ) → 1 ≤ d → AtMost g.cmp l d p → degree g.cmp l m < d
      by_degree zero k a = absurd (omega (arith, k))
      by_degree (suc d) k a =
          let x = most_degree g.cmp l d m (subst (AtMost g.cmp l d) (operation_is g (derivative_contributions g.cmp (rate_by g.cmp l) p) m e)
          (each_collect g.cmp (λ n. exponent g.cmp l n ≤ d) (derivative_contributions g.cmp (rate_by g.cmp l) p) (derivative_lower (ranking_order r) l d p (are_monomials (ranking_order r) p h.canonical) a))) in
          omega (arith, x)

  -- neither is zero
  nothing_led : (l : Symbol) → 1 ≤ degree g.cmp l [] → ⊥
  nothing_led l k = omega (arith, k)

  multiplier_nonzero : (which : Which) (l : Symbol) (p m : Polynomial Symbol) → IsOver r p → leader g p ≡ Some l → multiplier_answer g which l p ≡ Ok m → is_zero m ≡ false
  multiplier_nonzero which l p m h e f = by_terms m (nonzero which f)
    where
      by_terms : (m : Polynomial Symbol) → m ≢ [] → is_zero m ≡ false
      by_terms [] n = absurd (n refl)
      by_terms (t ∷ m) n = refl

      some : 1 ≤ degree g.cmp l p
      some = leader_degree r l p h.canonical e

      is_some_polynomial : p ≢ []
      is_some_polynomial z = nothing_led l (subst (λ q. 1 ≤ degree g.cmp l q) z some)

      under : (l : Symbol) → leader g p ≡ Some l → PolynomialIn (IsNotAbove (ranking_order r) l) p
      under (Independent j) e = let d : is_derivative (Independent j) ≡ true = leader_is_one r p (Independent j) e in absurd cc
      under (Derivative u t) e = polynomial_in (IsUnder g.cmp 4 (Derivative u t)) (IsNotAbove (ranking_order r) (Derivative u t)) (λ x k. k.1) p (under_leader r 4 p u t e (regular_over r p h))

      nonzero : (which : Which) → multiplier_answer g which l p ≡ Ok m → m ≢ []
      nonzero Initial f z =
          let k : collect (monomial_cmp g.cmp) (initial g.cmp l p) ≡ m = cc in
          initial_not_zero (ranking_order r) l p is_some_polynomial (sym (collected (ranking_order r) (initial g.cmp l p) (coefficient_of_is (ranking_order r) l (degree g.cmp l p) p h.canonical)) ∙ k ∙ z)
      nonzero Separant f z = separant_nonzero (ranking_order r) l p h.canonical (under l e) some (operation_is g (derivative_contributions g.cmp (rate_by g.cmp l) p) m f ∙ z)

  -- the initial has fewer powers
  initial_powers : (l : Symbol) (p m : Polynomial Symbol) → IsOver r p → leader g p ≡ Some l → multiplier_answer g Initial l p ≡ Ok m → powers m < powers p
  initial_powers l p m h e f =
      let d = degree g.cmp l p in
      let c = coefficient_of g.cmp l d p in
      let k : collect (monomial_cmp g.cmp) c ≡ m = cc in
      let is : c ≡ m = sym (collected (ranking_order r) c (coefficient_of_is (ranking_order r) l d p h.canonical)) ∙ k in
      let fewer : powers m + length m ≤ powers p = subst (λ x. powers x + length x ≤ powers p) is (fewer_powers l d p (leader_degree r l p h.canonical e)) in
      by_terms m fewer (multiplier_nonzero Initial l p m h e f)
    where
      by_terms : (m : Polynomial Symbol) → powers m + length m ≤ powers p → is_zero m ≡ false → powers m < powers p
      by_terms [] k z = cc
      by_terms (t ∷ m) k z = omega (arith, k)

-- ---- members at places
-- a member stands at some place
pub member_at : (r : RankingValue) (f : Polynomial Symbol) (qs : Polynomials) → is_member (symbols_under r) f qs ≡ true → (j : ℕ) × (at_place (suc j) qs ≡ Some f)
member_at r f [] e = cc
member_at r f (q ∷ qs) e = elim (either (same (symbols_under r) f q) (is_member (symbols_under r) f qs) e) [
  | inl k ↦ (0, ap (λ x. Some x) (sym (same_is (symbols_under r) (ranking_order r) f q k)))
  | inr k ↦ let j = member_at r f qs k in (suc j.0, j.1)
]

-- ---- a state at which the rules before the pairs name nothing
module _ (r : RankingValue) (few : r.signature.independents ≤ 4) (budget w : ℕ) (s : State) (over : AllOf (IsOver r) s.equations) where
  -- what is asked of the state
  pub record Rests : Type 0 where
    pub unclosed : is_closed (symbols_under r) s ≡ false
    pub no_zero : has_zero s.equations ≡ false
    pub unreduced : reduce_next (setting_of r) budget w s ≡ None
    pub unsplit : split_next (setting_of r) budget w s ≡ None

  module _ (rests : Rests) where
    abbrev E : Polynomials
    E = s.equations

    abbrev H : Polynomials
    H = s.inequations

    -- the equation at a place is over the ranking
    pub over_at : (i : ℕ) (p : Polynomial Symbol) → at_place i s.equations ≡ Some p → IsOver r p
    over_at i p a = (taken (IsOver r) i p s.equations a over).0

    -- and has a leader
    pub leads : (i : ℕ) (p : Polynomial Symbol) → at_place i s.equations ≡ Some p → (l : Symbol) × (leader (symbols_under r) p ≡ Some l)
    leads i p a = by_leader (leader (symbols_under r) p) refl
      where
        no_unit : is_unit (symbols_under r) p ≡ false
        no_unit = (taken (λ q. is_unit (symbols_under r) q ≡ false) i p s.equations a (units_none r few s.equations (or_none (has_unit (symbols_under r) s.equations) (has_zero s.inequations) rests.unclosed).0)).0

        none_zero : is_zero p ≡ false
        none_zero = (taken (λ q. is_zero q ≡ false) i p s.equations a (zeros_none s.equations rests.no_zero)).0

        by_leader : (o : Option Symbol) → leader (symbols_under r) p ≡ o → (l : Symbol) × (leader (symbols_under r) p ≡ Some l)
        by_leader (Some l) e = (l, e)
        by_leader None e =
            let unit : is_unit (symbols_under r) p ≡ true = ap₂ (λ a b. a && not b) (no_leader_ground (symbols_under r) p e) none_zero in
            absurd (let z : true ≡ false = sym unit ∙ no_unit in cc)

    -- no step is admitted
    pub rests_at : (i : ℕ) (p : Polynomial Symbol) → at_place i s.equations ≡ Some p → next_step (setting_of r) s (Equation i) p ≡ None
    rests_at i p a =
        none_there (next_step (setting_of r) s (Equation i) p) (unnamed (admits (setting_of r) s (Equation i) p) _ (none_at _ i s.equations p rests.unreduced a))

    -- a multiplier can be computed, and is settled
    settled_on : (i : ℕ) (which : Which) (q : Result (Polynomial Symbol) Refusal) → split_on (setting_of r) budget w s i which q ≡ None
        → (m : Polynomial Symbol) × (q ≡ Ok m) × ((is_ground (symbols_under r) m || is_member (symbols_under r) (norm m) s.equations || is_member (symbols_under r) (norm m) s.inequations) ≡ true)
    settled_on i which (Err x) e = cc
    settled_on i which (Ok m) e = (m, refl, named_not _ _ e)

    unsplit_at : (i : ℕ) (p : Polynomial Symbol) (l : Symbol) → at_place i s.equations ≡ Some p → leader (symbols_under r) p ≡ Some l
        → or_else (split_on (setting_of r) budget w s i Initial (multiplier_answer (symbols_under r) Initial l p)) (split_on (setting_of r) budget w s i Separant (multiplier_answer (symbols_under r) Separant l p)) ≡ None
    unsplit_at i p l a e =
        ap (λ o. elim o as (λ _. Option Entry) [ None ↦ None | Some l ↦ or_else (split_on (setting_of r) budget w s i Initial (multiplier_answer (symbols_under r) Initial l p)) (split_on (setting_of r) budget w s i Separant (multiplier_answer (symbols_under r) Separant l p)) ]) (sym e)
        ∙ none_at _ i s.equations p rests.unsplit a

    settled_at : (which : Which) (i : ℕ) (p : Polynomial Symbol) (l : Symbol) → at_place i s.equations ≡ Some p → leader (symbols_under r) p ≡ Some l
        → (m : Polynomial Symbol) × (multiplier_answer (symbols_under r) which l p ≡ Ok m) × ((is_ground (symbols_under r) m || is_member (symbols_under r) (norm m) s.equations || is_member (symbols_under r) (norm m) s.inequations) ≡ true)
    settled_at which i p l a e = by_which which (none_parts _ _ (unsplit_at i p l a e))
      where
        by_which : (which : Which) → (split_on (setting_of r) budget w s i Initial (multiplier_answer (symbols_under r) Initial l p) ≡ None) × (split_on (setting_of r) budget w s i Separant (multiplier_answer (symbols_under r) Separant l p) ≡ None)
            → (m : Polynomial Symbol) × (multiplier_answer (symbols_under r) which l p ≡ Ok m) × ((is_ground (symbols_under r) m || is_member (symbols_under r) (norm m) s.equations || is_member (symbols_under r) (norm m) s.inequations) ≡ true)
        by_which Initial k = settled_on i Initial (multiplier_answer (symbols_under r) Initial l p) k.0
        by_which Separant k = settled_on i Separant (multiplier_answer (symbols_under r) Separant l p) k.1

    -- no equation with a permitted initial may divide another, by its leader
    pub divides_no_other : (i j : ℕ) (p q : Polynomial Symbol) (l : Symbol) → at_place i s.equations ≡ Some p → at_place j s.equations ≡ Some q → leader (symbols_under r) q ≡ Some l
        → permitted_if (symbols_under r) s.inequations (multiplier_answer (symbols_under r) Initial l q) ≡ true → (i ≡ j → ⊥) → degree (ranking_cmp r) l q ≤ degree (ranking_cmp r) l p → ⊥
    divides_no_other i j p q l a b e permitted apart low =
        let d = leader_is_one r q l e in
        let t = quotient_by_itself l d in
        let some = leader_degree r l q (over_at j q b).canonical e in
        no_step_at r s (Equation i) p (rests_at i p a) l d (omega (arith, some, low)) j q l t.0 b e t.1
        (and_is _ _ (and_is _ _ (ap not (ne_eqb i j apart)) (ap (λ b. nat_le (cond b 1 (degree (ranking_cmp r) l q)) (degree (ranking_cmp r) l p)) t.2 ∙ le-leb (degree (ranking_cmp r) l q) (degree (ranking_cmp r) l p) low))
        (ap (λ b. permitted_if (symbols_under r) s.inequations (multiplier_answer (symbols_under r) (cond b Separant Initial) l q)) t.2 ∙ permitted))

    -- a multiplier that is settled is allowed, unless its norm is an equation
    allowed_or : (m : Polynomial Symbol) → is_zero m ≡ false → (is_ground (symbols_under r) m || is_member (symbols_under r) (norm m) s.equations || is_member (symbols_under r) (norm m) s.inequations) ≡ true
        → (is_allowed (symbols_under r) s.inequations m ≡ true) ⊎ (is_member (symbols_under r) (norm m) s.equations ≡ true)
    allowed_or m z h = by_tests (is_ground (symbols_under r) m) (is_member (symbols_under r) (norm m) s.equations) (is_member (symbols_under r) (norm m) s.inequations) (is_zero m) z h
      where
        by_tests : (a b c d : Bool) → d ≡ false → (a || b || c) ≡ true → ((a && not d || c) ≡ true) ⊎ (b ≡ true)
        by_tests a b c true z h = cc
        by_tests true b c false z h = inl refl
        by_tests false true c false z h = inr refl
        by_tests false false c false z h = inl h

    -- the initial of an equation is permitted, where those of equations with fewer powers are
    initial_by : (i : ℕ) (p : Polynomial Symbol) (l : Symbol) → at_place i s.equations ≡ Some p → leader (symbols_under r) p ≡ Some l
        → ((j : ℕ) (q : Polynomial Symbol) (k : Symbol) → powers q < powers p → at_place j s.equations ≡ Some q → leader (symbols_under r) q ≡ Some k → permitted_if (symbols_under r) s.inequations (multiplier_answer (symbols_under r) Initial k q) ≡ true)
        → permitted_if (symbols_under r) s.inequations (multiplier_answer (symbols_under r) Initial l p) ≡ true
    initial_by i p l a e lesser =
        let k = settled_at Initial i p l a e in
        let m = k.0 in
        let same_powers = powers_norm m in
        let less : powers (norm m) < powers p = omega (arith, same_powers, initial_powers r l p m (over_at i p a) e k.1) in
        elim (allowed_or m (multiplier_nonzero r Initial l p m (over_at i p a) e k.1) k.2) [
          | inl h ↦ ap (permitted_if (symbols_under r) s.inequations) k.1 ∙ h
          | inr h ↦ absurd (
              let j = member_at r (norm m) s.equations h in
              let q = leads (suc j.0) (norm m) j.1 in
              divides_no_other i (suc j.0) p (norm m) q.0 a j.1 q.1 (lesser (suc j.0) (norm m) q.0 less j.1 q.1)
              (λ x. let y : at_place (suc j.0) s.equations ≡ Some p = sym (ap (λ i. at_place i s.equations) x) ∙ a in let z : norm m ≡ p = cc in omega (arith, less, ap powers z))
              (omega (arith, norm_degree r q.0 m, multiplier_degree r Initial q.0 l p m (over_at i p a) k.1)))
        ]

    -- so it is permitted
    initial_permitted : (n i : ℕ) (p : Polynomial Symbol) (l : Symbol) → powers p ≤ n → at_place i s.equations ≡ Some p → leader (symbols_under r) p ≡ Some l
        → permitted_if (symbols_under r) s.inequations (multiplier_answer (symbols_under r) Initial l p) ≡ true
    initial_permitted zero i p l size a e = initial_by i p l a e (λ j q k less b f. absurd (omega (arith, size, less)))
    initial_permitted (suc n) i p l size a e = initial_by i p l a e (λ j q k less b f. initial_permitted n j q k (omega (arith, size, less)) b f)

    -- both multipliers of an equation are permitted
    pub permits : (which : Which) (i : ℕ) (p : Polynomial Symbol) (l : Symbol) → at_place i s.equations ≡ Some p → leader (symbols_under r) p ≡ Some l → permitted_if (symbols_under r) s.inequations (multiplier_answer (symbols_under r) which l p) ≡ true
    permits Initial i p l a e = initial_permitted (powers p) i p l (omega arith) a e
    permits Separant i p l a e =
        let k = settled_at Separant i p l a e in
        let m = k.0 in
        elim (allowed_or m (multiplier_nonzero r Separant l p m (over_at i p a) e k.1) k.2) [
          | inl h ↦ ap (permitted_if (symbols_under r) s.inequations) k.1 ∙ h
          | inr h ↦ absurd (
              let j = member_at r (norm m) s.equations h in
              let q = leads (suc j.0) (norm m) j.1 in
              let lower : degree (ranking_cmp r) l m < degree (ranking_cmp r) l p = separant_lower r l p m (over_at i p a) (leader_degree r l p (over_at i p a).canonical e) k.1 in
              divides_no_other i (suc j.0) p (norm m) q.0 a j.1 q.1 (initial_permitted (powers (norm m)) (suc j.0) (norm m) q.0 (omega arith) j.1 q.1)
              (λ x. let y : at_place (suc j.0) s.equations ≡ Some p = sym (ap (λ i. at_place i s.equations) x) ∙ a in let z : norm m ≡ p = cc in omega (arith, norm_degree r l m, lower, ap (degree (ranking_cmp r) l) z))
              (omega (arith, norm_degree r q.0 m, multiplier_degree r Separant q.0 l p m (over_at i p a) k.1)))
        ]

    -- the separant of an equation can be computed
    pub separant_there : (i : ℕ) (p : Polynomial Symbol) (l : Symbol) → at_place i s.equations ≡ Some p → leader (symbols_under r) p ≡ Some l → (m : Polynomial Symbol) × (multiplier_answer (symbols_under r) Separant l p ≡ Ok m)
    separant_there i p l a e = let k = settled_at Separant i p l a e in (k.0, k.1)
