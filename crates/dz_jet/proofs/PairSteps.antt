-- Two equations that lead to one derivative: the derivative of the one lies in the ideal with that of the other.
use Rattle.std.proofs.Common.{◌≡◌, ◌≤◌, ◌==◌, ◌∙◌, ℕ, suc, nat_le, Bool, true, false, ◌&&◌, cond, List, [], ◌∷◌, length, drop, All, IsTrue, Some, None, Ok, refl, sym, ap, ap₂, subst, arith, leb-true, eqb-true}
use Rattle.std.specs.declared.cmp.Ordering.TheVariants.{Less}
use Rattle.dz_algebra.specs.Norm.{norm}
use Rattle.dz_algebra.specs.Parts.{leader}
use Rattle.dz_algebra.specs.Polynomial.{Polynomial}
use Rattle.dz_algebra.specs.Size.{difference_answer, product_answer, separant_answer}
use Rattle.dz_algebra.proofs.PolynomialRing.{same_canonical, polynomial_ring}
use Rattle.dz_rank.specs.Rankings.{RankingValue, ranking_cmp}
use Rattle.dz_rank.specs.Symbols.{exponent_sums, exponent_maxima, derivative_by, is_derivative, have_one_dependent, least_common_derivative, BelongsTo, IsOperatorOf, IsDerivativeOf, HasFourExponents}
use Rattle.dz_rank.specs.declared.symbols.Operator.{Operator}
use Rattle.dz_rank.specs.declared.symbols.Symbol.{Symbol}
use Rattle.dz_rank.specs.declared.symbols.Symbol.TheVariants.{Independent, Derivative}
use Rattle.dz_rank.proofs.Belonging.{least_common_belongs, quotient_is_operator}
use Rattle.dz_rank.proofs.CommonDerivatives.{least_common_is_least}
use Rattle.dz_monomials.specs.Ranked.{symbols_under}
use Rattle.dz_monomials.proofs.SymbolLaws.{ranking_order}
use Rattle.dz_monomials.specs.Lists.{AllOf}
use Rattle.dz_diff.specs.Over.{IsOver}
use Rattle.dz_diff.specs.Operations.{operator_answer, setting_of}
use Rattle.dz_diff.specs.Operators.{divides, exponent_differences, quotient}
use Rattle.dz_diff.specs.State.{State, at_place}
use Rattle.dz_algebra.proofs.Outcomes.{bind_ok, ok_same, both}
use Rattle.dz_diff.proofs.Goodness.{Good, good_difference, good_norm, good_operator, good_product, good_separant, good_terms}
use Rattle.dz_diff.proofs.Overs.{good_over}
use Rattle.dz_step.specs.declared.Which.TheVariants.{Separant}
use Rattle.dz_pair.specs.Pair.{are_crossing, delta_by, delta_with, delta_of_leaders, delta_answer}
use Rattle.dz_pair.proofs.LeaderOperators.{first_operator, second_operator}
use Rattle.dz_step.specs.declared.Step.{Step}
use Rattle.dz_jet.specs.Chains.{Reaching}
use Rattle.dz_jet.proofs.ChainFacts.{PairRun}
use Rattle.dz_jet.proofs.Ideals.{IsPrimeIdeal}
use Rattle.dz_jet.proofs.IdealRuns.{AreOutside, run_back}
use Rattle.dz_jet.proofs.IdealSteps.{in_product, in_factor, in_minuend, in_subtrahend, in_norm, made_itself}
use Rattle.dz_jet.proofs.Operators.{Poly, operator_is}
use Rattle.dz_jet.proofs.Reachings.{equation_over, poly, raise, raise_all, unique, In, Holds, in_at, in_last}
use Rattle.dz_jet.proofs.Raisings.{path, raised_by, raised_by_is, AreBelow}

-- ---- the operators of a pair
restored : (ss ts : List ℕ) → divides ss ts ≡ true → length ss ≡ length ts → exponent_sums ss (exponent_differences ts ss) ≡ ts
restored [] [] d e = refl
restored [] (t ∷ ts) d e = absurd (omega arith)
restored (s ∷ ss) [] d e = absurd (omega arith)
restored (s ∷ ss) (t ∷ ts) d e =
    let a = both (nat_le s t) (divides ss ts) d in
    ap₂ (λ (x : ℕ) (xs : List ℕ). x ∷ xs) (omega (arith, leb-true s t a.0)) (restored ss ts a.1 (omega arith))

length_differences : (ts ss : List ℕ) → length (exponent_differences ts ss) ≡ length ts
length_differences [] ss = refl
length_differences (t ∷ ts) [] = refl
length_differences (t ∷ ts) (s ∷ ss) = ap suc (length_differences ts ss)

-- a quotient leads from the one symbol to the other
pub quotient_leads : (a b : Symbol) (t : Operator) → HasFourExponents a → HasFourExponents b → quotient a b ≡ Some t → (derivative_by t b ≡ a) × (length t.counts ≡ 4)
quotient_leads (Independent i) b t h k e = cc
quotient_leads (Derivative u x) (Independent j) t h k e = cc
quotient_leads (Derivative u x) (Derivative v y) t h k e = by_test ((u == v) && divides y.counts x.counts) refl e
  where
    by_test : (c : Bool) → ((u == v) && divides y.counts x.counts) ≡ c → cond c (Some (record { counts = exponent_differences x.counts y.counts })) None ≡ Some t → (derivative_by t (Derivative v y) ≡ Derivative u x) × (length t.counts ≡ 4)
    by_test false f e = cc
    by_test true f e =
        let a = both (u == v) (divides y.counts x.counts) f in
        let same : exponent_differences x.counts y.counts ≡ t.counts = cc in
        let sums : exponent_sums y.counts t.counts ≡ x.counts = ap (exponent_sums y.counts) (sym same) ∙ restored y.counts x.counts a.1 (k ∙ sym h) in
        (ap₂ (λ (n : ℕ) (ks : List ℕ). Derivative n (record { counts = ks })) (sym (eqb-true u v a.0)) sums, ap length (sym same) ∙ length_differences x.counts y.counts ∙ h)

-- ---- what a Delta-polynomial is computed from
pub record CrossParts (r : RankingValue) (l m : Symbol) (phi psi : Operator) (p q d : Polynomial Symbol) : Type 0 where
  pub first_separant : Polynomial Symbol
  pub second_separant : Polynomial Symbol
  pub first : Polynomial Symbol
  pub second : Polynomial Symbol
  pub left : Polynomial Symbol
  pub right : Polynomial Symbol
  pub rest : Polynomial Symbol
  pub first_separant_is : separant_answer (symbols_under r) l p ≡ Ok first_separant
  pub second_separant_is : separant_answer (symbols_under r) m q ≡ Ok second_separant
  pub first_is : operator_answer (setting_of r) phi p ≡ Ok first
  pub second_is : operator_answer (setting_of r) psi q ≡ Ok second
  pub left_is : product_answer (symbols_under r) second_separant first ≡ Ok left
  pub right_is : product_answer (symbols_under r) first_separant second ≡ Ok right
  pub rest_is : difference_answer (symbols_under r) left right ≡ Ok rest
  pub end_is : norm rest ≡ d

cross_parts : (r : RankingValue) (l m : Symbol) (phi psi : Operator) (p q d : Polynomial Symbol) → leader (symbols_under r) p ≡ Some l → leader (symbols_under r) q ≡ Some m → quotient (least_common_derivative l m) l ≡ Some phi
    → quotient (least_common_derivative l m) m ≡ Some psi → delta_answer (setting_of r) p q ≡ Ok d → CrossParts r l m phi psi p q d
cross_parts r l m phi psi p q d first second i j e =
    let g = symbols_under r in
    let by : delta_by (setting_of r) l m phi psi p q ≡ Ok d = sym (ap₂ (λ a b. delta_of_leaders (setting_of r) a b p q) first second ∙ ap₂ (λ a b. delta_with (setting_of r) l m a b p q) i j) ∙ e in
    let a = bind_ok (separant_answer g l p) _ d by in
    let b = bind_ok (separant_answer g m q) _ d a.2 in
    let c = bind_ok (operator_answer (setting_of r) phi p) _ d b.2 in
    let f = bind_ok (operator_answer (setting_of r) psi q) _ d c.2 in
    let h = bind_ok (product_answer g b.0 c.0) _ d f.2 in
    let k = bind_ok (product_answer g a.0 f.0) _ d h.2 in
    let n = bind_ok (difference_answer g h.0 k.0) _ d k.2 in
    record {
      first_separant = a.0;
      second_separant = b.0;
      first = c.0;
      second = f.0;
      left = h.0;
      right = k.0;
      rest = n.0;
      first_separant_is = a.1;
      second_separant_is = b.1;
      first_is = c.1;
      second_is = f.1;
      left_is = h.1;
      right_is = k.1;
      rest_is = n.1;
      end_is = ok_same (norm n.0) d n.2;
    }

-- ---- two leaders that lead to one derivative
-- they meet at their least common derivative, and derivations lead on from there
pub record Meeting (r : RankingValue) (l m w : Symbol) : Type 0 where
  pub first_operator : Operator
  pub second_operator : Operator
  pub first_is : quotient (least_common_derivative l m) l ≡ Some first_operator
  pub second_is : quotient (least_common_derivative l m) m ≡ Some second_operator
  pub first_in : IsOperatorOf r.signature.independents first_operator
  pub second_in : IsOperatorOf r.signature.independents second_operator
  pub first_leads : derivative_by first_operator l ≡ least_common_derivative l m
  pub second_leads : derivative_by second_operator m ≡ least_common_derivative l m
  pub belongs : BelongsTo r.signature (least_common_derivative l m)
  pub is_one : IsTrue (is_derivative (least_common_derivative l m))
  pub derivations : List ℕ
  pub below : AreBelow r.signature.independents derivations
  pub leads : raised_by derivations (least_common_derivative l m) ≡ w

pub four : (r : RankingValue) (a : Symbol) → BelongsTo r.signature a → HasFourExponents a
four r (Independent i) h = tt
four r (Derivative u t) h = h.1.size

one_dependent : (a b : Symbol) → are_crossing a b ≡ true → have_one_dependent a b ≡ true
one_dependent (Independent i) b e = cc
one_dependent (Derivative u s) (Independent j) e = cc
one_dependent (Derivative u s) (Derivative v t) e = (both _ _ (both _ _ e).0).0

leads_on : (r : RankingValue) (a w : Symbol) → BelongsTo r.signature a → BelongsTo r.signature w → IsDerivativeOf a w → (is : List ℕ) × AreBelow r.signature.independents is × (raised_by is a ≡ w)
leads_on r (Independent i) w b c d = cc
leads_on r (Derivative u s) (Independent j) b c d = cc
leads_on r (Derivative u s) (Derivative v t) b c d =
    let same : exponent_sums s.counts d.0.counts ≡ t.counts = sym (ap exponents d.1.1) in
    let p = path r.signature.independents s.counts d.0.counts (ap length same ∙ c.1.size ∙ sym b.1.size) (subst (λ ks. All (λ k. k ≡ 0) (drop r.signature.independents ks)) (sym same) c.1.zeros) in
    (p.derivations, p.below, raised_by_is p.derivations u s ∙ ap (λ (ks : List ℕ). Derivative u (record { counts = ks })) p.leads ∙ sym d.1.1)
  where
    exponents : Symbol → List ℕ
    exponents (Independent i) = []
    exponents (Derivative u t) = t.counts

pub meeting : (r : RankingValue) (l m w : Symbol) → are_crossing l m ≡ true → BelongsTo r.signature l → BelongsTo r.signature m → BelongsTo r.signature w → IsDerivativeOf l w → IsDerivativeOf m w → Meeting r l m w
meeting r (Independent i) m w c a b h d e = cc
meeting r (Derivative u s) (Independent j) w c a b h d e = cc
meeting r (Derivative u s) (Derivative v t) w c a b h d e =
    let l = Derivative u s in
    let m = Derivative v t in
    let common = least_common_derivative l m in
    let phi : Operator = record { counts = exponent_differences (exponent_maxima s.counts t.counts) s.counts } in
    let psi : Operator = record { counts = exponent_differences (exponent_maxima s.counts t.counts) t.counts } in
    let first = first_operator l m u v s t phi refl refl refl in
    let second = second_operator l m u v s t psi refl refl c refl in
    let inside = least_common_belongs r.signature l m a b in
    let f = quotient_leads common l phi (four r common inside) (four r l a) first in
    let g = quotient_leads common m psi (four r common inside) (four r m b) second in
    let on = leads_on r common w inside h ((least_common_is_least l m (one_dependent l m c)).least w d e) in
    record {
      first_operator = phi;
      second_operator = psi;
      first_is = first;
      second_is = second;
      first_in = quotient_is_operator r.signature common l phi inside a f.1 (refl, sym f.0);
      second_in = quotient_is_operator r.signature common m psi inside b g.1 (refl, sym g.0);
      first_leads = f.0;
      second_leads = g.0;
      belongs = inside;
      is_one = refl;
      derivations = on.0;
      below = on.1;
      leads = on.2;
    }

-- the derivations that lead on keep the place
place_kept : (r : RankingValue) (few : r.signature.independents ≤ 4) (s : State) (over : AllOf (IsOver r) s.equations) {w : Symbol} (is : List ℕ) (h : AreBelow r.signature.independents is) (x : Reaching r s w)
    → (raise_all r few s over is h x).place ≡ x.place
place_kept r few s over [] h x = refl
place_kept r few s over (i ∷ is) h x = place_kept r few s over is h.1 (raise r few s over x i h.0)

module _ (r : RankingValue) (few : r.signature.independents ≤ 4) (s : State) (over : AllOf (IsOver r) s.equations) (I : Poly r → Type 0) (ideal : IsPrimeIdeal (polynomial_ring (ranking_order r)) I) (outside : AreOutside r few s over I ideal) where
  module _ (w : Symbol) (lower : (v : Symbol) → ranking_cmp r v w ≡ Less → Holds r few s over I ideal v) (i j : ℕ) (p q : Polynomial Symbol) (l m : Symbol) (stands_p : at_place i s.equations ≡ Some p) (stands_q : at_place j s.equations ≡ Some q)
      (top_p : leader (symbols_under r) p ≡ Some l) (top_q : leader (symbols_under r) q ≡ Some m) (k : Meeting r l m w) (steps : List Step) (t : AllOf (λ st. IsOperatorOf r.signature.independents st.operator) steps)
      (e : PairRun (setting_of r) s p q (least_common_derivative l m) steps) where
    -- the two derivatives at the least common one
    abbrev at_first : Reaching r s (least_common_derivative l m)
    at_first = record { place = i; equation = p; top = l; operator = k.first_operator; stands = stands_p; top_is = top_p; in_signature = k.first_in; reaches = k.first_leads }

    abbrev at_second : Reaching r s (least_common_derivative l m)
    at_second = record { place = j; equation = q; top = m; operator = k.second_operator; stands = stands_q; top_is = top_q; in_signature = k.second_in; reaches = k.second_leads }

    -- a derivative that leads to w, as one that leads to where the derivations lead
    abbrev moved : Reaching r s w → Reaching r s (raised_by k.derivations (least_common_derivative l m))
    moved x = record { place = x.place; equation = x.equation; top = x.top; operator = x.operator; stands = x.stands; top_is = x.top_is; in_signature = x.in_signature; reaches = x.reaches ∙ sym k.leads }

    -- where the derivative at w lies in the ideal, that at the least common derivative does along the derivations
    down : (a : Reaching r s (least_common_derivative l m)) (x : Reaching r s w) → x.place ≡ a.place → I (poly r few s over x) → In r few s over I ideal k.derivations (poly r few s over a)
    down a x n h =
        in_at r few s over I ideal w lower k.derivations k.below (least_common_derivative l m) a k.leads
        (subst I (unique r few s over (moved x) (raise_all r few s over k.derivations k.below a) (n ∙ sym (place_kept r few s over k.derivations k.below a))) h)

    up : (a : Reaching r s (least_common_derivative l m)) (x : Reaching r s w) → x.place ≡ a.place → In r few s over I ideal k.derivations (poly r few s over a) → I (poly r few s over x)
    up a x n h =
        subst I (sym (unique r few s over (moved x) (raise_all r few s over k.derivations k.below a) (n ∙ sym (place_kept r few s over k.derivations k.below a))))
        (in_last r few s over I ideal k.derivations k.below (least_common_derivative l m) a h)

    good_p : Good r p
    good_p = good_over r p (equation_over r few s over i p stands_p)

    good_q : Good r q
    good_q = good_over r q (equation_over r few s over j q stands_q)

    parts : CrossParts r l m k.first_operator k.second_operator p q e.delta
    parts = cross_parts r l m k.first_operator k.second_operator p q e.delta top_p top_q k.first_is k.second_is e.delta_is

    -- all of them are canonical
    good_first : Good r parts.first
    good_first = good_operator r k.first_operator p parts.first parts.first_is good_p

    good_second : Good r parts.second
    good_second = good_operator r k.second_operator q parts.second parts.second_is good_q

    good_separants : Good r parts.first_separant × Good r parts.second_separant
    good_separants = (good_separant r l p parts.first_separant parts.first_separant_is good_p, good_separant r m q parts.second_separant parts.second_separant_is good_q)

    good_left : Good r parts.left
    good_left = good_product r parts.second_separant parts.first parts.left parts.left_is (good_terms r parts.second_separant good_separants.1) (good_terms r parts.first good_first)

    good_right : Good r parts.right
    good_right = good_product r parts.first_separant parts.second parts.right parts.right_is (good_terms r parts.first_separant good_separants.0) (good_terms r parts.second good_second)

    good_rest : Good r parts.rest
    good_rest = good_difference r parts.left parts.right parts.rest parts.rest_is good_left good_right

    good_delta : Good r e.delta
    good_delta = subst (Good r) parts.end_is (good_norm r parts.rest good_rest)

    first_polynomial : (parts.first, good_first.0) ≡ poly r few s over at_first
    first_polynomial = same_canonical (ranking_order r) _ _ (sym (operator_is r k.first_operator p parts.first k.first_in parts.first_is))

    second_polynomial : (parts.second, good_second.0) ≡ poly r few s over at_second
    second_polynomial = same_canonical (ranking_order r) _ _ (sym (operator_is r k.second_operator q parts.second k.second_in parts.second_is))

    -- the difference of the two products lies in the ideal along the derivations: the Delta-polynomial has a run to zero
    rest_in : In r few s over I ideal k.derivations (parts.rest, good_rest.0)
    rest_in =
        in_norm r I ideal k.derivations parts.rest e.delta good_rest.0 good_delta.0 parts.end_is
        (in_norm r I ideal k.derivations e.delta (norm e.delta) good_delta.0 (good_norm r e.delta good_delta).0 refl
        (run_back r few s over I ideal outside w lower k.derivations k.below (least_common_derivative l m) k.belongs k.is_one k.leads 1 (norm e.delta) 0 steps e.ran (good_norm r e.delta good_delta) e.ran_is e.to_zero t e.below))

    -- so the second derivative lies in it with the first
    pub second_from_first : (x y : Reaching r s w) → x.place ≡ i → y.place ≡ j → I (poly r few s over x) → I (poly r few s over y)
    second_from_first x y n o h =
        let mons = good_terms r parts.first_separant good_separants.0 in
        let first_in = subst (In r few s over I ideal k.derivations) (sym first_polynomial) (down at_first x n h) in
        let left_in = in_product r I ideal k.derivations parts.second_separant parts.first parts.left (good_terms r parts.second_separant good_separants.1).0 good_first.0 good_left.0 parts.left_is first_in in
        let right_in = in_subtrahend r I ideal k.derivations parts.left parts.right parts.rest good_left.0 good_right.0 good_rest.0 parts.rest_is left_in rest_in in
        let second_in = in_factor r I ideal k.derivations parts.first_separant parts.second parts.right mons.0 good_second.0 good_right.0 parts.right_is
        (λ z. outside Separant i p parts.first_separant l good_separants.0.0 stands_p top_p parts.first_separant_is (subst I (made_itself r parts.first_separant good_separants.0.0 mons.0) z)) right_in in
        up at_second y o (subst (In r few s over I ideal k.derivations) second_polynomial second_in)

    -- and the first with the second
    pub first_from_second : (x y : Reaching r s w) → x.place ≡ i → y.place ≡ j → I (poly r few s over y) → I (poly r few s over x)
    first_from_second x y n o h =
        let mons = good_terms r parts.second_separant good_separants.1 in
        let second_in = subst (In r few s over I ideal k.derivations) (sym second_polynomial) (down at_second y o h) in
        let right_in = in_product r I ideal k.derivations parts.first_separant parts.second parts.right (good_terms r parts.first_separant good_separants.0).0 good_second.0 good_right.0 parts.right_is second_in in
        let left_in = in_minuend r I ideal k.derivations parts.left parts.right parts.rest good_left.0 good_right.0 good_rest.0 parts.rest_is right_in rest_in in
        let first_in = in_factor r I ideal k.derivations parts.second_separant parts.first parts.left mons.0 good_first.0 good_left.0 parts.left_is
        (λ z. outside Separant j q parts.second_separant m good_separants.1.0 stands_q top_q parts.second_separant_is (subst I (made_itself r parts.second_separant good_separants.1.0 mons.0) z)) left_in in
        up at_first x n (subst (In r few s over I ideal k.derivations) first_polynomial first_in)
