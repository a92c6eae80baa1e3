-- A run to zero by divisors with leaders below a derivative leads back into the ideal.
use Rattle.std.specs.List.{list_all}
use Rattle.std.proofs.Common.{◌≡◌, ◌≤◌, ◌+◌, ◌∙◌, ℕ, suc, ◌-◌, Bool, List, [], ◌∷◌, length, IsTrue, true, pos, Option, Some, Ok, refl, sym, ap, subst}
use Rattle.std.specs.declared.cmp.Ordering.{Ordering}
use Rattle.std.specs.declared.cmp.Ordering.TheVariants.{Less, Equal, Greater}
use Rattle.dz_algebra.specs.Norm.{gcd, content, divided}
use Rattle.dz_algebra.specs.Parts.{degree, coefficient_of, leader}
use Rattle.dz_algebra.specs.Polynomial.{Polynomial, IsPolynomial}
use Rattle.dz_algebra.proofs.Divisors.{gcd_is}
use Rattle.dz_algebra.proofs.Norms.{divides_more, content_divides}
use Rattle.dz_algebra.proofs.PolynomialRing.{same_canonical, polynomial_ring}
use Rattle.dz_rank.specs.Rankings.{RankingValue, ranking_cmp}
use Rattle.dz_rank.specs.Symbols.{derivative_by, is_derivative, BelongsTo, IsOperatorOf}
use Rattle.dz_rank.specs.declared.symbols.Operator.{Operator}
use Rattle.dz_rank.specs.declared.symbols.Symbol.{Symbol}
use Rattle.dz_rank.specs.declared.symbols.Symbol.TheVariants.{Independent, Derivative}
use Rattle.dz_monomials.specs.Ranked.{symbols_under}
use Rattle.dz_monomials.specs.Terms.{times_power}
use Rattle.dz_monomials.proofs.SymbolLaws.{ranking_order}
use Rattle.dz_monomials.specs.Lists.{AllOf}
use Rattle.dz_algebra.specs.Outcome.{numbered}
use Rattle.dz_diff.specs.Over.{IsOver}
use Rattle.dz_diff.specs.Operations.{operator_answer, setting_of}
use Rattle.dz_diff.specs.State.{State, at_place}
use Rattle.dz_algebra.proofs.Outcomes.{bind_ok, told_ok, both}
use Rattle.dz_diff.proofs.Goodness.{Good, InRange, good_terms, good_product, good_operator, good_coefficient, goods_divided, goods_times_power}
use Rattle.dz_diff.proofs.Overs.{good_over}
use Rattle.dz_step.specs.declared.Which.{Which}
use Rattle.dz_step.specs.declared.Role.TheVariants.{Free}
use Rattle.dz_step.specs.declared.Step.{Step}
use Rattle.dz_step.specs.Step.{multiplier_answer, multiplier_of, step_degree, step_in}
use Rattle.dz_step.specs.Run.{Ran, run_from}
use Rattle.dz_step.proofs.TakenSteps.{GoodEquations, taken_step, leader_is_derivative, good_times, good_difference_of, good_step}
use Rattle.dz_tree.specs.Chain.{is_less, is_below, passes}
use Rattle.dz_jet.specs.Chains.{Reaching}
use Rattle.dz_jet.proofs.Ideals.{IsPrimeIdeal, along_zero}
use Rattle.dz_jet.proofs.IdealSteps.{in_product, in_factor, in_minuend, in_norm, quotient_outside}
use Rattle.dz_jet.proofs.Operators.{Poly, derivation, is_derivation, operator_is}
use Rattle.dz_jet.proofs.Raisings.{raised_by, AreBelow, raised_keep_order}
use Rattle.dz_jet.proofs.Reachings.{equation_over, reached_belongs, reached_derivative, In, Holds, in_below}

-- what there is passes the test that it is said to pass
pub passes_some : {A : Type 0} (test : A → Bool) (o : Option A) (x : A) → passes test o ≡ true → o ≡ Some x → test x ≡ true
passes_some test o x e f = sym (ap (passes test) f) ∙ e

less_is : (o : Ordering) → is_less o ≡ true → o ≡ Less
less_is Less e = refl
less_is Equal e = cc
less_is Greater e = cc

derivative_in : (r : RankingValue) (t : Operator) (l : Symbol) → is_derivative l ≡ true → InRange r (derivative_by t l)
derivative_in r t (Independent j) e = cc
derivative_in r t (Derivative u b) e = tt

module _ (r : RankingValue) (few : r.signature.independents ≤ 4) (s : State) (over : AllOf (IsOver r) s.equations) (I : Poly r → Type 0) (ideal : IsPrimeIdeal (polynomial_ring (ranking_order r)) I) where
  pub good_equations : GoodEquations r s
  good_equations j q e = good_over r q (equation_over r few s over j q e)

  -- no initial and no separant of an equation is in the ideal
  abbrev pub AreOutside : Type 0
  AreOutside =
      (which : Which) (j : ℕ) (q a : Polynomial Symbol) (l : Symbol) (h : IsPolynomial (ranking_cmp r) a) → at_place j s.equations ≡ Some q → leader (symbols_under r) q ≡ Some l
      → multiplier_answer (symbols_under r) which l q ≡ Ok a → I (a, h) → ⊥

  module _ (outside : AreOutside) (w : Symbol) (lower : (v : Symbol) → ranking_cmp r v w ≡ Less → Holds r few s over I ideal v) (is : List ℕ) (below : AreBelow r.signature.independents is)
      (c : Symbol) (belongs : BelongsTo r.signature c) (is_one : IsTrue (is_derivative c)) (leads : raised_by is c ≡ w) where
    -- the derivative by which a step divides is in it
    divisor_in : (st : Step) (q p : Polynomial Symbol) (l : Symbol) (h : IsPolynomial (ranking_cmp r) p) → IsOperatorOf r.signature.independents st.operator → is_below (symbols_under r) s c st ≡ true
        → at_place st.place s.equations ≡ Some q → leader (symbols_under r) q ≡ Some l → operator_answer (setting_of r) st.operator q ≡ Ok p → In r few s over I ideal is (p, h)
    divisor_in st q p l h t b e f k =
        let y : Reaching r s (derivative_by st.operator l) = record { place = st.place; equation = q; top = l; operator = st.operator; stands = e; top_is = f; in_signature = t; reaches = refl } in
        let test = passes_some (λ l. is_less (ranking_cmp r (derivative_by st.operator l) c)) (leader (symbols_under r) q) l (passes_some (λ q. passes (λ l. is_less (ranking_cmp r (derivative_by st.operator l) c)) (leader (symbols_under r) q)) (at_place st.place s.equations) q b e) f in
        let less = raised_keep_order r few is (derivative_by st.operator l) c below (reached_belongs r few s over y) belongs (reached_derivative r few s over y) is_one (less_is (ranking_cmp r (derivative_by st.operator l) c) test) in
        subst (In r few s over I ideal is) (same_canonical (ranking_order r) _ _ (operator_is r st.operator q p t k))
        (in_below r few s over I ideal w lower is below (derivative_by st.operator l) y (subst (λ v. ranking_cmp r (raised_by is (derivative_by st.operator l)) v ≡ Less) leads less))

    -- a step leads back into it
    step_back : (f x : Polynomial Symbol) (st : Step) (g : Good r f) (h : IsPolynomial (ranking_cmp r) x) → step_in (setting_of r) s Free f st ≡ Ok x → IsOperatorOf r.signature.independents st.operator → is_below (symbols_under r) s c st ≡ true
        → In r few s over I ideal is (x, h) → In r few s over I ideal is (f, g.0)
    step_back f x st g h e t b i =
        let k = taken_step r s Free f st x e in
        let v = derivative_by st.operator k.top in
        let a = coefficient_of (ranking_cmp r) v (degree (ranking_cmp r) v f) f in
        let n = gcd (content k.times) (content a) in
        let gq = good_equations st.place k.divisor k.stands in
        let gp = good_operator r st.operator k.divisor k.derivative k.derivative_is gq in
        let gt = good_times r s Free f st x k good_equations in
        let left_factor = goods_divided r (pos n) k.times (good_terms r k.times gt) in
        let right_factor = goods_times_power r v (degree (ranking_cmp r) v f - step_degree (symbols_under r) st.operator k.top k.divisor) (divided (pos n) a)
        (derivative_in r st.operator k.top (leader_is_derivative r k.divisor k.top k.top_is gq)) (goods_divided r (pos n) a (good_terms r a (good_coefficient r v (degree (ranking_cmp r) v f) f g))) in
        let left = good_product r (divided (pos n) k.times) f k.parts.left k.parts.left_is left_factor (good_terms r f g) in
        let right = good_product r (times_power (ranking_cmp r) v (degree (ranking_cmp r) v f - step_degree (symbols_under r) st.operator k.top k.divisor) (divided (pos n) a)) k.derivative k.parts.right k.parts.right_is right_factor (good_terms r k.derivative gp) in
        let rest = good_difference_of r s Free f st x k good_equations g in
        let divides = divides_more n (content k.times) k.times (gcd_is (content k.times) (content a)).0 (content_divides k.times) in
        in_factor r I ideal is (divided (pos n) k.times) f k.parts.left left_factor.0 g.0 left.0 k.parts.left_is
        (quotient_outside r I ideal n k.times gt.0 left_factor.0 divides (outside (multiplier_of st.operator) st.place k.divisor k.times k.top gt.0 k.stands k.top_is k.times_is))
        (in_minuend r I ideal is k.parts.left k.parts.right k.parts.rest left.0 right.0 rest.0 k.parts.rest_is
        (in_product r I ideal is _ k.derivative k.parts.right right_factor.0 gp.0 right.0 k.parts.right_is (divisor_in st k.divisor k.derivative k.top gp.0 t b k.stands k.top_is k.derivative_is))
        (in_norm r I ideal is k.parts.rest x rest.0 h k.parts.end_is i))

    -- and so does a run to zero
    pub run_back : (n : ℕ) (f : Polynomial Symbol) (count : ℕ) (steps : List Step) (x : Ran) (g : Good r f) → run_from (setting_of r) s Free n f count steps ≡ Ok x → x.end ≡ []
        → AllOf (λ st. IsOperatorOf r.signature.independents st.operator) steps → list_all (is_below (symbols_under r) s c) steps ≡ true → In r few s over I ideal is (f, g.0)
    run_back n f count [] x g e z t b =
        let same : f ≡ x.end = cc in
        subst (In r few s over I ideal is) (same_canonical (ranking_order r) _ _ (sym (same ∙ z))) (along_zero (polynomial_ring (ranking_order r)) (derivation r) (is_derivation r) I ideal is)
    run_back n f count (st ∷ steps) x g e z t b =
        let a = bind_ok (numbered n (step_in (setting_of r) s Free f st)) (λ y. run_from (setting_of r) s Free (suc n) y (count + 1 + length y) steps) x e in
        let step_is = told_ok _ (step_in (setting_of r) s Free f st) a.0 a.1 in
        let tests = both (is_below (symbols_under r) s c st) (list_all (is_below (symbols_under r) s c) steps) b in
        let good = good_step r s Free f st a.0 step_is good_equations g in
        step_back f a.0 st g good.0 step_is t.0 tests.0 (run_back (suc n) a.0 (count + 1 + length a.0) steps x good a.2 z t.1 tests.1)
