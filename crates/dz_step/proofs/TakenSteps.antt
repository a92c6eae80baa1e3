-- What a step computes, and that steps and runs make canonical polynomials in the signature.
use Rattle.std.proofs.Common.{◌≡◌, ℕ, ◌-◌, nat_le, true, pos, refl, sym, ap, ◌∙◌, subst, Result, Ok, Some}
use Rattle.dz_algebra.specs.Monomial.{monomial_cmp}
use Rattle.dz_algebra.specs.Polynomial.{Polynomial, collect}
use Rattle.dz_algebra.specs.Norm.{gcd, content, divided, norm}
use Rattle.dz_algebra.specs.Parts.{leader, degree, coefficient_of}
use Rattle.dz_algebra.specs.Size.{Refusal, difference_answer, product_answer}
use Rattle.dz_algebra.proofs.Leaders.{leader_occurs}
use Rattle.dz_rank.specs.Rankings.{RankingValue, ranking_cmp}
use Rattle.dz_rank.specs.Symbols.{derivative_by, is_derivative}
use Rattle.dz_rank.specs.declared.symbols.Operator.{Operator}
use Rattle.dz_rank.specs.declared.symbols.Symbol.{Symbol}
use Rattle.dz_rank.specs.declared.symbols.Symbol.TheVariants.{Independent, Derivative}
use Rattle.dz_monomials.specs.Ranked.{symbols_under}
use Rattle.dz_monomials.proofs.SymbolLaws.{ranking_order}
use Rattle.dz_algebra.specs.Outcome.{told_as}
use Rattle.dz_diff.specs.Tests.{Polynomials}
use Rattle.dz_diff.specs.Operations.{operator_answer, setting_of}
use Rattle.dz_monomials.specs.Terms.{times_power}
use Rattle.dz_diff.specs.State.{State, at_place}
use Rattle.dz_algebra.proofs.Outcomes.{bind_ok, told_ok, then_ok, given_then, ok_same}
use Rattle.dz_diff.proofs.Goodness.{Good, InRange, good_terms, good_collected, good_coefficient, good_difference, good_norm, good_operator, good_product, good_separant, goods_divided, goods_times_power}
use Rattle.dz_step.specs.declared.Which.{Which}
use Rattle.dz_step.specs.declared.Which.TheVariants.{Initial, Separant}
use Rattle.dz_step.specs.declared.Role.{Role}
use Rattle.dz_step.specs.declared.Step.{Step}
use Rattle.dz_step.specs.Step.{Reduction, refused, multiplier_answer, is_allowed, permitted_if, usable, is_divisor, multiplier_of, is_permitted, step_degree, reduction_by, reduction_answer, normed, step_by, step_in}

module _ (r : RankingValue) where
  -- the leader of a polynomial is a derivative
  pub leader_is_derivative : (p : Polynomial Symbol) (l : Symbol) → leader (symbols_under r) p ≡ Some l → Good r p → is_derivative l ≡ true
  leader_is_derivative p l e h = (leader_occurs (symbols_under r) (ranking_order r) p l h.0 e).0

  -- a derivative of one is in the signature
  pub derivative_in : (t : Operator) (l : Symbol) → is_derivative l ≡ true → InRange r (derivative_by t l)
  derivative_in t (Independent j) e = cc
  derivative_in t (Derivative u s) e = tt

  -- a multiplier is canonical, in the signature
  pub good_multiplier : (which : Which) (v : Symbol) (q a : Polynomial Symbol) → multiplier_answer (symbols_under r) which v q ≡ Ok a → Good r q → Good r a
  good_multiplier Initial v q a e h =
      let made = good_collected r (coefficient_of (ranking_cmp r) v (degree (ranking_cmp r) v q) q) (good_terms r _ (good_coefficient r v (degree (ranking_cmp r) v q) q h)) in
      let same : collect (monomial_cmp (ranking_cmp r)) (coefficient_of (ranking_cmp r) v (degree (ranking_cmp r) v q) q) ≡ a = cc in
      subst (Good r) same made
  good_multiplier Separant v q a e h = good_separant r v q a e h

  -- ---- the products and the difference of a step
  pub record StepParts (f q a : Polynomial Symbol) (v : Symbol) (d e : ℕ) (x : Polynomial Symbol) : Type 0 where
    pub left : Polynomial Symbol
    pub right : Polynomial Symbol
    pub rest : Polynomial Symbol
    pub left_is : product_answer (symbols_under r) (divided (pos (gcd (content a) (content (coefficient_of (ranking_cmp r) v d f)))) a) f ≡ Ok left
    pub right_is : product_answer (symbols_under r) (times_power (ranking_cmp r) v (d - e) (divided (pos (gcd (content a) (content (coefficient_of (ranking_cmp r) v d f)))) (coefficient_of (ranking_cmp r) v d f))) q ≡ Ok right
    pub rest_is : difference_answer (symbols_under r) left right ≡ Ok rest
    pub end_is : norm rest ≡ x

  -- those of a reduction
  pub record ReductionParts (f q a : Polynomial Symbol) (v : Symbol) (d e : ℕ) (y : Reduction) : Type 0 where
    pub left : Polynomial Symbol
    pub right : Polynomial Symbol
    pub factor_is : divided (pos (gcd (content a) (content (coefficient_of (ranking_cmp r) v d f)))) a ≡ y.factor
    pub shift_is : times_power (ranking_cmp r) v (d - e) (divided (pos (gcd (content a) (content (coefficient_of (ranking_cmp r) v d f)))) (coefficient_of (ranking_cmp r) v d f)) ≡ y.shift
    pub left_is : product_answer (symbols_under r) y.factor f ≡ Ok left
    pub right_is : product_answer (symbols_under r) y.shift q ≡ Ok right
    pub rest_is : difference_answer (symbols_under r) left right ≡ Ok y.rest

  pub reduction_parts : (f q a : Polynomial Symbol) (v : Symbol) (d e : ℕ) (y : Reduction) → reduction_by (symbols_under r) f q a v d e ≡ Ok y → ReductionParts f q a v d e y
  reduction_parts f q a v d e y h =
      let g = symbols_under r in
      let c = coefficient_of g.cmp v d f in
      let factor = divided (pos (gcd (content a) (content c))) a in
      let shift = times_power g.cmp v (d - e) (divided (pos (gcd (content a) (content c))) c) in
      let s = bind_ok (product_answer g factor f) _ y h in
      let t = bind_ok (product_answer g shift q) _ y s.2 in
      let u = bind_ok (difference_answer g s.0 t.0) _ y t.2 in
      let made : record { factor = factor; shift = shift; rest = u.0 } ≡ y = ok_same (record { factor = factor; shift = shift; rest = u.0 }) y u.2 in
      subst (ReductionParts f q a v d e) made (record { left = s.0; right = t.0; factor_is = refl; shift_is = refl; left_is = s.1; right_is = t.1; rest_is = u.1 })

  step_parts : (f q a : Polynomial Symbol) (v : Symbol) (d e : ℕ) (y : Reduction) → ReductionParts f q a v d e y → StepParts f q a v d e (norm y.rest)
  step_parts f q a v d e y p = record {
    left = p.left;
    right = p.right;
    rest = y.rest;
    left_is = ap (λ x. product_answer (symbols_under r) x f) p.factor_is ∙ p.left_is;
    right_is = ap (λ x. product_answer (symbols_under r) x q) p.shift_is ∙ p.right_is;
    rest_is = p.rest_is;
    end_is = refl;
  }

  -- its products are canonical, in the signature
  good_products : (f q a : Polynomial Symbol) (v : Symbol) (d e : ℕ) (x : Polynomial Symbol) (s : StepParts f q a v d e x) → InRange r v → Good r f → Good r q → Good r a → Good r s.left × Good r s.right
  good_products f q a v d e x s i gf gq ga =
      let c = coefficient_of (ranking_cmp r) v d f in
      let k = pos (gcd (content a) (content c)) in (
        good_product r (divided k a) f s.left s.left_is (goods_divided r k a (good_terms r a ga)) (good_terms r f gf),
        good_product r (times_power (ranking_cmp r) v (d - e) (divided k c)) q s.right s.right_is (goods_times_power r v (d - e) (divided k c) i (goods_divided r k c (good_terms r c (good_coefficient r v d f gf)))) (good_terms r q gq),
      )

  -- ---- a step in a role
  permitted_multiplier : (hs : Polynomials) (x : Result (Polynomial Symbol) Refusal) (a : Polynomial Symbol) → permitted_if (symbols_under r) hs x ≡ true → x ≡ Ok a → is_allowed (symbols_under r) hs a ≡ true
  permitted_multiplier hs x a e f = sym (ap (permitted_if (symbols_under r) hs) f) ∙ e

  -- what a reduction computes
  pub record TakenReduction (f q : Polynomial Symbol) (t : Operator) (y : Reduction) : Type 0 where
    pub top : Symbol
    pub derivative : Polynomial Symbol
    pub times : Polynomial Symbol
    pub top_is : leader (symbols_under r) q ≡ Some top
    pub derivative_is : operator_answer (setting_of r) t q ≡ Ok derivative
    pub times_is : multiplier_answer (symbols_under r) (multiplier_of t) top q ≡ Ok times
    pub reaches : nat_le (step_degree (symbols_under r) t top q) (degree (ranking_cmp r) (derivative_by t top) f) ≡ true
    pub reduction_is : reduction_by (symbols_under r) f derivative times (derivative_by t top) (degree (ranking_cmp r) (derivative_by t top) f) (step_degree (symbols_under r) t top q) ≡ Ok y

  -- a reduction that has a result
  pub taken_reduction : (f q : Polynomial Symbol) (t : Operator) (y : Reduction) → reduction_answer (setting_of r) f q t ≡ Ok y → TakenReduction f q t y
  taken_reduction f q t y e =
      let g = symbols_under r in
      let b1 = given_then (leader g q) _ _ y e in
      let l = b1.0 in
      let b2 = then_ok (nat_le (step_degree g t l q) (degree g.cmp (derivative_by t l) f)) _ _ y b1.2 in
      let b3 = bind_ok (told_as refused (operator_answer (setting_of r) t q)) _ y b2.1 in
      let b4 = bind_ok (told_as refused (multiplier_answer g (multiplier_of t) l q)) _ y b3.2 in
      record {
        top = l;
        derivative = b3.0;
        times = b4.0;
        top_is = b1.1;
        derivative_is = told_ok refused (operator_answer (setting_of r) t q) b3.0 b3.1;
        times_is = told_ok refused (multiplier_answer g (multiplier_of t) l q) b4.0 b4.1;
        reaches = b2.0;
        reduction_is = told_ok refused (reduction_by g f b3.0 b4.0 (derivative_by t l) (degree g.cmp (derivative_by t l) f) (step_degree g t l q)) y b4.2;
      }

  -- what a step computes
  pub record TakenStep (s : State) (role : Role) (f : Polynomial Symbol) (st : Step) (x : Polynomial Symbol) : Type 0 where
    pub divisor : Polynomial Symbol
    pub top : Symbol
    pub derivative : Polynomial Symbol
    pub times : Polynomial Symbol
    pub is_one : is_divisor role st.place ≡ true
    pub stands : at_place st.place s.equations ≡ Some divisor
    pub top_is : leader (symbols_under r) divisor ≡ Some top
    pub derivative_is : operator_answer (setting_of r) st.operator divisor ≡ Ok derivative
    pub times_is : multiplier_answer (symbols_under r) (multiplier_of st.operator) top divisor ≡ Ok times
    pub allowed : is_allowed (symbols_under r) (usable role s.inequations) times ≡ true
    pub reaches : nat_le (step_degree (symbols_under r) st.operator top divisor) (degree (ranking_cmp r) (derivative_by st.operator top) f) ≡ true
    pub step_is : step_by (symbols_under r) f derivative times (derivative_by st.operator top) (degree (ranking_cmp r) (derivative_by st.operator top) f) (step_degree (symbols_under r) st.operator top divisor) ≡ Ok x
    pub parts : StepParts f derivative times (derivative_by st.operator top) (degree (ranking_cmp r) (derivative_by st.operator top) f) (step_degree (symbols_under r) st.operator top divisor) x

  -- a step that has a result
  pub taken_step : (s : State) (role : Role) (f : Polynomial Symbol) (st : Step) (x : Polynomial Symbol) → step_in (setting_of r) s role f st ≡ Ok x → TakenStep s role f st x
  taken_step s role f st x e =
      let g = symbols_under r in
      let t = st.operator in
      let a1 = then_ok (is_divisor role st.place) _ _ x e in
      let a2 = given_then (at_place st.place s.equations) _ _ x a1.1 in
      let q = a2.0 in
      let a3 = given_then (leader g q) _ _ x a2.2 in
      let a4 = then_ok (is_permitted (setting_of r) s role q a3.0 t) _ _ x a3.2 in
      let b = bind_ok (reduction_answer (setting_of r) f q t) _ x a4.1 in
      let k = taken_reduction f q t b.0 b.1 in
      let same_leader : a3.0 ≡ k.top = (let here = a3.1 in let there = k.top_is in cc) in
      let same : norm b.0.rest ≡ x = ok_same (norm b.0.rest) x b.2 in
      record {
        divisor = q;
        top = k.top;
        derivative = k.derivative;
        times = k.times;
        is_one = a1.0;
        stands = a2.1;
        top_is = k.top_is;
        derivative_is = k.derivative_is;
        times_is = k.times_is;
        allowed = permitted_multiplier (usable role s.inequations) (multiplier_answer g (multiplier_of t) k.top q) k.times (ap (λ y. is_permitted (setting_of r) s role q y t) (sym same_leader) ∙ a4.0) k.times_is;
        reaches = k.reaches;
        step_is = ap normed k.reduction_is ∙ ap Ok same;
        parts = subst (StepParts f k.derivative k.times (derivative_by t k.top) (degree g.cmp (derivative_by t k.top) f) (step_degree g t k.top q)) same (step_parts f k.derivative k.times (derivative_by t k.top) (degree g.cmp (derivative_by t k.top) f) (step_degree g t k.top q) b.0 (reduction_parts f k.derivative k.times (derivative_by t k.top) (degree g.cmp (derivative_by t k.top) f) (step_degree g t k.top q) b.0 k.reduction_is));
      }

  -- the equations of a state are canonical, in the signature
  abbrev pub GoodEquations : State → Type 0
  GoodEquations s = (j : ℕ) (q : Polynomial Symbol) → at_place j s.equations ≡ Some q → Good r q

  -- so is the multiplier of a step
  pub good_times : (s : State) (role : Role) (f : Polynomial Symbol) (st : Step) (x : Polynomial Symbol) (k : TakenStep s role f st x) → GoodEquations s → Good r k.times
  good_times s role f st x k good = good_multiplier (multiplier_of st.operator) k.top k.divisor k.times k.times_is (good st.place k.divisor k.stands)

  -- and its products
  pub good_products_of : (s : State) (role : Role) (f : Polynomial Symbol) (st : Step) (x : Polynomial Symbol) (k : TakenStep s role f st x) → GoodEquations s → Good r f → Good r k.parts.left × Good r k.parts.right
  good_products_of s role f st x k good gf =
      let gq = good st.place k.divisor k.stands in
      good_products f k.derivative k.times (derivative_by st.operator k.top) (degree (ranking_cmp r) (derivative_by st.operator k.top) f) (step_degree (symbols_under r) st.operator k.top k.divisor) x k.parts
      (derivative_in st.operator k.top (leader_is_derivative k.divisor k.top k.top_is gq)) gf
      (good_operator r st.operator k.divisor k.derivative k.derivative_is gq)
      (good_times s role f st x k good)

  -- and its difference
  pub good_difference_of : (s : State) (role : Role) (f : Polynomial Symbol) (st : Step) (x : Polynomial Symbol) (k : TakenStep s role f st x) → GoodEquations s → Good r f → Good r k.parts.rest
  good_difference_of s role f st x k good gf =
      let both = good_products_of s role f st x k good gf in
      good_difference r k.parts.left k.parts.right k.parts.rest k.parts.rest_is both.0 both.1

  -- and its result
  pub good_step : (s : State) (role : Role) (f : Polynomial Symbol) (st : Step) (x : Polynomial Symbol) → step_in (setting_of r) s role f st ≡ Ok x → GoodEquations s → Good r f → Good r x
  good_step s role f st x e good gf =
      let k = taken_step s role f st x e in
      subst (Good r) k.parts.end_is (good_norm r k.parts.rest (good_difference_of s role f st x k good gf))
