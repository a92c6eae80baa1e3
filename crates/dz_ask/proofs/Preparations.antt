-- Each turn keeps a partial preparation, so the turns make one.
use Rattle.std.specs.declared.cmp.Ordering.{Ordering}
use Rattle.std.proofs.Common.{◌≡◌, ◌<◌, ◌≤◌, ◌∙◌, ◌++◌, ◌-◌, inr, ℕ, Bool, true, false, cond, List, [], ◌∷◌, pos, refl, sym, ap, ap₂, subst, arith, Ok, Some, None, Option}
use Rattle.std.specs.Prelude.{⊤, is_some}
use Rattle.std.proofs.lemmas.Bool.{leb-true}
use Rattle.std.proofs.lemmas.List.{append_assoc}
use Rattle.dz_algebra.specs.Monomial.{IsMonomial, MonomialIn}
use Rattle.dz_algebra.specs.Norm.{gcd, content, divided}
use Rattle.dz_algebra.specs.Parts.{coefficient_of, degree, leader}
use Rattle.dz_algebra.specs.Polynomial.{Polynomial, AreMonomials}
use Rattle.dz_algebra.specs.Ring.{Ring, right_neutral}
use Rattle.dz_algebra.specs.Size.{product_answer, sum_answer}
use Rattle.dz_algebra.specs.Value.{monomial_value}
use Rattle.dz_algebra.proofs.Canonical.{monomials-append}
use Rattle.dz_algebra.proofs.Divisors.{gcd_is}
use Rattle.dz_algebra.proofs.Generic.{itself}
use Rattle.dz_algebra.proofs.Inside.{in-append, in_with_power}
use Rattle.dz_algebra.proofs.Monomials.{with_power_is}
use Rattle.dz_algebra.proofs.PolynomialRing.{Canonical}
use Rattle.dz_rank.specs.Rankings.{RankingValue, ranking_cmp}
use Rattle.dz_rank.specs.Symbols.{derivative_by}
use Rattle.dz_rank.specs.declared.symbols.Symbol.{Symbol}
use Rattle.dz_monomials.specs.Ranked.{symbols_under}
use Rattle.dz_monomials.specs.Terms.{times_power}
use Rattle.dz_monomials.proofs.SymbolLaws.{ranking_order}
use Rattle.dz_monomials.specs.Lists.{AllOf}
use Rattle.dz_diff.specs.Operations.{setting_of}
use Rattle.dz_diff.specs.Operators.{is_proper}
use Rattle.dz_algebra.specs.Outcome.{told_as}
use Rattle.dz_diff.specs.Over.{IsOver}
use Rattle.dz_diff.specs.State.{State, at_place}
use Rattle.dz_diff.specs.Tests.{Polynomials}
use Rattle.dz_algebra.proofs.Outcomes.{bind_ok, both, given_then, ok_same, told_ok}
use Rattle.dz_diff.proofs.Goodness.{Good, Goods, good_coefficient, good_difference, good_operation, good_operator, good_product, good_terms, goods_divided, goods_times_power}
use Rattle.dz_diff.proofs.LeaderBounds.{leader_degree}
use Rattle.dz_diff.proofs.Overs.{good_over}
use Rattle.dz_diff.proofs.Places.{taken, all-append, all_parts}
use Rattle.dz_step.specs.declared.Role.TheVariants.{Free}
use Rattle.dz_step.specs.declared.Step.{Step}
use Rattle.dz_step.specs.FullRun.{admits, derivatives_of, next_step}
use Rattle.dz_step.specs.Step.{Reduction, refused, is_allowed, is_permitted, multiplier_answer, multiplier_of, permitted_if, reduction_at, step_degree}
use Rattle.dz_step.proofs.NextSteps.{found_first}
use Rattle.dz_step.proofs.StepParts.{at_least_one, common}
use Rattle.dz_step.proofs.TakenSteps.{TakenReduction, ReductionParts, derivative_in, good_multiplier, leader_is_derivative, reduction_parts, taken_reduction}
use Rattle.dz_ask.specs.Derivatives.{derivative_at}
use Rattle.dz_ask.specs.Laws.{PreparationLaws}
use Rattle.dz_ask.specs.Preparation.{HasEquation, HasIdentity, IsFactor, IsPartialPreparation, Prepared, Term}
use Rattle.dz_ask.specs.Products.{Product, raised_product, step_cmp, turned_round}
use Rattle.dz_ask.specs.Turns.{Turn, added, multiplied, next_turn, next_turn_after, nonzero_terms, preparation, turn_answer, turned_terms, unprepared, with_factor}
use Rattle.dz_ask.proofs.DerivativeAnswers.{derivative_is}
use Rattle.dz_ask.proofs.FactorMultiples.{divided_multiple}
use Rattle.dz_ask.proofs.IdentitySides.{left_canonical, of_product_of, of_sum_of, right_canonical, ring, same_by_value}
use Rattle.dz_ask.proofs.RingValues.{val, of_product, value_difference, value_product}
use Rattle.dz_ask.proofs.RaisedProducts.{raised_is}
use Rattle.dz_ask.proofs.StepOrder.{step_order, turned_order}
use Rattle.dz_ask.proofs.TermOrders.{products_of, products-append, falling_products, all_products, falling_nonzero, all_nonzero, none_zero, products_multiplied, all_multiplied, falling_added, all_added}
use Rattle.dz_ask.proofs.TurnWalks.{HasCome, walked}
use Rattle.dz_ask.proofs.TurnValues.{total, total-append, total_multiplied, total_added, total_nonzero, multiplier, multiplier_with, product_raised, turned}

-- ---- where a turn is
module _ (r : RankingValue) (s : State) where
  -- a turn stands among the terms, and its step is the next on its coefficient
  pub turn_found : (before ts : List Term) (t : Turn) → next_turn_after (setting_of r) s before ts ≡ Some t
      → (before ++ ts ≡ t.before ++ (t.product, t.coefficient) ∷ t.behind) × (next_step (setting_of r) s Free t.coefficient ≡ Some t.step)
  turn_found before [] t e = cc
  turn_found before (u ∷ us) t e = by_step (λ e. turn_found (before ++ u ∷ []) us t e) (next_step (setting_of r) s Free u.1) refl e
    where
      by_step : (next_turn_after (setting_of r) s (before ++ u ∷ []) us ≡ Some t → (before ++ u ∷ [] ++ us ≡ t.before ++ (t.product, t.coefficient) ∷ t.behind) × (next_step (setting_of r) s Free t.coefficient ≡ Some t.step))
          → (o : Option Step) → next_step (setting_of r) s Free u.1 ≡ o
          → elim o as (λ _. Option Turn) [ Some st ↦ Some (record { before = before; product = u.0; coefficient = u.1; behind = us; step = st }) | None ↦ next_turn_after (setting_of r) s (before ++ u ∷ []) us ] ≡ Some t
          → (before ++ u ∷ us ≡ t.before ++ (t.product, t.coefficient) ∷ t.behind) × (next_step (setting_of r) s Free t.coefficient ≡ Some t.step)
      by_step more (Some st) n e =
          let h : record { before = before; product = u.0; coefficient = u.1; behind = us; step = st } ≡ t = cc in
          subst (λ (t : Turn). (before ++ u ∷ us ≡ t.before ++ (t.product, t.coefficient) ∷ t.behind) × (next_step (setting_of r) s Free t.coefficient ≡ Some t.step)) h (refl, n)
      by_step more None n e = let k = more e in (sym (append_assoc before (u ∷ []) us) ∙ k.0, k.1)

  -- where there is none, no coefficient admits a step
  pub no_turn : (before ts : List Term) → next_turn_after (setting_of r) s before ts ≡ None → AllOf (λ t. admits (setting_of r) s Free t.1 ≡ false) ts
  no_turn before [] e = tt
  no_turn before (u ∷ us) e = by_step (λ e. no_turn (before ++ u ∷ []) us e) (next_step (setting_of r) s Free u.1) refl e
    where
      by_step : (next_turn_after (setting_of r) s (before ++ u ∷ []) us ≡ None → AllOf (λ t. admits (setting_of r) s Free t.1 ≡ false) us)
          → (o : Option Step) → next_step (setting_of r) s Free u.1 ≡ o
          → elim o as (λ _. Option Turn) [ Some st ↦ Some (record { before = before; product = u.0; coefficient = u.1; behind = us; step = st }) | None ↦ next_turn_after (setting_of r) s (before ++ u ∷ []) us ] ≡ None
          → AllOf (λ t. admits (setting_of r) s Free t.1 ≡ false) (u ∷ us)
      by_step more (Some st) n e = cc
      by_step more None n e = (ap is_some n, more e)

  -- what a turn computes
  pub record TakenTurn (x : Prepared) (t : Turn) (y : Prepared) : Type 0 where
    pub reduction : Reduction
    pub reduction_is : reduction_at (setting_of r) s t.coefficient t.step ≡ Ok reduction
    pub before : List Term
    pub before_is : multiplied (symbols_under r) reduction.factor t.before ≡ Ok before
    pub behind : List Term
    pub behind_is : multiplied (symbols_under r) reduction.factor t.behind ≡ Ok behind
    pub product : Product
    pub product_is : raised_product t.step t.product ≡ Ok product
    pub terms : List Term
    pub terms_are : added (symbols_under r) product reduction.shift (before ++ (t.product, reduction.rest) ∷ behind) ≡ Ok terms
    pub made : record { factors = with_factor (symbols_under r) reduction.factor x.factors; terms = nonzero_terms terms } ≡ y

  -- the parts of a turn that answers
  pub taken_turn : (x : Prepared) (t : Turn) (y : Prepared) → turn_answer (setting_of r) s x t ≡ Ok y → TakenTurn x t y
  taken_turn x t y e =
      let g = symbols_under r in
      let z = bind_ok (turned_terms (setting_of r) s t) _ y e in
      let a = bind_ok (reduction_at (setting_of r) s t.coefficient t.step) _ z.0 z.1 in
      let b = bind_ok (told_as refused (multiplied g a.0.factor t.before)) _ z.0 a.2 in
      let c = bind_ok (told_as refused (multiplied g a.0.factor t.behind)) _ z.0 b.2 in
      let d = bind_ok (told_as refused (raised_product t.step t.product)) _ z.0 c.2 in
      let h = bind_ok (told_as refused (added g d.0 a.0.shift (b.0 ++ (t.product, a.0.rest) ∷ c.0))) _ z.0 d.2 in
      record {
        reduction = a.0;
        reduction_is = a.1;
        before = b.0;
        before_is = told_ok refused (multiplied g a.0.factor t.before) b.0 b.1;
        behind = c.0;
        behind_is = told_ok refused (multiplied g a.0.factor t.behind) c.0 c.1;
        product = d.0;
        product_is = told_ok refused (raised_product t.step t.product) d.0 d.1;
        terms = h.0;
        terms_are = told_ok refused (added g d.0 a.0.shift (b.0 ++ (t.product, a.0.rest) ∷ c.0)) h.0 h.1;
        made = ap (λ (w : Polynomial Symbol × List Term). record { factors = with_factor g w.0 x.factors; terms = w.1 }) (ok_same (a.0.factor, nonzero_terms h.0) z.0 h.2) ∙ ok_same (record { factors = with_factor g z.0.0 x.factors; terms = z.0.1 }) y z.2;
      }

-- ---- what the reduction of a turn is
module _ (r : RankingValue) (s : State) (equations : (j : ℕ) (q : Polynomial Symbol) → at_place j s.equations ≡ Some q → Good r q) where
  -- the order of symbols
  abbrev by : Symbol → Symbol → Ordering
  by = ranking_cmp r

  -- its divisor and its parts
  pub record ReducedAt (f : Polynomial Symbol) (st : Step) (y : Reduction) : Type 0 where
    pub divisor : Polynomial Symbol
    pub stands : at_place st.place s.equations ≡ Some divisor
    -- the reduction of the turn
    pub reduced : TakenReduction r f divisor st.operator y
    pub parts : ReductionParts r f reduced.derivative reduced.times (derivative_by st.operator reduced.top) (degree (ranking_cmp r) (derivative_by st.operator reduced.top) f) (step_degree (symbols_under r) st.operator reduced.top divisor) y

  -- a reduction that answers is one
  pub reduced_at : (f : Polynomial Symbol) (st : Step) (y : Reduction) → reduction_at (setting_of r) s f st ≡ Ok y → ReducedAt f st y
  reduced_at f st y e =
      let a = given_then (at_place st.place s.equations) _ _ y e in
      let k = taken_reduction r f a.0 st.operator y a.2 in
      record { divisor = a.0; stands = a.1; reduced = k; parts = reduction_parts r f k.derivative k.times (derivative_by st.operator k.top) (degree (ranking_cmp r) (derivative_by st.operator k.top) f) (step_degree (symbols_under r) st.operator k.top a.0) y k.reduction_is }

  module _ (f : Polynomial Symbol) (st : Step) (y : Reduction) (good_f : Good r f) (k : ReducedAt f st y) where
    -- the derivative of the leader
    abbrev v : Symbol
    v = derivative_by st.operator k.reduced.top

    -- the degree of the polynomial in it
    abbrev d : ℕ
    d = degree (ranking_cmp r) v f

    -- the degree of the divisor in it
    abbrev e : ℕ
    e = step_degree (symbols_under r) st.operator k.reduced.top k.divisor

    -- the coefficient of the greatest power
    abbrev c : Polynomial Symbol
    c = coefficient_of (ranking_cmp r) v d f

    -- the divisor of all coefficients
    abbrev n : ℕ
    n = gcd (content k.reduced.times) (content c)

    -- the divisor is canonical
    good_divisor : Good r k.divisor
    good_divisor = equations st.place k.divisor k.stands

    -- so is its multiplier
    good_times : Good r k.reduced.times
    good_times = good_multiplier r (multiplier_of st.operator) k.reduced.top k.divisor k.reduced.times k.reduced.times_is good_divisor

    -- and its derivative
    good_derivative : Good r k.reduced.derivative
    good_derivative = good_operator r st.operator k.divisor k.reduced.derivative k.reduced.derivative_is good_divisor

    -- each part is canonical, or has its terms at monomials
    pub factor_terms : Goods r y.factor
    factor_terms = subst (Goods r) k.parts.factor_is (goods_divided r (pos n) k.reduced.times (good_terms r k.reduced.times good_times))

    pub shift_terms : Goods r y.shift
    shift_terms =
        subst (Goods r) k.parts.shift_is
        (goods_times_power r v (d - e) (divided (pos n) c) (derivative_in r st.operator k.reduced.top (leader_is_derivative r k.divisor k.reduced.top k.reduced.top_is good_divisor))
        (goods_divided r (pos n) c (good_terms r c (good_coefficient r v d f good_f))))

    pub good_rest : Good r y.rest
    good_rest =
        good_difference r k.parts.left k.parts.right y.rest k.parts.rest_is
        (good_product r y.factor f k.parts.left k.parts.left_is factor_terms (good_terms r f good_f))
        (good_product r y.shift k.reduced.derivative k.parts.right k.parts.right_is shift_terms (good_terms r k.reduced.derivative good_derivative))

    -- the factor times f is the rest and the shift times the derivative
    pub reduction_value : {R : Type 0} (ring : Ring R) (at : Symbol → R) → ring.product (val ring r at y.factor) (val ring r at f) ≡ ring.sum (val ring r at y.rest) (ring.product (val ring r at y.shift) (val ring r at (derivative_at (setting_of r) s st)))
    reduction_value ring at =
        let left = value_product ring r at y.factor f k.parts.left k.parts.left_is in
        let right = value_product ring r at y.shift k.reduced.derivative k.parts.right k.parts.right_is in
        let same : derivative_at (setting_of r) s st ≡ k.reduced.derivative = derivative_is (setting_of r) s st k.divisor k.reduced.derivative k.stands k.reduced.derivative_is in
        sym left ∙ put_back ring (val ring r at k.parts.left) (val ring r at k.parts.right) (val ring r at y.rest) (value_difference ring r at k.parts.left k.parts.right y.rest k.parts.rest_is)
        ∙ ap (ring.sum (val ring r at y.rest)) (right ∙ ap (λ p. ring.product (val ring r at y.shift) (val ring r at p)) (sym same))
      where
        put_back : {R : Type 0} (ring : Ring R) (a b x : R) → x ≡ ring.sum a (ring.negative b) → a ≡ ring.sum x b
        put_back ring a b x e = sym (ap (λ z. ring.sum z b) e ∙ ring.sum_associates a (ring.negative b) b ∙ ap (ring.sum a) (ring.negative_is_inverse b) ∙ right_neutral ring a)

    -- its degree is at least one
    one_degree : 1 ≤ e
    one_degree = by_test (is_proper st.operator) (leader_degree r k.reduced.top k.divisor good_divisor.0 k.reduced.top_is)
      where
        by_test : (b : Bool) → 1 ≤ degree (ranking_cmp r) k.reduced.top k.divisor → 1 ≤ cond b 1 (degree (ranking_cmp r) k.reduced.top k.divisor)
        by_test true h = omega arith
        by_test false h = h

    -- the derivative occurs
    occurs : 0 < d
    occurs = let h = leb-true e d k.reduced.reaches in let one = one_degree in omega (arith, h, one)

    -- the common divisor is not zero
    common_positive : 0 < n
    common_positive =
        let top = times_power (ranking_cmp r) v (d - e) c in
        let m = gcd (content k.reduced.times) (content top) in
        let one : 1 ≤ m = at_least_one r f k.reduced.derivative k.reduced.times v e top m refl refl good_f.0 occurs in
        let same : m ≡ n = common r f k.reduced.derivative k.reduced.times v e top m refl refl in
        omega (arith, one, same)

    -- the multiplier is permitted, where the step is the next
    allowed : next_step (setting_of r) s Free f ≡ Some st → is_allowed (symbols_under r) s.inequations k.reduced.times ≡ true
    allowed next =
        let found = found_first r s Free f (λ _. ⊤) st (derivatives_of (symbols_under r) f) next (all_so (derivatives_of (symbols_under r) f)) in
        let h = found.2 in
        let there : at_place st.place s.equations ≡ Some h.equation = ap (λ i. at_place i s.equations) (h.place_is ∙ omega arith) ∙ h.is_there in
        let same_equation : h.equation ≡ k.divisor = some_same h.equation k.divisor (sym there ∙ k.stands) in
        let same_top : h.top ≡ k.reduced.top = some_same h.top k.reduced.top (sym h.leader_is ∙ ap (leader (symbols_under r)) same_equation ∙ k.reduced.top_is) in
        let permitted = (both _ (is_permitted (setting_of r) s Free h.equation h.top st.operator) h.tests).1 in
        let here : permitted_if (symbols_under r) s.inequations (multiplier_answer (symbols_under r) (multiplier_of st.operator) k.reduced.top k.divisor) ≡ true =
        ap₂ (λ q l. permitted_if (symbols_under r) s.inequations (multiplier_answer (symbols_under r) (multiplier_of st.operator) l q)) (sym same_equation) (sym same_top) ∙ permitted in
        sym (ap (permitted_if (symbols_under r) s.inequations) k.reduced.times_is) ∙ here
      where
        all_so : (vs : List Symbol) → AllOf (λ _. ⊤) vs
        all_so [] = tt
        all_so (v ∷ vs) = (tt, all_so vs)

        some_same : {A : Type 0} (a b : A) → ◌≡◌ {A = Option A} (Some a) (Some b) → a ≡ b
        some_same a b e = cc

    -- the factor is one of a preparation
    pub factor_is_one : next_step (setting_of r) s Free f ≡ Some st → IsFactor (setting_of r) s y.factor
    factor_is_one next =
        let h = divided_multiple r n k.reduced.times common_positive (gcd_is (content k.reduced.times) (content c)).0 good_times.0 in
        inr (record {
          multiplier = k.reduced.times;
          times = h.times;
          permitted = record {
            place = st.place;
            which = multiplier_of st.operator;
            equation = k.divisor;
            top = k.reduced.top;
            stands = k.stands;
            leads = k.reduced.top_is;
            is_one = k.reduced.times_is;
            allowed = allowed next;
          };
          not_zero = h.not_zero;
          multiple = sym k.parts.factor_is ∙ h.multiple;
        })

-- ---- what a turn keeps
module _ (r : RankingValue) (s : State) (f : Polynomial Symbol) (equations : (j : ℕ) (q : Polynomial Symbol) → at_place j s.equations ≡ Some q → Good r q) (good_f : Good r f) where
  -- a product of derivatives of equations
  abbrev IsProduct : Product → Type 0
  IsProduct m = IsMonomial (turned_round step_cmp) m × MonomialIn (HasEquation s) m

  -- the derivative at a place with an equation is canonical
  abbrev terms_at_equations : (j : ℕ) (q : Polynomial Symbol) → at_place j s.equations ≡ Some q → AreMonomials (ranking_cmp r) q
  terms_at_equations j q e = (good_terms r q (equations j q e)).0

  -- a partial preparation with canonical coefficients and factors at monomials
  pub record Holds (x : Prepared) : Type 0 where
    pub partial : IsPartialPreparation (setting_of r) s f x
    pub factors_good : AllOf (Goods r) x.factors
    pub coefficients_good : AllOf (λ t. Good r t.1) x.terms

  -- what follows for each follows for all
  all_weaker : {A : Type 0} (P Q : A → Type 0) → ((x : A) → P x → Q x) → (xs : List A) → AllOf P xs → AllOf Q xs
  all_weaker P Q give [] h = tt
  all_weaker P Q give (x ∷ xs) h = (give x h.0, all_weaker P Q give xs h.1)

  -- ---- the identity, and that of values in the ring of polynomials
  abbrev R : Ring (Canonical (ranking_order r))
  R = ring r

  -- each symbol stands for itself
  abbrev at : Symbol → Canonical (ranking_order r)
  at = itself (ranking_order r)

  -- each step for its derivative
  abbrev base : Step → Canonical (ranking_order r)
  base st = val R r at (derivative_at (setting_of r) s st)

  -- the identity of values
  abbrev HasValues : Prepared → Type 0
  HasValues x = R.product (multiplier R r at base x.factors) (val R r at f) ≡ total R r at base x.terms

  -- an identity of polynomials is one of values
  values_of : (x : Prepared) → HasIdentity (setting_of r) s f x → HasValues x
  values_of x e =
      ap (λ z. R.product z (val R r at f)) (sym (of_product_of R r at (derivative_at (setting_of r) s) x.factors))
      ∙ sym (of_product R r at _ f) ∙ ap (val R r at) e ∙ of_sum_of R r at (derivative_at (setting_of r) s) x.terms

  -- and back
  identity_of : (x : Prepared) → AllOf (Goods r) x.factors → AllOf (λ t. Good r t.1) x.terms → HasValues x → HasIdentity (setting_of r) s f x
  identity_of x h k e =
      same_by_value r _ _
      (left_canonical r x.factors f (all_weaker (Goods r) (AreMonomials (ranking_cmp r)) (λ a g. g.0) x.factors h) (good_terms r f good_f).0)
      (right_canonical r s terms_at_equations x.terms (all_weaker (λ (t : Term). Good r t.1) (λ (t : Term). AreMonomials (ranking_cmp r) t.1) (λ t g. (good_terms r t.1 g).0) x.terms k))
      (of_product R r at _ f ∙ ap (λ z. R.product z (val R r at f)) (of_product_of R r at (derivative_at (setting_of r) s) x.factors) ∙ e ∙ sym (of_sum_of R r at (derivative_at (setting_of r) s) x.terms))

  -- ---- the identity f = f
  pub begun : Holds (unprepared f)
  begun =
      let one : List Term = ([], f) ∷ [] in
      let good : AllOf (λ t. Good r t.1) (nonzero_terms one) = all_nonzero (λ t. Good r t.1) one (good_f, tt) in
      record {
        partial = record {
          identity = identity_of (unprepared f) tt good (R.product_commutes R.one (val R r at f) ∙ sym (right_neutral R (R.product (val R r at f) R.one)) ∙ sym (total_nonzero R r at base one));
          factors = tt;
          products = all_nonzero (λ t. IsProduct t.0) one ((tt, tt), tt);
          rising = falling_nonzero one (tt, tt);
          not_zero = none_zero one;
        };
        factors_good = tt;
        coefficients_good = good;
      }

  -- ---- a turn
  good_multiple : (a : Polynomial Symbol) → Goods r a → (c x : Polynomial Symbol) → Good r c → product_answer (symbols_under r) a c ≡ Ok x → Good r x
  good_multiple a h c x k e = good_product r a c x e h (good_terms r c k)

  -- a sum is canonical
  good_added : (a : Polynomial Symbol) → Goods r a → (c x : Polynomial Symbol) → Good r c → sum_answer (symbols_under r) c a ≡ Ok x → Good r x
  good_added a h c x k e =
      let g = good_terms r c k in
      good_operation r _ x e (monomials-append (ranking_order r) c a g.0 h.0, in-append (ranking_cmp r) _ c a g.1 h.1)

  -- what holds of the factors holds with one more
  factors_with : (P : Polynomial Symbol → Type 0) (a : Polynomial Symbol) (fs : List (Polynomial Symbol)) → P a → AllOf P fs → AllOf P (with_factor (symbols_under r) a fs)
  factors_with P a fs h k = by_test _
    where
      by_test : (b : Bool) → AllOf P (cond b fs (fs ++ a ∷ []))
      by_test true = k
      by_test false = all-append P fs (a ∷ []) k (h, tt)

  module _ (x : Prepared) (t : Turn) (y : Prepared) (holds : Holds x) (stands : x.terms ≡ t.before ++ (t.product, t.coefficient) ∷ t.behind) (next : next_step (setting_of r) s Free t.coefficient ≡ Some t.step) (k : TakenTurn r s x t y) where
    -- the term of the turn
    abbrev here : Term
    here = (t.product, t.coefficient)

    -- the terms after their products
    abbrev middle : List Term
    middle = k.before ++ (t.product, k.reduction.rest) ∷ k.behind

    -- what holds of all terms holds of the three parts
    parts_of : (P : Term → Type 0) → AllOf P x.terms → AllOf P t.before × P here × AllOf P t.behind
    parts_of P h = let a = all_parts P t.before (here ∷ t.behind) (subst (AllOf P) stands h) in (a.0, a.1.0, a.1.1)

    -- the coefficients are canonical
    good_parts : AllOf (λ t. Good r t.1) t.before × Good r t.coefficient × AllOf (λ t. Good r t.1) t.behind
    good_parts = parts_of (λ t. Good r t.1) holds.coefficients_good

    -- the reduction of the turn
    reduced : ReducedAt r s equations t.coefficient t.step k.reduction
    reduced = reduced_at r s equations t.coefficient t.step k.reduction k.reduction_is

    -- its factor is canonical
    factor_good : Goods r k.reduction.factor
    factor_good = factor_terms r s equations t.coefficient t.step k.reduction good_parts.1 reduced

    -- and its shift
    shift_good : Goods r k.reduction.shift
    shift_good = shift_terms r s equations t.coefficient t.step k.reduction good_parts.1 reduced

    -- and the terms after their products
    middle_good : AllOf (λ t. Good r t.1) middle
    middle_good =
        all-append (λ t. Good r t.1) k.before ((t.product, k.reduction.rest) ∷ k.behind)
        (all_multiplied r (Good r) k.reduction.factor (good_multiple k.reduction.factor factor_good) t.before k.before k.before_is good_parts.0)
        (good_rest r s equations t.coefficient t.step k.reduction good_parts.1 reduced, all_multiplied r (Good r) k.reduction.factor (good_multiple k.reduction.factor factor_good) t.behind k.behind k.behind_is good_parts.2)

    -- the products are those of before
    same_products : products_of x.terms ≡ products_of middle
    same_products =
        ap products_of stands ∙ products-append t.before (here ∷ t.behind)
        ∙ ap₂ (λ (a b : List Product). a ++ t.product ∷ b) (sym (products_multiplied r k.reduction.factor t.before k.before k.before_is)) (sym (products_multiplied r k.reduction.factor t.behind k.behind k.behind_is))
        ∙ sym (products-append k.before ((t.product, k.reduction.rest) ∷ k.behind))

    -- its place has an equation
    place_is : HasEquation s t.step
    place_is = (reduced.divisor, reduced.stands)

    -- its product is one
    product_good : IsProduct k.product
    product_good =
        let h = (parts_of (λ t. IsProduct t.0) holds.partial.products).1 in
        subst IsProduct (raised_is t.step t.product k.product k.product_is)
        (with_power_is (turned_order step_order) t.step 1 t.product (omega arith) h.0, in_with_power (turned_round step_cmp) (HasEquation s) t.step 1 t.product place_is h.1)

    -- and so are all after the sum
    added_good : AllOf (λ t. IsProduct t.0) k.terms × AllOf (λ t. Good r t.1) k.terms
    added_good =
        all_added r IsProduct (Good r) k.product k.reduction.shift (good_added k.reduction.shift shift_good) (tt, tt) product_good middle k.terms k.terms_are
        (all_products IsProduct x.terms middle same_products holds.partial.products) middle_good

    -- ---- the values
    abbrev a : Canonical (ranking_order r)
    a = val R r at k.reduction.factor

    -- the value of terms
    abbrev T : List Term → Canonical (ranking_order r)
    T ts = total R r at base ts

    -- the value of the factors
    abbrev M : Canonical (ranking_order r)
    M = monomial_value R.arithmetic base t.product

    -- the value before the turn
    before_turn : T x.terms ≡ R.sum (T t.before) (R.sum (R.product (val R r at t.coefficient) M) (T t.behind))
    before_turn = ap T stands ∙ total-append R r at base t.before (here ∷ t.behind)

    -- the value after it
    after_turn : T (nonzero_terms k.terms) ≡ R.sum (R.product (val R r at k.reduction.shift) (R.product (base t.step) M)) (R.sum (R.product a (T t.before)) (R.sum (R.product (val R r at k.reduction.rest) M) (R.product a (T t.behind))))
    after_turn =
        total_nonzero R r at base k.terms ∙ total_added R r at base k.product k.reduction.shift middle k.terms k.terms_are
        ∙ ap₂ R.sum
        (ap (R.product (val R r at k.reduction.shift)) (ap (monomial_value R.arithmetic base) (sym (raised_is t.step t.product k.product k.product_is)) ∙ product_raised R r at base t.step t.product))
        (total-append R r at base k.before ((t.product, k.reduction.rest) ∷ k.behind)
        ∙ ap₂ R.sum (total_multiplied R r at base k.reduction.factor t.before k.before k.before_is) (ap (R.sum (R.product (val R r at k.reduction.rest) M)) (total_multiplied R r at base k.reduction.factor t.behind k.behind k.behind_is)))

    -- the identity of values after it
    new_values : R.product (multiplier R r at base (with_factor (symbols_under r) k.reduction.factor x.factors)) (val R r at f) ≡ T (nonzero_terms k.terms)
    new_values =
        ap (λ z. R.product z (val R r at f)) (multiplier_with R r at base k.reduction.factor x.factors)
        ∙ R.product_associates a (multiplier R r at base x.factors) (val R r at f)
        ∙ ap (R.product a) (values_of x holds.partial.identity ∙ before_turn)
        ∙ turned R r at base a (T t.before) (val R r at t.coefficient) M (T t.behind) (val R r at k.reduction.rest) (val R r at k.reduction.shift) (base t.step) (reduction_value r s equations t.coefficient t.step k.reduction good_parts.1 reduced R at)
        ∙ sym after_turn

    -- what holds before a turn holds after it
    turn_holds : Holds y
    turn_holds = subst Holds k.made (record {
      partial = record {
        identity = identity_of _ (factors_with (Goods r) k.reduction.factor x.factors factor_good holds.factors_good) (all_nonzero (λ t. Good r t.1) k.terms added_good.1) new_values;
        factors = factors_with (IsFactor (setting_of r) s) k.reduction.factor x.factors (factor_is_one r s equations t.coefficient t.step k.reduction good_parts.1 reduced next) holds.partial.factors;
        products = all_nonzero (λ t. IsProduct t.0) k.terms added_good.0;
        rising = falling_nonzero k.terms (falling_added r k.product k.reduction.shift middle k.terms k.terms_are (falling_products x.terms middle same_products holds.partial.rising));
        not_zero = none_zero k.terms;
      };
      factors_good = factors_with (Goods r) k.reduction.factor x.factors factor_good holds.factors_good;
      coefficients_good = all_nonzero (λ t. Good r t.1) k.terms added_good.1;
    })

  -- a turn keeps a partial preparation
  pub turn_keeps : (x y : Prepared) (t : Turn) → Holds x → next_turn (setting_of r) s x.terms ≡ Some t → turn_answer (setting_of r) s x t ≡ Ok y → Holds y
  turn_keeps x y t holds e h =
      let found = turn_found r s [] x.terms t e in
      turn_holds x t y holds found.0 found.1 (taken_turn r s x t y h)

  -- ---- all turns
  -- what holds where the turns end
  pub outcome : (budget : ℕ) → HasCome Holds (setting_of r) s (preparation (setting_of r) s budget f)
  outcome budget = walked Holds (setting_of r) s turn_keeps budget f begun

-- the laws of preparation
all_goods : (r : RankingValue) (ps : Polynomials) → AllOf (IsOver r) ps → AllOf (Goods r) ps
all_goods r [] h = tt
all_goods r (p ∷ ps) h = (good_terms r p (good_over r p h.0), all_goods r ps h.1)

-- coefficients over a ranking are canonical
all_terms_good : (r : RankingValue) (ts : List Term) → AllOf (λ t. IsOver r t.1) ts → AllOf (λ t. Good r t.1) ts
all_terms_good r [] h = tt
all_terms_good r (t ∷ ts) h = (good_over r t.1 h.0, all_terms_good r ts h.1)

-- the laws of preparation
pub preparation_laws : (r : RankingValue) (s : State) (f : Polynomial Symbol) → AllOf (IsOver r) s.equations → IsOver r f → PreparationLaws r s f
preparation_laws r s f over of_f =
    let equations : (j : ℕ) (q : Polynomial Symbol) → at_place j s.equations ≡ Some q → Good r q = λ j q e. good_over r q (taken (IsOver r) j q s.equations e over).0 in
    let good_f = good_over r f of_f in
    record {
      begins = (begun r s f equations good_f).partial;
      keeps = λ x y t over_x e h partial.
          (turn_keeps r s f equations good_f x y t (record { partial = partial; factors_good = all_goods r x.factors over_x.factors; coefficients_good = all_terms_good r x.terms over_x.coefficients }) e h).partial;
      prepares = λ budget x e. let h = subst (HasCome (Holds r s f equations good_f) (setting_of r) s) e (outcome r s f equations good_f budget) in record { partial = h.0.partial; reduced = no_turn r s [] x.terms h.1 };
      stops = λ budget x stop e. (subst (HasCome (Holds r s f equations good_f) (setting_of r) s) e (outcome r s f equations good_f budget)).partial;
      passes = λ budget x e. (subst (HasCome (Holds r s f equations good_f) (setting_of r) s) e (outcome r s f equations good_f budget)).partial;
    }
