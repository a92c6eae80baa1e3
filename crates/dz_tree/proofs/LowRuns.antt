-- The steps of runs from a Delta-polynomial are below the least common derivative: its symbols are, and no step brings
-- in a symbol above the one at which it is taken.
use Rattle.std.specs.List.{list_all}
use Rattle.std.proofs.Common.{◌≡◌, ◌⊎◌, inl, inr, ℕ, suc, ◌+◌, ◌≤◌, ◌==◌, Bool, true, false, not, ◌&&◌, cond, List, [], ◌∷◌, length, refl, sym, ap, ap₂, ◌∙◌, subst, Ok, Option, Some, None, arith}
use Rattle.std.proofs.lemmas.Bool.{leb-true}
use Rattle.std.specs.Cmp.{tied_itself}
use Rattle.std.specs.declared.cmp.Ordering.{Ordering}
use Rattle.std.specs.declared.cmp.Ordering.TheVariants.{Less, Equal, Greater}
use Rattle.std.specs.Ordering.{match_ordering}
use Rattle.dz_algebra.specs.Monomial.{Monomial, IsMonomial, MonomialIn, exponent, monomial_cmp}
use Rattle.dz_algebra.specs.Norm.{norm}
use Rattle.dz_algebra.specs.Parts.{coefficient_of, degree, leader}
use Rattle.dz_algebra.specs.Polynomial.{Polynomial, AreMonomials, IsPolynomial, PolynomialIn, collect}
use Rattle.dz_algebra.specs.Size.{separant_answer}
use Rattle.dz_algebra.specs.Symbols.{Symbols}
use Rattle.dz_algebra.proofs.Canonical.{are_monomials}
use Rattle.dz_algebra.proofs.Inside.{in_norm}
use Rattle.dz_rank.specs.Rankings.{RankingValue}
use Rattle.dz_rank.specs.Symbols.{BelongsTo, IsOperatorOf, derivative_by, is_derivative, least_common_derivative}
use Rattle.dz_rank.specs.declared.symbols.Operator.{Operator}
use Rattle.dz_rank.specs.declared.symbols.Symbol.{Symbol}
use Rattle.dz_rank.specs.declared.symbols.Symbol.TheVariants.{Independent, Derivative}
use Rattle.dz_rank.proofs.Belonging.{least_common_belongs}
use Rattle.dz_monomials.specs.Ranked.{symbols_under}
use Rattle.dz_monomials.proofs.SymbolLaws.{ranking_order}
use Rattle.dz_monomials.specs.Lists.{AllOf}
use Rattle.dz_diff.specs.Operators.{divides, is_proper, quotient}
use Rattle.dz_diff.specs.Operations.{operator_answer, setting_of}
use Rattle.dz_algebra.specs.Outcome.{numbered}
use Rattle.dz_diff.specs.Over.{IsOver}
use Rattle.dz_diff.specs.State.{State, at_place}
use Rattle.dz_algebra.proofs.Outcomes.{bind_ok, both, is_false, told_ok}
use Rattle.dz_diff.proofs.Degrees.{AtMost, IsWithout}
use Rattle.dz_diff.proofs.Goodness.{good_separant}
use Rattle.dz_diff.proofs.LeaderBounds.{leader_degree, leader_is_one, leader_regular, under_leader}
use Rattle.dz_diff.proofs.LeaderDerivations.{IsRegular, IsUnder}
use Rattle.dz_diff.proofs.OperatorLeaders.{derivative_grows, leader_of_operator, operator_leads}
use Rattle.dz_diff.proofs.MarkedSums.{EachMonomial}
use Rattle.dz_diff.proofs.Overs.{good_over, polynomial_in, regular_over}
use Rattle.dz_diff.proofs.Places.{taken}
use Rattle.dz_diff.proofs.Separants.{IsNotAbove}
use Rattle.dz_step.specs.declared.Role.{Role}
use Rattle.dz_step.specs.declared.Role.TheVariants.{Free}
use Rattle.dz_step.specs.declared.Step.{Step}
use Rattle.dz_step.specs.FullRun.{derivatives_of, full_run, next_step}
use Rattle.dz_step.specs.StepOperators.{course_steps}
use Rattle.dz_step.proofs.CourseSteps.{full_run_has}
use Rattle.dz_step.specs.Run.{Ran, run, run_from}
use Rattle.dz_step.specs.Step.{multiplier_of, step_degree, step_in}
use Rattle.dz_step.proofs.Falls.{derivative_nothing, operator_nothing}
use Rattle.dz_step.proofs.Lowering.{cross_lowered}
use Rattle.dz_step.proofs.NextSteps.{derivative_quotient, found_first, in_derivatives}
use Rattle.dz_step.proofs.StepsLower.{separant_under, without_above}
use Rattle.dz_step.proofs.TakenSteps.{taken_step}
use Rattle.dz_pair.specs.Pair.{are_crossing, common, common_of_leaders, delta_answer, is_pair, leaders_cross}
use Rattle.dz_pair.proofs.DeltaParts.{DeltaParts, delta_parts, good_rest}
use Rattle.dz_tree.specs.Chain.{is_below, is_less, passes}
use Rattle.dz_step.proofs.NoSteps.{and_is}
use Rattle.dz_diff.proofs.OverOperations.{degree_in, difference_in, leader_belongs, norm_over, product_in}
use Rattle.dz_step.proofs.OverSteps.{degree_one, multiplier_in, parts_in, quotient_fits, regular_of, step_over, next_fits}
use Rattle.dz_pair.proofs.OverDeltas.{delta_over}

module _ (r : RankingValue) (few : r.signature.independents ≤ 4) where
  abbrev g : Symbols Symbol
  g = symbols_under r

  -- the symbol is less than w
  abbrev IsLow : Symbol → Symbol → Type 0
  IsLow w s = g.cmp s w ≡ Less

  -- what is not above v is less than w, where v is
  under_low : (v w : Symbol) (p : Polynomial Symbol) → g.cmp v w ≡ Less → PolynomialIn (IsUnder g.cmp 4 v) p → PolynomialIn (IsLow w) p
  under_low v w p e h = polynomial_in (IsUnder g.cmp 4 v) (IsLow w) (λ s k. lower s k.1) p h
    where
      lower : (s : Symbol) → (g.cmp s v ≡ Less) ⊎ (s ≡ v) → g.cmp s w ≡ Less
      lower s (inl k) = (ranking_order r).total.trans s v w k e
      lower s (inr k) = ap (λ s. g.cmp s w) k ∙ e

  -- ---- derivatives of equations
  -- no symbol of what an operator makes of q is above the operator's derivative of the leader
  operator_under : (t : Operator) (q p : Polynomial Symbol) (l : Symbol) → IsOver r q → leader g q ≡ Some l → IsOperatorOf r.signature.independents t → operator_answer (setting_of r) t q ≡ Ok p → PolynomialIn (IsUnder g.cmp 4 (derivative_by t l)) p
  operator_under t q p (Independent j) h e fits a = let d : is_derivative (Independent j) ≡ true = leader_is_one r q (Independent j) e in absurd cc
  operator_under t q p (Derivative u s) h e fits a = by_proper (is_proper t) refl
    where
      under : PolynomialIn (IsUnder g.cmp 4 (Derivative u s)) q
      under = under_leader r 4 q u s e (regular_over r q h)

      size : length s.counts ≡ 4
      size = leader_regular r q (Derivative u s) e (regular_over r q h)

      by_proper : (b : Bool) → is_proper t ≡ b → PolynomialIn (IsUnder g.cmp 4 (derivative_by t (Derivative u s))) p
      by_proper true proper = (operator_leads r u _ few t s.counts q p size fits h.canonical under refl proper a).1
      by_proper false proper =
          subst (λ l. PolynomialIn (IsUnder g.cmp 4 l) p) (sym (derivative_nothing r few t u s proper (omega (arith, size, fits.size))))
          (subst (PolynomialIn (IsUnder g.cmp 4 (Derivative u s))) (operator_nothing r few t q p proper a) under)

  -- a leader is less than w, where an operator's derivative of it is
  leader_low : (t : Operator) (q : Polynomial Symbol) (l w : Symbol) → IsOver r q → leader g q ≡ Some l → IsOperatorOf r.signature.independents t → g.cmp (derivative_by t l) w ≡ Less → g.cmp l w ≡ Less
  leader_low t q (Independent j) w h e fits low = low
  leader_low t q (Derivative u s) w h e fits low = by_proper (is_proper t) refl
    where
      size : length s.counts ≡ 4
      size = leader_regular r q (Derivative u s) e (regular_over r q h)

      by_proper : (b : Bool) → is_proper t ≡ b → g.cmp (Derivative u s) w ≡ Less
      by_proper true proper = (ranking_order r).total.trans (Derivative u s) (derivative_by t (Derivative u s)) w (derivative_grows r t (Derivative u s) refl proper) low
      by_proper false proper = subst (λ l. g.cmp l w ≡ Less) (derivative_nothing r few t u s proper (omega (arith, size, fits.size))) low

  -- so all its symbols are
  divisor_low : (t : Operator) (q : Polynomial Symbol) (l w : Symbol) → IsOver r q → leader g q ≡ Some l → IsOperatorOf r.signature.independents t → g.cmp (derivative_by t l) w ≡ Less → PolynomialIn (IsLow w) q
  divisor_low t q (Independent j) w h e fits low = let d : is_derivative (Independent j) ≡ true = leader_is_one r q (Independent j) e in absurd cc
  divisor_low t q (Derivative u s) w h e fits low = under_low (Derivative u s) w q (leader_low t q (Derivative u s) w h e fits low) (under_leader r 4 q u s e (regular_over r q h))

  -- ---- steps and runs
  module _ (s : State) (role : Role) (w : Symbol) (over : AllOf (IsOver r) s.equations) where
    -- a step on what is below w is below w, and so is its result
    step_low : (f x : Polynomial Symbol) (st : Step) → IsOver r f → PolynomialIn (IsLow w) f → IsOperatorOf r.signature.independents st.operator → step_in (setting_of r) s role f st ≡ Ok x → (is_below g s w st ≡ true) × PolynomialIn (IsLow w) x
    step_low f x st of_f low fits e =
        let k = taken_step r s role f st x e in
        let of_q : IsOver r k.divisor = (taken (IsOver r) st.place k.divisor s.equations k.stands over).0 in
        let v = derivative_by st.operator k.top in
        let occurs : 1 ≤ degree g.cmp v f = omega (arith, leb-true _ _ k.reaches, degree_one r st.operator k.top k.divisor (leader_degree r k.top k.divisor of_q.canonical k.top_is)) in
        let below : g.cmp v w ≡ Less = degree_in r (IsLow w) v f occurs low in (
          ap (passes (λ q. passes (λ l. is_less (g.cmp (derivative_by st.operator l) w)) (leader g q))) k.stands ∙ ap (passes (λ l. is_less (g.cmp (derivative_by st.operator l) w))) k.top_is ∙ ap is_less below,
          parts_in r (IsLow w) f k.derivative k.times v (degree g.cmp v f) (step_degree g st.operator k.top k.divisor) x k.parts below low
              (under_low v w k.derivative below (operator_under st.operator k.divisor k.derivative k.top of_q k.top_is fits k.derivative_is))
              (multiplier_in r (IsLow w) (multiplier_of st.operator) k.top k.divisor k.times k.times_is (divisor_low st.operator k.divisor k.top w of_q k.top_is fits below)),
        )

    run_from_low : (n : ℕ) (f : Polynomial Symbol) (count : ℕ) (steps : List Step) (x : Ran) → IsOver r f → PolynomialIn (IsLow w) f → AllOf (λ (st : Step). IsOperatorOf r.signature.independents st.operator) steps
        → run_from (setting_of r) s role n f count steps ≡ Ok x → list_all (is_below g s w) steps ≡ true
    run_from_low n f count [] x of_f low fits e = refl
    run_from_low n f count (st ∷ steps) x of_f low fits e =
        let a = bind_ok (numbered n (step_in (setting_of r) s role f st)) _ x e in
        let h = told_ok _ (step_in (setting_of r) s role f st) a.0 a.1 in
        let b = step_low f a.0 st of_f low fits.0 h in
        and_is _ _ b.0 (run_from_low (suc n) a.0 (count + 1 + length a.0) steps x (step_over r few s role f a.0 st over of_f h) b.1 fits.1 a.2)

    -- all steps of a run from what is below w are below w
    run_low : (f : Polynomial Symbol) (steps : List Step) (x : Ran) → IsOver r f → PolynomialIn (IsLow w) f → AllOf (λ (st : Step). IsOperatorOf r.signature.independents st.operator) steps
        → run (setting_of r) s role f steps ≡ Ok x → list_all (is_below g s w) steps ≡ true
    run_low f steps x of_f low fits e = run_from_low 1 (norm f) 0 steps x (norm_over r few f of_f) (in_norm g.cmp (IsLow w) f low) fits e

  -- ---- what is not above w, and in which w does not occur, is less than w
  monomial_low : (w : Symbol) (m : Monomial Symbol) → IsMonomial g.cmp m → exponent g.cmp w m ≤ 0 → MonomialIn (IsNotAbove (ranking_order r) w) m → MonomialIn (IsLow w) m
  monomial_low w [] i l h = tt
  monomial_low w (p ∷ m) i l h = (first h.0, monomial_low w m i.2 (rest (g.cmp w p.0) (exponent g.cmp w m) l) h.1)
    where
      there : (o : Ordering) (x : ℕ) → o ≡ Equal → match_ordering o x (p.1 + x) x ≤ 0 → p.1 ≤ 0
      there Less x e l = cc
      there Equal x e l = omega (arith, l)
      there Greater x e l = cc

      rest : (o : Ordering) (x : ℕ) → match_ordering o x (p.1 + x) x ≤ 0 → x ≤ 0
      rest Less x l = l
      rest Equal x l = omega (arith, l)
      rest Greater x l = l

      first : (g.cmp p.0 w ≡ Less) ⊎ (p.0 ≡ w) → g.cmp p.0 w ≡ Less
      first (inl k) = k
      first (inr k) = let z = there (g.cmp w p.0) (exponent g.cmp w m) (ap (g.cmp w) k ∙ tied_itself (ranking_order r).total w) l in absurd (omega (arith, z, i.0))

  polynomial_low : (w : Symbol) (p : Polynomial Symbol) → AreMonomials g.cmp p → AtMost g.cmp w 0 p → PolynomialIn (IsNotAbove (ranking_order r) w) p → PolynomialIn (IsLow w) p
  polynomial_low w [] i l h = tt
  polynomial_low w (t ∷ p) i l h = (monomial_low w t.0 i.0 l.0 h.0, polynomial_low w p i.1 l.1 h.1)

  -- ---- a Delta-polynomial is below the least common derivative
  -- neither of two crossing leaders is a derivative of the other
  crossing_apart : (l m : Symbol) → are_crossing l m ≡ true → (quotient l m ≡ None) × (quotient m l ≡ None)
  crossing_apart (Independent i) m c = cc
  crossing_apart (Derivative u s) (Independent j) c = cc
  crossing_apart (Derivative u s) (Derivative v t) c =
      let a = both ((u == v) && not (divides t.counts s.counts)) (not (divides s.counts t.counts)) c in
      let b = both (u == v) (not (divides t.counts s.counts)) a.0 in
      (none_by (u == v) (divides t.counts s.counts) _ (is_false _ b.1), none_by (v == u) (divides s.counts t.counts) _ (is_false _ a.1))
    where
      none_by : (a b : Bool) (x : Operator) → b ≡ false → ◌≡◌ {A = Option Operator} (cond (a && b) (Some x) None) None
      none_by true true x e = cc
      none_by true false x e = refl
      none_by false b x e = refl

  -- what a proper operator makes of p is linear in w, with the separant as coefficient
  record IsLinear (w : Symbol) (p : Polynomial Symbol) (a separant : Polynomial Symbol) : Type 0 where
    canonical : IsPolynomial g.cmp a
    most : AtMost g.cmp w 1 a
    coefficient : collect (monomial_cmp g.cmp) (coefficient_of g.cmp w 1 a) ≡ separant
    without : EachMonomial (IsWithout (ranking_order r) w) separant
    not_above : PolynomialIn (IsNotAbove (ranking_order r) w) a
    separant_not_above : PolynomialIn (IsNotAbove (ranking_order r) w) separant

  linear : (t : Operator) (p a separant : Polynomial Symbol) (l w : Symbol) → IsOver r p → leader g p ≡ Some l → IsOperatorOf r.signature.independents t → derivative_by t l ≡ w → is_proper t ≡ true
      → separant_answer g l p ≡ Ok separant → operator_answer (setting_of r) t p ≡ Ok a → IsLinear w p a separant
  linear t p a separant (Independent j) w h e fits takes proper f k = let d : is_derivative (Independent j) ≡ true = leader_is_one r p (Independent j) e in absurd cc
  linear t p a separant (Derivative u s) w h e fits takes proper f k = subst (λ w. IsLinear w p a separant) takes (record {
    canonical = top.0;
    most = top.2;
    coefficient = top.3;
    without = without_above r 4 l (derivative_by t l) separant grows (are_monomials (ranking_order r) separant (good_separant r l p separant f (good_over r p h)).0) of_separant;
    not_above = polynomial_in (IsUnder g.cmp 4 (derivative_by t l)) (IsNotAbove (ranking_order r) (derivative_by t l)) (λ x k. k.1) a top.1;
    separant_not_above = polynomial_in (IsLow (derivative_by t l)) (IsNotAbove (ranking_order r) (derivative_by t l)) (λ x k. inl k) separant (under_low l (derivative_by t l) separant grows of_separant);
  })
    where
      l : Symbol
      l = Derivative u s

      under : PolynomialIn (IsUnder g.cmp 4 (Derivative u s)) p
      under = under_leader r 4 p u s e (regular_over r p h)

      grows : g.cmp (Derivative u s) (derivative_by t (Derivative u s)) ≡ Less
      grows = derivative_grows r t (Derivative u s) refl proper

      of_separant : PolynomialIn (IsUnder g.cmp 4 (Derivative u s)) separant
      of_separant = separant_under r 4 (Derivative u s) (Derivative u s) p separant f under

      top : IsPolynomial g.cmp a × PolynomialIn (IsUnder g.cmp 4 (derivative_by t (Derivative u s))) a × EachMonomial (λ m. exponent g.cmp (derivative_by t (Derivative u s)) m ≤ 1) a
          × (collect (monomial_cmp g.cmp) (coefficient_of g.cmp (derivative_by t (Derivative u s)) 1 a) ≡ separant)
      top = leader_of_operator r u separant few t s.counts p a (leader_regular r p (Derivative u s) e (regular_over r p h)) fits h.canonical under f proper k

  -- an operator that takes a leader to w, and is not proper, takes none there but w
  proper_of : (t : Operator) (l m w : Symbol) (x : Operator) → is_derivative l ≡ true → IsRegular 4 l → length t.counts ≡ 4 → derivative_by t l ≡ w → quotient w m ≡ Some x → quotient l m ≡ None → is_proper t ≡ true
  proper_of t (Independent j) m w x d regular size takes other none = cc
  proper_of t (Derivative u s) m w x d regular size takes other none = by_test (is_proper t) refl
    where
      by_test : (b : Bool) → is_proper t ≡ b → is_proper t ≡ true
      by_test true e = e
      by_test false e =
          let k : w ≡ Derivative u s = sym takes ∙ derivative_nothing r few t u s e (omega (arith, size, regular)) in
          let z : quotient (Derivative u s) m ≡ Some x = ap (λ w. quotient w m) (sym k) ∙ other in
          absurd (let y = sym z ∙ none in cc)

  parts_low : (p q d : Polynomial Symbol) (k : DeltaParts r p q d) → IsOver r p → IsOver r q → are_crossing k.first_leader k.second_leader ≡ true → PolynomialIn (IsLow (least_common_derivative k.first_leader k.second_leader)) d
  parts_low p q d k of_p of_q crossing =
      let l = k.first_leader in
      let m = k.second_leader in
      let w = least_common_derivative l m in
      let apart = crossing_apart l m crossing in
      let of_l = leader_belongs r few p l k.first_leads of_p.belongs in
      let of_m = leader_belongs r few q m k.second_leads of_q.belongs in
      let of_w = least_common_belongs r.signature l m of_l of_m in
      let is_l = leader_is_one r p l k.first_leads in
      let is_m = leader_is_one r q m k.second_leads in
      let regular_l = leader_regular r p l k.first_leads (regular_over r p of_p) in
      let regular_m = leader_regular r q m k.second_leads (regular_over r q of_q) in
      let regular_w = regular_of r few w of_w in
      let fits_l = quotient_fits r few w l k.first_operator k.first_takes is_l of_w of_l in
      let fits_m = quotient_fits r few w m k.second_operator k.second_takes is_m of_w of_m in
      let takes_l = derivative_quotient 4 w l k.first_operator k.first_takes regular_w regular_l in
      let takes_m = derivative_quotient 4 w m k.second_operator k.second_takes regular_w regular_m in
      let proper_l = proper_of k.first_operator l m w k.second_operator is_l regular_l fits_l.size takes_l k.second_takes apart.0 in
      let proper_m = proper_of k.second_operator m l w k.first_operator is_m regular_m fits_m.size takes_m k.first_takes apart.1 in
      let a = linear k.first_operator p k.first k.first_separant l w of_p k.first_leads fits_l takes_l proper_l k.first_separant_is k.first_is in
      let b = linear k.second_operator q k.second k.second_separant m w of_q k.second_leads fits_m takes_m proper_m k.second_separant_is k.second_is in
      let most = cross_lowered g (ranking_order r) w k.first k.second k.first_separant k.second_separant k.left k.right k.rest a.canonical b.canonical a.without b.without a.most b.most a.coefficient b.coefficient k.left_is k.right_is k.rest_is in
      let not_above = difference_in r (IsNotAbove (ranking_order r) w) k.left k.right k.rest k.rest_is (product_in r (IsNotAbove (ranking_order r) w) k.second_separant k.first k.left k.left_is b.separant_not_above a.not_above)
      (product_in r (IsNotAbove (ranking_order r) w) k.first_separant k.second k.right k.right_is a.separant_not_above b.not_above) in
      subst (PolynomialIn (IsLow w)) k.end_is (in_norm g.cmp (IsLow w) k.rest (polynomial_low w k.rest (are_monomials (ranking_order r) k.rest (good_rest r p q d k (good_over r p of_p) (good_over r q of_q)).0) most not_above))

  delta_low : (p q d : Polynomial Symbol) (l m : Symbol) → IsOver r p → IsOver r q → leader g p ≡ Some l → leader g q ≡ Some m → are_crossing l m ≡ true → delta_answer (setting_of r) p q ≡ Ok d → PolynomialIn (IsLow (least_common_derivative l m)) d
  delta_low p q d l m of_p of_q e f crossing h = elim (delta_parts r p q d h) [
    | inl z ↦ subst (PolynomialIn (IsLow (least_common_derivative l m))) z tt
    | inr k ↦
        let first : k.first_leader ≡ l = some_same k.first_leader l (sym k.first_leads ∙ e) in
        let second : k.second_leader ≡ m = some_same k.second_leader m (sym k.second_leads ∙ f) in
        subst (λ w. PolynomialIn (IsLow w) d) (ap₂ least_common_derivative first second) (parts_low p q d k of_p of_q (ap₂ are_crossing first second ∙ crossing))
  ]
    where
      some_same : (x y : Symbol) → ◌≡◌ {A = Option Symbol} (Some x) (Some y) → x ≡ y
      some_same x y e = cc

  -- ---- so is each step of a run from it
  pub coherent : (s : State) (p q d : Polynomial Symbol) (steps : List Step) (x : Ran) → AllOf (IsOver r) s.equations → IsOver r p → IsOver r q → is_pair g p q ≡ true → delta_answer (setting_of r) p q ≡ Ok d
      → AllOf (λ (st : Step). IsOperatorOf r.signature.independents st.operator) steps → run (setting_of r) s Free d steps ≡ Ok x → passes (λ w. list_all (is_below g s w) steps) (common g p q) ≡ true
  coherent s p q d steps x over of_p of_q pair h fits e = by_leaders (leader g p) (leader g q) refl refl pair
    where
      by_leaders : (l m : Option Symbol) → leader g p ≡ l → leader g q ≡ m → leaders_cross l m ≡ true → passes (λ w. list_all (is_below g s w) steps) (common_of_leaders l m) ≡ true
      by_leaders None m i j c = cc
      by_leaders (Some l) None i j c = cc
      by_leaders (Some l) (Some m) i j c = run_low s Free (least_common_derivative l m) over d steps x (delta_over r few p q d h of_p of_q) (delta_low p q d l m of_p of_q i j c h) fits e

  -- ---- and each step of a full run from it
  -- what all symbols have, and what else they have
  both_in : (P Q : Symbol → Type 0) (p : Polynomial Symbol) → PolynomialIn P p → PolynomialIn Q p → PolynomialIn (λ s. P s × Q s) p
  both_in P Q [] h k = tt
  both_in P Q (t ∷ p) h k = (in_monomial t.0 h.0 k.0, both_in P Q p h.1 k.1)
    where
      in_monomial : (m : Monomial Symbol) → MonomialIn P m → MonomialIn Q m → MonomialIn (λ s. P s × Q s) m
      in_monomial [] h k = tt
      in_monomial (s ∷ m) h k = ((h.0, k.0), in_monomial m h.1 k.1)

  module _ (s : State) (role : Role) (w : Symbol) (over : AllOf (IsOver r) s.equations) where
    -- over the ranking, and below w
    abbrev IsLowOver : Polynomial Symbol → Type 0
    IsLowOver f = IsOver r f × PolynomialIn (IsLow w) f

    -- a step below w, with an operator of the signature
    abbrev IsLowStep : Step → Type 0
    IsLowStep st = (is_below g s w st ≡ true) × IsOperatorOf r.signature.independents st.operator

    next_low : (f : Polynomial Symbol) (st : Step) → IsLowOver f → next_step (setting_of r) s role f ≡ Some st → IsLowStep st
    next_low f st fine e =
        let both = both_in (BelongsTo r.signature) (IsLow w) f fine.0.belongs fine.1 in
        let k = found_first r s role f (λ v. BelongsTo r.signature v × IsLow w v) st (derivatives_of g f) e (in_derivatives g (λ v. BelongsTo r.signature v × IsLow w v) (λ v. BelongsTo r.signature v × IsLow w v) (λ v h _. h) f both) in
        let q = k.2 in
        let there : at_place st.place s.equations ≡ Some q.equation = ap (λ i. at_place i s.equations) (q.place_is ∙ omega arith) ∙ q.is_there in
        let of_q = (taken (IsOver r) st.place q.equation s.equations there over).0 in
        let raised = derivative_quotient 4 k.0 q.top st.operator q.quotient_is (regular_of r few k.0 k.1.0) (regular_of r few q.top (leader_belongs r few q.equation q.top q.leader_is of_q.belongs)) in (
          ap (passes (λ q. passes (λ l. is_less (g.cmp (derivative_by st.operator l) w)) (leader g q))) there ∙ ap (passes (λ l. is_less (g.cmp (derivative_by st.operator l) w))) q.leader_is ∙ ap (λ v. is_less (g.cmp v w)) raised
              ∙ ap is_less k.1.1,
          next_fits r few s role f st over fine.0.belongs e,
        )

    full_run_low : (budget : ℕ) (f : Polynomial Symbol) → IsLowOver f → list_all (is_below g s w) (course_steps (full_run (setting_of r) s role budget f)) ≡ true
    full_run_low budget f fine = all_below _
        (full_run_has (setting_of r) s role budget IsLowOver IsLowStep (λ f x st h fit e. (step_over r few s role f x st over h.0 e, (step_low s role w over f x st h.0 h.1 fit.1 e).1)) next_low f (norm_over r few f fine.0, in_norm g.cmp (IsLow w) f fine.1))
      where
        all_below : (steps : List Step) → AllOf IsLowStep steps → list_all (is_below g s w) steps ≡ true
        all_below [] h = refl
        all_below (st ∷ steps) h = and_is _ _ h.0.0 (all_below steps h.1)

  pub full_run_coherent : (s : State) (p q d : Polynomial Symbol) (budget : ℕ) → AllOf (IsOver r) s.equations → IsOver r p → IsOver r q → is_pair g p q ≡ true → delta_answer (setting_of r) p q ≡ Ok d
      → passes (λ w. list_all (is_below g s w) (course_steps (full_run (setting_of r) s Free budget d))) (common g p q) ≡ true
  full_run_coherent s p q d budget over of_p of_q pair h = by_leaders (leader g p) (leader g q) refl refl pair
    where
      by_leaders : (l m : Option Symbol) → leader g p ≡ l → leader g q ≡ m → leaders_cross l m ≡ true → passes (λ w. list_all (is_below g s w) (course_steps (full_run (setting_of r) s Free budget d))) (common_of_leaders l m) ≡ true
      by_leaders None m i j c = cc
      by_leaders (Some l) None i j c = cc
      by_leaders (Some l) (Some m) i j c = full_run_low s Free (least_common_derivative l m) over budget d (delta_over r few p q d h of_p of_q, delta_low p q d l m of_p of_q i j c h)
