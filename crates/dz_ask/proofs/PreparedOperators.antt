-- The operators of a preparation belong to the signature that its polynomials are over.
use Rattle.std.proofs.Common.{◌≡◌, ◌≤◌, ◌++◌, ℕ, List, [], ◌∷◌, sym, subst, arith, Ok, Some}
use Rattle.std.proofs.lemmas.Bool.{leb-true}
use Rattle.dz_algebra.specs.Monomial.{MonomialIn}
use Rattle.dz_algebra.specs.Parts.{degree}
use Rattle.dz_algebra.specs.Polynomial.{Polynomial, PolynomialIn}
use Rattle.dz_algebra.specs.Size.{product_answer, sum_answer}
use Rattle.dz_algebra.proofs.Inside.{in_with_power}
use Rattle.dz_rank.specs.Rankings.{RankingValue, ranking_cmp}
use Rattle.dz_rank.specs.Symbols.{BelongsTo, IsOperatorOf, derivative_by}
use Rattle.dz_rank.specs.declared.symbols.Symbol.{Symbol}
use Rattle.dz_monomials.specs.Ranked.{symbols_under}
use Rattle.dz_monomials.specs.Lists.{AllOf}
use Rattle.dz_diff.specs.Operations.{setting_of}
use Rattle.dz_diff.specs.Over.{IsOver}
use Rattle.dz_diff.specs.State.{State, at_place}
use Rattle.dz_diff.proofs.Goodness.{Good}
use Rattle.dz_diff.proofs.LeaderBounds.{leader_degree}
use Rattle.dz_diff.proofs.OverOperations.{degree_in, operator_belongs, product_in, sum_in}
use Rattle.dz_diff.proofs.Overs.{good_over}
use Rattle.dz_diff.proofs.Places.{all-append, all_parts, taken}
use Rattle.dz_step.specs.declared.Role.TheVariants.{Free}
use Rattle.dz_step.specs.declared.Step.{Step}
use Rattle.dz_step.specs.Step.{Reduction, multiplier_of, reduction_at, step_degree}
use Rattle.dz_step.proofs.OverSteps.{degree_one, multiplier_in, next_fits, reduction_in}
use Rattle.dz_ask.specs.Preparation.{Prepared, Term}
use Rattle.dz_ask.specs.Products.{Product, step_cmp, turned_round}
use Rattle.dz_ask.specs.Turns.{Turn, multiplied, next_turn, preparation, turn_answer}
use Rattle.dz_ask.proofs.Preparations.{reduced_at, taken_turn, turn_found}
use Rattle.dz_ask.proofs.RaisedProducts.{raised_is}
use Rattle.dz_ask.proofs.TermOrders.{all_added, all_multiplied, all_nonzero, all_products, products_multiplied}
use Rattle.dz_ask.proofs.TurnWalks.{HasCome, walked}

module _ (r : RankingValue) (few : r.signature.independents ≤ 4) (s : State) (over : AllOf (IsOver r) s.equations) where
  -- all symbols belong to the signature
  abbrev AllBelong : Polynomial Symbol → Type 0
  AllBelong = PolynomialIn (BelongsTo r.signature)

  -- all steps in a product derive in the directions of the signature
  abbrev pub Derives : Product → Type 0
  Derives = MonomialIn (λ (st : Step). IsOperatorOf r.signature.independents st.operator)

  -- an equation is canonical
  equation_good : (j : ℕ) (q : Polynomial Symbol) → at_place j s.equations ≡ Some q → Good r q
  equation_good j q e = good_over r q (taken (IsOver r) j q s.equations e over).0

  -- ---- one reduction
  -- its factor, shift and rest are over the signature
  record ReductionBelongs (y : Reduction) : Type 0 where
    factor : AllBelong y.factor
    shift : AllBelong y.shift
    rest : AllBelong y.rest

  reduction_belongs : (f : Polynomial Symbol) (st : Step) (y : Reduction) → AllBelong f → reduction_at (setting_of r) s f st ≡ Ok y → ReductionBelongs y
  reduction_belongs f st y of_f e =
      let k = reduced_at r s equation_good f st y e in
      let of_q = (taken (IsOver r) st.place k.divisor s.equations k.stands over).0 in
      let v = derivative_by st.operator k.reduced.top in
      let top = leader_degree r k.reduced.top k.divisor of_q.canonical k.reduced.top_is in
      let occurs : 1 ≤ degree (ranking_cmp r) v f = omega (arith, leb-true _ _ k.reduced.reaches, degree_one r st.operator k.reduced.top k.divisor top) in
      let parts = reduction_in r (BelongsTo r.signature) f k.reduced.derivative k.reduced.times v (degree (ranking_cmp r) v f) (step_degree (symbols_under r) st.operator k.reduced.top k.divisor) y k.parts (degree_in r (BelongsTo r.signature) v f occurs of_f) of_f
      (operator_belongs r few st.operator k.divisor k.reduced.derivative k.reduced.derivative_is of_q.belongs) (multiplier_in r (BelongsTo r.signature) (multiplier_of st.operator) k.reduced.top k.divisor k.reduced.times k.reduced.times_is of_q.belongs) in
      record { factor = parts.0; shift = parts.1; rest = parts.2 }

  -- ---- one turn
  -- the products and the coefficients of terms
  pub record Belong (ts : List Term) : Type 0 where
    pub products : AllOf (λ t. Derives t.0) ts
    pub coefficients : AllOf (λ t. AllBelong t.1) ts

  -- the product, and the step of the turn that is next
  pub turn_derives : (ts : List Term) (t : Turn) → Belong ts → next_turn (setting_of r) s ts ≡ Some t → Derives t.product × IsOperatorOf r.signature.independents t.step.operator
  turn_derives ts t h e =
      let found = turn_found r s [] ts t e in
      let here : Term = (t.product, t.coefficient) in
      let products = all_parts (λ t. Derives t.0) t.before (here ∷ t.behind) (subst (AllOf (λ t. Derives t.0)) found.0 h.products) in
      let coefficients = all_parts (λ t. AllBelong t.1) t.before (here ∷ t.behind) (subst (AllOf (λ t. AllBelong t.1)) found.0 h.coefficients) in
      (products.1.0, next_fits r few s Free t.coefficient t.step over coefficients.1.0 found.1)

  turn_belongs : (x y : Prepared) (t : Turn) → Belong x.terms → next_turn (setting_of r) s x.terms ≡ Some t → turn_answer (setting_of r) s x t ≡ Ok y → Belong y.terms
  turn_belongs x y t h e answer =
      let found = turn_found r s [] x.terms t e in
      let here : Term = (t.product, t.coefficient) in
      let products = all_parts (λ t. Derives t.0) t.before (here ∷ t.behind) (subst (AllOf (λ t. Derives t.0)) found.0 h.products) in
      let coefficients = all_parts (λ t. AllBelong t.1) t.before (here ∷ t.behind) (subst (AllOf (λ t. AllBelong t.1)) found.0 h.coefficients) in
      let k = taken_turn r s x t y answer in
      let parts = reduction_belongs t.coefficient t.step k.reduction coefficients.1.0 k.reduction_is in
      let times : (c x : Polynomial Symbol) → AllBelong c → product_answer (symbols_under r) k.reduction.factor c ≡ Ok x → AllBelong x = λ c x i j. product_in r (BelongsTo r.signature) k.reduction.factor c x j parts.factor i in
      let plus : (c x : Polynomial Symbol) → AllBelong c → sum_answer (symbols_under r) c k.reduction.shift ≡ Ok x → AllBelong x = λ c x i j. sum_in r (BelongsTo r.signature) c k.reduction.shift x j i parts.shift in
      let raised : Derives k.product = subst Derives (raised_is t.step t.product k.product k.product_is) (in_with_power (turned_round step_cmp) (λ (st : Step). IsOperatorOf r.signature.independents st.operator) t.step 1 t.product (turn_derives x.terms t h e).1 products.1.0) in
      let middle : List Term = k.before ++ (t.product, k.reduction.rest) ∷ k.behind in
      let middle_products : AllOf (λ t. Derives t.0) middle = all-append (λ t. Derives t.0) k.before ((t.product, k.reduction.rest) ∷ k.behind)
      (multiplied_products k.reduction.factor t.before k.before k.before_is products.0) (products.1.0, multiplied_products k.reduction.factor t.behind k.behind k.behind_is products.1.1) in
      let middle_coefficients : AllOf (λ t. AllBelong t.1) middle = all-append (λ t. AllBelong t.1) k.before ((t.product, k.reduction.rest) ∷ k.behind)
      (all_multiplied r AllBelong k.reduction.factor times t.before k.before k.before_is coefficients.0) (parts.rest, all_multiplied r AllBelong k.reduction.factor times t.behind k.behind k.behind_is coefficients.1.1) in
      let sum = all_added r Derives AllBelong k.product k.reduction.shift plus tt raised middle k.terms k.terms_are middle_products middle_coefficients in
      subst (λ (y : Prepared). Belong y.terms) k.made (record { products = all_nonzero (λ t. Derives t.0) k.terms sum.0; coefficients = all_nonzero (λ t. AllBelong t.1) k.terms sum.1 })
    where
      multiplied_products : (a : Polynomial Symbol) (ts us : List Term) → multiplied (symbols_under r) a ts ≡ Ok us → AllOf (λ t. Derives t.0) ts → AllOf (λ t. Derives t.0) us
      multiplied_products a ts us i j = all_products Derives ts us (sym (products_multiplied r a ts us i)) j

  -- ---- all turns
  -- what is made of f so far has operators of the signature
  pub prepared_belong : (budget : ℕ) (f : Polynomial Symbol) → AllBelong f → HasCome (λ x. Belong x.terms) (setting_of r) s (preparation (setting_of r) s budget f)
  prepared_belong budget f of_f = walked (λ x. Belong x.terms) (setting_of r) s turn_belongs budget f (record { products = all_nonzero (λ t. Derives t.0) (([], f) ∷ []) (tt, tt); coefficients = all_nonzero (λ t. AllBelong t.1) (([], f) ∷ []) (of_f, tt) })
