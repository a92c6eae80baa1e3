-- A turn keeps the identity of values in every ring.
use Rattle.std.proofs.Common.{◌≡◌, ◌∙◌, ◌++◌, Bool, true, false, cond, List, [], ◌∷◌, map, pos, refl, sym, ap, ap₂, Ok}
use Rattle.std.specs.declared.cmp.Ordering.{Ordering}
use Rattle.std.specs.declared.cmp.Ordering.TheVariants.{Less, Equal, Greater}
use Rattle.std.specs.Ordering.{match_ordering}
use Rattle.dz_algebra.specs.Monomial.{with_power}
use Rattle.dz_algebra.specs.Polynomial.{Polynomial}
use Rattle.dz_algebra.specs.Ring.{Ring, sum_swaps, product_swaps, sum_times, product_zero, zero_product}
use Rattle.dz_algebra.specs.Size.{product_answer, sum_answer}
use Rattle.dz_algebra.specs.Value.{monomial_value}
use Rattle.dz_algebra.proofs.Values.{with_power_value}
use Rattle.dz_rank.specs.Rankings.{RankingValue}
use Rattle.dz_rank.specs.declared.symbols.Symbol.{Symbol}
use Rattle.dz_monomials.specs.Ranked.{symbols_under}
use Rattle.dz_monomials.proofs.SymbolLaws.{ranking_order}
use Rattle.dz_algebra.specs.Outcome.{◌>>=◌}
use Rattle.dz_diff.specs.Tests.{is_zero, same}
use Rattle.dz_algebra.proofs.Outcomes.{bind_ok, ok_same}
use Rattle.dz_diff.proofs.SameTests.{same_is}
use Rattle.dz_step.specs.declared.Step.{Step}
use Rattle.dz_ask.specs.Preparation.{Term, product_of, sum_of}
use Rattle.dz_ask.specs.Products.{Product, product_cmp, step_cmp, turned_round}
use Rattle.dz_ask.specs.Turns.{multiplied, added, nonzero_terms, with_factor}
use Rattle.dz_ask.proofs.RingValues.{val, value_product, value_sum, of_number_one}
use Rattle.dz_ask.proofs.StepOrder.{step_order, product_order, turned_order}

module _ {R : Type 0} (ring : Ring R) (r : RankingValue) (at : Symbol → R) (base : Step → R) where
  -- the value of a polynomial
  abbrev v : Polynomial Symbol → R
  v = val ring r at

  -- the value of a product
  abbrev P : Product → R
  P m = monomial_value ring.arithmetic base m

  -- the value of terms
  abbrev pub total : List Term → R
  total ts = sum_of ring.arithmetic v base ts

  -- of two lists
  pub total-append : (ts us : List Term) → total (ts ++ us) ≡ ring.sum (total ts) (total us)
  total-append [] us = sym (ring.zero_is_neutral _)
  total-append (t ∷ ts) us = ap (ring.sum _) (total-append ts us) ∙ sym (ring.sum_associates _ _ _)

  -- of terms times a
  pub total_multiplied : (a : Polynomial Symbol) (ts us : List Term) → multiplied (symbols_under r) a ts ≡ Ok us → total us ≡ ring.product (v a) (total ts)
  total_multiplied a [] us e = let h : [] ≡ us = ok_same [] us e in ap total (sym h) ∙ sym (product_zero ring (v a))
  total_multiplied a (t ∷ ts) us e =
      let c = bind_ok (product_answer (symbols_under r) a t.1) _ us e in
      let more = bind_ok (multiplied (symbols_under r) a ts) _ us c.2 in
      let h : (t.0, c.0) ∷ more.0 ≡ us = ok_same ((t.0, c.0) ∷ more.0) us more.2 in
      ap total (sym h)
      ∙ ap₂ ring.sum (ap (λ x. ring.product x (P t.0)) (value_product ring r at a t.1 c.0 c.1) ∙ ring.product_associates _ _ _) (total_multiplied a ts more.0 more.1)
      ∙ sym (ring.product_distributes _ _ _)

  -- what is added at a product
  new_sum : (m : Product) (c x : Polynomial Symbol) → sum_answer (symbols_under r) [] c ≡ Ok x → ring.product (v x) (P m) ≡ ring.product (v c) (P m)
  new_sum m c x e = ap (λ y. ring.product y (P m)) (value_sum ring r at [] c x e ∙ ring.zero_is_neutral _)

  pub total_added : (m : Product) (c : Polynomial Symbol) (ts us : List Term) → added (symbols_under r) m c ts ≡ Ok us → total us ≡ ring.sum (ring.product (v c) (P m)) (total ts)
  total_added m c [] us e =
      let x = bind_ok (sum_answer (symbols_under r) [] c) _ us e in
      let h : (m, x.0) ∷ [] ≡ us = ok_same ((m, x.0) ∷ []) us x.2 in
      ap total (sym h) ∙ ap (λ y. ring.sum y ring.zero) (new_sum m c x.0 x.1)
  total_added m c (t ∷ ts) us e = by_order (λ us e. total_added m c ts us e) (product_cmp m t.0) refl e
    where
      by_order : ((us : List Term) → added (symbols_under r) m c ts ≡ Ok us → total us ≡ ring.sum (ring.product (v c) (P m)) (total ts)) → (o : Ordering) → product_cmp m t.0 ≡ o
          → match_ordering o (sum_answer (symbols_under r) [] c >>= (λ x. Ok ((m, x) ∷ t ∷ ts))) (sum_answer (symbols_under r) t.1 c >>= (λ x. Ok ((t.0, x) ∷ ts))) (added (symbols_under r) m c ts >>= (λ us. Ok (t ∷ us))) ≡ Ok us
          → total us ≡ ring.sum (ring.product (v c) (P m)) (total (t ∷ ts))
      by_order rest Less o e =
          let x = bind_ok (sum_answer (symbols_under r) [] c) _ us e in
          let h : (m, x.0) ∷ t ∷ ts ≡ us = ok_same ((m, x.0) ∷ t ∷ ts) us x.2 in
          ap total (sym h) ∙ ap (λ y. ring.sum y (total (t ∷ ts))) (new_sum m c x.0 x.1)
      by_order rest Equal o e =
          let x = bind_ok (sum_answer (symbols_under r) t.1 c) _ us e in
          let h : (t.0, x.0) ∷ ts ≡ us = ok_same ((t.0, x.0) ∷ ts) us x.2 in
          let here : m ≡ t.0 = product_order.same m t.0 o in
          ap total (sym h)
          ∙ ap (λ y. ring.sum y (total ts)) (ap (λ y. ring.product y (P t.0)) (value_sum ring r at t.1 c x.0 x.1 ∙ ring.sum_commutes _ _) ∙ sum_times ring _ _ _ ∙ ap (λ n. ring.sum (ring.product (v c) (P n)) (ring.product (v t.1) (P t.0))) (sym here))
          ∙ ring.sum_associates _ _ _
      by_order rest Greater o e =
          let more = bind_ok (added (symbols_under r) m c ts) _ us e in
          let h : t ∷ more.0 ≡ us = ok_same (t ∷ more.0) us more.2 in
          ap total (sym h) ∙ ap (ring.sum _) (rest more.0 more.1) ∙ sum_swaps ring _ _ _

  -- without the coefficients that are zero
  pub total_nonzero : (ts : List Term) → total (nonzero_terms ts) ≡ total ts
  total_nonzero [] = refl
  total_nonzero (t ∷ ts) = by_zero t.1 (total_nonzero ts)
    where
      by_zero : (c : Polynomial Symbol) → total (nonzero_terms ts) ≡ total ts → total (cond (is_zero c) (nonzero_terms ts) ((t.0, c) ∷ nonzero_terms ts)) ≡ ring.sum (ring.product (v c) (P t.0)) (total ts)
      by_zero [] h = h ∙ sym (ap (λ x. ring.sum x (total ts)) (zero_product ring (P t.0)) ∙ ring.zero_is_neutral _)
      by_zero (u ∷ c) h = ap (ring.sum _) h

  -- ---- factors
  -- the value of a product
  abbrev pub multiplier : List (Polynomial Symbol) → R
  multiplier fs = product_of ring.arithmetic (map v fs)

  -- one more factor multiplies the value
  multiplier-append : (fs : List (Polynomial Symbol)) (a : Polynomial Symbol) → multiplier (fs ++ a ∷ []) ≡ ring.product (v a) (multiplier fs)
  multiplier-append [] a = refl
  multiplier-append (b ∷ bs) a = ap (ring.product (v b)) (multiplier-append bs a) ∙ product_swaps ring _ _ _

  pub multiplier_with : (a : Polynomial Symbol) (fs : List (Polynomial Symbol)) → multiplier (with_factor (symbols_under r) a fs) ≡ ring.product (v a) (multiplier fs)
  multiplier_with a fs = by_test (same (symbols_under r) a (([], pos 1) ∷ [])) refl
    where
      by_test : (b : Bool) → same (symbols_under r) a (([], pos 1) ∷ []) ≡ b → multiplier (cond b fs (fs ++ a ∷ [])) ≡ ring.product (v a) (multiplier fs)
      by_test true e = sym (ap (λ x. ring.product (v x) (multiplier fs)) (same_is (symbols_under r) (ranking_order r) a (([], pos 1) ∷ []) e) ∙ ap (λ x. ring.product x (multiplier fs)) (of_number_one ring r at) ∙ ring.one_is_neutral _)
      by_test false e = multiplier-append fs a

  -- a product with one more factor
  pub product_raised : (s : Step) (m : Product) → P (with_power (turned_round step_cmp) s 1 m) ≡ ring.product (base s) (P m)
  product_raised s m =
      with_power_value ring (turned_round step_cmp) (turned_order step_order).same base s 1 m
      ∙ ap (λ x. ring.product x (P m)) (ring.product_commutes _ _ ∙ ring.one_is_neutral _)

  -- ---- a turn
  -- the sums before and after it: a is the factor, c the coefficient, m its product, x the rest, s the shift and d the derivative
  pub turned : (a b c m h x s d : R) → ring.product a c ≡ ring.sum x (ring.product s d)
      → ring.product a (ring.sum b (ring.sum (ring.product c m) h)) ≡ ring.sum (ring.product s (ring.product d m)) (ring.sum (ring.product a b) (ring.sum (ring.product x m) (ring.product a h)))
  turned a b c m h x s d e =
      ring.product_distributes a b _
      ∙ ap (ring.sum (ring.product a b)) (ring.product_distributes a _ h ∙ ap (λ y. ring.sum y (ring.product a h)) (sym (ring.product_associates a c m) ∙ ap (λ y. ring.product y m) e ∙ sum_times ring x (ring.product s d) m ∙ ap (ring.sum (ring.product x m)) (ring.product_associates s d m)))
      ∙ simp (ring.sum_associates, ring.sum_commutes, sum_swaps ring)
