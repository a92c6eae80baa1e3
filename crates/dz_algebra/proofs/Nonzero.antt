-- A sum of terms in independents has value zero only where every coefficient is zero.
use Rattle.std.proofs.Common.{◌≡◌, ◌≢◌, ◌⊎◌, ℕ, zero, suc, ◌+◌, List, [], ◌∷◌, ℤ, pos, negsuc, ◌+ℤ◌, ◌*ℤ◌, neg_ℤ, refl, sym, ap, ap₂, ◌∙◌, arith, inl, inr}
use Rattle.std.specs.Prelude.{⊤}
use Rattle.std.proofs.lemmas.Int.{ints}
use Rattle.std.specs.declared.cmp.Ordering.{Ordering}
use Rattle.std.specs.declared.cmp.Ordering.TheVariants.{Less, Equal, Greater}
use Rattle.std.specs.Cmp.{tied_itself}
use lib.IntN.{ℤ_discrete}
use Rattle.dz_algebra.specs.Domain.{copies}
use Rattle.dz_algebra.specs.Whole.{no_divisors}
use Rattle.dz_algebra.specs.Ring.{Ring, sum_of_sums, product_swaps, sum_times, right_neutral, product_zero, zero_product, negative_zero, negative_negative}
use Rattle.dz_algebra.specs.Monomial.{Monomial, monomial_cmp, IsMonomial, exponent, MonomialIn}
use Rattle.dz_algebra.specs.Polynomial.{Polynomial, IsPolynomial, PolynomialIn}
use Rattle.dz_algebra.specs.Order.{IsOrder, IsAbove}
use Rattle.dz_algebra.specs.Value.{whole_in, power, monomial_value, value}
use Rattle.dz_algebra.proofs.Values.{whole_in-+ℤ, whole_in-*ℤ}
use Rattle.dz_algebra.proofs.Homomorphisms.{identity}
use Rattle.dz_algebra.proofs.DerivativeValues.{derivative_power, derivative_one, derivative_whole, derivative_zero}
use Rattle.dz_algebra.proofs.Orders.{monomial_cmp_total, greater_reversed, greater_trans}
use Rattle.std.specs.Ordering.{match_ordering}

-- the coefficients changed by f
changed : {S : Type 0} → (Monomial S → ℤ → ℤ) → Polynomial S → List (Monomial S × ℤ)
changed f [] = []
changed f (t ∷ p) = (t.0, f t.0 t.1) ∷ changed f p

AllZero : {S : Type 0} → List (Monomial S × ℤ) → Type 0
AllZero [] = ⊤
AllZero (t ∷ p) = (t.1 ≡ pos 0) × AllZero p

module _ {R S : Type 0} (r : Ring R) (cmp : S → S → Ordering) (order : IsOrder cmp) (at : S → R)
    (one_not_zero : r.one ≢ r.zero)
    (divisors : (a b : R) → r.product a b ≡ r.zero → (a ≡ r.zero) ⊎ (b ≡ r.zero))
    (characteristic : (m : ℕ) → copies r.arithmetic (suc m) r.one ≢ r.zero)
    (P : S → Type 0)
    (d : (s : S) → P s → R → R)
    (additive : (s : S) (h : P s) (a b : R) → d s h (r.sum a b) ≡ r.sum (d s h a) (d s h b))
    (leibniz : (s : S) (h : P s) (a b : R) → d s h (r.product a b) ≡ r.sum (r.product (d s h a) b) (r.product a (d s h b)))
    (rates : (s : S) (h : P s) (t : S) → P t → d s h (at t) ≡ match_ordering (cmp s t) r.zero r.one r.zero) where
  abbrev w : ℤ → R
  w c = whole_in r.arithmetic c

  euler_power : (s t : S) (h : P s) (g : P t) (e : ℕ) → r.product (at s) (d s h (power r.arithmetic (at t) e)) ≡ r.product (whole_in r.arithmetic (pos (match_ordering (cmp s t) 0 e 0))) (power r.arithmetic (at t) e)
  euler_power s t h g zero = ap (r.product (at s)) (derivative_one r r (λ x. x) (identity r) (d s h) (additive s h) (leibniz s h)) ∙ product_zero r _ ∙ sym (ap (λ k. r.product (whole_in r.arithmetic (pos k)) r.one) (nothing (cmp s t)) ∙ zero_product r _)
    where
      nothing : (o : Ordering) → ◌≡◌ {A = ℕ} (match_ordering o 0 0 0) 0
      nothing Less = refl
      nothing Equal = refl
      nothing Greater = refl
  euler_power s t h g (suc e) = by_order (cmp s t) refl
    where
      x : R
      x = at t

      k : R
      k = whole_in r.arithmetic (pos (suc e))

      is_power : d s h (power r.arithmetic (at t) (suc e)) ≡ r.product (whole_in r.arithmetic (pos (suc e))) (r.product (power r.arithmetic (at t) e) (d s h (at t)))
      is_power = derivative_power r r (λ x. x) (identity r) (d s h) (additive s h) (leibniz s h) (at t) e

      none : d s h (at t) ≡ r.zero → r.product (at s) (d s h (power r.arithmetic (at t) (suc e))) ≡ r.product r.zero (power r.arithmetic (at t) (suc e))
      none f = ap (r.product (at s)) (is_power ∙ ap (r.product (whole_in r.arithmetic (pos (suc e)))) (ap (r.product (power r.arithmetic (at t) e)) f ∙ product_zero r _) ∙ product_zero r _) ∙ product_zero r _ ∙ sym (zero_product r _)

      by_order : (o : Ordering) → cmp s t ≡ o → r.product (at s) (d s h (power r.arithmetic (at t) (suc e))) ≡ r.product (whole_in r.arithmetic (pos (match_ordering o 0 (suc e) 0))) (power r.arithmetic (at t) (suc e))
      by_order Less f = none (rates s h t g ∙ ap (λ o. match_ordering o r.zero r.one r.zero) f)
      by_order Greater f = none (rates s h t g ∙ ap (λ o. match_ordering o r.zero r.one r.zero) f)
      by_order Equal f =
          let y = power r.arithmetic (at t) e in
          let k' = whole_in r.arithmetic (pos (suc e)) in
          ap₂ r.product (ap at (order.same s t f)) (is_power ∙ ap (r.product k') (ap (r.product y) (rates s h t g ∙ ap (λ o. match_ordering o r.zero r.one r.zero) f) ∙ r.product_commutes y r.one ∙ r.one_is_neutral y))
          ∙ product_swaps r _ _ _

  split : (o : Ordering) (e n : ℕ) → match_ordering o n (e + n) n ≡ match_ordering o 0 e 0 + n
  split Less e n = omega arith
  split Equal e n = refl
  split Greater e n = omega arith

  euler_monomial : (s : S) (h : P s) (m : Monomial S) → MonomialIn P m → r.product (at s) (d s h (monomial_value r.arithmetic at m)) ≡ r.product (whole_in r.arithmetic (pos (exponent cmp s m))) (monomial_value r.arithmetic at m)
  euler_monomial s h [] g = ap (r.product (at s)) (derivative_one r r (λ x. x) (identity r) (d s h) (additive s h) (leibniz s h)) ∙ product_zero r _ ∙ sym (zero_product r _)
  euler_monomial s h (p ∷ m) g =
      let x = power r.arithmetic (at p.0) p.1 in
      let y = monomial_value r.arithmetic at m in
      let k = match_ordering (cmp s p.0) 0 p.1 0 in
      let n = exponent cmp s m in
      ap (r.product (at s)) (leibniz s h x y) ∙ r.product_distributes _ _ _
      ∙ ap₂ r.sum (sym (r.product_associates _ _ _) ∙ ap (λ u. r.product u y) (euler_power s p.0 h g.0 p.1) ∙ r.product_associates _ _ _)
      (product_swaps r _ _ _ ∙ ap (r.product x) (euler_monomial s h m g.1) ∙ product_swaps r _ _ _)
      ∙ sym (sum_times r (w (pos k)) (w (pos n)) (r.product x y)) ∙ ap (λ u. r.product u (r.product x y)) (sym (whole_in-+ℤ r (pos k) (pos n)) ∙ ap (λ j. w (pos j)) (sym (split (cmp s p.0) p.1 n)))

  -- the coefficient times the exponent of s less k
  weighed : S → ℕ → Monomial S → ℤ → ℤ
  weighed s k m c = c *ℤ (pos (exponent cmp s m) +ℤ neg_ℤ (pos k))

  euler_term : (s : S) (h : P s) (k : ℕ) (m : Monomial S) (c : ℤ) → MonomialIn P m
      → r.product (w (weighed s k m c)) (monomial_value r.arithmetic at m)
      ≡ r.sum (r.product (at s) (d s h (r.product (w c) (monomial_value r.arithmetic at m)))) (r.product (w (neg_ℤ (pos k))) (r.product (w c) (monomial_value r.arithmetic at m)))
  unfolding weighed
  euler_term s h k m c g =
      let y = monomial_value r.arithmetic at m in
      let a = w c in
      let n = w (pos (exponent cmp s m)) in
      let j = w (neg_ℤ (pos k)) in
      let rate : d s h (r.product a y) ≡ r.product a (d s h y) =
      leibniz s h a y ∙ ap (λ u. r.sum u (r.product a (d s h y))) (ap (λ u. r.product u y) (derivative_whole r r (λ x. x) (identity r) (d s h) (additive s h) (leibniz s h) c) ∙ zero_product r y) ∙ r.zero_is_neutral _ in
      let moved : r.product (at s) (d s h (r.product a y)) ≡ r.product a (r.product n y) = ap (r.product (at s)) rate ∙ product_swaps r _ _ _ ∙ ap (r.product a) (euler_monomial s h m g) in
      ap (λ u. r.product u y) (whole_in-*ℤ r c (pos (exponent cmp s m) +ℤ neg_ℤ (pos k)) ∙ ap (r.product a) (whole_in-+ℤ r (pos (exponent cmp s m)) (neg_ℤ (pos k))))
      ∙ r.product_associates _ _ _ ∙ ap (r.product a) (sum_times r n j y) ∙ r.product_distributes a (r.product n y) (r.product j y) ∙ ap₂ r.sum (sym moved) (product_swaps r _ _ _)

  value_of : List (Monomial S × ℤ) → R
  value_of ts = value r.arithmetic at ts

  euler_value : (s : S) (h : P s) (k : ℕ) (f : Monomial S → ℤ → ℤ) (p : Polynomial S) → PolynomialIn P p
      → value_of (changed (λ m c. weighed s k m (f m c)) p) ≡ r.sum (r.product (at s) (d s h (value_of (changed f p)))) (r.product (w (neg_ℤ (pos k))) (value_of (changed f p)))
  unfolding value_of changed
  euler_value s h k f [] g =
      sym (ap₂ r.sum (ap (r.product (at s)) (derivative_zero r r (λ x. x) (identity r) (d s h) (additive s h) (leibniz s h)) ∙ product_zero r _) (product_zero r _) ∙ r.zero_is_neutral _)
  euler_value s h k f (t ∷ p) g =
      let x = r.product (w (f t.0 t.1)) (monomial_value r.arithmetic at t.0) in
      let y = value r.arithmetic at (changed f p) in
      let j = w (neg_ℤ (pos k)) in
      ap₂ r.sum (euler_term s h k t.0 (f t.0 t.1) g.0) (euler_value s h k f p g.1)
      ∙ sum_of_sums r _ _ _ _
      ∙ ap₂ r.sum (sym (r.product_distributes (at s) (d s h x) (d s h y)) ∙ ap (r.product (at s)) (sym (additive s h x y))) (sym (r.product_distributes j x y))

  -- ---- nonzero values
  tied : (s : S) → cmp s s ≡ Equal
  tied s = tied_itself order.total s

  symbol_not_zero : (s : S) → P s → at s ≢ r.zero
  symbol_not_zero s h e =
      one_not_zero (sym (rates s h s h ∙ ap (λ o. match_ordering o r.zero r.one r.zero) (tied s)) ∙ ap (d s h) e ∙ derivative_zero r r (λ x. x) (identity r) (d s h) (additive s h) (leibniz s h))

  power_not_zero : (s : S) → P s → (e : ℕ) → power r.arithmetic (at s) e ≢ r.zero
  power_not_zero s h zero f = one_not_zero f
  power_not_zero s h (suc e) f = elim (divisors (at s) (power r.arithmetic (at s) e) f) [ inl a ↦ symbol_not_zero s h a | inr b ↦ power_not_zero s h e b ]

  monomial_not_zero : (m : Monomial S) → MonomialIn P m → monomial_value r.arithmetic at m ≢ r.zero
  monomial_not_zero [] g f = one_not_zero f
  monomial_not_zero (p ∷ m) g f = elim (divisors (power r.arithmetic (at p.0) p.1) (monomial_value r.arithmetic at m) f) [ inl a ↦ power_not_zero p.0 g.0 p.1 a | inr b ↦ monomial_not_zero m g.1 b ]

  whole_zero : (c : ℤ) → whole_in r.arithmetic c ≡ r.zero → c ≡ pos 0
  whole_zero (pos zero) e = refl
  whole_zero (pos (suc n)) e = absurd (characteristic n e)
  whole_zero (negsuc n) e = absurd (characteristic n (sym (negative_negative r _) ∙ ap r.negative e ∙ negative_zero r))

  -- ---- the induction
  IsApart : Monomial S → Polynomial S → Type 0
  IsApart m [] = ⊤
  IsApart m (t ∷ p) = (((s : S) → P s → exponent cmp s t.0 ≡ exponent cmp s m) → ⊥) × IsApart m p

  AreDistinct : Polynomial S → Type 0
  AreDistinct [] = ⊤
  AreDistinct (t ∷ p) = IsApart t.0 p × AreDistinct p

  same_exponent : (a b : ℕ) → pos a +ℤ neg_ℤ (pos b) ≡ pos 0 → a ≡ b
  same_exponent a b e = omega (arith, ints)

  combined : (m : Monomial S) (f : Monomial S → ℤ → ℤ) (p : Polynomial S) → IsApart m p
      → ((s : S) → P s → AllZero (changed (λ n c. weighed s (exponent cmp s m) n (f n c)) p)) → AllZero (changed f p)
  unfolding IsApart changed AllZero weighed
  combined m f [] a e = tt
  combined m f (t ∷ p) a e = (here, combined m f p a.1 (λ s h. (e s h).1))
    where
      here : f t.0 t.1 ≡ pos 0
      here = elim (ℤ_discrete (f t.0 t.1) (pos 0)) [
        | yes g ↦ g
        | no g ↦ absurd (a.0 (λ s h. elim (no_divisors (f t.0 t.1) (pos (exponent cmp s t.0) +ℤ neg_ℤ (pos (exponent cmp s m))) (e s h).0) [ inl k ↦ absurd (g k) | inr k ↦ same_exponent _ _ k ]))
      ]

  value_of_zeros : (p : List (Monomial S × ℤ)) → AllZero p → value_of p ≡ r.zero
  unfolding AllZero value_of
  value_of_zeros [] a = refl
  value_of_zeros (t ∷ p) a = ap₂ r.sum (ap (λ c. r.product (whole_in r.arithmetic c) (monomial_value r.arithmetic at t.0)) a.0 ∙ zero_product r _) (value_of_zeros p a.1) ∙ r.zero_is_neutral _

  weighed_out : (s : S) (m : Monomial S) (c : ℤ) → weighed s (exponent cmp s m) m c ≡ pos 0
  unfolding weighed
  weighed_out s m c = let e : pos (exponent cmp s m) +ℤ neg_ℤ (pos (exponent cmp s m)) ≡ pos 0 = omega (arith, ints) in ap (λ k. c *ℤ k) e ∙ omega (arith, ints)

  zero_term : (c : ℤ) (x : R) → c ≡ pos 0 → r.product (whole_in r.arithmetic c) x ≡ r.zero
  zero_term c x e = ap (λ k. r.product (whole_in r.arithmetic k) x) e ∙ zero_product r x

  step : (t : Monomial S × ℤ) (p : Polynomial S) → PolynomialIn P (t ∷ p) → IsApart t.0 p → (f : Monomial S → ℤ → ℤ) → value_of (changed f (t ∷ p)) ≡ r.zero
      → ((f' : Monomial S → ℤ → ℤ) → value_of (changed f' p) ≡ r.zero → AllZero (changed f' p)) → (f t.0 t.1 ≡ pos 0) × AllZero (changed f p)
  unfolding changed value_of
  step t p g a f e ih = (first, rest)
    where
      f' : (s : S) → Monomial S → ℤ → ℤ
      f' s m c = weighed s (exponent cmp s t.0) m (f m c)

      weighed_zero : (s : S) (h : P s) → value_of (changed (λ m c. weighed s (exponent cmp s t.0) m (f m c)) (t ∷ p)) ≡ r.zero
      weighed_zero s h =
          euler_value s h (exponent cmp s t.0) f (t ∷ p) g
          ∙ ap₂ r.sum (ap (λ x. r.product (at s) (d s h x)) e ∙ ap (r.product (at s)) (derivative_zero r r (λ x. x) (identity r) (d s h) (additive s h) (leibniz s h)) ∙ product_zero r _) (ap (r.product (whole_in r.arithmetic (neg_ℤ (pos (exponent cmp s t.0))))) e ∙ product_zero r _) ∙ r.zero_is_neutral _

      rest_zero : (s : S) (h : P s) → value_of (changed (λ m c. weighed s (exponent cmp s t.0) m (f m c)) p) ≡ r.zero
      rest_zero s h =
          sym (r.zero_is_neutral _)
          ∙ ap (λ x. r.sum x (value_of (changed (λ m c. weighed s (exponent cmp s t.0) m (f m c)) p))) (sym (zero_term (weighed s (exponent cmp s t.0) t.0 (f t.0 t.1)) (monomial_value r.arithmetic at t.0) (weighed_out s t.0 (f t.0 t.1))))
          ∙ weighed_zero s h

      rest : AllZero (changed f p)
      rest = combined t.0 f p a (λ s h. ih (λ m c. weighed s (exponent cmp s t.0) m (f m c)) (rest_zero s h))

      head_zero : r.product (whole_in r.arithmetic (f t.0 t.1)) (monomial_value r.arithmetic at t.0) ≡ r.zero
      head_zero = sym (right_neutral r _) ∙ ap (r.sum (r.product (whole_in r.arithmetic (f t.0 t.1)) (monomial_value r.arithmetic at t.0))) (sym (value_of_zeros (changed f p) rest)) ∙ e

      first : f t.0 t.1 ≡ pos 0
      first = elim (divisors (whole_in r.arithmetic (f t.0 t.1)) (monomial_value r.arithmetic at t.0) head_zero) [ inl a ↦ whole_zero _ a | inr b ↦ absurd (monomial_not_zero t.0 g.0 b) ]

  all_zero : (p : Polynomial S) → PolynomialIn P p → AreDistinct p → (f : Monomial S → ℤ → ℤ) → value_of (changed f p) ≡ r.zero → AllZero (changed f p)
  unfolding AllZero changed AreDistinct
  all_zero [] g a f e = tt
  all_zero (t ∷ p) g a f e = step t p g a.0 f e (λ f' e'. all_zero p g.1 a.1 f' e')

  -- ---- the monomials of a polynomial differ in some exponent
  exponent_below : (s : S) (m : Monomial S) → IsAbove cmp s m → exponent cmp s m ≡ 0
  exponent_below s [] a = refl
  exponent_below s (p ∷ m) a = ap (λ o. match_ordering o (exponent cmp s m) (p.1 + exponent cmp s m) (exponent cmp s m)) a.0 ∙ exponent_below s m a.1

  above_more : (s t : S) (m : Monomial S) → cmp s t ≡ Greater → IsAbove cmp t m → IsAbove cmp s m
  above_more s t [] h a = tt
  above_more s t (p ∷ m) h a = (greater_trans order.total s t p.0 h a.0, above_more s t m h a.1)

  exponent_at : (s : S) (p : S × ℕ) (m : Monomial S) → cmp s p.0 ≡ Equal → exponent cmp s (p ∷ m) ≡ p.1 + exponent cmp s m
  exponent_at s p m e = ap (λ o. match_ordering o (exponent cmp s m) (p.1 + exponent cmp s m) (exponent cmp s m)) e

  same_exponents : (m n : Monomial S) → IsMonomial cmp m → IsMonomial cmp n → MonomialIn P m → MonomialIn P n → ((s : S) → P s → exponent cmp s m ≡ exponent cmp s n) → m ≡ n
  same_exponents [] [] a b g h e = refl
  same_exponents [] (q ∷ n) a b g h e = absurd (omega (arith, b.0, e q.0 h.0, exponent_at q.0 q n (tied q.0)))
  same_exponents (p ∷ m) [] a b g h e = absurd (omega (arith, a.0, e p.0 g.0, exponent_at p.0 p m (tied p.0)))
  same_exponents (p ∷ m) (q ∷ n) a b g h e = by_order (cmp p.0 q.0) refl (same_exponents m n a.2 b.2 g.1 h.1)
    where
      at_p : exponent cmp p.0 (p ∷ m) ≡ p.1
      at_p = let z : exponent cmp p.0 m ≡ 0 = exponent_below p.0 m a.1 in omega (arith, exponent_at p.0 p m (tied p.0), z)

      at_q : exponent cmp q.0 (q ∷ n) ≡ q.1
      at_q = let z : exponent cmp q.0 n ≡ 0 = exponent_below q.0 n b.1 in omega (arith, exponent_at q.0 q n (tied q.0), z)

      by_order : (o : Ordering) → cmp p.0 q.0 ≡ o → (((s : S) → P s → exponent cmp s m ≡ exponent cmp s n) → m ≡ n) → ◌≡◌ {A = Monomial S} (p ∷ m) (q ∷ n)
      by_order Greater f ih = absurd (omega (arith, a.0, at_p, e p.0 g.0, exponent_below p.0 (q ∷ n) (f, above_more p.0 q.0 n f b.1)))
      by_order Less f ih =
          let f' : cmp q.0 p.0 ≡ Greater = greater_reversed order.total p.0 q.0 f in
          absurd (omega (arith, b.0, at_q, e q.0 h.0, exponent_below q.0 (p ∷ m) (f', above_more q.0 p.0 m f' a.1)))
      by_order Equal f ih =
          let t : p.0 ≡ q.0 = order.same p.0 q.0 f in
          let k : p.1 ≡ q.1 = sym at_p ∙ e p.0 g.0 ∙ ap (λ s. exponent cmp s (q ∷ n)) t ∙ at_q in
          ap₂ (λ (u : S) (v : ℕ). (u, v) ∷ m) t k ∙ ap (λ l. q ∷ l) (ih (λ s i. same_rest (cmp s p.0) (cmp s q.0) p.1 q.1 (exponent cmp s m) (exponent cmp s n) (ap (cmp s) t) k (e s i)))
        where
          same_rest : (o u : Ordering) (j k x y : ℕ) → o ≡ u → j ≡ k → match_ordering o x (j + x) x ≡ match_ordering u y (k + y) y → x ≡ y
          same_rest o u j k x y f g e = more o j x y (e ∙ ap₂ (λ v i. match_ordering v y (i + y) y) (sym f) (sym g))
            where
              more : (o : Ordering) (j x y : ℕ) → match_ordering o x (j + x) x ≡ match_ordering o y (j + y) y → x ≡ y
              more Less j x y e = e
              more Equal j x y e = omega arith
              more Greater j x y e = e

  monomial_tied : (m : Monomial S) → monomial_cmp cmp m m ≡ Equal
  monomial_tied m = tied_itself (monomial_cmp_total order) m

  above_apart : (m : Monomial S) (p : Polynomial S) → IsMonomial cmp m → MonomialIn P m → IsAbove (monomial_cmp cmp) m p → IsPolynomial cmp p → PolynomialIn P p → IsApart m p
  unfolding IsApart
  above_apart m [] a g b c h = tt
  above_apart m (t ∷ p) a g b c h =
      (λ e. let f : t.0 ≡ m = same_exponents t.0 m c.1 a h.0 g e in different (monomial_cmp cmp m t.0) b.0 (ap (monomial_cmp cmp m) f ∙ monomial_tied m), above_apart m p a g b.1 c.3 h.1)
    where
      different : (o : Ordering) → o ≡ Greater → o ≡ Equal → ⊥
      different o e f = cc

  distinct : (p : Polynomial S) → IsPolynomial cmp p → PolynomialIn P p → AreDistinct p
  unfolding AreDistinct
  distinct [] c h = tt
  distinct (t ∷ p) c h = (above_apart t.0 p c.1 h.0 c.2 c.3 h.1, distinct p c.3 h.1)

  unchanged : (p : Polynomial S) → changed (λ m c. c) p ≡ p
  unfolding changed
  unchanged [] = refl
  unchanged (t ∷ p) = ap (λ q. t ∷ q) (unchanged p)

  -- a nonzero polynomial in independents has a nonzero value
  pub ground_not_zero : (p : Polynomial S) → IsPolynomial cmp p → PolynomialIn P p → p ≢ [] → value r.arithmetic at p ≢ r.zero
  unfolding AllZero changed value_of
  ground_not_zero [] c h n e = n refl
  ground_not_zero (t ∷ p) c h n e = c.0 (all_zero (t ∷ p) h (distinct (t ∷ p) c h) (λ m c. c) (ap (value r.arithmetic at) (unchanged (t ∷ p)) ∙ e)).0
