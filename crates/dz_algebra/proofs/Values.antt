-- The value of a polynomial: that of contributions collected, of a sum and of a product.
use Rattle.std.proofs.Common.{◌≡◌, ℕ, zero, suc, ◌+◌, ◌-◌, ◌*◌, Bool, true, false, cond, List, [], ◌∷◌, ◌++◌, ℤ, pos, negsuc, ◌+ℤ◌, ◌*ℤ◌, neg_ℤ, refl, sym, ap, ap₂, ◌∙◌, arith, ltb, ltb-true, ltb-false}
use Rattle.std.specs.declared.cmp.Ordering.{Ordering}
use Rattle.std.specs.declared.cmp.Ordering.TheVariants.{Less, Equal, Greater}
use lib.IntN.{sub_ℕ}
use Rattle.dz_algebra.specs.Domain.{copies}
use Rattle.dz_algebra.specs.Whole.{whole_is_zero}
use Rattle.dz_algebra.specs.Ring.{Ring, sum_swaps, product_swaps, product_of_products, sum_times, right_neutral, product_zero, zero_product, negative_product, negative_sum, negative_negative, negative_zero}
use Rattle.dz_algebra.specs.Monomial.{Monomial, with_power, monomial_product}
use Rattle.dz_algebra.specs.Polynomial.{Polynomial, keep, add_term, collect, term_times, pairs, negated}
use Rattle.dz_algebra.specs.Value.{whole_in, power, monomial_value, value}
use Rattle.std.specs.Ordering.{match_ordering}

module _ {R : Type 0} (r : Ring R) where
  -- whole numbers in a ring
  pub copies-add : (m n : ℕ) (a : R) → copies r.arithmetic (m + n) a ≡ r.sum (copies r.arithmetic m a) (copies r.arithmetic n a)
  copies-add zero n a = let e : zero + n ≡ n = omega arith in ap (λ k. copies r.arithmetic k a) e ∙ sym (r.zero_is_neutral _)
  copies-add (suc m) n a =
      let e : suc m + n ≡ suc (m + n) = omega arith in
      ap (λ k. copies r.arithmetic k a) e ∙ ap (r.sum a) (copies-add m n a) ∙ sym (r.sum_associates a _ _)

  -- copies of a product
  pub copies_product : (m : ℕ) (a b : R) → copies r.arithmetic m (r.product a b) ≡ r.product (copies r.arithmetic m a) b
  copies_product zero a b = sym (zero_product r b)
  copies_product (suc m) a b = ap (r.sum (r.product a b)) (copies_product m a b) ∙ sym (sum_times r a _ b)

  -- copies of copies
  pub copies-mul : (m n : ℕ) (a : R) → copies r.arithmetic (m * n) a ≡ copies r.arithmetic m (copies r.arithmetic n a)
  copies-mul zero n a = let e : zero * n ≡ zero = omega arith in ap (λ k. copies r.arithmetic k a) e
  copies-mul (suc m) n a =
      let e : suc m * n ≡ n + m * n = omega arith in
      ap (λ k. copies r.arithmetic k a) e ∙ copies-add n (m * n) a ∙ ap (r.sum (copies r.arithmetic n a)) (copies-mul m n a)

  -- the difference of two numbers of copies
  difference : ℕ → ℕ → R
  difference m n = r.sum (copies r.arithmetic m r.one) (r.negative (copies r.arithmetic n r.one))

  -- an element and its negative
  pub plus_minus : (a : R) → r.sum a (r.negative a) ≡ r.zero
  plus_minus a = r.sum_commutes a _ ∙ r.negative_is_inverse a

  whole_in-difference : (k m n : ℕ) (z : ℤ) → z ≡ pos m → k ≡ m + n → whole_in r.arithmetic z ≡ difference k n
  unfolding difference
  whole_in-difference k m n z e f =
      ap (whole_in r.arithmetic) e ∙ sym (right_neutral r _) ∙ ap (r.sum _) (sym (plus_minus (copies r.arithmetic n r.one)))
      ∙ sym (r.sum_associates _ _ _) ∙ ap (λ x. r.sum x (r.negative (copies r.arithmetic n r.one))) (sym (copies-add m n r.one) ∙ ap (λ j. copies r.arithmetic j r.one) (sym f))

  whole_in-difference_below : (k m n : ℕ) (z : ℤ) → z ≡ negsuc m → n ≡ k + suc m → whole_in r.arithmetic z ≡ difference k n
  unfolding difference
  whole_in-difference_below k m n z e f =
      let x = copies r.arithmetic k r.one in
      let y = copies r.arithmetic (suc m) r.one in
      let g : r.negative (copies r.arithmetic n r.one) ≡ r.sum (r.negative x) (r.negative y) = ap r.negative (ap (λ j. copies r.arithmetic j r.one) f ∙ copies-add k (suc m) r.one) ∙ negative_sum r x y in
      ap (whole_in r.arithmetic) e ∙ sym (r.zero_is_neutral _) ∙ ap (λ w. r.sum w (r.negative y)) (sym (plus_minus x)) ∙ r.sum_associates _ _ _ ∙ ap (r.sum x) (sym g)

  sub_by : (b : Bool) (m n : ℕ) → ltb m n ≡ b → whole_in r.arithmetic (cond b (negsuc (n - suc m)) (pos (m - n))) ≡ difference m n
  sub_by true m n e = whole_in-difference_below m (n - suc m) n _ refl (omega (arith, ltb-true m n e))
  sub_by false m n e = whole_in-difference m (m - n) n _ refl (omega (arith, ltb-false m n e))

  whole_in-sub : (m n : ℕ) → whole_in r.arithmetic (sub_ℕ m n) ≡ difference m n
  whole_in-sub m n = sub_by (ltb m n) m n refl

  -- whole numbers add
  pub whole_in-+ℤ : (a b : ℤ) → whole_in r.arithmetic (a +ℤ b) ≡ r.sum (whole_in r.arithmetic a) (whole_in r.arithmetic b)
  unfolding difference
  whole_in-+ℤ (pos a) (pos b) = copies-add a b r.one
  whole_in-+ℤ (pos a) (negsuc b) = whole_in-sub a (suc b)
  whole_in-+ℤ (negsuc a) (pos b) = whole_in-sub b (suc a) ∙ r.sum_commutes _ _
  whole_in-+ℤ (negsuc a) (negsuc b) =
      let e : suc (suc (a + b)) ≡ suc a + suc b = omega arith in
      ap r.negative (ap (λ k. copies r.arithmetic k r.one) e ∙ copies-add (suc a) (suc b) r.one) ∙ negative_sum r _ _

  -- and change their sign
  pub whole_in-neg : (z : ℤ) → whole_in r.arithmetic (neg_ℤ z) ≡ r.negative (whole_in r.arithmetic z)
  whole_in-neg (pos zero) = sym (negative_zero r)
  whole_in-neg (pos (suc n)) = refl
  whole_in-neg (negsuc n) = sym (negative_negative r _)

  product_of_copies : (m n : ℕ) → copies r.arithmetic (m * n) r.one ≡ r.product (copies r.arithmetic m r.one) (copies r.arithmetic n r.one)
  product_of_copies m n = copies-mul m n r.one ∙ ap (copies r.arithmetic m) (sym (r.one_is_neutral _)) ∙ copies_product m r.one _

  product_negative : (a b : R) → r.product a (r.negative b) ≡ r.negative (r.product a b)
  product_negative a b = r.product_commutes a _ ∙ negative_product r b a ∙ ap r.negative (r.product_commutes b a)

  -- and multiply
  pub whole_in-*ℤ : (a b : ℤ) → whole_in r.arithmetic (a *ℤ b) ≡ r.product (whole_in r.arithmetic a) (whole_in r.arithmetic b)
  whole_in-*ℤ (pos a) (pos b) = product_of_copies a b
  whole_in-*ℤ (pos a) (negsuc b) = whole_in-neg (pos (a * suc b)) ∙ ap r.negative (product_of_copies a (suc b)) ∙ sym (product_negative _ _)
  whole_in-*ℤ (negsuc a) (pos b) = whole_in-neg (pos (suc a * b)) ∙ ap r.negative (product_of_copies (suc a) b) ∙ sym (negative_product r _ _)
  whole_in-*ℤ (negsuc a) (negsuc b) = product_of_copies (suc a) (suc b) ∙ sym (negative_product r _ _ ∙ ap r.negative (product_negative _ _) ∙ negative_negative r _)

  whole_in_zero : (c : ℤ) → whole_is_zero c ≡ true → whole_in r.arithmetic c ≡ r.zero
  whole_in_zero (pos zero) e = refl
  whole_in_zero (pos (suc n)) e = cc
  whole_in_zero (negsuc n) e = cc

  -- five factors in another order
  pub moved : (c k y m x : R) → r.product (r.product (r.product c k) (r.product y m)) x ≡ r.product c (r.product (r.product k (r.product y x)) m)
  moved c k y m x = simp (r.product_associates, r.product_commutes, product_swaps r)

  -- powers
  pub power-add : (x : R) (e f : ℕ) → power r.arithmetic x (e + f) ≡ r.product (power r.arithmetic x e) (power r.arithmetic x f)
  power-add x zero f = let g : zero + f ≡ f = omega arith in ap (power r.arithmetic x) g ∙ sym (r.one_is_neutral _)
  power-add x (suc e) f = let g : suc e + f ≡ suc (e + f) = omega arith in ap (power r.arithmetic x) g ∙ ap (r.product x) (power-add x e f) ∙ sym (r.product_associates _ _ _)

  module _ {S : Type 0} (cmp : S → S → Ordering) (same : (s t : S) → cmp s t ≡ Equal → s ≡ t) (at : S → R) where
    -- the value of a monomial times a power
    pub with_power_value : (s : S) (e : ℕ) (m : Monomial S) → monomial_value r.arithmetic at (with_power cmp s e m) ≡ r.product (power r.arithmetic (at s) e) (monomial_value r.arithmetic at m)
    with_power_value s e [] = refl
    with_power_value s e (p ∷ m) =
        elim (cmp s p.0) as (λ o. cmp s p.0 ≡ o → monomial_value r.arithmetic at (match_ordering o (p ∷ with_power cmp s e m) ((p.0, e + p.1) ∷ m) ((s, e) ∷ p ∷ m)) ≡ r.product (power r.arithmetic (at s) e) (monomial_value r.arithmetic at (p ∷ m))) [
          | Less ↦ λ h. ap (r.product _) (with_power_value s e m) ∙ product_swaps r _ _ _
          | Equal ↦ λ h. ap (λ x. r.product x (monomial_value r.arithmetic at m)) (power-add (at p.0) e p.1 ∙ ap (λ t. r.product (power r.arithmetic (at t) e) (power r.arithmetic (at p.0) p.1)) (sym (same s p.0 h))) ∙ r.product_associates _ _ _
          | Greater ↦ λ h. refl
        ] refl

    -- the value of a product of monomials
    pub monomial_product_value : (m n : Monomial S) → monomial_value r.arithmetic at (monomial_product cmp m n) ≡ r.product (monomial_value r.arithmetic at m) (monomial_value r.arithmetic at n)
    monomial_product_value [] n = sym (r.one_is_neutral _)
    monomial_product_value (p ∷ m) n = with_power_value p.0 p.1 (monomial_product cmp m n) ∙ ap (r.product _) (monomial_product_value m n) ∙ sym (r.product_associates _ _ _)

    -- the value of two lists of contributions
    pub value-append : (ts us : List (Monomial S × ℤ)) → value r.arithmetic at (ts ++ us) ≡ r.sum (value r.arithmetic at ts) (value r.arithmetic at us)
    value-append [] us = sym (r.zero_is_neutral _)
    value-append (t ∷ ts) us = ap (r.sum _) (value-append ts us) ∙ sym (r.sum_associates _ _ _)

    -- the value of a term
    pub term : Monomial S → ℤ → R
    term m c = r.product (whole_in r.arithmetic c) (monomial_value r.arithmetic at m)

    keep_value : (m : Monomial S) (c : ℤ) (p : Polynomial S) → value r.arithmetic at (keep m c p) ≡ r.sum (term m c) (value r.arithmetic at p)
    unfolding term
    keep_value m c p =
        elim (whole_is_zero c) as (λ b. whole_is_zero c ≡ b → value r.arithmetic at (cond b p ((m, c) ∷ p)) ≡ r.sum (term m c) (value r.arithmetic at p)) [
          | true ↦ λ h. sym (ap (λ x. r.sum (r.product x (monomial_value r.arithmetic at m)) (value r.arithmetic at p)) (whole_in_zero c h) ∙ ap (λ x. r.sum x (value r.arithmetic at p)) (zero_product r _) ∙ r.zero_is_neutral _)
          | false ↦ λ h. refl
        ] refl

    term-+ℤ : (m : Monomial S) (c d : ℤ) → term m (c +ℤ d) ≡ r.sum (term m c) (term m d)
    unfolding term
    term-+ℤ m c d = ap (λ x. r.product x (monomial_value r.arithmetic at m)) (whole_in-+ℤ c d) ∙ sum_times r _ _ _

    module _ (by : Monomial S → Monomial S → Ordering) (same_monomial : (m n : Monomial S) → by m n ≡ Equal → m ≡ n) where
      add_term_value : (m : Monomial S) (c : ℤ) (p : Polynomial S) → value r.arithmetic at (add_term by m c p) ≡ r.sum (term m c) (value r.arithmetic at p)
      unfolding term
      add_term_value m c [] = keep_value m c []
      add_term_value m c (t ∷ p) =
          elim (by m t.0) as (λ o. by m t.0 ≡ o → value r.arithmetic at (match_ordering o (t ∷ add_term by m c p) (keep m (c +ℤ t.1) p) (keep m c (t ∷ p))) ≡ r.sum (term m c) (value r.arithmetic at (t ∷ p))) [
            | Less ↦ λ h. ap (r.sum _) (add_term_value m c p) ∙ sum_swaps r _ _ _
            | Equal ↦ λ h. keep_value m (c +ℤ t.1) p ∙ ap (λ x. r.sum x (value r.arithmetic at p)) (term-+ℤ m c t.1 ∙ ap (λ n. r.sum (term m c) (term n t.1)) (same_monomial m t.0 h)) ∙ r.sum_associates _ _ _
            | Greater ↦ λ h. keep_value m c (t ∷ p)
          ] refl

      -- contributions have the value of what they make
      pub collect_value : (ts : List (Monomial S × ℤ)) → value r.arithmetic at (collect by ts) ≡ value r.arithmetic at ts
      unfolding term
      collect_value [] = refl
      collect_value (t ∷ ts) = add_term_value t.0 t.1 (collect by ts) ∙ ap (r.sum _) (collect_value ts)

    term_times_value : (m : Monomial S) (c : ℤ) (q : Polynomial S) → value r.arithmetic at (term_times cmp m c q) ≡ r.product (term m c) (value r.arithmetic at q)
    unfolding term
    term_times_value m c [] = sym (product_zero r _)
    term_times_value m c (t ∷ q) =
        ap₂ r.sum (ap₂ r.product (whole_in-*ℤ c t.1) (monomial_product_value m t.0) ∙ product_of_products r _ _ _ _) (term_times_value m c q) ∙ sym (r.product_distributes _ _ _)

    -- the value of a product
    pub pairs_value : (p q : Polynomial S) → value r.arithmetic at (pairs cmp p q) ≡ r.product (value r.arithmetic at p) (value r.arithmetic at q)
    unfolding term
    pairs_value [] q = sym (zero_product r _)
    pairs_value (t ∷ p) q = value-append _ _ ∙ ap₂ r.sum (term_times_value t.0 t.1 q) (pairs_value p q) ∙ sym (sum_times r _ _ _)

    -- the value of the negatives
    pub negated_value : (ts : List (Monomial S × ℤ)) → value r.arithmetic at (negated ts) ≡ r.negative (value r.arithmetic at ts)
    negated_value [] = sym (negative_zero r)
    negated_value (t ∷ ts) =
        ap₂ r.sum (ap (λ x. r.product x (monomial_value r.arithmetic at t.0)) (whole_in-neg t.1) ∙ negative_product r _ _) (negated_value ts)
        ∙ sym (negative_sum r _ _)
