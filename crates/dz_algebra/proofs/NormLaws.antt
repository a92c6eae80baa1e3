-- The norm of a polynomial is one, is its own norm, and is that of every nonzero multiple.
use Rattle.std.proofs.Common.{inl, inr, ◌⊎◌, ◌+ℤ◌, ◌≡◌, ◌≢◌, ◌<◌, ◌+◌, ◌*◌, ℕ, zero, suc, false, cond, List, [], ◌∷◌, ℤ, pos, negsuc, ◌*ℤ◌, neg_ℤ, refl, sym, ap, ap₂, ◌∙◌, arith, subst, int_div, unsigned_abs, int_lt}
use Rattle.std.proofs.lemmas.Bool.Decides.{nat_tests}
use Rattle.std.proofs.lemmas.Int.{ints, unsigned_abs-mul}
use Rattle.std.proofs.Math.Nat.{dvd-mul_right}
use Rattle.std.specs.declared.cmp.Ordering.{Ordering}
use Rattle.dz_algebra.specs.Whole.{whole_ring, no_divisors, *ℤ-+ℤ}
use Rattle.dz_algebra.specs.Ring.{product_zero, negative_product}
use Rattle.dz_algebra.specs.Order.{IsAbove}
use Rattle.dz_algebra.specs.Monomial.{Monomial, monomial_cmp}
use Rattle.dz_algebra.specs.Polynomial.{Polynomial, IsPolynomial, scaled}
use Rattle.dz_algebra.specs.Norm.{gcd, content, divided, signed_content, norm}
use Rattle.dz_algebra.proofs.Divisors.{gcd_multiple}
use Rattle.dz_algebra.proofs.Norms.{content_positive, signed_content_size, signed_content_nonzero, scaled_norm, exact, content_divides}
use Prim.Native.Nat.{◌∣◌}

-- ---- multiples
one_divides : (n : ℕ) → 1 ∣ n
one_divides n = subst (λ k. 1 ∣ k) (one_times n) (dvd-mul_right 1 n)
  where
    one_times : (n : ℕ) → 1 * n ≡ n
    one_times n = omega arith

module _ {M : Type 0} where
  -- the content of a multiple
  pub content_scaled : (k : ℤ) → 0 < unsigned_abs k → (p : List (M × ℤ)) → content (scaled k p) ≡ unsigned_abs k * content p
  content_scaled k h [] = omega arith
  content_scaled k h (t ∷ p) = ap₂ gcd (unsigned_abs-mul k t.1) (content_scaled k h p) ∙ gcd_multiple (unsigned_abs k) (unsigned_abs t.1) (content p) h

  -- a multiple of a multiple
  pub scaled_again : (k l : ℤ) (p : List (M × ℤ)) → scaled k (scaled l p) ≡ scaled (k *ℤ l) p
  scaled_again k l [] = refl
  scaled_again k l (t ∷ p) = ap₂ (λ (c : ℤ) (q : List (M × ℤ)). (t.0, c) ∷ q) (sym (whole_ring.product_associates k l t.1)) (scaled_again k l p)

  divided_by_one : (p : List (M × ℤ)) → divided (pos 1) p ≡ p
  divided_by_one [] = refl
  divided_by_one (t ∷ p) = ap₂ (λ (c : ℤ) (q : List (M × ℤ)). (t.0, c) ∷ q) (sym (exact t.1 (pos 1) 1 refl (one_divides (unsigned_abs t.1)) ∙ whole_ring.one_is_neutral (int_div t.1 (pos 1)))) (divided_by_one p)

times_zero : (k : ℤ) → k *ℤ pos 0 ≡ pos 0
times_zero k = product_zero whole_ring k

times_negative : (k a : ℤ) → k *ℤ neg_ℤ a ≡ neg_ℤ (k *ℤ a)
times_negative k a = whole_ring.product_commutes k (neg_ℤ a) ∙ negative_product whole_ring a k ∙ ap neg_ℤ (whole_ring.product_commutes a k)

-- a nonzero factor cancels
pub cancelled : (k a b : ℤ) → k ≢ pos 0 → k *ℤ a ≡ k *ℤ b → a ≡ b
cancelled k a b h e =
    let d : k *ℤ (a +ℤ neg_ℤ b) ≡ pos 0 = *ℤ-+ℤ k a (neg_ℤ b) ∙ ap₂ (λ x y. x +ℤ y) e (times_negative k b) ∙ whole_ring.sum_commutes (k *ℤ b) (neg_ℤ (k *ℤ b)) ∙ whole_ring.negative_is_inverse (k *ℤ b) in
    by_zero (no_divisors k (a +ℤ neg_ℤ b) d)
  where
    same : (a b : ℤ) → a +ℤ neg_ℤ b ≡ pos 0 → a ≡ b
    same a b e = omega (arith, ints)

    by_zero : (k ≡ pos 0) ⊎ (a +ℤ neg_ℤ b ≡ pos 0) → a ≡ b
    by_zero (inl e) = absurd (h e)
    by_zero (inr e) = same a b e

quotient : (k c : ℤ) → k ≢ pos 0 → int_div (k *ℤ c) k ≡ c
quotient k c h = sym (cancelled k c (int_div (k *ℤ c) k) h (exact (k *ℤ c) k (unsigned_abs k) refl (subst (λ n. unsigned_abs k ∣ n) (sym (unsigned_abs-mul k c)) (dvd-mul_right (unsigned_abs k) (unsigned_abs c)))))

-- a multiple divided by its factor
pub divided_scaled : {M : Type 0} (k : ℤ) → k ≢ pos 0 → (p : List (M × ℤ)) → divided k (scaled k p) ≡ p
divided_scaled k h [] = refl
divided_scaled {M} k h (t ∷ p) = ap₂ (λ (c : ℤ) (q : List (M × ℤ)). (t.0, c) ∷ q) (quotient k t.1 h) (divided_scaled k h p)

module _ {S : Type 0} (cmp : S → S → Ordering) where
  scaled_above : (m : Monomial S) (k : ℤ) (p : Polynomial S) → IsAbove (monomial_cmp cmp) m p → IsAbove (monomial_cmp cmp) m (scaled k p)
  scaled_above m k [] a = tt
  scaled_above m k (t ∷ p) a = (a.0, scaled_above m k p a.1)

  above_scaled : (m : Monomial S) (k : ℤ) (p : Polynomial S) → IsAbove (monomial_cmp cmp) m (scaled k p) → IsAbove (monomial_cmp cmp) m p
  above_scaled m k [] a = tt
  above_scaled m k (t ∷ p) a = (a.0, above_scaled m k p a.1)

  still_nonzero : (k c : ℤ) → k ≢ pos 0 → c ≢ pos 0 → k *ℤ c ≢ pos 0
  still_nonzero k c h g e = elim (no_divisors k c e) [ inl a ↦ h a | inr b ↦ g b ]

  -- a nonzero multiple is canonical
  pub scaled_is : (k : ℤ) → k ≢ pos 0 → (p : Polynomial S) → IsPolynomial cmp p → IsPolynomial cmp (scaled k p)
  scaled_is k h [] a = tt
  scaled_is k h (t ∷ p) a = (still_nonzero k t.1 h a.0, a.1, scaled_above t.0 k p a.2, scaled_is k h p a.3)

  -- what has a canonical multiple is canonical
  pub unscaled_is : (k : ℤ) (p : Polynomial S) → IsPolynomial cmp (scaled k p) → IsPolynomial cmp p
  unscaled_is k [] a = tt
  unscaled_is k (t ∷ p) a = (λ e. a.0 (ap (λ c. k *ℤ c) e ∙ times_zero k), a.1, above_scaled t.0 k p a.2, unscaled_is k p a.3)

  -- the norm is canonical
  pub norm_is : (p : Polynomial S) → IsPolynomial cmp p → IsPolynomial cmp (norm p)
  norm_is p h = unscaled_is (signed_content p) (norm p) (subst (IsPolynomial cmp) (sym (scaled_norm p)) h)

-- ---- polynomials that are their own norm
not_below : (n : ℕ) → int_lt (pos n) (pos 0) ≡ false
not_below n = grind (arith, nat_tests)

signed_size : (u : ℤ) (k : ℤ) → int_lt u (pos 0) ≡ false → u ≢ pos 0 → cond (int_lt (k *ℤ u) (pos 0)) (neg_ℤ (pos (unsigned_abs k))) (pos (unsigned_abs k)) ≡ k
signed_size (pos zero) k e h = absurd (h refl)
signed_size (pos (suc n)) (pos m) e h = ap (λ b. cond b (neg_ℤ (pos m)) (pos m)) (not_below (m * suc n))
signed_size (pos (suc n)) (negsuc m) e h =
    let f : suc m * suc n ≡ suc (m * suc n + n) = omega arith in
    ap (λ x. cond (int_lt (neg_ℤ (pos x)) (pos 0)) (negsuc m) (pos (suc m))) f
signed_size (negsuc n) k e h = cc

-- without a common divisor, and with a positive first coefficient
pub record IsNormal {M : Type 0} (t : M × ℤ) (p : List (M × ℤ)) : Type 0 where
  pub primitive : content (t ∷ p) ≡ 1
  pub positive : int_lt t.1 (pos 0) ≡ false
  pub nonzero : t.1 ≢ pos 0

module _ {M : Type 0} (t : M × ℤ) (p : List (M × ℤ)) (normal : IsNormal t p) where
  size_positive : (k : ℤ) → k ≢ pos 0 → 0 < unsigned_abs k
  size_positive (pos zero) h = absurd (h refl)
  size_positive (pos (suc n)) h = omega arith
  size_positive (negsuc n) h = omega arith

  content_is : (k : ℤ) → k ≢ pos 0 → content (scaled k (t ∷ p)) ≡ unsigned_abs k
  content_is k h = content_scaled k (size_positive k h) (t ∷ p) ∙ ap (λ n. unsigned_abs k * n) normal.primitive ∙ times_one (unsigned_abs k)
    where
      times_one : (n : ℕ) → n * 1 ≡ n
      times_one n = omega arith

  -- the norm of a nonzero multiple
  pub norm_of_multiple : (k : ℤ) → k ≢ pos 0 → norm (scaled k (t ∷ p)) ≡ t ∷ p
  unfolding norm
  norm_of_multiple k h =
      ap (λ c. divided c (scaled k (t ∷ p))) (ap (λ g. cond (int_lt (k *ℤ t.1) (pos 0)) (neg_ℤ (pos g)) (pos g)) (content_is k h) ∙ signed_size t.1 k normal.positive normal.nonzero)
      ∙ divided_scaled k h (t ∷ p)

  scaled_by_one : (q : List (M × ℤ)) → scaled (pos 1) q ≡ q
  scaled_by_one [] = refl
  scaled_by_one (u ∷ q) = ap₂ (λ (c : ℤ) (l : List (M × ℤ)). (u.0, c) ∷ l) (whole_ring.one_is_neutral u.1) (scaled_by_one q)

  -- a normal polynomial is its own norm
  pub own_norm : norm (t ∷ p) ≡ t ∷ p
  own_norm = ap norm (sym (scaled_by_one (t ∷ p))) ∙ norm_of_multiple (pos 1) (λ e. cc)

one_only : (g x : ℕ) → 0 < g → g * x ≡ g → x ≡ 1
one_only g zero h e = absurd (omega arith)
one_only g (suc zero) h e = refl
one_only g (suc (suc x)) h e = absurd (omega arith)

same_sign : (t u k : ℤ) (g : ℕ) → 0 < g → k ≡ cond (int_lt t (pos 0)) (neg_ℤ (pos g)) (pos g) → k *ℤ u ≡ t → t ≢ pos 0 → int_lt u (pos 0) ≡ false
same_sign t (pos n) k g h e f z = not_below n
same_sign (pos m) (negsuc n) k zero h e f z = absurd (omega arith)
same_sign (pos m) (negsuc n) k (suc g) h e f z =
    let l : k ≡ pos (suc g) = e ∙ ap (λ b. cond b (neg_ℤ (pos (suc g))) (pos (suc g))) (not_below m) in
    let i : pos (suc g) *ℤ negsuc n ≡ pos m = ap (λ x. x *ℤ negsuc n) (sym l) ∙ f in
    absurd (omega (arith, ints))
same_sign (negsuc m) (negsuc n) k zero h e f z = absurd (omega arith)
same_sign (negsuc m) (negsuc n) k (suc g) h e f z = let i : negsuc g *ℤ negsuc n ≡ negsuc m = ap (λ x. x *ℤ negsuc n) (sym e) ∙ f in absurd (omega (arith, ints))

-- the norm of a polynomial that is not zero is normal
norm_normal : {S : Type 0} (cmp : S → S → Ordering) (t : Monomial S × ℤ) (p : Polynomial S) → IsPolynomial cmp (t ∷ p) → IsNormal (t.0, int_div t.1 (signed_content (t ∷ p))) (divided (signed_content (t ∷ p)) p)
unfolding norm
norm_normal {S} cmp t p h =
    let k = signed_content (t ∷ p) in
    let g = content (t ∷ p) in
    let u = int_div t.1 k in
    let q = divided k p in
    let whole : scaled k ((t.0, u) ∷ q) ≡ t ∷ p = scaled_norm (t ∷ p) in
    let positive : 0 < g = content_positive t p h.0 in
    let size : unsigned_abs k ≡ g = signed_content_size t p in
    let first : k *ℤ u ≡ t.1 = sym (exact t.1 k g size (content_divides (t ∷ p)).0) in
    let sizes : g * content ((t.0, u) ∷ q) ≡ g = ap (λ n. n * content ((t.0, u) ∷ q)) (sym size) ∙ sym (content_scaled k (subst (λ n. 0 < n) (sym size) positive) ((t.0, u) ∷ q)) ∙ ap content whole in
    record {
      primitive = one_only g (content ((t.0, u) ∷ q)) positive sizes;
      positive = same_sign t.1 u k g positive refl first h.0;
      nonzero = λ e. h.0 (sym first ∙ ap (λ x. k *ℤ x) e ∙ times_zero k);
    }

module _ {S : Type 0} (cmp : S → S → Ordering) where
  -- the norm is its own norm
  pub norm_idempotent : (p : Polynomial S) → IsPolynomial cmp p → norm (norm p) ≡ norm p
  unfolding norm
  norm_idempotent [] h = refl
  norm_idempotent (t ∷ p) h = own_norm (t.0, int_div t.1 (signed_content (t ∷ p))) (divided (signed_content (t ∷ p)) p) (norm_normal cmp t p h)

  -- a nonzero multiple has the same norm
  pub norm_of_scaled : (k : ℤ) → k ≢ pos 0 → (p : Polynomial S) → IsPolynomial cmp p → norm (scaled k p) ≡ norm p
  unfolding norm
  norm_of_scaled k h [] a = refl
  norm_of_scaled k h (t ∷ p) a =
      let l = signed_content (t ∷ p) in
      ap (λ q. norm (scaled k q)) (sym (scaled_norm (t ∷ p))) ∙ ap norm (scaled_again k l (norm (t ∷ p)))
      ∙ norm_of_multiple (t.0, int_div t.1 l) (divided l p) (norm_normal cmp t p a) (k *ℤ l) (still_nonzero cmp k l h (signed_content_nonzero cmp (t ∷ p) a))

  -- the norm has no common divisor, and its first coefficient is positive
  pub norm_content : (p : Polynomial S) → IsPolynomial cmp p → p ≢ [] → signed_content (norm p) ≡ pos 1
  unfolding norm
  norm_content [] h n = absurd (n refl)
  norm_content (t ∷ p) h n =
      let q = norm_normal cmp t p h in
      ap₂ (λ b g. cond b (neg_ℤ (pos g)) (pos g)) q.positive q.primitive
