-- The polynomial that contributions make: its coefficients, and that it is the only one with them.
use Rattle.std.proofs.Common.{◌≡◌, ◌≢◌, zero, suc, Bool, true, false, cond, List, [], ◌∷◌, ◌++◌, ℤ, pos, negsuc, ◌+ℤ◌, refl, sym, ap, ap₂, ◌∙◌, arith, subst}
use Rattle.std.proofs.lemmas.Int.{ints}
use Rattle.std.specs.declared.cmp.Ordering.{Ordering}
use Rattle.std.specs.declared.cmp.Ordering.TheVariants.{Less, Equal, Greater}
use Rattle.std.specs.Cmp.{tied_itself, IsTotalOrder}
use Rattle.dz_algebra.specs.Whole.{whole_is_zero}
use Rattle.dz_algebra.specs.Monomial.{Monomial, monomial_cmp, IsMonomial}
use Rattle.dz_algebra.specs.Polynomial.{Polynomial, keep, add_term, collect, IsPolynomial, coefficient_at, polynomial_sum, AreMonomials}
use Rattle.dz_algebra.specs.Order.{IsOrder, IsAbove}
use Rattle.dz_algebra.proofs.Orders.{same_monomial, monomial_cmp_total, greater_reversed, greater_trans}
use Rattle.std.specs.Ordering.{match_ordering}

-- ---- coefficients, for any order in which only equal monomials tie
module _ {S : Type 0} (by : Monomial S → Monomial S → Ordering) where
  coefficient_keep : (n m : Monomial S) (c : ℤ) (p : Polynomial S) → coefficient_at by n (keep m c p) ≡ match_ordering (by n m) (pos 0) c (pos 0) +ℤ coefficient_at by n p
  coefficient_keep n m c p = by_test (whole_is_zero c) refl
    where
      zero_case : (o : Ordering) (x : ℤ) → c ≡ pos 0 → x ≡ match_ordering o (pos 0) c (pos 0) +ℤ x
      zero_case Less x e = omega (arith, ints)
      zero_case Equal x e = omega (arith, ints)
      zero_case Greater x e = omega (arith, ints)

      is_zero : (c : ℤ) → whole_is_zero c ≡ true → c ≡ pos 0
      is_zero (pos zero) e = refl
      is_zero (pos (suc k)) e = cc
      is_zero (negsuc k) e = cc

      by_test : (b : Bool) → whole_is_zero c ≡ b → coefficient_at by n (cond b p ((m, c) ∷ p)) ≡ match_ordering (by n m) (pos 0) c (pos 0) +ℤ coefficient_at by n p
      by_test true e = zero_case (by n m) _ (is_zero c e)
      by_test false e = refl

  swap : (a b x : ℤ) → b +ℤ (a +ℤ x) ≡ a +ℤ (b +ℤ x)
  swap a b x = omega (arith, ints)

  module _ (same : (m n : Monomial S) → by m n ≡ Equal → m ≡ n) where
    coefficient_add : (n m : Monomial S) (c : ℤ) (p : Polynomial S) → coefficient_at by n (add_term by m c p) ≡ match_ordering (by n m) (pos 0) c (pos 0) +ℤ coefficient_at by n p
    coefficient_add n m c [] = coefficient_keep n m c []
    coefficient_add n m c (t ∷ p) =
        elim (by m t.0) as (λ o. by m t.0 ≡ o → coefficient_at by n (match_ordering o (t ∷ add_term by m c p) (keep m (c +ℤ t.1) p) (keep m c (t ∷ p))) ≡ match_ordering (by n m) (pos 0) c (pos 0) +ℤ coefficient_at by n (t ∷ p)) [
          | Less ↦ λ h. ap (λ x. match_ordering (by n t.0) (pos 0) t.1 (pos 0) +ℤ x) (coefficient_add n m c p) ∙ swap (match_ordering (by n m) (pos 0) c (pos 0)) (match_ordering (by n t.0) (pos 0) t.1 (pos 0)) (coefficient_at by n p)
          | Equal ↦ λ h. coefficient_keep n m (c +ℤ t.1) p ∙ two (by n m) c t.1 (coefficient_at by n p) ∙ ap (λ u. match_ordering (by n m) (pos 0) c (pos 0) +ℤ (match_ordering (by n u) (pos 0) t.1 (pos 0) +ℤ coefficient_at by n p)) (same m t.0 h)
          | Greater ↦ λ h. coefficient_keep n m c (t ∷ p)
        ] refl
      where
        two : (o : Ordering) (c d x : ℤ) → match_ordering o (pos 0) (c +ℤ d) (pos 0) +ℤ x ≡ match_ordering o (pos 0) c (pos 0) +ℤ (match_ordering o (pos 0) d (pos 0) +ℤ x)
        two Less c d x = omega (arith, ints)
        two Equal c d x = omega (arith, ints)
        two Greater c d x = omega (arith, ints)

    -- the coefficient of what contributions make is the sum of the contributions there
    pub coefficient_collect : (n : Monomial S) (ts : List (Monomial S × ℤ)) → coefficient_at by n (collect by ts) ≡ coefficient_at by n ts
    coefficient_collect n [] = refl
    coefficient_collect n (t ∷ ts) = coefficient_add n t.0 t.1 (collect by ts) ∙ ap (λ x. match_ordering (by n t.0) (pos 0) t.1 (pos 0) +ℤ x) (coefficient_collect n ts)

    above_collects : (n : Monomial S) (p : Polynomial S) → IsAbove by n p → coefficient_at by n p ≡ pos 0
    above_collects n [] a = refl
    above_collects n (t ∷ p) a = ap₂ (λ o x. match_ordering o (pos 0) t.1 (pos 0) +ℤ x) a.0 (above_collects n p a.1)

module _ {S : Type 0} {cmp : S → S → Ordering} (order : IsOrder cmp) where
  abbrev by : Monomial S → Monomial S → Ordering
  by = monomial_cmp cmp

  abbrev total : IsTotalOrder (monomial_cmp cmp)
  total = monomial_cmp_total order

  above_more : (m n : Monomial S) (p : Polynomial S) → by m n ≡ Greater → IsAbove by n p → IsAbove by m p
  above_more m n [] h a = tt
  above_more m n (t ∷ p) h a = (greater_trans total m n t.0 h a.0, above_more m n p h a.1)

  above_keep : (k m : Monomial S) (c : ℤ) (p : Polynomial S) → by k m ≡ Greater → IsAbove by k p → IsAbove by k (keep m c p)
  above_keep k m c p h a = elim (whole_is_zero c) as (λ b. IsAbove by k (cond b p ((m, c) ∷ p))) [ true ↦ a | false ↦ (h, a) ]

  above_add : (k m : Monomial S) (c : ℤ) (p : Polynomial S) → by k m ≡ Greater → IsAbove by k p → IsAbove by k (add_term by m c p)
  above_add k m c [] h a = above_keep k m c [] h a
  above_add k m c (t ∷ p) h a =
      elim (by m t.0) as (λ o. IsAbove by k (match_ordering o (t ∷ add_term by m c p) (keep m (c +ℤ t.1) p) (keep m c (t ∷ p)))) [
        | Less ↦ (a.0, above_add k m c p h a.1)
        | Equal ↦ above_keep k m (c +ℤ t.1) p h a.1
        | Greater ↦ above_keep k m c (t ∷ p) h a
      ]

  is_nonzero : (c : ℤ) → whole_is_zero c ≡ false → c ≢ pos 0
  is_nonzero (pos zero) e f = cc
  is_nonzero (pos (suc n)) e f = cc
  is_nonzero (negsuc n) e f = cc

  keep_is : (m : Monomial S) (c : ℤ) (p : Polynomial S) → IsMonomial cmp m → IsAbove by m p → IsPolynomial cmp p → IsPolynomial cmp (keep m c p)
  keep_is m c p i a h = by_test (whole_is_zero c) refl
    where
      by_test : (b : Bool) → whole_is_zero c ≡ b → IsPolynomial cmp (cond b p ((m, c) ∷ p))
      by_test true e = h
      by_test false e = (is_nonzero c e, i, a, h)

  add_is : (m : Monomial S) (c : ℤ) (p : Polynomial S) → IsMonomial cmp m → IsPolynomial cmp p → IsPolynomial cmp (add_term by m c p)
  add_is m c [] i h = keep_is m c [] i tt h
  add_is m c (t ∷ p) i h =
      elim (by m t.0) as (λ o. by m t.0 ≡ o → IsPolynomial cmp (match_ordering o (t ∷ add_term by m c p) (keep m (c +ℤ t.1) p) (keep m c (t ∷ p)))) [
        | Less ↦ λ e. (h.0, h.1, above_add t.0 m c p (greater_reversed total m t.0 e) h.2, add_is m c p i h.3)
        | Equal ↦ λ e. keep_is m (c +ℤ t.1) p i (let f : t.0 ≡ m = sym (same_monomial order m t.0 e) in subst (λ k. IsAbove by k p) f h.2) h.3
        | Greater ↦ λ e. keep_is m c (t ∷ p) i (e, above_more m t.0 p e h.2) h
      ] refl

  -- what contributions make is canonical
  pub collect_is : (ts : List (Monomial S × ℤ)) → AreMonomials cmp ts → IsPolynomial cmp (collect by ts)
  collect_is [] h = tt
  collect_is (t ∷ ts) h = add_is t.0 t.1 (collect by ts) h.0 (collect_is ts h.1)

  -- a polynomial is its coefficients
  head_coefficient : (t : Monomial S × ℤ) (p : Polynomial S) → IsAbove by t.0 p → coefficient_at by t.0 (t ∷ p) ≡ t.1
  head_coefficient t p a =
      ap₂ (λ o x. match_ordering o (pos 0) t.1 (pos 0) +ℤ x) (tied_itself total t.0) (above_collects by (same_monomial order) t.0 p a) ∙ omega (arith, ints)

  -- canonical lists with equal coefficients are equal
  pub same_polynomial : (p q : Polynomial S) → IsPolynomial cmp p → IsPolynomial cmp q → ((n : Monomial S) → coefficient_at by n p ≡ coefficient_at by n q) → p ≡ q
  same_polynomial [] [] a b e = refl
  same_polynomial [] (u ∷ q) a b e = absurd (b.0 (sym (head_coefficient u q b.2) ∙ sym (e u.0)))
  same_polynomial (t ∷ p) [] a b e = absurd (a.0 (sym (head_coefficient t p a.2) ∙ e t.0))
  same_polynomial (t ∷ p) (u ∷ q) a b e = by_order (by t.0 u.0) refl (same_polynomial p q a.3 b.3)
    where
      by_order : (o : Ordering) → by t.0 u.0 ≡ o → (((n : Monomial S) → coefficient_at by n p ≡ coefficient_at by n q) → p ≡ q) → ◌≡◌ {A = Polynomial S} (t ∷ p) (u ∷ q)
      by_order Greater f ih = absurd (a.0 (sym (head_coefficient t p a.2) ∙ e t.0 ∙ above_collects by (same_monomial order) t.0 (u ∷ q) (f, above_more t.0 u.0 q f b.2)))
      by_order Less f ih =
          let g : by u.0 t.0 ≡ Greater = greater_reversed total t.0 u.0 f in
          absurd (b.0 (sym (head_coefficient u q b.2) ∙ sym (e u.0) ∙ above_collects by (same_monomial order) u.0 (t ∷ p) (g, above_more u.0 t.0 p g a.2)))
      by_order Equal f ih =
          let k : t.0 ≡ u.0 = same_monomial order t.0 u.0 f in
          let c : t.1 ≡ u.1 = sym (head_coefficient t p a.2) ∙ e t.0 ∙ ap (λ m. coefficient_at by m (u ∷ q)) k ∙ head_coefficient u q b.2 in
          ap₂ (λ (m : Monomial S) (d : ℤ). (m, d) ∷ p) k c
          ∙ ap (λ l. u ∷ l) (ih (λ n. cancelled (by n t.0) (by n u.0) t.1 u.1 _ _ (ap (by n) k) c (e n)))
        where
          cancelled : (o v : Ordering) (c d x y : ℤ) → o ≡ v → c ≡ d → match_ordering o (pos 0) c (pos 0) +ℤ x ≡ match_ordering v (pos 0) d (pos 0) +ℤ y → x ≡ y
          cancelled o v c d x y f g e = more o c x y (e ∙ ap₂ (λ w z. match_ordering w (pos 0) z (pos 0) +ℤ y) (sym f) (sym g))
            where
              more : (o : Ordering) (c x y : ℤ) → match_ordering o (pos 0) c (pos 0) +ℤ x ≡ match_ordering o (pos 0) c (pos 0) +ℤ y → x ≡ y
              more Less c x y e = omega (arith, ints)
              more Equal c x y e = omega (arith, ints)
              more Greater c x y e = omega (arith, ints)

  -- so two lists of contributions with the same sums make one polynomial
  pub same_collected : (ts us : List (Monomial S × ℤ)) → AreMonomials cmp ts → AreMonomials cmp us → ((n : Monomial S) → coefficient_at by n ts ≡ coefficient_at by n us) → collect by ts ≡ collect by us
  same_collected ts us h g e =
      same_polynomial (collect by ts) (collect by us) (collect_is ts h) (collect_is us g)
      (λ n. coefficient_collect by (same_monomial order) n ts ∙ e n ∙ sym (coefficient_collect by (same_monomial order) n us))

  -- the sums of two lists of contributions add
  pub coefficient-append : (n : Monomial S) (ts us : List (Monomial S × ℤ)) → coefficient_at by n (ts ++ us) ≡ coefficient_at by n ts +ℤ coefficient_at by n us
  coefficient-append n [] us = omega (arith, ints)
  coefficient-append n (t ∷ ts) us = ap (λ x. match_ordering (by n t.0) (pos 0) t.1 (pos 0) +ℤ x) (coefficient-append n ts us) ∙ omega (arith, ints)

  -- the terms of a polynomial stand at monomials
  pub are_monomials : (p : Polynomial S) → IsPolynomial cmp p → AreMonomials cmp p
  are_monomials [] h = tt
  are_monomials (t ∷ p) h = (h.1, are_monomials p h.3)

  -- and so do two lists of contributions together
  pub monomials-append : (ts us : List (Monomial S × ℤ)) → AreMonomials cmp ts → AreMonomials cmp us → AreMonomials cmp (ts ++ us)
  monomials-append [] us h g = g
  monomials-append (t ∷ ts) us h g = (h.0, monomials-append ts us h.1 g)

  -- the sum of polynomials commutes
  pub polynomial_sum_commutes : (p q : Polynomial S) → IsPolynomial cmp p → IsPolynomial cmp q → polynomial_sum cmp p q ≡ polynomial_sum cmp q p
  unfolding polynomial_sum
  polynomial_sum_commutes p q h g =
      same_collected (p ++ q) (q ++ p) (monomials-append p q (are_monomials p h) (are_monomials q g)) (monomials-append q p (are_monomials q g) (are_monomials p h))
      (λ n. coefficient-append n p q ∙ turned (coefficient_at by n p) (coefficient_at by n q) ∙ sym (coefficient-append n q p))
    where
      turned : (a b : ℤ) → a +ℤ b ≡ b +ℤ a
      turned a b = omega (arith, ints)

  -- a polynomial is what its terms make
  pub collected : (p : Polynomial S) → IsPolynomial cmp p → collect by p ≡ p
  collected p h = same_polynomial (collect by p) p (collect_is p (are_monomials p h)) h (λ n. coefficient_collect by (same_monomial order) n p)
