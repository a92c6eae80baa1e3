-- A monomial is its exponents, and products of monomials commute and associate.
use Rattle.std.proofs.Common.{◌≡◌, ℕ, ◌+◌, ◌<◌, [], ◌∷◌, refl, sym, ap, ap₂, ◌∙◌, arith}
use Rattle.std.specs.declared.cmp.Ordering.{Ordering}
use Rattle.std.specs.declared.cmp.Ordering.TheVariants.{Less, Equal, Greater}
use Rattle.std.specs.Cmp.{tied_itself}
use Rattle.std.specs.Ordering.{match_ordering}
use Rattle.dz_algebra.specs.Monomial.{Monomial, IsMonomial, exponent, with_power, monomial_product}
use Rattle.dz_algebra.specs.Order.{IsOrder, IsAbove}
use Rattle.dz_algebra.proofs.Orders.{greater_reversed, greater_trans}

module _ {S : Type 0} {cmp : S → S → Ordering} (order : IsOrder cmp) where
  tied : (s : S) → cmp s s ≡ Equal
  tied s = tied_itself order.total s

  -- the exponent of a symbol above all of a monomial
  pub exponent_below : (s : S) (m : Monomial S) → IsAbove cmp s m → exponent cmp s m ≡ 0
  exponent_below s [] a = refl
  exponent_below s (p ∷ m) a = ap (λ o. match_ordering o (exponent cmp s m) (p.1 + exponent cmp s m) (exponent cmp s m)) a.0 ∙ exponent_below s m a.1

  -- what is above a symbol is above what that is above
  pub above_more : (s t : S) (m : Monomial S) → cmp s t ≡ Greater → IsAbove cmp t m → IsAbove cmp s m
  above_more s t [] h a = tt
  above_more s t (p ∷ m) h a = (greater_trans order.total s t p.0 h a.0, above_more s t m h a.1)

  exponent_at : (s : S) (p : S × ℕ) (m : Monomial S) → cmp s p.0 ≡ Equal → exponent cmp s (p ∷ m) ≡ p.1 + exponent cmp s m
  exponent_at s p m e = ap (λ o. match_ordering o (exponent cmp s m) (p.1 + exponent cmp s m) (exponent cmp s m)) e

  -- monomials with equal exponents are equal
  pub same_exponents : (m n : Monomial S) → IsMonomial cmp m → IsMonomial cmp n → ((s : S) → exponent cmp s m ≡ exponent cmp s n) → m ≡ n
  same_exponents [] [] a b e = refl
  same_exponents [] (q ∷ n) a b e = absurd (omega (arith, b.0, e q.0, exponent_at q.0 q n (tied q.0)))
  same_exponents (p ∷ m) [] a b e = absurd (omega (arith, a.0, e p.0, exponent_at p.0 p m (tied p.0)))
  same_exponents (p ∷ m) (q ∷ n) a b e = by_order (cmp p.0 q.0) refl (same_exponents m n a.2 b.2)
    where
      at_p : exponent cmp p.0 (p ∷ m) ≡ p.1
      at_p = let z : exponent cmp p.0 m ≡ 0 = exponent_below p.0 m a.1 in omega (arith, exponent_at p.0 p m (tied p.0), z)

      at_q : exponent cmp q.0 (q ∷ n) ≡ q.1
      at_q = let z : exponent cmp q.0 n ≡ 0 = exponent_below q.0 n b.1 in omega (arith, exponent_at q.0 q n (tied q.0), z)

      by_order : (o : Ordering) → cmp p.0 q.0 ≡ o → (((s : S) → exponent cmp s m ≡ exponent cmp s n) → m ≡ n) → ◌≡◌ {A = Monomial S} (p ∷ m) (q ∷ n)
      by_order Greater f ih = absurd (omega (arith, a.0, at_p, e p.0, exponent_below p.0 (q ∷ n) (f, above_more p.0 q.0 n f b.1)))
      by_order Less f ih =
          let f' : cmp q.0 p.0 ≡ Greater = greater_reversed order.total p.0 q.0 f in
          absurd (omega (arith, b.0, at_q, e q.0, exponent_below q.0 (p ∷ m) (f', above_more q.0 p.0 m f' a.1)))
      by_order Equal f ih =
          let t : p.0 ≡ q.0 = order.same p.0 q.0 f in
          let k : p.1 ≡ q.1 = sym at_p ∙ e p.0 ∙ ap (λ s. exponent cmp s (q ∷ n)) t ∙ at_q in
          ap₂ (λ (u : S) (v : ℕ). (u, v) ∷ m) t k ∙ ap (λ l. q ∷ l) (ih (λ s. same_rest (cmp s p.0) (cmp s q.0) p.1 q.1 (exponent cmp s m) (exponent cmp s n) (ap (cmp s) t) k (e s)))
        where
          same_rest : (o u : Ordering) (j k x y : ℕ) → o ≡ u → j ≡ k → match_ordering o x (j + x) x ≡ match_ordering u y (k + y) y → x ≡ y
          same_rest o u j k x y f g e = more o j x y (e ∙ ap₂ (λ v i. match_ordering v y (i + y) y) (sym f) (sym g))
            where
              more : (o : Ordering) (j x y : ℕ) → match_ordering o x (j + x) x ≡ match_ordering o y (j + y) y → x ≡ y
              more Less j x y e = e
              more Equal j x y e = omega arith
              more Greater j x y e = e

  -- ---- products
  pub exponent_with_power : (s t : S) (e : ℕ) (m : Monomial S) → exponent cmp s (with_power cmp t e m) ≡ match_ordering (cmp s t) 0 e 0 + exponent cmp s m
  exponent_with_power s t e [] = first (cmp s t) e
    where
      first : (o : Ordering) (e : ℕ) → match_ordering o 0 (e + 0) 0 ≡ match_ordering o 0 e 0 + 0
      first Less e = refl
      first Equal e = refl
      first Greater e = refl
  exponent_with_power s t e (p ∷ m) =
      elim (cmp t p.0) as (λ o. cmp t p.0 ≡ o → exponent cmp s (match_ordering o (p ∷ with_power cmp t e m) ((p.0, e + p.1) ∷ m) ((t, e) ∷ p ∷ m)) ≡ match_ordering (cmp s t) 0 e 0 + exponent cmp s (p ∷ m)) [
        | Less ↦ λ h. ap (λ x. match_ordering (cmp s p.0) x (p.1 + x) x) (exponent_with_power s t e m) ∙ passed (cmp s p.0) p.1 (match_ordering (cmp s t) 0 e 0) (exponent cmp s m)
        | Equal ↦ λ h. joined (cmp s p.0) e p.1 (exponent cmp s m) ∙ ap (λ u. match_ordering (cmp s u) 0 e 0 + exponent cmp s (p ∷ m)) (sym (order.same t p.0 h))
        | Greater ↦ λ h. before (cmp s t) e (exponent cmp s (p ∷ m))
      ] refl
    where
      passed : (o : Ordering) (k x y : ℕ) → match_ordering o (x + y) (k + (x + y)) (x + y) ≡ x + match_ordering o y (k + y) y
      passed Less k x y = refl
      passed Equal k x y = omega arith
      passed Greater k x y = refl

      joined : (o : Ordering) (e k y : ℕ) → match_ordering o y ((e + k) + y) y ≡ match_ordering o 0 e 0 + match_ordering o y (k + y) y
      joined Less e k y = omega arith
      joined Equal e k y = omega arith
      joined Greater e k y = omega arith

      before : (o : Ordering) (e x : ℕ) → match_ordering o x (e + x) x ≡ match_ordering o 0 e 0 + x
      before Less e x = omega arith
      before Equal e x = refl
      before Greater e x = omega arith

  -- exponents add in a product
  pub exponent_product : (s : S) (m n : Monomial S) → exponent cmp s (monomial_product cmp m n) ≡ exponent cmp s m + exponent cmp s n
  exponent_product s [] n = omega arith
  exponent_product s (p ∷ m) n = exponent_with_power s p.0 p.1 (monomial_product cmp m n) ∙ ap (λ x. match_ordering (cmp s p.0) 0 p.1 0 + x) (exponent_product s m n) ∙ split (cmp s p.0) p.1 (exponent cmp s m) (exponent cmp s n)
    where
      split : (o : Ordering) (k x y : ℕ) → match_ordering o 0 k 0 + (x + y) ≡ match_ordering o x (k + x) x + y
      split Less k x y = omega arith
      split Equal k x y = omega arith
      split Greater k x y = omega arith

  above_with_power : (k s : S) (e : ℕ) (m : Monomial S) → cmp k s ≡ Greater → IsAbove cmp k m → IsAbove cmp k (with_power cmp s e m)
  above_with_power k s e [] h a = (h, tt)
  above_with_power k s e (p ∷ m) h a =
      elim (cmp s p.0) as (λ o. IsAbove cmp k (match_ordering o (p ∷ with_power cmp s e m) ((p.0, e + p.1) ∷ m) ((s, e) ∷ p ∷ m))) [
        | Less ↦ (a.0, above_with_power k s e m h a.1)
        | Equal ↦ (a.0, a.1)
        | Greater ↦ (h, a)
      ]

  -- a monomial times a power is a monomial
  pub with_power_is : (s : S) (e : ℕ) (m : Monomial S) → 0 < e → IsMonomial cmp m → IsMonomial cmp (with_power cmp s e m)
  with_power_is s e [] h i = (h, tt, tt)
  with_power_is s e (p ∷ m) h i =
      elim (cmp s p.0) as (λ o. cmp s p.0 ≡ o → IsMonomial cmp (match_ordering o (p ∷ with_power cmp s e m) ((p.0, e + p.1) ∷ m) ((s, e) ∷ p ∷ m))) [
        | Less ↦ λ f. (i.0, above_with_power p.0 s e m (greater_reversed order.total s p.0 f) i.1, with_power_is s e m h i.2)
        | Equal ↦ λ f. (omega arith, i.1, i.2)
        | Greater ↦ λ f. (h, (f, above_more s p.0 m f i.1), i)
      ] refl

  -- a product of monomials is a monomial
  pub product_is : (m n : Monomial S) → IsMonomial cmp m → IsMonomial cmp n → IsMonomial cmp (monomial_product cmp m n)
  product_is [] n h g = g
  product_is (p ∷ m) n h g = with_power_is p.0 p.1 (monomial_product cmp m n) h.0 (product_is m n h.2 g)

  -- products of monomials commute
  pub product_commutes : (m n : Monomial S) → IsMonomial cmp m → IsMonomial cmp n → monomial_product cmp m n ≡ monomial_product cmp n m
  product_commutes m n h g =
      same_exponents (monomial_product cmp m n) (monomial_product cmp n m) (product_is m n h g) (product_is n m g h)
      (λ s. omega (arith, exponent_product s m n, exponent_product s n m))

  -- and associate
  pub product_associates : (k m n : Monomial S) → IsMonomial cmp k → IsMonomial cmp m → IsMonomial cmp n → monomial_product cmp (monomial_product cmp k m) n ≡ monomial_product cmp k (monomial_product cmp m n)
  product_associates k m n f h g =
      same_exponents (monomial_product cmp (monomial_product cmp k m) n) (monomial_product cmp k (monomial_product cmp m n)) (product_is (monomial_product cmp k m) n (product_is k m f h) g) (product_is k (monomial_product cmp m n) f (product_is m n h g))
      (λ s. omega (arith, exponent_product s (monomial_product cmp k m) n, exponent_product s k m, exponent_product s k (monomial_product cmp m n), exponent_product s m n))
