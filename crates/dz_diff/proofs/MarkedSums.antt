-- Sums over the terms that hold a symbol to a power.
use Rattle.std.specs.Prelude.{⊤}
use Rattle.std.proofs.Common.{◌≡◌, ℕ, ◌+◌, ◌≤◌, Bool, true, false, cond, List, [], ◌∷◌, ◌++◌, ℤ, pos, ◌+ℤ◌, ◌*ℤ◌, refl, sym, ap, ap₂, ◌∙◌, arith, eqb}
use Rattle.std.specs.declared.cmp.Ordering.{Ordering}
use Rattle.std.specs.declared.cmp.Ordering.TheVariants.{Less, Equal, Greater}
use Rattle.std.specs.Ordering.{match_ordering}
use Rattle.std.specs.Cmp.{tied_itself}
use Rattle.dz_algebra.specs.Whole.{whole_is_zero, whole_ring}
use Rattle.dz_algebra.specs.Ring.{product_zero}
use Rattle.dz_algebra.specs.Order.{IsOrder}
use Rattle.dz_algebra.specs.Monomial.{Monomial, MonomialIn, monomial_cmp, exponent, with_power, without}
use Rattle.dz_algebra.specs.Polynomial.{Polynomial, keep, add_term, collect}
use Rattle.dz_algebra.specs.Derivation.{each_with_power}
use Rattle.dz_algebra.specs.Parts.{coefficient_of}
use Rattle.dz_algebra.proofs.Orders.{greater_reversed}
use Rattle.dz_algebra.proofs.Totals.{total}

-- ---- every monomial of a list of terms passes a test
abbrev pub EachMonomial : {S : Type 0} → (Monomial S → Type 0) → List (Monomial S × ℤ) → Type 0
EachMonomial Q [] = ⊤
EachMonomial Q (t ∷ ts) = Q t.0 × EachMonomial Q ts

module _ {S : Type 0} (cmp : S → S → Ordering) (Q : Monomial S → Type 0) where
  pub each-append : (ts us : List (Monomial S × ℤ)) → EachMonomial Q ts → EachMonomial Q us → EachMonomial Q (ts ++ us)
  each-append [] us h k = k
  each-append (t ∷ ts) us h k = (h.0, each-append ts us h.1 k)

  each_keep : (m : Monomial S) (c : ℤ) (p : Polynomial S) → Q m → EachMonomial Q p → EachMonomial Q (keep m c p)
  each_keep m c p h k = elim (whole_is_zero c) as (λ b. EachMonomial Q (cond b p ((m, c) ∷ p))) [ true ↦ k | false ↦ (h, k) ]

  each_add : (m : Monomial S) (c : ℤ) (p : Polynomial S) → Q m → EachMonomial Q p → EachMonomial Q (add_term (monomial_cmp cmp) m c p)
  each_add m c [] h k = each_keep m c [] h k
  each_add m c (t ∷ p) h k =
      elim (monomial_cmp cmp m t.0) as (λ o. EachMonomial Q (match_ordering o (t ∷ add_term (monomial_cmp cmp) m c p) (keep m (c +ℤ t.1) p) (keep m c (t ∷ p)))) [
        | Less ↦ (k.0, each_add m c p h k.1)
        | Equal ↦ each_keep m (c +ℤ t.1) p h k.1
        | Greater ↦ each_keep m c (t ∷ p) h k
      ]

  pub each_collect : (ts : List (Monomial S × ℤ)) → EachMonomial Q ts → EachMonomial Q (collect (monomial_cmp cmp) ts)
  each_collect [] h = tt
  each_collect (t ∷ ts) h = each_add t.0 t.1 (collect (monomial_cmp cmp) ts) h.0 (each_collect ts h.1)

-- ---- the terms with w to the power k
-- f of the rest of a monomial that holds w to the power k, else zero
abbrev pub marked : {S : Type 0} → (S → S → Ordering) → S → ℕ → (Monomial S → ℤ) → Monomial S → ℤ
marked cmp w k f m = cond (eqb (exponent cmp w m) k) (f (without cmp w m)) (pos 0)

module _ {S : Type 0} (cmp : S → S → Ordering) where
  pub total_coefficient : (w : S) (k : ℕ) (f : Monomial S → ℤ) (p : Polynomial S) → total f (coefficient_of cmp w k p) ≡ total (marked cmp w k f) p
  unfolding total
  total_coefficient w k f [] = refl
  total_coefficient w k f (t ∷ p) = by_test (eqb (exponent cmp w t.0) k) (total_coefficient w k f p)
    where
      by_test : (b : Bool) → total f (coefficient_of cmp w k p) ≡ total (marked cmp w k f) p
          → total f (cond b ((without cmp w t.0, t.1) ∷ coefficient_of cmp w k p) (coefficient_of cmp w k p)) ≡ t.1 *ℤ cond b (f (without cmp w t.0)) (pos 0) +ℤ total (marked cmp w k f) p
      by_test true ih = ap (λ x. t.1 *ℤ f (without cmp w t.0) +ℤ x) ih
      by_test false ih = ih ∙ sym (ap (λ x. x +ℤ total (marked cmp w k f) p) (product_zero whole_ring t.1) ∙ whole_ring.zero_is_neutral (total (marked cmp w k f) p))

  pub total_each : (s : S) (e : ℕ) (f : Monomial S → ℤ) (ts : List (Monomial S × ℤ)) → total f (each_with_power cmp s e ts) ≡ total (λ m. f (with_power cmp s e m)) ts
  unfolding total
  total_each s e f [] = refl
  total_each s e f (t ∷ ts) = ap (λ x. t.1 *ℤ f (with_power cmp s e t.0) +ℤ x) (total_each s e f ts)

  -- equal functions have equal sums
  pub total_same : (f h : Monomial S → ℤ) → ((m : Monomial S) → f m ≡ h m) → (ts : List (Monomial S × ℤ)) → total f ts ≡ total h ts
  unfolding total
  total_same f h e [] = refl
  total_same f h e (t ∷ ts) = ap₂ (λ x y. t.1 *ℤ x +ℤ y) (e t.0) (total_same f h e ts)

pub skipped : {X : Type 0} (o : Ordering) (a b : X) → (o ≡ Equal → ⊥) → match_ordering o a b a ≡ a
skipped Less a b n = refl
skipped Equal a b n = absurd (n refl)
skipped Greater a b n = refl

-- ---- monomials of symbols below w
module _ {S : Type 0} {cmp : S → S → Ordering} (order : IsOrder cmp) (w : S) where
  abbrev pub Free : Monomial S → Type 0
  Free = MonomialIn (λ s. cmp s w ≡ Less)

  pub exponent_free : (m : Monomial S) → Free m → exponent cmp w m ≡ 0
  exponent_free [] h = refl
  exponent_free (p ∷ m) h = ap (λ o. match_ordering o (exponent cmp w m) (p.1 + exponent cmp w m) (exponent cmp w m)) (greater_reversed order.total p.0 w h.0) ∙ exponent_free m h.1

  pub without_free : (m : Monomial S) → Free m → without cmp w m ≡ m
  without_free [] h = refl
  without_free (p ∷ m) h = ap (λ o. match_ordering o (p ∷ without cmp w m) (without cmp w m) (p ∷ without cmp w m)) (greater_reversed order.total p.0 w h.0) ∙ ap (λ l. p ∷ l) (without_free m h.1)

  -- a power of a symbol below changes nothing at w
  pub exponent_below : (s : S) (e : ℕ) (m : Monomial S) → cmp s w ≡ Less → exponent cmp w (with_power cmp s e m) ≡ exponent cmp w m
  exponent_below s e [] h = ap (λ o. match_ordering o 0 (e + 0) 0) (greater_reversed order.total s w h)
  exponent_below s e (p ∷ m) h =
      elim (cmp s p.0) as (λ o. cmp s p.0 ≡ o → exponent cmp w (match_ordering o (p ∷ with_power cmp s e m) ((p.0, e + p.1) ∷ m) ((s, e) ∷ p ∷ m)) ≡ exponent cmp w (p ∷ m)) [
        | Less ↦ λ k. ap (λ x. match_ordering (cmp w p.0) x (p.1 + x) x) (exponent_below s e m h)
        | Equal ↦ λ k. same_at (cmp w p.0) (e + p.1) p.1 (exponent cmp w m) (ap (cmp w) (sym (order.same s p.0 k)) ∙ greater_reversed order.total s w h)
        | Greater ↦ λ k. ap (λ o. match_ordering o (exponent cmp w (p ∷ m)) (e + exponent cmp w (p ∷ m)) (exponent cmp w (p ∷ m))) (greater_reversed order.total s w h)
      ] refl
    where
      same_at : (o : Ordering) (a b x : ℕ) → o ≡ Greater → match_ordering o x (a + x) x ≡ match_ordering o x (b + x) x
      same_at Less a b x f = refl
      same_at Equal a b x f = cc
      same_at Greater a b x f = refl

  -- a power of any symbol adds at most its exponent
  pub exponent_put : (s : S) (e : ℕ) (m : Monomial S) → exponent cmp w (with_power cmp s e m) ≤ e + exponent cmp w m
  exponent_put s e [] = first (cmp w s)
    where
      first : (o : Ordering) → match_ordering o 0 (e + 0) 0 ≤ e + 0
      first Less = omega arith
      first Equal = omega arith
      first Greater = omega arith
  exponent_put s e (p ∷ m) =
      elim (cmp s p.0) as (λ o. exponent cmp w (match_ordering o (p ∷ with_power cmp s e m) ((p.0, e + p.1) ∷ m) ((s, e) ∷ p ∷ m)) ≤ e + exponent cmp w (p ∷ m)) [
        | Less ↦ passed (cmp w p.0) p.1 (exponent cmp w (with_power cmp s e m)) (exponent cmp w m) (exponent_put s e m)
        | Equal ↦ joined (cmp w p.0) p.1 (exponent cmp w m)
        | Greater ↦ before (cmp w s) (exponent cmp w (p ∷ m))
      ]
    where
      passed : (o : Ordering) (k x y : ℕ) → x ≤ e + y → match_ordering o x (k + x) x ≤ e + match_ordering o y (k + y) y
      passed Less k x y h = h
      passed Equal k x y h = omega arith
      passed Greater k x y h = h

      joined : (o : Ordering) (k x : ℕ) → match_ordering o x ((e + k) + x) x ≤ e + match_ordering o x (k + x) x
      joined Less k x = omega arith
      joined Equal k x = omega arith
      joined Greater k x = omega arith

      before : (o : Ordering) (x : ℕ) → match_ordering o x (e + x) x ≤ e + x
      before Less x = omega arith
      before Equal x = omega arith
      before Greater x = omega arith

  pub without_below : (s : S) (e : ℕ) (m : Monomial S) → cmp s w ≡ Less → without cmp w (with_power cmp s e m) ≡ with_power cmp s e (without cmp w m)
  without_below s e [] h = ap (λ o. match_ordering o ((s, e) ∷ []) [] ((s, e) ∷ [])) (greater_reversed order.total s w h)
  without_below s e (p ∷ m) h = by_place (cmp w p.0) refl (cmp s p.0) refl (without_below s e m h)
    where
      passes : (o : Ordering) → cmp s p.0 ≡ o → (cmp w p.0 ≡ Equal → ⊥) → without cmp w (with_power cmp s e m) ≡ with_power cmp s e (without cmp w m)
          → without cmp w (match_ordering o (p ∷ with_power cmp s e m) ((p.0, e + p.1) ∷ m) ((s, e) ∷ p ∷ m)) ≡ with_power cmp s e (p ∷ without cmp w m)
      passes Less k n ih =
          skipped (cmp w p.0) (p ∷ without cmp w (with_power cmp s e m)) (without cmp w (with_power cmp s e m)) n ∙ ap (λ l. p ∷ l) ih
          ∙ sym (ap (λ o. match_ordering o (p ∷ with_power cmp s e (without cmp w m)) ((p.0, e + p.1) ∷ without cmp w m) ((s, e) ∷ p ∷ without cmp w m)) k)
      passes Equal k n ih =
          skipped (cmp w p.0) ((p.0, e + p.1) ∷ without cmp w m) (without cmp w m) n
          ∙ sym (ap (λ o. match_ordering o (p ∷ with_power cmp s e (without cmp w m)) ((p.0, e + p.1) ∷ without cmp w m) ((s, e) ∷ p ∷ without cmp w m)) k)
      passes Greater k n ih =
          ap (λ o. match_ordering o ((s, e) ∷ without cmp w (p ∷ m)) (without cmp w (p ∷ m)) ((s, e) ∷ without cmp w (p ∷ m))) (greater_reversed order.total s w h)
          ∙ ap (λ l. (s, e) ∷ l) (skipped (cmp w p.0) (p ∷ without cmp w m) (without cmp w m) n)
          ∙ sym (ap (λ o. match_ordering o (p ∷ with_power cmp s e (without cmp w m)) ((p.0, e + p.1) ∷ without cmp w m) ((s, e) ∷ p ∷ without cmp w m)) k)

      removed : (o : Ordering) → cmp s p.0 ≡ o → o ≡ Less → cmp w p.0 ≡ Equal → without cmp w (with_power cmp s e m) ≡ with_power cmp s e (without cmp w m)
          → without cmp w (match_ordering o (p ∷ with_power cmp s e m) ((p.0, e + p.1) ∷ m) ((s, e) ∷ p ∷ m)) ≡ with_power cmp s e (without cmp w m)
      removed Less k n f ih = ap (λ o. match_ordering o (p ∷ without cmp w (with_power cmp s e m)) (without cmp w (with_power cmp s e m)) (p ∷ without cmp w (with_power cmp s e m))) f ∙ ih
      removed Equal k n f ih = cc
      removed Greater k n f ih = cc

      by_place : (u : Ordering) → cmp w p.0 ≡ u → (o : Ordering) → cmp s p.0 ≡ o → without cmp w (with_power cmp s e m) ≡ with_power cmp s e (without cmp w m)
          → without cmp w (match_ordering o (p ∷ with_power cmp s e m) ((p.0, e + p.1) ∷ m) ((s, e) ∷ p ∷ m)) ≡ with_power cmp s e (match_ordering u (p ∷ without cmp w m) (without cmp w m) (p ∷ without cmp w m))
      by_place Less f o k ih = passes o k (λ z. cc) ih
      by_place Equal f o k ih = removed o k (sym k ∙ ap (cmp s) (sym (order.same w p.0 f)) ∙ h) f ih
      by_place Greater f o k ih = passes o k (λ z. cc) ih

  pub marked_below : (k : ℕ) (f : Monomial S → ℤ) (s : S) (e : ℕ) (m : Monomial S) → cmp s w ≡ Less → marked cmp w k f (with_power cmp s e m) ≡ marked cmp w k (λ n. f (with_power cmp s e n)) m
  marked_below k f s e m h = ap₂ (λ x n. cond (eqb x k) (f n) (pos 0)) (exponent_below s e m h) (without_below s e m h)

  pub marked_free : (f : Monomial S → ℤ) (m : Monomial S) → Free m → marked cmp w 1 f m ≡ pos 0
  marked_free f m h = ap (λ x. cond (eqb x 1) (f (without cmp w m)) (pos 0)) (exponent_free m h)

  with_power_top : (e : ℕ) (m : Monomial S) → Free m → with_power cmp w e m ≡ (w, e) ∷ m
  with_power_top e [] h = refl
  with_power_top e (p ∷ m) h = ap (λ o. match_ordering o (p ∷ with_power cmp w e m) ((p.0, e + p.1) ∷ m) ((w, e) ∷ p ∷ m)) (greater_reversed order.total p.0 w h.0)

  pub exponent_top : (e : ℕ) (m : Monomial S) → Free m → exponent cmp w ((w, e) ∷ m) ≡ e
  exponent_top e m h = ap (λ o. match_ordering o (exponent cmp w m) (e + exponent cmp w m) (exponent cmp w m)) (tied_itself order.total w) ∙ omega (arith, exponent_free m h)

  pub without_top : (e : ℕ) (m : Monomial S) → Free m → without cmp w ((w, e) ∷ m) ≡ m
  without_top e m h = ap (λ o. match_ordering o ((w, e) ∷ without cmp w m) (without cmp w m) ((w, e) ∷ without cmp w m)) (tied_itself order.total w) ∙ without_free m h

  -- w itself, put to a monomial of symbols below
  pub marked_top : (f : Monomial S → ℤ) (m : Monomial S) → Free m → marked cmp w 1 f ((w, 1) ∷ m) ≡ f m
  marked_top f m h = ap₂ (λ x n. cond (eqb x 1) (f n) (pos 0)) (exponent_top 1 m h) (without_top 1 m h)

  pub marked_put : (f : Monomial S → ℤ) (m : Monomial S) → Free m → marked cmp w 1 f (with_power cmp w 1 m) ≡ f m
  marked_put f m h = ap (marked cmp w 1 f) (with_power_top 1 m h) ∙ marked_top f m h
