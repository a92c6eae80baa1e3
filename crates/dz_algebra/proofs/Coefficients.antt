-- The coefficient of a power of a symbol is a polynomial, has the coefficients that it should, and the initial is not zero.
use Rattle.std.proofs.Common.{◌≡◌, ◌≢◌, ◌⊎◌, inl, inr, ℕ, zero, suc, ◌+◌, ◌<◌, ◌==◌, max, Bool, true, false, cond, List, [], ◌∷◌, ℤ, pos, ◌+ℤ◌, refl, sym, ap, ap₂, ◌∙◌, arith, subst, ltb, ltb-true, ltb-false}
use Rattle.std.proofs.lemmas.Bool.{eqb-true, eq-eqb}
use Rattle.std.proofs.lemmas.Int.{ints}
use Rattle.std.specs.declared.cmp.Ordering.{Ordering}
use Rattle.std.specs.declared.cmp.Ordering.TheVariants.{Less, Equal, Greater}
use Rattle.std.specs.Cmp.{tied_itself}
use Rattle.std.specs.Ordering.{match_ordering}
use Rattle.dz_algebra.specs.Order.{IsOrder, IsAbove}
use Rattle.dz_algebra.specs.Monomial.{Monomial, IsMonomial, monomial_cmp, exponent, with_power, without}
use Rattle.dz_algebra.specs.Polynomial.{Polynomial, IsPolynomial, coefficient_at}
use Rattle.dz_algebra.specs.Parts.{degree, coefficient_of, initial}
use Rattle.dz_algebra.proofs.Orders.{same_monomial}
use Rattle.dz_algebra.proofs.Monomials.{same_exponents, exponent_with_power, with_power_is}
use Rattle.dz_algebra.proofs.MonomialOrder.{power_keeps_order}

greater_of : (a b : ℕ) → (max a b ≡ a) ⊎ (max a b ≡ b)
greater_of a b = by_test (ltb a b) refl
  where
    by_test : (c : Bool) → ltb a b ≡ c → (max a b ≡ a) ⊎ (max a b ≡ b)
    by_test true e = inr (omega (arith, ltb-true a b e))
    by_test false e = inl (omega (arith, ltb-false a b e))

module _ {S : Type 0} {cmp : S → S → Ordering} (order : IsOrder cmp) (s : S) where
  abbrev by : Monomial S → Monomial S → Ordering
  by = monomial_cmp cmp

  -- ---- a monomial without s
  pub exponent_left : (m : Monomial S) → exponent cmp s (without cmp s m) ≡ 0
  exponent_left [] = refl
  exponent_left (p ∷ m) =
      elim (cmp s p.0) as (λ o. cmp s p.0 ≡ o → exponent cmp s (match_ordering o (p ∷ without cmp s m) (without cmp s m) (p ∷ without cmp s m)) ≡ 0) [
        | Less ↦ λ h. ap (λ o. match_ordering o (exponent cmp s (without cmp s m)) (p.1 + exponent cmp s (without cmp s m)) (exponent cmp s (without cmp s m))) h ∙ exponent_left m
        | Equal ↦ λ h. exponent_left m
        | Greater ↦ λ h. ap (λ o. match_ordering o (exponent cmp s (without cmp s m)) (p.1 + exponent cmp s (without cmp s m)) (exponent cmp s (without cmp s m))) h ∙ exponent_left m
      ] refl

  -- other exponents stay
  pub exponent_other : (t : S) → cmp s t ≢ Equal → (m : Monomial S) → exponent cmp t (without cmp s m) ≡ exponent cmp t m
  exponent_other t n [] = refl
  exponent_other t n (p ∷ m) =
      elim (cmp s p.0) as (λ o. cmp s p.0 ≡ o → exponent cmp t (match_ordering o (p ∷ without cmp s m) (without cmp s m) (p ∷ without cmp s m)) ≡ exponent cmp t (p ∷ m)) [
        | Less ↦ λ h. ap (λ x. match_ordering (cmp t p.0) x (p.1 + x) x) (exponent_other t n m)
        | Equal ↦ λ h. exponent_other t n m ∙ sym (skipped (cmp t p.0) (λ e. n (ap (cmp s) (order.same t p.0 e) ∙ h)) p.1 (exponent cmp t m))
        | Greater ↦ λ h. ap (λ x. match_ordering (cmp t p.0) x (p.1 + x) x) (exponent_other t n m)
      ] refl
    where
      skipped : (o : Ordering) → o ≢ Equal → (k x : ℕ) → match_ordering o x (k + x) x ≡ x
      skipped Less n k x = refl
      skipped Equal n k x = absurd (n refl)
      skipped Greater n k x = refl

  above_without : (k : S) (m : Monomial S) → IsAbove cmp k m → IsAbove cmp k (without cmp s m)
  above_without k [] a = tt
  above_without k (p ∷ m) a =
      elim (cmp s p.0) as (λ o. IsAbove cmp k (match_ordering o (p ∷ without cmp s m) (without cmp s m) (p ∷ without cmp s m))) [
        | Less ↦ (a.0, above_without k m a.1)
        | Equal ↦ above_without k m a.1
        | Greater ↦ (a.0, above_without k m a.1)
      ]

  -- what is left is a monomial
  pub without_is : (m : Monomial S) → IsMonomial cmp m → IsMonomial cmp (without cmp s m)
  without_is [] h = tt
  without_is (p ∷ m) h =
      elim (cmp s p.0) as (λ o. IsMonomial cmp (match_ordering o (p ∷ without cmp s m) (without cmp s m) (p ∷ without cmp s m))) [
        | Less ↦ (h.0, above_without p.0 m h.1, without_is m h.2)
        | Equal ↦ without_is m h.2
        | Greater ↦ (h.0, above_without p.0 m h.1, without_is m h.2)
      ]

  different : (t : S) (o : Ordering) → cmp t s ≡ o → o ≢ Equal → cmp s t ≢ Equal
  different t o h n e = n (sym h ∙ ap (λ x. cmp x s) (sym (order.same s t e)) ∙ tied_itself order.total s)

  -- where s does not occur nothing changes
  pub without_nothing : (m : Monomial S) → IsMonomial cmp m → exponent cmp s m ≡ 0 → without cmp s m ≡ m
  without_nothing m h e = same_exponents order (without cmp s m) m (without_is m h) h (λ t. by_order t (cmp t s) refl)
    where
      by_order : (t : S) (o : Ordering) → cmp t s ≡ o → exponent cmp t (without cmp s m) ≡ exponent cmp t m
      by_order t Less f = exponent_other t (different t Less f (λ e. cc)) m
      by_order t Equal f = ap (λ x. exponent cmp x (without cmp s m)) (order.same t s f) ∙ exponent_left m ∙ sym e ∙ ap (λ x. exponent cmp x m) (sym (order.same t s f))
      by_order t Greater f = exponent_other t (different t Greater f (λ e. cc)) m

  -- with its power back the monomial is as before
  pub power_without : (m : Monomial S) → IsMonomial cmp m → 0 < exponent cmp s m → with_power cmp s (exponent cmp s m) (without cmp s m) ≡ m
  power_without m h l = same_exponents order (with_power cmp s (exponent cmp s m) (without cmp s m)) m (with_power_is order s (exponent cmp s m) (without cmp s m) l (without_is m h)) h (λ t. exponent_with_power order t s (exponent cmp s m) (without cmp s m) ∙ by_order t (cmp t s) refl)
    where
      by_order : (t : S) (o : Ordering) → cmp t s ≡ o → match_ordering (cmp t s) 0 (exponent cmp s m) 0 + exponent cmp t (without cmp s m) ≡ exponent cmp t m
      by_order t Less f = ap₂ (λ o x. match_ordering o 0 (exponent cmp s m) 0 + x) f (exponent_other t (different t Less f (λ e. cc)) m) ∙ omega arith
      by_order t Equal f = ap₂ (λ o x. match_ordering o 0 (exponent cmp s m) 0 + x) f (ap (λ x. exponent cmp x (without cmp s m)) (order.same t s f) ∙ exponent_left m) ∙ (let e : exponent cmp t m ≡ exponent cmp s m = ap (λ x. exponent cmp x m) (order.same t s f) in omega (arith, e))
      by_order t Greater f = ap₂ (λ o x. match_ordering o 0 (exponent cmp s m) 0 + x) f (exponent_other t (different t Greater f (λ e. cc)) m) ∙ omega arith

  -- leaving out the same power keeps the order
  pub without_keeps_order : (m n : Monomial S) → IsMonomial cmp m → IsMonomial cmp n → exponent cmp s m ≡ exponent cmp s n → by (without cmp s m) (without cmp s n) ≡ by m n
  without_keeps_order m n h g e = by_exponent (exponent cmp s m) refl
    where
      by_exponent : (k : ℕ) → exponent cmp s m ≡ k → by (without cmp s m) (without cmp s n) ≡ by m n
      by_exponent zero f = ap₂ by (without_nothing m h f) (without_nothing n g (sym e ∙ f))
      by_exponent (suc k) f =
          sym (power_keeps_order order s (exponent cmp s m) (omega arith) (without cmp s m) (without cmp s n) (without_is m h) (without_is n g))
          ∙ ap₂ by (power_without m h (omega arith)) (ap (λ k. with_power cmp s k (without cmp s n)) e ∙ power_without n g (omega arith))

  -- ---- the coefficient of s^k
  above_coefficient : (k : ℕ) (m : Monomial S) (p : Polynomial S) → IsMonomial cmp m → exponent cmp s m ≡ k → IsPolynomial cmp p → IsAbove by m p → IsAbove by (without cmp s m) (coefficient_of cmp s k p)
  above_coefficient k m [] h e g a = tt
  above_coefficient k m (t ∷ p) h e g a = by_test (exponent cmp s t.0 == k) refl (above_coefficient k m p h e g.3 a.1)
    where
      by_test : (b : Bool) → (exponent cmp s t.0 == k) ≡ b → IsAbove by (without cmp s m) (coefficient_of cmp s k p) → IsAbove by (without cmp s m) (cond b ((without cmp s t.0, t.1) ∷ coefficient_of cmp s k p) (coefficient_of cmp s k p))
      by_test true f r = (without_keeps_order m t.0 h g.1 (e ∙ sym (eqb-true (exponent cmp s t.0) k f)) ∙ a.0, r)
      by_test false f r = r

  -- the coefficient of a power is canonical
  pub coefficient_of_is : (k : ℕ) (p : Polynomial S) → IsPolynomial cmp p → IsPolynomial cmp (coefficient_of cmp s k p)
  coefficient_of_is k [] h = tt
  coefficient_of_is k (t ∷ p) h = by_test (exponent cmp s t.0 == k) refl (coefficient_of_is k p h.3)
    where
      by_test : (b : Bool) → (exponent cmp s t.0 == k) ≡ b → IsPolynomial cmp (coefficient_of cmp s k p) → IsPolynomial cmp (cond b ((without cmp s t.0, t.1) ∷ coefficient_of cmp s k p) (coefficient_of cmp s k p))
      by_test true f r = (h.0, without_is t.0 h.1, above_coefficient k t.0 p h.1 (eqb-true (exponent cmp s t.0) k f) h.3 h.2, r)
      by_test false f r = r

  -- its coefficient at a monomial without s is that of the monomial with s^k
  pub coefficient_there : (n : Monomial S) (p : Polynomial S) → IsMonomial cmp n → IsPolynomial cmp p → coefficient_at by (without cmp s n) (coefficient_of cmp s (exponent cmp s n) p) ≡ coefficient_at by n p
  coefficient_there n [] h g = refl
  coefficient_there n (t ∷ p) h g = by_test (exponent cmp s t.0 == exponent cmp s n) refl (coefficient_there n p h g.3)
    where
      k : ℕ
      k = exponent cmp s n

      skipped : (o : Ordering) → o ≢ Equal → (x : ℤ) → x ≡ match_ordering o (pos 0) t.1 (pos 0) +ℤ x
      skipped Less a x = omega (arith, ints)
      skipped Equal a x = absurd (a refl)
      skipped Greater a x = omega (arith, ints)

      no : (exponent cmp s t.0 == exponent cmp s n) ≡ false → by n t.0 ≢ Equal
      no f e = let b = eq-eqb (exponent cmp s t.0) (exponent cmp s n) (ap (exponent cmp s) (sym (same_monomial order n t.0 e))) in cc

      by_test : (b : Bool) → (exponent cmp s t.0 == exponent cmp s n) ≡ b → coefficient_at by (without cmp s n) (coefficient_of cmp s (exponent cmp s n) p) ≡ coefficient_at by n p → coefficient_at by (without cmp s n) (cond b ((without cmp s t.0, t.1) ∷ coefficient_of cmp s (exponent cmp s n) p) (coefficient_of cmp s (exponent cmp s n) p)) ≡ coefficient_at by n (t ∷ p)
      by_test true f r = ap₂ (λ o x. match_ordering o (pos 0) t.1 (pos 0) +ℤ x) (without_keeps_order n t.0 h g.1 (sym (eqb-true (exponent cmp s t.0) (exponent cmp s n) f))) r
      by_test false f r = r ∙ skipped (by n t.0) (no f) (coefficient_at by n p)

  -- ---- the initial
  cons_not_empty : {X : Type 0} (x : X) (xs : List X) → x ∷ xs ≢ []
  cons_not_empty x xs e = cc

  first_kept : (k : ℕ) (t : Monomial S × ℤ) (p : Polynomial S) → exponent cmp s t.0 ≡ k → coefficient_of cmp s k (t ∷ p) ≢ []
  first_kept k t p e f = cons_not_empty (without cmp s t.0, t.1) (coefficient_of cmp s k p) (sym (ap (λ b. cond b ((without cmp s t.0, t.1) ∷ coefficient_of cmp s k p) (coefficient_of cmp s k p)) (eq-eqb (exponent cmp s t.0) k e)) ∙ f)

  more_kept : (k : ℕ) (t : Monomial S × ℤ) (p : Polynomial S) → coefficient_of cmp s k p ≢ [] → coefficient_of cmp s k (t ∷ p) ≢ []
  more_kept k t p n = elim (exponent cmp s t.0 == k) as (λ b. cond b ((without cmp s t.0, t.1) ∷ coefficient_of cmp s k p) (coefficient_of cmp s k p) ≢ []) [ true ↦ cons_not_empty _ _ | false ↦ n ]

  -- the initial of a nonzero polynomial is not zero
  pub initial_not_zero : (p : Polynomial S) → p ≢ [] → initial cmp s p ≢ []
  initial_not_zero [] n = absurd (n refl)
  initial_not_zero (t ∷ []) n = first_kept (degree cmp s (t ∷ [])) t [] (omega arith)
  initial_not_zero (t ∷ u ∷ p) n = by_degrees (initial_not_zero (u ∷ p) (cons_not_empty u p)) (greater_of (exponent cmp s t.0) (degree cmp s (u ∷ p)))
    where
      by_degrees : coefficient_of cmp s (degree cmp s (u ∷ p)) (u ∷ p) ≢ [] → (max (exponent cmp s t.0) (degree cmp s (u ∷ p)) ≡ exponent cmp s t.0) ⊎ (max (exponent cmp s t.0) (degree cmp s (u ∷ p)) ≡ degree cmp s (u ∷ p)) → coefficient_of cmp s (degree cmp s (t ∷ u ∷ p)) (t ∷ u ∷ p) ≢ []
      by_degrees rest (inl e) = first_kept (degree cmp s (t ∷ u ∷ p)) t (u ∷ p) (sym e)
      by_degrees rest (inr e) = more_kept (degree cmp s (t ∷ u ∷ p)) t (u ∷ p) (subst (λ k. coefficient_of cmp s k (u ∷ p) ≢ []) (sym e) rest)
