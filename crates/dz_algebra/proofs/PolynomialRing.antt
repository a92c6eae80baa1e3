-- The polynomials in one order of symbols, as a ring.
use Rattle.std.proofs.Common.{◌≡◌, ◌≢◌, List, [], ◌∷◌, ◌++◌, ℤ, pos, ◌+ℤ◌, ◌*ℤ◌, neg_ℤ, refl, sym, ap, ◌∙◌, arith}
use Rattle.std.proofs.lemmas.Int.{ints}
use mathlib.Core.HLevel.{Σ_prop_path}
use Rattle.std.specs.Coded.{le_prop, Unit-prop}
use Rattle.std.specs.declared.cmp.Ordering.{Ordering}
use Rattle.std.specs.Ordering.{Ordering-set}
use Rattle.dz_algebra.specs.Ring.{Ring, sum_times, zero_product}
use Rattle.dz_algebra.specs.Monomial.{Monomial, monomial_cmp, IsMonomial}
use Rattle.dz_algebra.specs.Polynomial.{Polynomial, IsPolynomial, pairs, polynomial_sum, polynomial_product, negated, polynomial_one}
use Rattle.dz_algebra.specs.Order.{IsOrder, IsAbove}
use Rattle.dz_algebra.proofs.Products.{monomials_pairs, polynomial_product_is, polynomial_sum_is, polynomial_product_commutes, polynomial_product_associates, polynomial_product_distributes}
use Rattle.dz_algebra.proofs.Canonical.{collected, polynomial_sum_commutes, are_monomials, monomials-append}
use Rattle.dz_algebra.proofs.Totals.{total, total-append, total_collect, total_pairs, same_by_totals}
use Rattle.dz_algebra.specs.Whole.{whole_ring}

nothing_prop : IsProp ⊥
nothing_prop x y = absurd x

above_prop : {S X : Type 0} (cmp : S → S → Ordering) (s : S) (m : List (S × X)) → IsProp (IsAbove cmp s m)
above_prop cmp s [] = Unit-prop
above_prop cmp s (p ∷ m) = hlevel (Ordering-set, above_prop cmp s m)

monomial_prop : {S : Type 0} (cmp : S → S → Ordering) (m : Monomial S) → IsProp (IsMonomial cmp m)
monomial_prop cmp [] = Unit-prop
monomial_prop cmp (p ∷ m) = hlevel (le_prop, above_prop cmp p.0 m, monomial_prop cmp m)

polynomial_prop : {S : Type 0} (cmp : S → S → Ordering) (p : Polynomial S) → IsProp (IsPolynomial cmp p)
polynomial_prop cmp [] = Unit-prop
polynomial_prop cmp (t ∷ p) = hlevel (nothing_prop, monomial_prop cmp t.0, above_prop (monomial_cmp cmp) t.0 p, polynomial_prop cmp p)

module _ {S : Type 0} {cmp : S → S → Ordering} (order : IsOrder cmp) where
  -- a list of terms that is a polynomial
  abbrev pub Canonical : Type 0
  Canonical = (p : Polynomial S) × IsPolynomial cmp p

  -- canonical polynomials with one list are one
  pub same_canonical : (p q : Canonical) → p.0 ≡ q.0 → p ≡ q
  same_canonical p q e = Σ_prop_path (λ x. polynomial_prop cmp x) e

  negated_above : (m : Monomial S) (p : Polynomial S) → IsAbove (monomial_cmp cmp) m p → IsAbove (monomial_cmp cmp) m (negated p)
  negated_above m [] a = tt
  negated_above m (t ∷ p) a = (a.0, negated_above m p a.1)

  still_nonzero : (c : ℤ) → c ≢ pos 0 → neg_ℤ c ≢ pos 0
  still_nonzero c h e = h (omega (arith, ints))

  -- the negative is canonical
  pub negated_is : (p : Polynomial S) → IsPolynomial cmp p → IsPolynomial cmp (negated p)
  negated_is [] h = tt
  negated_is (t ∷ p) h = (still_nonzero t.1 h.0, h.1, negated_above t.0 p h.2, negated_is p h.3)

  -- the negative cancels
  pub total_negated : (f : Monomial S → ℤ) (p : Polynomial S) → total f (negated p) +ℤ total f p ≡ pos 0
  unfolding total
  total_negated f [] = refl
  total_negated f (t ∷ p) = cancelled (t.1 *ℤ f t.0) (total f (negated p)) (total f p) (neg_ℤ t.1 *ℤ f t.0) (opposite t.1 (f t.0)) (total_negated f p)
    where
      opposite : (a b : ℤ) → neg_ℤ a *ℤ b +ℤ a *ℤ b ≡ pos 0
      opposite a b = sym (sum_times whole_ring (neg_ℤ a) a b) ∙ ap (λ x. x *ℤ b) (whole_ring.negative_is_inverse a) ∙ zero_product whole_ring b

      cancelled : (a x y b : ℤ) → b +ℤ a ≡ pos 0 → x +ℤ y ≡ pos 0 → (b +ℤ x) +ℤ (a +ℤ y) ≡ pos 0
      cancelled a x y b e f = omega (arith, ints)

  -- one is canonical
  pub one_is : IsPolynomial cmp polynomial_one
  unfolding polynomial_one
  one_is = (λ e. cc, tt, tt, tt)

  -- the sum associates
  pub sum_associates : (p q s : Polynomial S) → IsPolynomial cmp p → IsPolynomial cmp q → IsPolynomial cmp s → polynomial_sum cmp (polynomial_sum cmp p q) s ≡ polynomial_sum cmp p (polynomial_sum cmp q s)
  unfolding polynomial_sum
  sum_associates p q s h g k =
      let a = polynomial_sum cmp p q in
      let b = polynomial_sum cmp q s in
      same_by_totals order (a ++ s) (p ++ b)
      (monomials-append order a s (are_monomials order a (polynomial_sum_is order p q h g)) (are_monomials order s k)) (monomials-append order p b (are_monomials order p h) (are_monomials order b (polynomial_sum_is order q s g k)))
      (λ f. total-append f a s ∙ ap (λ x. x +ℤ total f s) (total_collect order f (p ++ q) ∙ total-append f p q) ∙ whole_ring.sum_associates (total f p) (total f q) (total f s)
      ∙ sym (total-append f p b ∙ ap (λ x. total f p +ℤ x) (total_collect order f (q ++ s) ∙ total-append f q s)))

  -- a polynomial and its negative add up to zero
  pub negative_is_inverse : (p : Polynomial S) → IsPolynomial cmp p → polynomial_sum cmp (negated p) p ≡ []
  unfolding total polynomial_sum
  negative_is_inverse p h =
      same_by_totals order (negated p ++ p) [] (monomials-append order (negated p) p (are_monomials order (negated p) (negated_is p h)) (are_monomials order p h)) tt
      (λ f. total-append f (negated p) p ∙ total_negated f p)

  -- one times a polynomial is the polynomial
  pub one_is_neutral : (p : Polynomial S) → IsPolynomial cmp p → polynomial_product cmp polynomial_one p ≡ p
  unfolding total polynomial_one polynomial_product
  one_is_neutral p h =
      same_by_totals order (pairs cmp polynomial_one p) p (monomials_pairs order polynomial_one p (are_monomials order polynomial_one one_is) (are_monomials order p h)) (are_monomials order p h)
      (λ f. total_pairs order f polynomial_one p ∙ single (total f p))
      ∙ collected order p h
    where
      single : (x : ℤ) → pos 1 *ℤ x +ℤ pos 0 ≡ x
      single x = omega (arith, ints)

  -- zero and a polynomial add up to the polynomial
  pub zero_is_neutral : (p : Polynomial S) → IsPolynomial cmp p → polynomial_sum cmp [] p ≡ p
  unfolding polynomial_sum
  zero_is_neutral p h = collected order p h

  -- the polynomials in one order are a commutative ring
  abbrev pub polynomial_ring : Ring Canonical
  polynomial_ring = record {
    arithmetic = record {
      zero = ([], tt);
      one = (polynomial_one, one_is);
      sum = λ p q. (polynomial_sum cmp p.0 q.0, polynomial_sum_is order p.0 q.0 p.1 q.1);
      negative = λ p. (negated p.0, negated_is p.0 p.1);
      product = λ p q. (polynomial_product cmp p.0 q.0, polynomial_product_is order p.0 q.0 p.1 q.1);
    };
    sum_commutes = λ p q. same_canonical _ _ (polynomial_sum_commutes order p.0 q.0 p.1 q.1);
    sum_associates = λ p q s. same_canonical _ _ (sum_associates p.0 q.0 s.0 p.1 q.1 s.1);
    zero_is_neutral = λ p. same_canonical _ _ (zero_is_neutral p.0 p.1);
    negative_is_inverse = λ p. same_canonical _ _ (negative_is_inverse p.0 p.1);
    product_commutes = λ p q. same_canonical _ _ (polynomial_product_commutes order p.0 q.0 p.1 q.1);
    product_associates = λ p q s. same_canonical _ _ (polynomial_product_associates order p.0 q.0 s.0 p.1 q.1 s.1);
    one_is_neutral = λ p. same_canonical _ _ (one_is_neutral p.0 p.1);
    product_distributes = λ p q s. same_canonical _ _ (polynomial_product_distributes order p.0 q.0 s.0 p.1 q.1 s.1);
  }
