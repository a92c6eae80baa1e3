-- Sums over the terms of a polynomial, of the coefficient times a function of the monomial.
use Rattle.std.proofs.Common.{◌≡◌, zero, suc, Bool, true, false, cond, List, [], ◌∷◌, ◌++◌, ℤ, pos, negsuc, ◌+ℤ◌, ◌*ℤ◌, refl, sym, ap, ap₂, ◌∙◌}
use Rattle.std.specs.declared.cmp.Ordering.{Ordering}
use Rattle.std.specs.declared.cmp.Ordering.TheVariants.{Less, Equal, Greater}
use Rattle.std.specs.Ordering.{match_ordering}
use Rattle.dz_algebra.specs.Whole.{whole_is_zero, whole_ring}
use Rattle.dz_algebra.specs.Ring.{sum_swaps, sum_of_sums, product_swaps, sum_times, product_zero, zero_product}
use Rattle.dz_algebra.specs.Monomial.{Monomial, monomial_cmp, IsMonomial, monomial_product}
use Rattle.dz_algebra.specs.Polynomial.{Polynomial, keep, add_term, collect, coefficient_at, pairs, term_times, AreMonomials}
use Rattle.dz_algebra.specs.Order.{IsOrder}
use Rattle.dz_algebra.proofs.Orders.{same_monomial}
use Rattle.dz_algebra.proofs.Canonical.{same_collected}

-- the sum over the terms of the coefficient times f of the monomial
unfoldable pub total : {M : Type 0} → (M → ℤ) → List (M × ℤ) → ℤ
total f [] = pos 0
total f (t ∷ ts) = t.1 *ℤ f t.0 +ℤ total f ts

module _ {M : Type 0} where
  -- the totals of two lists add
  pub total-append : (f : M → ℤ) (ts us : List (M × ℤ)) → total f (ts ++ us) ≡ total f ts +ℤ total f us
  unfolding total
  total-append f [] us = sym (whole_ring.zero_is_neutral _)
  total-append f (t ∷ ts) us = ap (λ x. t.1 *ℤ f t.0 +ℤ x) (total-append f ts us) ∙ sym (whole_ring.sum_associates (t.1 *ℤ f t.0) (total f ts) (total f us))

  -- the total of a sum of functions
  pub total_sum : (f g : M → ℤ) (ts : List (M × ℤ)) → total (λ m. f m +ℤ g m) ts ≡ total f ts +ℤ total g ts
  unfolding total
  total_sum f g [] = refl
  total_sum f g (t ∷ ts) = ap₂ (λ x y. x +ℤ y) (whole_ring.product_distributes t.1 (f t.0) (g t.0)) (total_sum f g ts) ∙ sum_of_sums whole_ring (t.1 *ℤ f t.0) (t.1 *ℤ g t.0) (total f ts) (total g ts)

  -- the total of a multiple of a function
  pub total_multiple : (c : ℤ) (f : M → ℤ) (ts : List (M × ℤ)) → total (λ m. c *ℤ f m) ts ≡ c *ℤ total f ts
  unfolding total
  total_multiple c f [] = sym (product_zero whole_ring c)
  total_multiple c f (t ∷ ts) = ap₂ (λ x y. x +ℤ y) (product_swaps whole_ring t.1 c (f t.0)) (total_multiple c f ts) ∙ sym (whole_ring.product_distributes c (t.1 *ℤ f t.0) (total f ts))

  total_nothing : (ts : List (M × ℤ)) → total (λ _. pos 0) ts ≡ pos 0
  unfolding total
  total_nothing [] = refl
  total_nothing (t ∷ ts) = ap₂ (λ x y. x +ℤ y) (product_zero whole_ring t.1) (total_nothing ts)

  -- two sums change places
  pub total_swaps : (f : M → M → ℤ) (p q : List (M × ℤ)) → total (λ m. total (λ n. f m n) q) p ≡ total (λ n. total (λ m. f m n) p) q
  unfolding total
  total_swaps f [] q = sym (total_nothing q)
  total_swaps f (t ∷ p) q =
      ap₂ (λ x y. x +ℤ y) (sym (total_multiple t.1 (f t.0) q)) (total_swaps f p q)
      ∙ sym (total_sum (λ n. t.1 *ℤ f t.0 n) (λ n. total (λ m. f m n) p) q)

module _ {S : Type 0} {cmp : S → S → Ordering} (order : IsOrder cmp) where
  abbrev by : Monomial S → Monomial S → Ordering
  by = monomial_cmp cmp

  -- functions that agree at monomials have one total
  pub same_total : (f g : Monomial S → ℤ) → ((m : Monomial S) → IsMonomial cmp m → f m ≡ g m) → (ts : List (Monomial S × ℤ)) → AreMonomials cmp ts → total f ts ≡ total g ts
  unfolding total
  same_total f g e [] h = refl
  same_total f g e (t ∷ ts) h = ap₂ (λ x y. t.1 *ℤ x +ℤ y) (e t.0 h.0) (same_total f g e ts h.1)

  total_keep : (f : Monomial S → ℤ) (m : Monomial S) (c : ℤ) (p : Polynomial S) → total f (keep m c p) ≡ c *ℤ f m +ℤ total f p
  unfolding total
  total_keep f m c p = by_test (whole_is_zero c) refl
    where
      is_zero : (c : ℤ) → whole_is_zero c ≡ true → c ≡ pos 0
      is_zero (pos zero) e = refl
      is_zero (pos (suc k)) e = cc
      is_zero (negsuc k) e = cc

      by_test : (b : Bool) → whole_is_zero c ≡ b → total f (cond b p ((m, c) ∷ p)) ≡ c *ℤ f m +ℤ total f p
      by_test true e = sym (ap (λ x. x *ℤ f m +ℤ total f p) (is_zero c e) ∙ ap (λ x. x +ℤ total f p) (zero_product whole_ring (f m)) ∙ whole_ring.zero_is_neutral (total f p))
      by_test false e = refl

  total_add : (f : Monomial S → ℤ) (m : Monomial S) (c : ℤ) (p : Polynomial S) → total f (add_term by m c p) ≡ c *ℤ f m +ℤ total f p
  unfolding total
  total_add f m c [] = total_keep f m c []
  total_add f m c (t ∷ p) =
      elim (by m t.0) as (λ o. by m t.0 ≡ o → total f (match_ordering o (t ∷ add_term by m c p) (keep m (c +ℤ t.1) p) (keep m c (t ∷ p))) ≡ c *ℤ f m +ℤ total f (t ∷ p)) [
        | Less ↦ λ h. ap (λ x. t.1 *ℤ f t.0 +ℤ x) (total_add f m c p) ∙ sum_swaps whole_ring (t.1 *ℤ f t.0) (c *ℤ f m) (total f p)
        | Equal ↦ λ h. total_keep f m (c +ℤ t.1) p ∙ ap (λ x. x +ℤ total f p) (sum_times whole_ring c t.1 (f m) ∙ ap (λ n. c *ℤ f m +ℤ t.1 *ℤ f n) (same_monomial order m t.0 h)) ∙ whole_ring.sum_associates (c *ℤ f m) (t.1 *ℤ f t.0) (total f p)
        | Greater ↦ λ h. total_keep f m c (t ∷ p)
      ] refl

  -- contributions and what they make have one total
  pub total_collect : (f : Monomial S → ℤ) (ts : List (Monomial S × ℤ)) → total f (collect by ts) ≡ total f ts
  unfolding total
  total_collect f [] = refl
  total_collect f (t ∷ ts) = total_add f t.0 t.1 (collect by ts) ∙ ap (λ x. t.1 *ℤ f t.0 +ℤ x) (total_collect f ts)

  total_term_times : (f : Monomial S → ℤ) (m : Monomial S) (c : ℤ) (q : Polynomial S) → total f (term_times cmp m c q) ≡ c *ℤ total (λ n. f (monomial_product cmp m n)) q
  unfolding total
  total_term_times f m c [] = sym (product_zero whole_ring c)
  total_term_times f m c (t ∷ q) =
      ap₂ (λ x y. x +ℤ y) (whole_ring.product_associates c t.1 (f (monomial_product cmp m t.0))) (total_term_times f m c q)
      ∙ sym (whole_ring.product_distributes c (t.1 *ℤ f (monomial_product cmp m t.0)) (total (λ n. f (monomial_product cmp m n)) q))

  -- the total of a product is a double total
  pub total_pairs : (f : Monomial S → ℤ) (p q : Polynomial S) → total f (pairs cmp p q) ≡ total (λ m. total (λ n. f (monomial_product cmp m n)) q) p
  unfolding total
  total_pairs f [] q = refl
  total_pairs f (t ∷ p) q = total-append f (term_times cmp t.0 t.1 q) (pairs cmp p q) ∙ ap₂ (λ x y. x +ℤ y) (total_term_times f t.0 t.1 q) (total_pairs f p q)

  -- the coefficient at n is such a sum
  at : Monomial S → Monomial S → ℤ
  at n m = match_ordering (by n m) (pos 0) (pos 1) (pos 0)

  coefficient_total : (n : Monomial S) (ts : List (Monomial S × ℤ)) → coefficient_at by n ts ≡ total (at n) ts
  unfolding total at
  coefficient_total n [] = refl
  coefficient_total n (t ∷ ts) = ap₂ (λ x y. x +ℤ y) (one_case (by n t.0) t.1) (coefficient_total n ts)
    where
      one_case : (o : Ordering) (c : ℤ) → match_ordering o (pos 0) c (pos 0) ≡ c *ℤ match_ordering o (pos 0) (pos 1) (pos 0)
      one_case Less c = sym (product_zero whole_ring c)
      one_case Equal c = sym (whole_ring.one_is_neutral c) ∙ whole_ring.product_commutes (pos 1) c
      one_case Greater c = sym (product_zero whole_ring c)

  -- contributions with equal totals make one polynomial
  pub same_by_totals : (ts us : List (Monomial S × ℤ)) → AreMonomials cmp ts → AreMonomials cmp us → ((f : Monomial S → ℤ) → total f ts ≡ total f us) → collect by ts ≡ collect by us
  same_by_totals ts us h g e = same_collected order ts us h g (λ n. coefficient_total n ts ∙ e (at n) ∙ sym (coefficient_total n us))
