-- Products of polynomials commute, associate and distribute over sums.
use Rattle.std.proofs.Common.{◌≡◌, [], ◌∷◌, ◌++◌, ℤ, ◌+ℤ◌, sym, ap, ap₂, ◌∙◌}
use Rattle.std.specs.declared.cmp.Ordering.{Ordering}
use Rattle.dz_algebra.specs.Monomial.{Monomial, IsMonomial, monomial_product}
use Rattle.dz_algebra.specs.Polynomial.{Polynomial, IsPolynomial, pairs, term_times, polynomial_sum, polynomial_product, AreMonomials}
use Rattle.dz_algebra.specs.Order.{IsOrder}
use Rattle.dz_algebra.proofs.Monomials.{product_is, product_commutes, product_associates}
use Rattle.dz_algebra.proofs.Canonical.{collect_is, are_monomials, monomials-append}
use Rattle.dz_algebra.proofs.Totals.{total, total-append, total_sum, total_swaps, total_collect, total_pairs, same_total, same_by_totals}

module _ {S : Type 0} {cmp : S → S → Ordering} (order : IsOrder cmp) where
  monomials_term_times : (m : Monomial S) (c : ℤ) (q : Polynomial S) → IsMonomial cmp m → AreMonomials cmp q → AreMonomials cmp (term_times cmp m c q)
  monomials_term_times m c [] h g = tt
  monomials_term_times m c (t ∷ q) h g = (product_is order m t.0 h g.0, monomials_term_times m c q h g.1)

  -- the contributions of a product stand at monomials
  pub monomials_pairs : (p q : Polynomial S) → AreMonomials cmp p → AreMonomials cmp q → AreMonomials cmp (pairs cmp p q)
  monomials_pairs [] q h g = tt
  monomials_pairs (t ∷ p) q h g = monomials-append order (term_times cmp t.0 t.1 q) (pairs cmp p q) (monomials_term_times t.0 t.1 q h.0 g) (monomials_pairs p q h.1 g)

  -- a product is canonical
  pub polynomial_product_is : (p q : Polynomial S) → IsPolynomial cmp p → IsPolynomial cmp q → IsPolynomial cmp (polynomial_product cmp p q)
  unfolding polynomial_product
  polynomial_product_is p q h g = collect_is order (pairs cmp p q) (monomials_pairs p q (are_monomials order p h) (are_monomials order q g))

  -- products commute
  pub polynomial_product_commutes : (p q : Polynomial S) → IsPolynomial cmp p → IsPolynomial cmp q → polynomial_product cmp p q ≡ polynomial_product cmp q p
  unfolding polynomial_product
  polynomial_product_commutes p q h g =
      let i = are_monomials order p h in
      let j = are_monomials order q g in
      same_by_totals order (pairs cmp p q) (pairs cmp q p) (monomials_pairs p q i j) (monomials_pairs q p j i)
      (λ f. total_pairs order f p q ∙ total_swaps (λ m n. f (monomial_product cmp m n)) p q
      ∙ same_total order _ _ (λ n k. same_total order _ _ (λ m l. ap f (product_commutes order m n l k)) p i) q j
      ∙ sym (total_pairs order f q p))

  -- products associate
  pub polynomial_product_associates : (p q s : Polynomial S) → IsPolynomial cmp p → IsPolynomial cmp q → IsPolynomial cmp s → polynomial_product cmp (polynomial_product cmp p q) s ≡ polynomial_product cmp p (polynomial_product cmp q s)
  unfolding polynomial_product
  polynomial_product_associates p q s h g k =
      let i = are_monomials order p h in
      let j = are_monomials order q g in
      let l = are_monomials order s k in
      let left = polynomial_product cmp p q in
      let right = polynomial_product cmp q s in
      same_by_totals order (pairs cmp left s) (pairs cmp p right)
      (monomials_pairs left s (are_monomials order left (polynomial_product_is p q h g)) l) (monomials_pairs p right i (are_monomials order right (polynomial_product_is q s g k)))
      (λ f. total_pairs order f left s ∙ total_collect order (λ m. total (λ n. f (monomial_product cmp m n)) s) (pairs cmp p q) ∙ total_pairs order (λ m. total (λ n. f (monomial_product cmp m n)) s) p q
      ∙ same_total order _ _ (λ a x. same_total order _ _ (λ b y. same_total order _ _ (λ c w. ap f (product_associates order a b c x y w)) s l) q j) p i
      ∙ sym (total_pairs order f p right ∙ same_total order _ _ (λ a x. total_collect order (λ n. f (monomial_product cmp a n)) (pairs cmp q s) ∙ total_pairs order (λ n. f (monomial_product cmp a n)) q s) p i))

  -- a sum is canonical
  pub polynomial_sum_is : (p q : Polynomial S) → IsPolynomial cmp p → IsPolynomial cmp q → IsPolynomial cmp (polynomial_sum cmp p q)
  unfolding polynomial_sum
  polynomial_sum_is p q h g = collect_is order (p ++ q) (monomials-append order p q (are_monomials order p h) (are_monomials order q g))

  -- products distribute over sums
  pub polynomial_product_distributes : (p q s : Polynomial S) → IsPolynomial cmp p → IsPolynomial cmp q → IsPolynomial cmp s → polynomial_product cmp p (polynomial_sum cmp q s) ≡ polynomial_sum cmp (polynomial_product cmp p q) (polynomial_product cmp p s)
  unfolding polynomial_product polynomial_sum
  polynomial_product_distributes p q s h g k =
      let i = are_monomials order p h in
      let summed = polynomial_sum cmp q s in
      let a = polynomial_product cmp p q in
      let b = polynomial_product cmp p s in
      same_by_totals order (pairs cmp p summed) (a ++ b)
      (monomials_pairs p summed i (are_monomials order summed (polynomial_sum_is q s g k))) (monomials-append order a b (are_monomials order a (polynomial_product_is p q h g)) (are_monomials order b (polynomial_product_is p s h k)))
      (λ f. total_pairs order f p summed
      ∙ same_total order _ _ (λ m x. total_collect order (λ n. f (monomial_product cmp m n)) (q ++ s) ∙ total-append (λ n. f (monomial_product cmp m n)) q s) p i
      ∙ total_sum (λ m. total (λ n. f (monomial_product cmp m n)) q) (λ m. total (λ n. f (monomial_product cmp m n)) s) p
      ∙ sym (total-append f a b ∙ ap₂ (λ x y. x +ℤ y) (total_collect order f (pairs cmp p q) ∙ total_pairs order f p q) (total_collect order f (pairs cmp p s) ∙ total_pairs order f p s)))
