-- Values in the ring of canonical polynomials, and what values in another ring make of them.
use Rattle.std.proofs.Common.{◌≡◌, ℕ, zero, suc, [], ◌∷◌, ℤ, pos, negsuc, refl, sym, ap, ap₂, ◌∙◌}
use Rattle.std.specs.declared.cmp.Ordering.{Ordering}
use Rattle.dz_algebra.specs.Domain.{copies}
use Rattle.dz_algebra.specs.Ring.{Ring, right_neutral}
use Rattle.dz_algebra.specs.Order.{IsOrder}
use Rattle.dz_algebra.specs.Monomial.{Monomial, monomial_cmp}
use Rattle.dz_algebra.specs.Polynomial.{Polynomial, Contributions, negated, polynomial_one, polynomial_sum, polynomial_product, symbol_polynomial}
use Rattle.dz_algebra.specs.Value.{whole_in, power, monomial_value, value}
use Rattle.dz_algebra.proofs.Generic.{generic_value}
use Rattle.dz_algebra.proofs.Homomorphisms.{IsHomomorphism, image_value}
use Rattle.dz_algebra.proofs.Orders.{same_monomial}
use Rattle.dz_algebra.proofs.PolynomialRing.{Canonical, polynomial_ring}
use Rattle.dz_algebra.proofs.Values.{value-append, collect_value, pairs_value, negated_value}
use Rattle.dz_monomials.specs.Terms.{constant_polynomial}
use Rattle.dz_solution.specs.Substitution.{polynomial_arithmetic}

module _ {S : Type 0} {cmp : S → S → Ordering} (order : IsOrder cmp) where
  -- the ring of canonical polynomials
  abbrev pub R : Ring (Canonical order)
  R = polynomial_ring order

  -- ---- its operations are those of polynomials
  copies_there : (n : ℕ) (a : Canonical order) → (copies R.arithmetic n a).0 ≡ copies (polynomial_arithmetic cmp) n a.0
  copies_there zero a = refl
  copies_there (suc n) a = ap (polynomial_sum cmp a.0) (copies_there n a)

  whole_there : (c : ℤ) → (whole_in R.arithmetic c).0 ≡ whole_in (polynomial_arithmetic cmp) c
  whole_there (pos n) = copies_there n R.one
  whole_there (negsuc n) = ap negated (copies_there (suc n) R.one)

  power_there : (x : Canonical order) (e : ℕ) → (power R.arithmetic x e).0 ≡ power (polynomial_arithmetic cmp) x.0 e
  power_there x zero = refl
  power_there x (suc e) = ap (polynomial_product cmp x.0) (power_there x e)

  module _ (to : S → Canonical order) where
    monomial_there : (m : Monomial S) → (monomial_value R.arithmetic to m).0 ≡ monomial_value (polynomial_arithmetic cmp) (λ s. (to s).0) m
    monomial_there [] = refl
    monomial_there (p ∷ m) = ap₂ (polynomial_product cmp) (power_there (to p.0) p.1) (monomial_there m)

    -- a value in that ring, as a polynomial
    pub value_there : (ts : Contributions S) → (value R.arithmetic to ts).0 ≡ value (polynomial_arithmetic cmp) (λ s. (to s).0) ts
    value_there [] = refl
    value_there (t ∷ ts) = ap₂ (polynomial_sum cmp) (ap₂ (polynomial_product cmp) (whole_there t.1) (monomial_there t.0)) (value_there ts)

  -- a whole number in that ring, as a polynomial
  pub constant_there : (c : ℤ) → constant_polynomial c ≡ (whole_in R.arithmetic c).0
  constant_there c =
      let k = whole_in R.arithmetic c in
      sym (generic_value order (([], c) ∷ []) (tt, tt))
      ∙ ap (λ x. x.0) (right_neutral R (R.product k R.one) ∙ R.product_commutes k R.one ∙ R.one_is_neutral k)

  -- ---- in another ring
  module _ {E : Type 0} (r : Ring E) (at : S → E) where
    one_value : value r.arithmetic at polynomial_one ≡ r.one
    unfolding polynomial_one
    one_value =
        right_neutral r _ ∙ ap (λ x. r.product x r.one) (right_neutral r r.one) ∙ r.one_is_neutral r.one

    -- the value of a symbol as a polynomial
    pub value_of_symbol : (s : S) → value r.arithmetic at (symbol_polynomial s) ≡ at s
    value_of_symbol s =
        right_neutral r _ ∙ ap₂ r.product (right_neutral r r.one) (r.product_commutes _ r.one ∙ r.one_is_neutral _ ∙ r.product_commutes _ r.one ∙ r.one_is_neutral _) ∙ r.one_is_neutral _

    sum_value : (p q : Polynomial S) → value r.arithmetic at (polynomial_sum cmp p q) ≡ r.sum (value r.arithmetic at p) (value r.arithmetic at q)
    unfolding polynomial_sum
    sum_value p q = collect_value r cmp order.same at (monomial_cmp cmp) (same_monomial order) _ ∙ value-append r cmp order.same at p q

    product_value : (p q : Polynomial S) → value r.arithmetic at (polynomial_product cmp p q) ≡ r.product (value r.arithmetic at p) (value r.arithmetic at q)
    unfolding polynomial_product
    product_value p q = collect_value r cmp order.same at (monomial_cmp cmp) (same_monomial order) _ ∙ pairs_value r cmp order.same at p q

    -- the value is a homomorphism from canonical polynomials
    value_keeps : IsHomomorphism R r (λ p. value r.arithmetic at p.0)
    value_keeps = record {
      zero = refl;
      one = one_value;
      sum = λ p q. sum_value p.0 q.0;
      negative = λ p. negated_value r cmp order.same at p.0;
      product = λ p q. product_value p.0 q.0;
    }

    -- the value of a value is the value where each symbol has the value of what stood for it
    pub value_of_value : (to : S → Canonical order) (ts : Contributions S) → value r.arithmetic at (value (polynomial_arithmetic cmp) (λ s. (to s).0) ts) ≡ value r.arithmetic (λ s. value r.arithmetic at (to s).0) ts
    value_of_value to ts =
        ap (value r.arithmetic at) (sym (value_there to ts)) ∙ image_value R r (λ p. value r.arithmetic at p.0) value_keeps to ts
