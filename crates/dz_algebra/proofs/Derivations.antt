-- The derivation of polynomials is additive, obeys Leibniz' rule, and derivations commute.
use Rattle.std.proofs.Common.{◌≡◌, ◌<◌, ℕ, zero, suc, [], ◌∷◌, ◌++◌, ℤ, pos, ◌*ℤ◌, refl, sym, ap, ap₂, ◌∙◌, arith}
use Rattle.std.specs.declared.cmp.Ordering.{Ordering}
use Rattle.dz_algebra.specs.Ring.{Ring}
use Rattle.dz_algebra.specs.Order.{IsOrder, IsAbove}
use Rattle.dz_algebra.specs.Monomial.{Monomial, IsMonomial, monomial_cmp}
use Rattle.dz_algebra.specs.Polynomial.{Polynomial, Contributions, IsPolynomial, AreMonomials, collect, pairs, symbol_polynomial, polynomial_one, polynomial_sum, polynomial_product}
use Rattle.dz_algebra.specs.Derivation.{Rate, constant, unit, symbol, once_less, times_rate, each_with_power, term_derivative, derivative_contributions, polynomial_derivative, rate_again, rate_polynomial, RatesCommute}
use Rattle.dz_algebra.specs.Value.{value, rate_value}
use Rattle.dz_algebra.proofs.Orders.{same_monomial}
use Rattle.dz_algebra.proofs.Monomials.{with_power_is}
use Rattle.dz_algebra.proofs.Canonical.{are_monomials, monomials-append, collect_is, collected}
use Rattle.dz_algebra.proofs.PolynomialRing.{Canonical, same_canonical, polynomial_ring}
use Rattle.dz_algebra.proofs.Values.{collect_value, value-append, pairs_value}
use Rattle.dz_algebra.proofs.Homomorphisms.{image_value}
use Rattle.dz_algebra.proofs.DerivativeValues.{derivative_value}
use Rattle.dz_algebra.proofs.DualNumbers.{dual_ring, element_keeps}
use Rattle.dz_algebra.proofs.Generic.{itself, generic_value}
use Rattle.dz_algebra.proofs.Commuting.{IsDerivation, commute_value}

module _ {S : Type 0} {cmp : S → S → Ordering} (order : IsOrder cmp) where
  abbrev R : Ring (Canonical order)
  R = polynomial_ring order

  -- a polynomial is its own value
  pub own_value : (p : Canonical order) → value R.arithmetic (itself order) p.0 ≡ p
  own_value p = same_canonical order _ _ (generic_value order p.0 (are_monomials order p.0 p.1) ∙ collected order p.0 p.1)

  module _ (rate : S → Rate S) where
    once_less_is : (s : S) (e : ℕ) (m : Monomial S) → IsAbove cmp s m → IsMonomial cmp m → IsMonomial cmp (once_less s e m)
    once_less_is s zero m a h = h
    once_less_is s (suc zero) m a h = h
    once_less_is s (suc (suc e)) m a h = (omega arith, a, h)

    times_rate_is : (x : Rate S) (m : Monomial S) (c : ℤ) → IsMonomial cmp m → AreMonomials cmp (times_rate cmp x m c)
    times_rate_is constant m c h = tt
    times_rate_is unit m c h = (h, tt)
    times_rate_is (symbol t) m c h = (with_power_is order t 1 m (omega arith) h, tt)

    each_with_power_is : (s : S) (e : ℕ) → 0 < e → (ts : Contributions S) → AreMonomials cmp ts → AreMonomials cmp (each_with_power cmp s e ts)
    each_with_power_is s e l [] h = tt
    each_with_power_is s e l (t ∷ ts) h = (with_power_is order s e t.0 l h.0, each_with_power_is s e l ts h.1)

    term_derivative_is : (m : Monomial S) (c : ℤ) → IsMonomial cmp m → AreMonomials cmp (term_derivative cmp rate m c)
    term_derivative_is [] c h = tt
    term_derivative_is (p ∷ m) c h =
        monomials-append order (times_rate cmp (rate p.0) (once_less p.0 p.1 m) (c *ℤ pos p.1)) (each_with_power cmp p.0 p.1 (term_derivative cmp rate m c))
        (times_rate_is (rate p.0) (once_less p.0 p.1 m) (c *ℤ pos p.1) (once_less_is p.0 p.1 m h.1 h.2))
        (each_with_power_is p.0 p.1 h.0 (term_derivative cmp rate m c) (term_derivative_is m c h.2))

    -- the contributions of a derivation stand at monomials
    pub monomials_derivative : (p : Contributions S) → AreMonomials cmp p → AreMonomials cmp (derivative_contributions cmp rate p)
    monomials_derivative [] h = tt
    monomials_derivative (t ∷ p) h = monomials-append order (term_derivative cmp rate t.0 t.1) (derivative_contributions cmp rate p) (term_derivative_is t.0 t.1 h.0) (monomials_derivative p h.1)

    -- the derivative of a polynomial is canonical
    pub polynomial_derivative_is : (p : Polynomial S) → IsPolynomial cmp p → IsPolynomial cmp (polynomial_derivative cmp rate p)
    unfolding polynomial_derivative
    polynomial_derivative_is p h = collect_is order (derivative_contributions cmp rate p) (monomials_derivative p (are_monomials order p h))

    -- the derivation, on canonical polynomials
    abbrev pub differentiated : Canonical order → Canonical order
    differentiated p = (polynomial_derivative cmp rate p.0, polynomial_derivative_is p.0 p.1)

    abbrev D : Ring (Canonical order × Canonical order)
    D = dual_ring (polynomial_ring order)

    -- a symbol and what the derivation makes of it
    abbrev tangent : S → Canonical order × Canonical order
    tangent s = (itself order s, rate_value R.arithmetic (itself order) (rate s))

    -- the value there is the polynomial with its derivative
    element : (p : Canonical order) → (value D.arithmetic tangent p.0).0 ≡ p
    element p = image_value D R (λ x. x.0) (element_keeps R) tangent p.0 ∙ own_value p

    slope : (p : Canonical order) → (value D.arithmetic tangent p.0).1 ≡ differentiated p
    unfolding polynomial_derivative
    slope p =
        sym (derivative_value D R (λ x. x.0) (element_keeps R) (λ x. x.1) (λ x y. refl) (λ x y. refl) cmp order.same tangent rate (λ s. refl) p.0)
        ∙ same_canonical order _ _ (generic_value order (derivative_contributions cmp rate p.0) (monomials_derivative p.0 (are_monomials order p.0 p.1)))

    -- the derivative of a sum
    pub additive : (p q : Canonical order) → differentiated (R.sum p q) ≡ R.sum (differentiated p) (differentiated q)
    unfolding polynomial_sum
    additive p q =
        sym (slope (R.sum p q))
        ∙ ap (λ x. x.1) (collect_value D cmp order.same tangent (monomial_cmp cmp) (same_monomial order) (p.0 ++ q.0) ∙ value-append D cmp order.same tangent p.0 q.0)
        ∙ ap₂ R.sum (slope p) (slope q)

    -- the derivative of a product: Leibniz' rule
    pub leibniz : (p q : Canonical order) → differentiated (R.product p q) ≡ R.sum (R.product (differentiated p) q) (R.product p (differentiated q))
    unfolding polynomial_product
    leibniz p q =
        sym (slope (R.product p q))
        ∙ ap (λ x. x.1) (collect_value D cmp order.same tangent (monomial_cmp cmp) (same_monomial order) (pairs cmp p.0 q.0) ∙ pairs_value D cmp order.same tangent p.0 q.0)
        ∙ ap₂ R.sum (ap₂ R.product (slope p) (element q)) (ap₂ R.product (element p) (slope q))

    -- so it is a derivation of the ring of polynomials
    pub is_derivation : IsDerivation (polynomial_ring order) differentiated
    is_derivation = record { additive = additive; leibniz = leibniz }

    -- the derivative of a symbol is its rate
    pub derivative_of_symbol : (s : S) → polynomial_derivative cmp rate (symbol_polynomial s) ≡ rate_polynomial (rate s)
    unfolding polynomial_derivative polynomial_one
    derivative_of_symbol s = by_rate (rate s)
      where
        by_rate : (x : Rate S) → collect (monomial_cmp cmp) ((times_rate cmp x [] (pos 1 *ℤ pos 1) ++ []) ++ []) ≡ rate_polynomial x
        by_rate constant = refl
        by_rate unit = refl
        by_rate (symbol t) = refl

    rate_itself : (x : Rate S) → rate_polynomial x ≡ (rate_value R.arithmetic (itself order) x).0
    rate_itself constant = refl
    rate_itself unit = refl
    rate_itself (symbol t) = refl

    derivative_of_rate : (x : Rate S) → differentiated (rate_value R.arithmetic (itself order) x) ≡ rate_value R.arithmetic (itself order) (rate_again rate x)
    unfolding polynomial_derivative polynomial_one
    derivative_of_rate constant = same_canonical order _ _ refl
    derivative_of_rate unit = same_canonical order _ _ refl
    derivative_of_rate (symbol t) = same_canonical order _ _ (derivative_of_symbol t ∙ rate_itself (rate t))

  -- derivations that commute at symbols commute
  pub derivatives_commute : (first second : S → Rate S) → RatesCommute first second → (p : Canonical order) → differentiated first (differentiated second p) ≡ differentiated second (differentiated first p)
  derivatives_commute first second same p =
      ap (λ q. differentiated first (differentiated second q)) (sym (own_value p))
      ∙ commute_value R (differentiated first) (differentiated second) (is_derivation first) (is_derivation second) (itself order) at_symbols p.0
      ∙ ap (λ q. differentiated second (differentiated first q)) (own_value p)
    where
      taken : (rate : S → Rate S) (s : S) → differentiated rate (itself order s) ≡ rate_value R.arithmetic (itself order) (rate s)
      taken rate s = same_canonical order _ _ (derivative_of_symbol rate s ∙ rate_itself rate (rate s))

      at_symbols : (s : S) → differentiated first (differentiated second (itself order s)) ≡ differentiated second (differentiated first (itself order s))
      at_symbols s =
          ap (differentiated first) (taken second s) ∙ derivative_of_rate first (second s)
          ∙ ap (rate_value R.arithmetic (itself order)) (same s)
          ∙ sym (ap (differentiated second) (taken first s) ∙ derivative_of_rate second (first s))
