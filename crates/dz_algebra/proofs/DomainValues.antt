-- The laws of values in a domain, where each symbol stands for a value.
use Rattle.std.proofs.Common.{◌≡◌, ◌≢◌, ◌⊎◌, ◌<◌, ℕ, zero, suc, [], ◌∷◌, ◌++◌, ℤ, pos, negsuc, IsTrue, refl, sym, ap, ap₂, ◌∙◌, subst, inl, inr}
use Rattle.std.specs.declared.cmp.Ordering.{Ordering}
use Rattle.std.specs.declared.cmp.Ordering.TheVariants.{Less, Equal, Greater}
use Rattle.std.specs.Ordering.{match_ordering}
use Rattle.dz_algebra.specs.Domain.{Operations, DomainLaws, copies}
use Rattle.dz_algebra.specs.Ring.{Ring, Value, same_value, values_arithmetic, ring_of_values, additive_zero}
use Rattle.dz_algebra.specs.Order.{IsOrder}
use Rattle.dz_algebra.specs.Monomial.{Monomial, monomial_cmp}
use Rattle.dz_algebra.specs.Polynomial.{Polynomial, Contributions, IsPolynomial, PolynomialIn, collect, negated, pairs, polynomial_sum, polynomial_difference, polynomial_product}
use Rattle.dz_algebra.specs.Derivation.{Rate, constant, unit, symbol, derivative_contributions, polynomial_derivative}
use Rattle.dz_algebra.specs.Norm.{signed_content, norm}
use Rattle.dz_algebra.specs.Value.{whole_in, power, monomial_value, value, rate_value}
use Rattle.dz_algebra.proofs.Orders.{same_monomial}
use Rattle.dz_algebra.proofs.Values.{value-append, collect_value, pairs_value, negated_value}
use Rattle.dz_algebra.proofs.Homomorphisms.{identity}
use Rattle.dz_algebra.proofs.DerivativeValues.{derivative_value}
use Rattle.dz_algebra.proofs.Norms.{value_norm}
use Rattle.dz_algebra.proofs.Nonzero.{ground_not_zero}

module _ {E : Type 0} {o : Operations E} (laws : DomainLaws o) where
  abbrev ring : Ring (Value o)
  ring = ring_of_values laws

  -- ---- the element of a value's sum, product .. is that of the elements
  pub copies_element : (n : ℕ) (a : Value o) → (copies (values_arithmetic laws) n a).0 ≡ copies o.arithmetic n a.0
  copies_element zero a = refl
  copies_element (suc n) a = ap (o.sum a.0) (copies_element n a)

  -- whole numbers
  pub whole_in_element : (c : ℤ) → (whole_in (values_arithmetic laws) c).0 ≡ whole_in o.arithmetic c
  whole_in_element (pos n) = copies_element n _
  whole_in_element (negsuc n) = ap o.negative (copies_element (suc n) _)

  power_element : (x : Value o) (e : ℕ) → (power (values_arithmetic laws) x e).0 ≡ power o.arithmetic x.0 e
  power_element x zero = refl
  power_element x (suc e) = ap (o.product x.0) (power_element x e)

  monomial_element : {S : Type 0} (at : S → Value o) (m : Monomial S) → (monomial_value (values_arithmetic laws) at m).0 ≡ monomial_value o.arithmetic (λ s. (at s).0) m
  monomial_element at [] = refl
  monomial_element at (p ∷ m) = ap₂ o.product (power_element (at p.0) p.1) (monomial_element at m)

  -- the element of a value is the value of the elements
  pub value_element : {S : Type 0} (at : S → Value o) (ts : Contributions S) → (value (values_arithmetic laws) at ts).0 ≡ value o.arithmetic (λ s. (at s).0) ts
  value_element at [] = refl
  value_element at (t ∷ ts) = ap₂ o.sum (ap₂ o.product (whole_in_element t.1) (monomial_element at t.0)) (value_element at ts)

  -- the derivative of zero is zero
  pub derivative_of_zero : (i : ℕ) → i < o.derivations → o.derivative i o.zero ≡ o.zero
  derivative_of_zero i h =
      ap (λ x. x.0) (additive_zero ring (λ a. (o.derivative i a.0, laws.derivative_is_value i a.0 h a.1)) (λ a b. same_value o _ _ (laws.derivative_of_sum i a.0 b.0 h a.1 b.1)))

  -- values have no zero divisors
  pub value_divisors : (a b : Value o) → ring.product a b ≡ ring.zero → (a ≡ ring.zero) ⊎ (b ≡ ring.zero)
  value_divisors a b e = elim (laws.no_zero_divisors a.0 b.0 a.1 b.1 (ap (λ x. x.0) e)) [ inl h ↦ inl (same_value o a ring.zero h) | inr h ↦ inr (same_value o b ring.zero h) ]

  -- no number of copies of one is zero
  pub value_characteristic : (m : ℕ) → copies (values_arithmetic laws) (suc m) ring.one ≢ ring.zero
  value_characteristic m e = laws.one_is_not_zero (laws.characteristic_is_zero m o.one laws.one_is_value (sym (copies_element (suc m) ring.one) ∙ ap (λ x. x.0) e))

  -- ---- the values of symbols are values
  module _ {S : Type 0} (at : S → E) (are_values : (s : S) → IsTrue (o.is_value (at s))) where
    -- the value of a symbol, as a value
    abbrev pub symbol_at : S → Value o
    symbol_at s = (at s, are_values s)

    -- its element
    pub value_there : (ts : Contributions S) → (value (values_arithmetic laws) symbol_at ts).0 ≡ value o.arithmetic at ts
    value_there ts = value_element symbol_at ts

    -- the value of a polynomial is a value
    pub value_is_value : (ts : Contributions S) → IsTrue (o.is_value (value o.arithmetic at ts))
    value_is_value ts = subst (λ x. IsTrue (o.is_value x)) (value_there ts) (value (values_arithmetic laws) symbol_at ts).1

    -- a polynomial and its norm vanish at the same points
    pub value_of_norm : (p : Polynomial S) → value o.arithmetic at p ≡ o.product (whole_in o.arithmetic (signed_content p)) (value o.arithmetic at (norm p))
    value_of_norm p = sym (value_there p) ∙ ap (λ x. x.0) (value_norm ring symbol_at p) ∙ ap₂ o.product (whole_in_element (signed_content p)) (value_there (norm p))

    module _ (cmp : S → S → Ordering) (order : IsOrder cmp) where
      -- contributions have the value of what they make
      pub value_of_collected : (ts : Contributions S) → value o.arithmetic at (collect (monomial_cmp cmp) ts) ≡ value o.arithmetic at ts
      value_of_collected ts = sym (value_there _) ∙ ap (λ x. x.0) (collect_value ring cmp order.same symbol_at (monomial_cmp cmp) (same_monomial order) ts) ∙ value_there ts

      -- the value of a sum
      pub value_of_sum : (a b : Polynomial S) → value o.arithmetic at (polynomial_sum cmp a b) ≡ o.sum (value o.arithmetic at a) (value o.arithmetic at b)
      unfolding polynomial_sum
      value_of_sum a b = value_of_collected (a ++ b) ∙ sym (value_there _) ∙ ap (λ x. x.0) (value-append ring cmp order.same symbol_at a b) ∙ ap₂ o.sum (value_there a) (value_there b)

      -- the value of a difference
      pub value_of_difference : (a b : Polynomial S) → value o.arithmetic at (polynomial_difference cmp a b) ≡ o.sum (value o.arithmetic at a) (o.negative (value o.arithmetic at b))
      unfolding polynomial_difference
      value_of_difference a b =
          value_of_collected (a ++ negated b) ∙ sym (value_there _)
          ∙ ap (λ x. x.0) (value-append ring cmp order.same symbol_at a (negated b) ∙ ap (ring.sum (value (values_arithmetic laws) symbol_at a)) (negated_value ring cmp order.same symbol_at b))
          ∙ ap₂ (λ x y. o.sum x (o.negative y)) (value_there a) (value_there b)

      -- the value of a product
      pub value_of_product : (a b : Polynomial S) → value o.arithmetic at (polynomial_product cmp a b) ≡ o.product (value o.arithmetic at a) (value o.arithmetic at b)
      unfolding polynomial_product
      value_of_product a b = value_of_collected (pairs cmp a b) ∙ sym (value_there _) ∙ ap (λ x. x.0) (pairs_value ring cmp order.same symbol_at a b) ∙ ap₂ o.product (value_there a) (value_there b)

      rate_element : (x : Rate S) → (rate_value (values_arithmetic laws) symbol_at x).0 ≡ rate_value o.arithmetic at x
      rate_element constant = refl
      rate_element unit = refl
      rate_element (symbol t) = refl

      -- where a derivation takes the value of each symbol to that of its rate
      pub value_of_derivative : (i : ℕ) → i < o.derivations → (rate : S → Rate S) → ((s : S) → o.derivative i (at s) ≡ rate_value o.arithmetic at (rate s)) → (a : Polynomial S) → value o.arithmetic at (polynomial_derivative cmp rate a) ≡ o.derivative i (value o.arithmetic at a)
      unfolding polynomial_derivative
      value_of_derivative i h rate rates a =
          let d : Value o → Value o = λ x. (o.derivative i x.0, laws.derivative_is_value i x.0 h x.1) in
          value_of_collected (derivative_contributions cmp rate a) ∙ sym (value_there _)
          ∙ ap (λ x. x.0) (derivative_value ring ring (λ x. x) (identity ring) d
          (λ x y. same_value o _ _ (laws.derivative_of_sum i x.0 y.0 h x.1 y.1))
          (λ x y. same_value o _ _ (laws.derivative_of_product i x.0 y.0 h x.1 y.1))
          cmp order.same symbol_at rate (λ s. same_value o _ _ (rates s ∙ sym (rate_element (rate s)))) a)
          ∙ ap (o.derivative i) (value_there a)

      -- where each symbol of P has a derivation that takes it to one and the others of P to zero, no polynomial in them
      -- but zero has value zero
      pub nonzero_value : (P : S → Type 0) (place : S → ℕ) → ((s : S) → P s → place s < o.derivations) → ((s t : S) → P s → P t → o.derivative (place s) (at t) ≡ match_ordering (cmp s t) o.zero o.one o.zero) → (a : Polynomial S) → IsPolynomial cmp a → PolynomialIn P a → a ≢ [] → value o.arithmetic at a ≢ o.zero
      nonzero_value P place below rates a c h m e =
          ground_not_zero ring cmp order symbol_at (λ f. laws.one_is_not_zero (ap (λ x. x.0) f)) value_divisors value_characteristic P d
          (λ s g x y. same_value o _ _ (laws.derivative_of_sum (place s) x.0 y.0 (below s g) x.1 y.1))
          (λ s g x y. same_value o _ _ (laws.derivative_of_product (place s) x.0 y.0 (below s g) x.1 y.1))
          (λ s g t k. same_value o _ _ (rates s t g k ∙ by_order (cmp s t))) a c h m
          (same_value o _ _ (value_there a ∙ e))
        where
          d : (s : S) → P s → Value o → Value o
          d s g x = (o.derivative (place s) x.0, laws.derivative_is_value (place s) x.0 (below s g) x.1)

          by_order : (q : Ordering) → match_ordering q o.zero o.one o.zero ≡ (match_ordering q ring.zero ring.one ring.zero).0
          by_order q = elim q as (λ q. match_ordering q o.zero o.one o.zero ≡ (match_ordering q ring.zero ring.one ring.zero).0) [ Less ↦ refl | Equal ↦ refl | Greater ↦ refl ]
