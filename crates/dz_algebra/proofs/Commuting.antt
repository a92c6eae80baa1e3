-- Two derivations of a ring that commute at the values of symbols commute at every value.
use Rattle.std.proofs.Common.{◌≡◌, ℕ, zero, suc, [], ◌∷◌, ℤ, sym, ap, ap₂, ◌∙◌}
use Rattle.dz_algebra.specs.Ring.{Ring, sum_of_sums}
use Rattle.dz_algebra.specs.Monomial.{Monomial}
use Rattle.dz_algebra.specs.Polynomial.{Contributions}
use Rattle.dz_algebra.specs.Value.{whole_in, power, monomial_value, value}
use Rattle.dz_algebra.proofs.Homomorphisms.{identity}
use Rattle.dz_algebra.proofs.DerivativeValues.{derivative_zero, derivative_one, derivative_whole}

-- a derivation of a ring
pub record IsDerivation {R : Type 0} (r : Ring R) (d : R → R) : Type 0 where
  pub additive : (x y : R) → d (r.sum x y) ≡ r.sum (d x) (d y)
  pub leibniz : (x y : R) → d (r.product x y) ≡ r.sum (r.product (d x) y) (r.product x (d y))

module _ {R : Type 0} (r : Ring R) (d e : R → R) (first : IsDerivation r d) (second : IsDerivation r e) where
  abbrev Commute : R → Type 0
  Commute x = d (e x) ≡ e (d x)

  zero_first : d r.zero ≡ r.zero
  zero_first = derivative_zero r r (λ x. x) (identity r) d first.additive first.leibniz

  zero_second : e r.zero ≡ r.zero
  zero_second = derivative_zero r r (λ x. x) (identity r) e second.additive second.leibniz

  commute_zero : Commute r.zero
  commute_zero = ap d zero_second ∙ zero_first ∙ sym (ap e zero_first ∙ zero_second)

  commute_one : Commute r.one
  commute_one =
      ap d (derivative_one r r (λ x. x) (identity r) e second.additive second.leibniz) ∙ zero_first
      ∙ sym (ap e (derivative_one r r (λ x. x) (identity r) d first.additive first.leibniz) ∙ zero_second)

  commute_whole : (c : ℤ) → Commute (whole_in r.arithmetic c)
  commute_whole c =
      ap d (derivative_whole r r (λ x. x) (identity r) e second.additive second.leibniz c) ∙ zero_first
      ∙ sym (ap e (derivative_whole r r (λ x. x) (identity r) d first.additive first.leibniz c) ∙ zero_second)

  commute_sum : (x y : R) → Commute x → Commute y → Commute (r.sum x y)
  commute_sum x y a b = ap d (second.additive x y) ∙ first.additive (e x) (e y) ∙ ap₂ r.sum a b ∙ sym (ap e (first.additive x y) ∙ second.additive (d x) (d y))

  twice : (f g : R → R) → IsDerivation r f → IsDerivation r g → (x y : R) → f (g (r.product x y)) ≡ r.sum (r.sum (r.product (f (g x)) y) (r.product (g x) (f y))) (r.sum (r.product (f x) (g y)) (r.product x (f (g y))))
  twice f g df dg x y = ap f (dg.leibniz x y) ∙ df.additive _ _ ∙ ap₂ r.sum (df.leibniz (g x) y) (df.leibniz x (g y))

  exchanged : (a b c k : R) → r.sum (r.sum a b) (r.sum c k) ≡ r.sum (r.sum a c) (r.sum b k)
  exchanged a b c k = sum_of_sums r a b c k

  commute_product : (x y : R) → Commute x → Commute y → Commute (r.product x y)
  commute_product x y a b =
      twice d e first second x y
      ∙ exchanged (r.product (d (e x)) y) (r.product (e x) (d y)) (r.product (d x) (e y)) (r.product x (d (e y)))
      ∙ ap₂ (λ u v. r.sum (r.sum (r.product u y) (r.product (d x) (e y))) (r.sum (r.product (e x) (d y)) (r.product x v))) a b
      ∙ sym (twice e d second first x y)

  module _ {S : Type 0} (at : S → R) (same : (s : S) → Commute (at s)) where
    commute_power : (s : S) (k : ℕ) → Commute (power r.arithmetic (at s) k)
    commute_power s zero = commute_one
    commute_power s (suc k) = commute_product (at s) (power r.arithmetic (at s) k) (same s) (commute_power s k)

    commute_monomial : (m : Monomial S) → Commute (monomial_value r.arithmetic at m)
    commute_monomial [] = commute_one
    commute_monomial (p ∷ m) = commute_product (power r.arithmetic (at p.0) p.1) (monomial_value r.arithmetic at m) (commute_power p.0 p.1) (commute_monomial m)

    -- so two derivations commute at the value of every polynomial
    pub commute_value : (ts : Contributions S) → d (e (value r.arithmetic at ts)) ≡ e (d (value r.arithmetic at ts))
    commute_value [] = commute_zero
    commute_value (t ∷ ts) =
        commute_sum (r.product (whole_in r.arithmetic t.1) (monomial_value r.arithmetic at t.0)) (value r.arithmetic at ts)
        (commute_product (whole_in r.arithmetic t.1) (monomial_value r.arithmetic at t.0) (commute_whole t.1) (commute_monomial t.0)) (commute_value ts)
