-- The value of a derivative is the derivative of the value, for derivations into a ring along a homomorphism.
use Rattle.std.proofs.Common.{◌≡◌, ℕ, zero, suc, List, [], ◌∷◌, ℤ, pos, negsuc, ◌*ℤ◌, refl, sym, ap, ap₂, ◌∙◌}
use Rattle.std.specs.declared.cmp.Ordering.{Ordering}
use Rattle.std.specs.declared.cmp.Ordering.TheVariants.{Equal}
use Rattle.dz_algebra.specs.Domain.{copies}
use Rattle.dz_algebra.specs.Ring.{Ring, product_swaps, sum_times, right_neutral, cancels, product_zero, zero_product}
use Rattle.dz_algebra.specs.Monomial.{Monomial}
use Rattle.dz_algebra.specs.Polynomial.{Polynomial}
use Rattle.dz_algebra.specs.Derivation.{Rate, constant, unit, symbol, once_less, times_rate, each_with_power, term_derivative, derivative_contributions}
use Rattle.dz_algebra.specs.Value.{whole_in, power, monomial_value, value, rate_value}
use Rattle.dz_algebra.proofs.Homomorphisms.{IsHomomorphism, image_whole, image_power, image_monomial}
use Rattle.dz_algebra.proofs.Values.{plus_minus, moved, whole_in-*ℤ, with_power_value, value-append}

-- a derivation d from one ring into another, in which the elements stand as their images
module _ {A R : Type 0} (a : Ring A) (r : Ring R) (image : A → R) (keeps : IsHomomorphism a r image) (d : A → R) (additive : (x y : A) → d (a.sum x y) ≡ r.sum (d x) (d y)) (leibniz : (x y : A) → d (a.product x y) ≡ r.sum (r.product (d x) (image y)) (r.product (image x) (d y))) where
  -- the derivative of zero
  pub derivative_zero : d a.zero ≡ r.zero
  derivative_zero = cancels r (d a.zero) _ _ (sym (additive a.zero a.zero) ∙ ap d (a.zero_is_neutral a.zero) ∙ sym (right_neutral r _))

  one_left : (x : R) → r.product (image a.one) x ≡ x
  one_left x = ap (λ y. r.product y x) keeps.one ∙ r.one_is_neutral x

  one_right : (x : R) → r.product x (image a.one) ≡ x
  one_right x = r.product_commutes x (image a.one) ∙ one_left x

  -- the derivative of one
  pub derivative_one : d a.one ≡ r.zero
  derivative_one = cancels r (d a.one) _ _ (sym (ap₂ r.sum (one_right (d a.one)) (one_left (d a.one))) ∙ sym (leibniz a.one a.one) ∙ ap d (a.one_is_neutral a.one) ∙ sym (right_neutral r _))

  derivative_copies : (n : ℕ) → d (copies a.arithmetic n a.one) ≡ r.zero
  derivative_copies zero = derivative_zero
  derivative_copies (suc n) = additive _ _ ∙ ap₂ r.sum derivative_one (derivative_copies n) ∙ r.zero_is_neutral _

  -- the derivative of a whole number
  pub derivative_whole : (c : ℤ) → d (whole_in a.arithmetic c) ≡ r.zero
  derivative_whole (pos n) = derivative_copies n
  derivative_whole (negsuc n) = sym (r.zero_is_neutral _) ∙ ap (λ x. r.sum x (d (whole_in a.arithmetic (negsuc n)))) (sym (derivative_copies (suc n))) ∙ sym (additive _ _) ∙ ap d (plus_minus a _) ∙ derivative_zero

  -- d(x^(e+1)) = (e + 1) x^e dx
  pub derivative_power : (x : A) (e : ℕ) → d (power a.arithmetic x (suc e)) ≡ r.product (whole_in r.arithmetic (pos (suc e))) (r.product (power r.arithmetic (image x) e) (d x))
  derivative_power x zero =
      leibniz x a.one ∙ ap (r.sum (r.product (d x) (image a.one))) (ap (r.product (image x)) derivative_one ∙ product_zero r (image x)) ∙ right_neutral r _ ∙ one_right (d x)
      ∙ sym (ap (λ y. r.product y (r.product r.one (d x))) (right_neutral r r.one) ∙ r.one_is_neutral _ ∙ r.one_is_neutral _)
  derivative_power x (suc e) =
      let k = whole_in r.arithmetic (pos (suc e)) in
      let y = power r.arithmetic (image x) e in
      let z = image x in
      let step : r.product z (d (power a.arithmetic x (suc e))) ≡ r.product k (r.product (r.product z y) (d x)) = ap (r.product z) (derivative_power x e) ∙ product_swaps r _ _ _ ∙ ap (r.product k) (sym (r.product_associates _ _ _)) in
      leibniz x (power a.arithmetic x (suc e))
      ∙ ap₂ r.sum (ap (r.product (d x)) (image_power a r image keeps x (suc e)) ∙ r.product_commutes (d x) _ ∙ sym (r.one_is_neutral _)) step
      ∙ sym (sum_times r r.one k (r.product (r.product z y) (d x)))

  module _ {S : Type 0} (cmp : S → S → Ordering) (same : (s t : S) → cmp s t ≡ Equal → s ≡ t) (at : S → A) (rate : S → Rate S) where
    -- the value of a symbol in the second ring
    abbrev seen : S → R
    seen s = image (at s)

    times_rate_value : (x : Rate S) (m : Monomial S) (c : ℤ) → value r.arithmetic seen (times_rate cmp x m c) ≡ r.product (r.product (whole_in r.arithmetic c) (monomial_value r.arithmetic seen m)) (rate_value r.arithmetic seen x)
    times_rate_value constant m c = sym (product_zero r _)
    times_rate_value unit m c = right_neutral r _ ∙ sym (r.product_commutes _ r.one ∙ r.one_is_neutral _)
    times_rate_value (symbol t) m c = right_neutral r _ ∙ ap (r.product (whole_in r.arithmetic c)) (with_power_value r cmp same seen t 1 m ∙ r.product_commutes _ _ ∙ ap (r.product (monomial_value r.arithmetic seen m)) (r.product_commutes _ _ ∙ r.one_is_neutral _)) ∙ sym (r.product_associates _ _ _)

    each_with_power_value : (s : S) (e : ℕ) (ts : List (Monomial S × ℤ)) → value r.arithmetic seen (each_with_power cmp s e ts) ≡ r.product (power r.arithmetic (seen s) e) (value r.arithmetic seen ts)
    each_with_power_value s e [] = sym (product_zero r _)
    each_with_power_value s e (t ∷ ts) = ap₂ r.sum (ap (r.product (whole_in r.arithmetic t.1)) (with_power_value r cmp same seen s e t.0) ∙ product_swaps r _ _ _) (each_with_power_value s e ts) ∙ sym (r.product_distributes _ _ _)

    once_less_value : (s : S) (e : ℕ) (m : Monomial S) → monomial_value r.arithmetic seen (once_less s (suc e) m) ≡ r.product (power r.arithmetic (seen s) e) (monomial_value r.arithmetic seen m)
    once_less_value s zero m = sym (r.one_is_neutral _)
    once_less_value s (suc e) m = refl

    module _ (rates : (s : S) → d (at s) ≡ rate_value r.arithmetic (λ s. image (at s)) (rate s)) where
      -- the share of one symbol in a term's derivative
      power_share : (s : S) (e : ℕ) (m : Monomial S) (c : ℤ) → r.product (r.product (whole_in r.arithmetic (c *ℤ pos e)) (monomial_value r.arithmetic seen (once_less s e m))) (rate_value r.arithmetic seen (rate s)) ≡ r.product (whole_in r.arithmetic c) (r.product (d (power a.arithmetic (at s) e)) (monomial_value r.arithmetic seen m))
      power_share s zero m c =
          let none : r.product (whole_in r.arithmetic (c *ℤ pos 0)) (monomial_value r.arithmetic seen m) ≡ r.zero = ap (λ x. r.product x (monomial_value r.arithmetic seen m)) (whole_in-*ℤ r c (pos 0) ∙ product_zero r _) ∙ zero_product r _ in
          ap (λ x. r.product x (rate_value r.arithmetic seen (rate s))) none ∙ zero_product r _ ∙ sym (ap (r.product (whole_in r.arithmetic c)) (ap (λ x. r.product x (monomial_value r.arithmetic seen m)) derivative_one ∙ zero_product r _) ∙ product_zero r _)
      power_share s (suc e) m c =
          ap₂ r.product (ap₂ r.product (whole_in-*ℤ r c (pos (suc e))) (once_less_value s e m)) (sym (rates s))
          ∙ moved r (whole_in r.arithmetic c) (whole_in r.arithmetic (pos (suc e))) (power r.arithmetic (seen s) e) (monomial_value r.arithmetic seen m) (d (at s))
          ∙ ap (λ x. r.product (whole_in r.arithmetic c) (r.product x (monomial_value r.arithmetic seen m))) (sym (derivative_power (at s) e))

      term_derivative_value : (m : Monomial S) (c : ℤ) → value r.arithmetic seen (term_derivative cmp rate m c) ≡ r.product (whole_in r.arithmetic c) (d (monomial_value a.arithmetic at m))
      term_derivative_value [] c = sym (ap (r.product _) derivative_one ∙ product_zero r _)
      term_derivative_value (p ∷ m) c =
          let c' = whole_in r.arithmetic c in
          let x = power a.arithmetic (at p.0) p.1 in
          let y = monomial_value a.arithmetic at m in
          value-append r cmp same seen _ _
          ∙ ap₂ r.sum (times_rate_value (rate p.0) (once_less p.0 p.1 m) (c *ℤ pos p.1) ∙ power_share p.0 p.1 m c ∙ ap (λ z. r.product c' (r.product (d x) z)) (sym (image_monomial a r image keeps at m)))
          (each_with_power_value p.0 p.1 _ ∙ ap₂ r.product (sym (image_power a r image keeps (at p.0) p.1)) (term_derivative_value m c) ∙ product_swaps r _ _ _)
          ∙ sym (r.product_distributes c' (r.product (d x) (image y)) (r.product (image x) (d y)))
          ∙ ap (r.product c') (sym (leibniz x y))

      -- the value of the contributions of a derivative
      pub derivative_value : (p : Polynomial S) → value r.arithmetic (λ s. image (at s)) (derivative_contributions cmp rate p) ≡ d (value a.arithmetic at p)
      derivative_value [] = sym derivative_zero
      derivative_value (t ∷ p) =
          let c = whole_in a.arithmetic t.1 in
          let y = monomial_value a.arithmetic at t.0 in
          let whole_part : r.sum (r.product (d c) (image y)) (r.product (image c) (d y)) ≡ r.product (whole_in r.arithmetic t.1) (d y) = ap₂ r.sum (ap (λ x. r.product x (image y)) (derivative_whole t.1) ∙ zero_product r (image y)) (ap (λ x. r.product x (d y)) (image_whole a r image keeps t.1)) ∙ r.zero_is_neutral _ in
          value-append r cmp same seen _ _ ∙ ap₂ r.sum (term_derivative_value t.0 t.1 ∙ sym whole_part ∙ sym (leibniz c y)) (derivative_value p) ∙ sym (additive _ _)
