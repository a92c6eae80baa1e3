-- Homomorphisms of rings, and what they make of values.
use Rattle.std.proofs.Common.{◌≡◌, ℕ, zero, suc, [], ◌∷◌, ℤ, pos, negsuc, refl, ap, ap₂, ◌∙◌}
use Rattle.dz_algebra.specs.Domain.{copies}
use Rattle.dz_algebra.specs.Ring.{Ring}
use Rattle.dz_algebra.specs.Monomial.{Monomial}
use Rattle.dz_algebra.specs.Polynomial.{Contributions}
use Rattle.dz_algebra.specs.Value.{whole_in, power, monomial_value, value}

-- a map of rings that keeps their operations
pub record IsHomomorphism {A R : Type 0} (a : Ring A) (r : Ring R) (image : A → R) : Type 0 where
  pub zero : image a.zero ≡ r.zero
  pub one : image a.one ≡ r.one
  pub sum : (x y : A) → image (a.sum x y) ≡ r.sum (image x) (image y)
  pub negative : (x : A) → image (a.negative x) ≡ r.negative (image x)
  pub product : (x y : A) → image (a.product x y) ≡ r.product (image x) (image y)

-- each element itself
pub identity : {R : Type 0} (r : Ring R) → IsHomomorphism r r (λ x. x)
identity r = record {
  zero = refl;
  one = refl;
  sum = λ x y. refl;
  negative = λ x. refl;
  product = λ x y. refl;
}

module _ {A R : Type 0} (a : Ring A) (r : Ring R) (image : A → R) (keeps : IsHomomorphism a r image) where
  -- the image of copies
  pub image_copies : (n : ℕ) (x : A) → image (copies a.arithmetic n x) ≡ copies r.arithmetic n (image x)
  image_copies zero x = keeps.zero
  image_copies (suc n) x = keeps.sum x (copies a.arithmetic n x) ∙ ap (r.sum (image x)) (image_copies n x)

  -- the image of a whole number
  pub image_whole : (c : ℤ) → image (whole_in a.arithmetic c) ≡ whole_in r.arithmetic c
  image_whole (pos n) = image_copies n a.one ∙ ap (copies r.arithmetic n) keeps.one
  image_whole (negsuc n) = keeps.negative (copies a.arithmetic (suc n) a.one) ∙ ap r.negative (image_copies (suc n) a.one ∙ ap (copies r.arithmetic (suc n)) keeps.one)

  -- the image of a power
  pub image_power : (x : A) (e : ℕ) → image (power a.arithmetic x e) ≡ power r.arithmetic (image x) e
  image_power x zero = keeps.one
  image_power x (suc e) = keeps.product x (power a.arithmetic x e) ∙ ap (r.product (image x)) (image_power x e)

  -- the image of the value of a monomial
  pub image_monomial : {S : Type 0} (at : S → A) (m : Monomial S) → image (monomial_value a.arithmetic at m) ≡ monomial_value r.arithmetic (λ s. image (at s)) m
  image_monomial at [] = keeps.one
  image_monomial at (p ∷ m) = keeps.product (power a.arithmetic (at p.0) p.1) (monomial_value a.arithmetic at m) ∙ ap₂ r.product (image_power (at p.0) p.1) (image_monomial at m)

  -- the image of a value is the value at the images
  pub image_value : {S : Type 0} (at : S → A) (ts : Contributions S) → image (value a.arithmetic at ts) ≡ value r.arithmetic (λ s. image (at s)) ts
  image_value at [] = keeps.zero
  image_value at (t ∷ ts) =
      keeps.sum (a.product (whole_in a.arithmetic t.1) (monomial_value a.arithmetic at t.0)) (value a.arithmetic at ts)
      ∙ ap₂ r.sum (keeps.product (whole_in a.arithmetic t.1) (monomial_value a.arithmetic at t.0) ∙ ap₂ r.product (image_whole t.1) (image_monomial at t.0)) (image_value at ts)
