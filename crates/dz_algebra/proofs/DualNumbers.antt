-- Dual numbers over a ring: an element and its slope, whose products obey Leibniz' rule.
use Rattle.std.proofs.Common.{◌≡◌, refl, sym, ap, ap₂, ◌∙◌}
use Rattle.dz_algebra.specs.Domain.{Arithmetic}
use Rattle.dz_algebra.specs.Ring.{Ring, sum_of_sums, sum_times, zero_product}
use Rattle.dz_algebra.proofs.Homomorphisms.{IsHomomorphism}

module _ {R : Type 0} (r : Ring R) where
  -- sums by parts, products by Leibniz' rule
  abbrev pub dual_arithmetic : Arithmetic (R × R)
  dual_arithmetic = record {
    zero = (r.zero, r.zero);
    one = (r.one, r.zero);
    sum = λ x y. (r.sum x.0 y.0, r.sum x.1 y.1);
    negative = λ x. (r.negative x.0, r.negative x.1);
    product = λ x y. (r.product x.0 y.0, r.sum (r.product x.1 y.0) (r.product x.0 y.1));
  }

  -- dual numbers with equal parts are equal
  pub pair : {a b : R} {x y : R} → a ≡ b → x ≡ y → ◌≡◌ {A = R × R} (a, x) (b, y)
  pair e f = ap₂ (λ a x. (a, x)) e f

  -- the slope of a product commutes
  pub commuted : (x y : R × R) → r.sum (r.product x.1 y.0) (r.product x.0 y.1) ≡ r.sum (r.product y.1 x.0) (r.product y.0 x.1)
  commuted x y = r.sum_commutes _ _ ∙ ap₂ r.sum (r.product_commutes x.0 y.1) (r.product_commutes x.1 y.0)

  -- the slope of a product of three associates
  pub associated : (x y z : R × R) → r.sum (r.product (r.sum (r.product x.1 y.0) (r.product x.0 y.1)) z.0) (r.product (r.product x.0 y.0) z.1) ≡ r.sum (r.product x.1 (r.product y.0 z.0)) (r.product x.0 (r.sum (r.product y.1 z.0) (r.product y.0 z.1)))
  associated x y z =
      ap (λ w. r.sum w (r.product (r.product x.0 y.0) z.1)) (sum_times r (r.product x.1 y.0) (r.product x.0 y.1) z.0)
      ∙ r.sum_associates _ _ _
      ∙ ap₂ r.sum (r.product_associates x.1 y.0 z.0)
      (ap₂ r.sum (r.product_associates x.0 y.1 z.0) (r.product_associates x.0 y.0 z.1) ∙ sym (r.product_distributes x.0 (r.product y.1 z.0) (r.product y.0 z.1)))

  -- dual numbers are a commutative ring
  abbrev pub dual_ring : Ring (R × R)
  dual_ring = record {
    arithmetic = dual_arithmetic;
    sum_commutes = λ x y. pair (r.sum_commutes x.0 y.0) (r.sum_commutes x.1 y.1);
    sum_associates = λ x y z. pair (r.sum_associates x.0 y.0 z.0) (r.sum_associates x.1 y.1 z.1);
    zero_is_neutral = λ x. pair (r.zero_is_neutral x.0) (r.zero_is_neutral x.1);
    negative_is_inverse = λ x. pair (r.negative_is_inverse x.0) (r.negative_is_inverse x.1);
    product_commutes = λ x y. pair (r.product_commutes x.0 y.0) (commuted x y);
    product_associates = λ x y z. pair (r.product_associates x.0 y.0 z.0) (associated x y z);
    one_is_neutral = λ x. pair (r.one_is_neutral x.0) (ap₂ r.sum (zero_product r x.0) (r.one_is_neutral x.1) ∙ r.zero_is_neutral x.1);
    product_distributes = λ x y z. pair (r.product_distributes x.0 y.0 z.0) (ap₂ r.sum (r.product_distributes x.1 y.0 z.0) (r.product_distributes x.0 y.1 z.1) ∙ sum_of_sums r _ _ _ _);
  }

  -- the element of a dual number
  pub element_keeps : IsHomomorphism dual_ring r (λ x. x.0)
  element_keeps = record {
    zero = refl;
    one = refl;
    sum = λ x y. refl;
    negative = λ x. refl;
    product = λ x y. refl;
  }
