-- The answers of the calls on fractions are those of the definitions.
use Rattle.std.proofs.Common.{◌≡◌, ◌⊎◌, inl, inr, ◌<◌, ◌≤◌, ◌*◌, ◌∙◌, ℕ, nat_le, Bool, true, false, ◌&&◌, cond, pos, ◌+ℤ◌, ◌*ℤ◌, unsigned_abs, Option, Some, None, refl, ap, ap₂, arith}
use Rattle.std.proofs.lemmas.Bool.{le-leb, leb-true}
use Rattle.dz_algebra.specs.Norm.{gcd}
use Rattle.dz_int.specs.Fractions.{Fraction, IsReduced, IsSum, IsProduct, sum_majorant, common_denominator}
use Rattle.dz_int.specs.Numbers.{greatest}
use Rattle.dz_algebra.proofs.Divisors.{gcd_is}
use Rattle.dz_int.proofs.Unique.{same_fraction}
use Rattle.dz_jet.specs.Fractions.{fraction_sum, fraction_product, sum_answer, product_answer}
use Rattle.dz_jet.proofs.FractionLaws.{Is, itself, sum_is, product_is}

-- ---- tests
tested : {A : Type 0} (a b c d : ℕ) (x : A) → a ≤ b → c ≤ d → cond (nat_le a b && nat_le c d) (Some x) None ≡ Some x
tested a b c d x h k = ap₂ (λ s t. cond (s && t) (Some x) None) (le-leb a b h) (le-leb c d k)

passed : {A : Type 0} (a b c d : ℕ) (x : A) → (b < a) ⊎ (d < c) → cond (nat_le a b && nat_le c d) (Some x) None ≡ None
passed a b c d x h = by_tests (nat_le a b) (nat_le c d) refl refl
  where
    by_tests : (s t : Bool) → nat_le a b ≡ s → nat_le c d ≡ t → cond (s && t) (Some x) None ≡ None
    by_tests true true e f = absurd (elim h [ inl k ↦ let g = leb-true a b e in omega arith | inr k ↦ let g = leb-true c d f in omega arith ])
    by_tests true false e f = refl
    by_tests false t e f = refl

module _ (f h : Fraction) (first : IsReduced f) (second : IsReduced h) where
  sum_of : Is (fraction_sum f h) (f.numerator *ℤ pos h.denominator +ℤ h.numerator *ℤ pos f.denominator) (f.denominator * h.denominator)
  sum_of = sum_is f h f.numerator h.numerator f.denominator h.denominator (itself f first) (itself h second)

  product_of : Is (fraction_product f h) (f.numerator *ℤ h.numerator) (f.denominator * h.denominator)
  product_of = product_is f h f.numerator h.numerator f.denominator h.denominator (itself f first) (itself h second)

  -- a sum
  pub sum_answered : (r : Option Fraction) → IsSum f h r → sum_answer f h ≡ r
  sum_answered None k = let g = gcd f.denominator h.denominator in passed (sum_majorant f h g) greatest (common_denominator f h g) greatest (fraction_sum f h) (k.passes g (gcd_is f.denominator h.denominator))
  sum_answered (Some s) k =
      let g = gcd f.denominator h.denominator in
      let fits = k.0.fits g (gcd_is f.denominator h.denominator) in
      tested (sum_majorant f h g) greatest (common_denominator f h g) greatest (fraction_sum f h) fits.0 fits.1
      ∙ ap Some (same_fraction (fraction_sum f h) s _ (f.denominator * h.denominator) sum_of.positive sum_of.lowest k.1.reduced sum_of.value k.2)

  -- a product
  pub product_answered : (r : Option Fraction) → IsProduct f h r → product_answer f h ≡ r
  product_answered None k =
      let p = fraction_product f h in
      passed (unsigned_abs p.numerator) greatest p.denominator greatest p (k.passes p product_of.lowest product_of.value)
  product_answered (Some q) k =
      let p = fraction_product f h in
      let same : p ≡ q = same_fraction p q (f.numerator *ℤ h.numerator) (f.denominator * h.denominator) product_of.positive product_of.lowest k.0.reduced product_of.value k.1 in
      ap (λ (x : Fraction). cond (nat_le (unsigned_abs x.numerator) greatest && nat_le x.denominator greatest) (Some x) None) same
      ∙ tested (unsigned_abs q.numerator) greatest q.denominator greatest q k.0.numerator_in_range k.0.denominator_in_range
