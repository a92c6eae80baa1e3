-- The parts of a product and of a sum. No public clause cites this file.
use Rattle.std.specs.Prelude.{◌≡◌, ◌<◌, ◌≤◌, ◌*◌, ◌/◌, ◌⊎◌, ℕ, ℤ, pos, ◌+ℤ◌, ◌*ℤ◌, unsigned_abs}
use Rattle.dz_algebra.specs.Norm.{gcd}
use Rattle.dz_int.specs.Numbers.{greatest}
use Rattle.dz_int.specs.Fractions.{Fraction, SumFits}

-- x over y is n over d, reduced and in range
pub record AreParts (n d x y : ℕ) : Type 0 where
  pub positive : 0 < y
  pub coprime : gcd x y ≡ 1
  pub cross : x * d ≡ n * y
  pub numerator_in_range : x ≤ greatest
  pub denominator_in_range : y ≤ greatest

-- the reduced form of n over d is not in range
pub record HasNoParts (n d : ℕ) : Type 0 where
  pub passes : (x y : ℕ) → 0 < y → gcd x y ≡ 1 → x * d ≡ n * y → (greatest < x) ⊎ (greatest < y)

-- a over b times c over d, divided by a divisor of a and d and one of c and b, is reduced
pub record IsCrossReduced (a b c d first second : ℕ) : Type 0 where
  pub first_positive : 0 < first
  pub second_positive : 0 < second
  pub positive : 0 < (b / second) * (d / first)
  pub coprime : gcd ((a / first) * (c / second)) ((b / second) * (d / first)) ≡ 1
  pub cross : ((a / first) * (c / second)) * (b * d) ≡ (a * c) * ((b / second) * (d / first))

-- z over y is the sum of f and h over the common denominator
pub record AreSumParts (f h : Fraction) (z : ℤ) (y : ℕ) : Type 0 where
  pub fits : SumFits f h
  pub positive : 0 < y
  pub numerator_in_range : unsigned_abs z ≤ greatest
  pub denominator_in_range : y ≤ greatest
  pub cross : z *ℤ pos (f.denominator * h.denominator) ≡ (f.numerator *ℤ pos h.denominator +ℤ h.numerator *ℤ pos f.denominator) *ℤ pos y
