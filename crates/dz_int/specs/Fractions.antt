-- Reduced fractions.
use Rattle.std.specs.Prelude.{◌≡◌, ◌<◌, ◌≤◌, ◌⊎◌, ℕ, ◌+◌, ◌*◌, ◌/◌, ℤ, pos, ◌+ℤ◌, ◌*ℤ◌, unsigned_abs, Option, Some, None}
use Rattle.std.specs.Int.{IsGcd, is_negative}
use Rattle.dz_int.specs.Numbers.{greatest, signed}

pub record Fraction : Type 0 where
  pub numerator : ℤ
  pub denominator : ℕ

-- the denominator is positive, and has no divisor with the numerator but 1
pub record IsReduced (f : Fraction) : Type 0 where
  pub positive : 0 < f.denominator
  pub coprime : IsGcd (unsigned_abs f.numerator) f.denominator 1

-- a reduced fraction in range
pub record IsFraction (f : Fraction) : Type 0 where
  pub reduced : IsReduced f
  pub numerator_in_range : unsigned_abs f.numerator ≤ greatest
  pub denominator_in_range : f.denominator ≤ greatest

-- f is n over d: the cross products are equal
abbrev pub HasValue : Fraction → ℤ → ℕ → Type 0
HasValue f n d = f.numerator *ℤ pos d ≡ n *ℤ pos f.denominator

-- the reduced form of n over d is not in range
pub record LeavesRange (n : ℤ) (d : ℕ) : Type 0 where
  pub passes : (f : Fraction) → IsReduced f → HasValue f n d → (greatest < unsigned_abs f.numerator) ⊎ (greatest < f.denominator)

-- the reduced form of n over d where it is in range, and else none
abbrev pub IsReducedTo : ℤ → ℕ → Option Fraction → Type 0
IsReducedTo n d None = LeavesRange n d
IsReducedTo n d (Some f) = IsFraction f × HasValue f n d

-- the product; none where its reduced form leaves the range
abbrev pub IsProduct : Fraction → Fraction → Option Fraction → Type 0
IsProduct f h r = IsReducedTo (f.numerator *ℤ h.numerator) (f.denominator * h.denominator) r

-- the inverse of a fraction that is not zero
abbrev pub inverse_of : Fraction → Fraction
inverse_of f = record { numerator = signed (is_negative f.numerator) f.denominator; denominator = unsigned_abs f.numerator }

-- the sum over the common denominator b*(d/g), from denominators b and d with greatest common
-- divisor g: its numerator, taken with absolute values, and the denominator
abbrev pub sum_majorant : Fraction → Fraction → ℕ → ℕ
sum_majorant f h g = unsigned_abs f.numerator * (h.denominator / g) + unsigned_abs h.numerator * (f.denominator / g)

abbrev pub common_denominator : Fraction → Fraction → ℕ → ℕ
common_denominator f h g = f.denominator * (h.denominator / g)

-- with the denominators' greatest common divisor, both are in range, or one is not
pub record SumFits (f h : Fraction) : Type 0 where
  pub fits : (g : ℕ) → IsGcd f.denominator h.denominator g → (sum_majorant f h g ≤ greatest) × (common_denominator f h g ≤ greatest)

pub record SumPasses (f h : Fraction) : Type 0 where
  pub passes : (g : ℕ) → IsGcd f.denominator h.denominator g → (greatest < sum_majorant f h g) ⊎ (greatest < common_denominator f h g)

-- the sum, reduced, where it fits; and else none
abbrev pub IsSum : Fraction → Fraction → Option Fraction → Type 0
IsSum f h None = SumPasses f h
IsSum f h (Some s) = SumFits f h × IsFraction s × HasValue s (f.numerator *ℤ pos h.denominator +ℤ h.numerator *ℤ pos f.denominator) (f.denominator * h.denominator)
