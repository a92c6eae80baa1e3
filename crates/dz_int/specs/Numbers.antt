-- The range of whole numbers, and the greatest common divisor of a list of them.
use Rattle.std.specs.Prelude.{ℕ, ◌-◌, ◌^◌, Bool, true, false, List, ℤ, pos, neg_ℤ, unsigned_abs, All}
use Rattle.std.specs.Int.{◌∣◌}

-- the greatest absolute value in range
abbrev pub greatest : ℕ
greatest = 2 ^ 127 - 1

-- g divides every value, and each number that divides every value divides g; so g is 0 for none
pub record IsContent (values : List ℤ) (g : ℕ) : Type 0 where
  pub divides : All (λ v. g ∣ unsigned_abs v) values
  pub largest : (d : ℕ) → All (λ v. d ∣ unsigned_abs v) values → d ∣ g

-- a number by its sign, true for a negative one, and its absolute value
abbrev pub signed : Bool → ℕ → ℤ
signed false n = pos n
signed true n = neg_ℤ (pos n)
