-- Numbers that divide every coefficient.
use Rattle.std.specs.Prelude.{ℕ, All, unsigned_abs}
use Rattle.std.specs.Int.{◌∣◌}
use Rattle.dz_algebra.specs.Polynomial.{Polynomial}

-- k divides every coefficient
abbrev pub DividesAll : {S : Type 0} → ℕ → Polynomial S → Type 0
DividesAll k p = All (λ t. k ∣ unsigned_abs t.1) p
