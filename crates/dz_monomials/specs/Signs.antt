-- Contributions taken with a sign. No clause about books cites this file.
use Rattle.std.specs.Prelude.{List, map, ℤ, neg_ℤ}
use Rattle.dz_monomials.specs.declared.sign.Sign.{Sign}
use Rattle.dz_monomials.specs.declared.sign.Sign.TheVariants.{Plus, Minus}

-- a number as it is, or with its sign changed
abbrev pub signed : Sign → ℤ → ℤ
signed Plus c = c
signed Minus c = neg_ℤ c

-- contributions as they are, or with their signs changed
abbrev pub with_sign : {M : Type 0} → Sign → List (M × ℤ) → List (M × ℤ)
with_sign sign ts = map (λ t. (t.0, signed sign t.1)) ts
