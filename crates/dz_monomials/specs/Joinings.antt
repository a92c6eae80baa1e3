-- How two exponents of one symbol become one. No clause about books cites this file.
use Rattle.std.specs.Prelude.{ℕ, ◌+◌, max}
use Rattle.dz_monomials.specs.declared.powers.Joining.{Joining}
use Rattle.dz_monomials.specs.declared.powers.Joining.TheVariants.{Sum, Greatest}

-- the sum for a product, the greater one for a common multiple
abbrev pub joined_by : Joining → ℕ → ℕ → ℕ
joined_by Sum p q = p + q
joined_by Greatest p q = max p q
