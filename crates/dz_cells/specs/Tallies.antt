-- What a tally means.
use Rattle.std.specs.Prelude.{◌+◌, pos, ◌+ℤ◌, neg_ℤ, Option}
use Rattle.dz_algebra.specs.Amount.{Amount}
use Rattle.dz_monomials.specs.Cells.{capped}
use Rattle.dz_cells.specs.declared.tally.Tally.{Tally}

-- the sum of the contributions, and the sum of their absolute values
abbrev pub amount_of : Tally → Amount
amount_of t = record { total = pos t.plus +ℤ neg_ℤ (pos t.minus); majorant = t.plus + t.minus }

-- the same where it fits
abbrev pub tallied : Tally → Option Amount
tallied t = capped (amount_of t)
