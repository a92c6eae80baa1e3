-- What the support of an operation is. No clause about books cites this file.
use Rattle.std.specs.Prelude.{◌≡◌, false, List, length, Option}
use Rattle.std.specs.declared.cmp.Ordering.{Ordering}
use Rattle.dz_algebra.specs.Amount.{Amount}
use Rattle.dz_algebra.specs.Monomial.{Monomial}
use Rattle.dz_algebra.specs.Polynomial.{Contributions}
use Rattle.dz_algebra.specs.Size.{operation}
use Rattle.dz_rank.specs.declared.symbols.Symbol.{Symbol}
use Rattle.dz_rank.specs.Rankings.{RankingValue, ranking_cmp}
use Rattle.dz_rank.specs.Symbols.{total_order}
use Rattle.dz_monomials.specs.Cells.{concluded, finished}
use Rattle.dz_monomials.specs.Degrees.{degrees, has_high_order, has_high_exponent, limit_by}
use Rattle.dz_monomials.specs.Ranked.{symbols_under}

-- the degrees of the cells, where no order and no exponent passes its limit
pub record IsSupport (cmp : Symbol → Symbol → Ordering) (table : Monomial Symbol) (cells : List (Monomial Symbol × Option Amount)) : Type 0 where
  pub degrees_are : table ≡ degrees cmp cells
  pub orders : has_high_order total_order table ≡ false
  pub exponents : has_high_exponent table ≡ false

-- and they answer what the operation with these contributions does
pub record IsSupportOf (r : RankingValue) (ts : Contributions Symbol) (table : Monomial Symbol) (cells : List (Monomial Symbol × Option Amount)) : Type 0 where
  pub support : IsSupport (ranking_cmp r) table cells
  pub answer : concluded (limit_by total_order table (length cells)) (finished cells) ≡ operation (symbols_under r) ts
