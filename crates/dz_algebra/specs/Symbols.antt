-- What the definitions need to know of symbols.
use Rattle.std.specs.Prelude.{ℕ, Bool}
use Rattle.std.specs.declared.cmp.Ordering.{Ordering}
use Rattle.dz_algebra.specs.Derivation.{Rate}

-- the order of symbols, which of them are derivatives, the total order of a derivative's operator (zero for an
-- independent), and what the i-th derivation makes of a symbol
pub record Symbols (S : Type 0) : Type 0 where
  pub cmp : S → S → Ordering
  pub is_derivative : S → Bool
  pub total_order : S → ℕ
  pub rate : ℕ → S → Rate S
