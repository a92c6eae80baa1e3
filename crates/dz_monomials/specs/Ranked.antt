-- The symbols of a ranking, as the definitions of differential algebra take them.
use Rattle.std.specs.Prelude.{ℕ, ◌==◌, cond}
use Rattle.dz_algebra.specs.Derivation.{Rate, constant, unit, symbol}
use Rattle.dz_algebra.specs.Symbols.{Symbols}
use Rattle.dz_rank.specs.declared.symbols.Symbol.{Symbol}
use Rattle.dz_rank.specs.declared.symbols.Symbol.TheVariants.{Independent, Derivative}
use Rattle.dz_rank.specs.Symbols.{is_derivative, total_order, raised_symbol}
use Rattle.dz_rank.specs.Rankings.{RankingValue, ranking_cmp}

-- the i-th derivation takes the i-th independent to one, every other to zero, and a derivative to its next
unfoldable pub symbol_rate : ℕ → Symbol → Rate Symbol
symbol_rate i (Independent j) = cond (i == j) unit constant
symbol_rate i (Derivative u t) = symbol (raised_symbol i (Derivative u t))

-- all symbols, in the order of a ranking
abbrev pub symbols_under : RankingValue → Symbols Symbol
symbols_under r = record { cmp = ranking_cmp r; is_derivative = is_derivative; total_order = total_order; rate = symbol_rate }
