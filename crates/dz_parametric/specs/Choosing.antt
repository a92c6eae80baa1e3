-- The parametric derivatives up to a total order, by computation.
use Rattle.std.specs.Prelude.{ℕ, Bool, false, not, List}
use Rattle.std.specs.List.{filter, list_any}
use Rattle.dz_rank.specs.Rankings.{RankingValue}
use Rattle.dz_rank.specs.declared.symbols.Symbol.{Symbol}
use Rattle.dz_rank.specs.declared.symbols.Symbol.TheVariants.{Independent, Derivative}
use Rattle.dz_diff.specs.Operators.{divides}
use Rattle.dz_diff.specs.State.{State}
use Rattle.dz_parametric.specs.Cones.{operators_of}
use Rattle.dz_parametric.specs.Orders.{derivatives_to}
use Rattle.dz_parametric.specs.Parametric.{leaders_in}

-- a derivative is none of these symbols, and no derivative of one
abbrev pub is_unled : List Symbol → Symbol → Bool
is_unled leaders (Independent i) = false
is_unled leaders (Derivative u t) = not (list_any (λ s. divides s t.counts) (operators_of u leaders))

-- those of a state, in increasing order
abbrev pub parametric_to : RankingValue → State → ℕ → List Symbol
parametric_to r s m = filter (is_unled (leaders_in r s)) (derivatives_to r m)
