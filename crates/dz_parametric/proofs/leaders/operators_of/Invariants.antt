use Rattle.std.proofs.Common.{◌≡◌, ◌++◌, drop, map}
use Rattle.dz_parametric.specs.Cones.{operators_of}
use Rattle.dz_parametric.proofs.leaders.operators_of.Given as goal

abbrev pub invariant-loop-symbol : goal.invariant-loop-symbol
invariant-loop-symbol l =
    map (λ t. t.counts) l.operators.items ++ operators_of l.dependent (drop l.symbol-index l.leaders) ≡ operators_of l.fn.dependent l.fn.leaders
