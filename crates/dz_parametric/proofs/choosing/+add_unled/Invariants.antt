use Rattle.std.specs.List.{filter, flat_map, range_with_len}
use Rattle.std.proofs.Common.{◌≡◌, ◌++◌, ◌+◌, ◌-◌, ◌∷◌, [], take}
use Rattle.dz_parametric.specs.Choosing.{is_unled}
use Rattle.dz_parametric.specs.Orders.{derivatives_from}
use Rattle.dz_parametric.proofs.choosing.+add_unled.Given as goal

abbrev pub decreases-add_unled : goal.decreases-add_unled
decreases-add_unled l = l.independents - l.i

abbrev pub invariant-loop-k : goal.invariant-loop-k
invariant-loop-k l =
    l.into.items ≡ l.fn.into.items ++ flat_map (λ j. filter (is_unled l.fn.leaders) (derivatives_from l.fn.independents l.fn.dependent (take l.fn.i l.fn.operator.counts ++ j ∷ []) (l.fn.independents - (l.fn.i + 1)) (l.fn.most - j))) (range_with_len 0 l.k)
