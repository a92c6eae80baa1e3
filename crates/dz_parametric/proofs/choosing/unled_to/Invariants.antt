use Rattle.std.specs.List.{filter, flat_map, range_with_len}
use Rattle.std.proofs.Common.{◌≡◌, []}
use Rattle.dz_parametric.specs.Choosing.{is_unled}
use Rattle.dz_parametric.specs.Orders.{derivatives_from}
use Rattle.dz_parametric.proofs.choosing.unled_to.Given as goal

abbrev pub invariant-loop-u : goal.invariant-loop-u
invariant-loop-u l = l.found.items ≡ flat_map (λ v. filter (is_unled l.fn.leaders) (derivatives_from l.fn.ranking.signature.independents v [] l.fn.ranking.signature.independents l.fn.order)) (range_with_len 0 l.u)
