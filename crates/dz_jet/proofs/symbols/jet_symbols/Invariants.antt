use Rattle.std.specs.List.{range_with_len}
use Rattle.std.proofs.Common.{◌≡◌, map}
use Rattle.dz_rank.specs.declared.symbols.Symbol.TheVariants.{Independent}
use Rattle.dz_jet.proofs.symbols.jet_symbols.Given as goal

abbrev pub invariant-loop-i : goal.invariant-loop-i
invariant-loop-i l = l.symbols.items ≡ map (λ i. Independent i) (range_with_len 0 l.i)
