use Rattle.std.proofs.Common.{◌∙◌, ◌++◌, ◌∷◌, [], ap, sym, arith}
use Rattle.std.proofs.lemmas.List.FromFn.{map-range_with_len_more}
use Rattle.dz_rank.specs.declared.symbols.Symbol.TheVariants.{Independent}
use Rattle.dz_jet.proofs.symbols.jet_symbols.Goals as goal

pub loop-i-preserved : goal.loop-i-preserved
loop-i-preserved c = c.in_ok-push.ensures.items ∙ ap (λ xs. xs ++ Independent c.loop-i.i ∷ []) c.loop-i.invariant ∙ sym (map-range_with_len_more (λ i. Independent i) 0 c.loop-i.i c.loop-i.i (omega arith))
