use Rattle.std.proofs.Common.{[], ◌∷◌, IsTrue, slice_index_or, take, subst, sym}
use Rattle.std.proofs.lemmas.List.{take_all, take_more}
use Rattle.dz_diff.proofs.Places.{all-append}
use Rattle.dz_jet.specs.Fractions.{is_reduced}
use Rattle.dz_jet.specs.Laws.{AreReduced}
use Rattle.dz_jet.proofs.FractionLaws.{passes_lowest}
use Rattle.dz_jet.proofs.making.read.Goals as goal

pub loop-i-preserved : goal.loop-i-preserved
loop-i-preserved c =
    let xs = c.args.values.now in
    let d = c.index-values-i.result in
    subst AreReduced (sym (take_more xs c.loop-i.i d c.loop-i-test.true))
    (all-append (λ p. IsTrue (is_reduced p.1)) (take c.loop-i.i xs) (slice_index_or xs c.loop-i.i d ∷ []) c.loop-i.invariant (passes_lowest (slice_index_or xs c.loop-i.i d).1 c.numerator.ensures.fraction.reduced, tt))

pub returns : goal.returns
returns c =
    subst AreReduced (take_all c.loop-i.i c.args.values.now c.loop-i-test.false) c.loop-i.invariant
