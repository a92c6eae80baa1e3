use Rattle.std.proofs.Common.{◌<◌, ◌∙◌, length, map, slice_index_or, sym, ap, arith}
use Rattle.std.proofs.lemmas.List.{take_all}
use Rattle.dz_series.specs.Series.{coefficient_answer}
use Rattle.dz_jet.proofs.FoldSteps.{any_default}
use Rattle.dz_series.proofs.SeriesCoefficients.{series_fits, series_stops}
use Rattle.dz_series.proofs.coefficients.coefficients.Goals as goal

pub returns-in_default-clause-fault : goal.returns-in_default-clause-fault
returns-in_default-clause-fault c names g =
    let values = c.args.values.now in
    let k = c.loop-k.k in
    let d = c.index-values-k.result in
    let inside : k < length values = omega (arith, c.loop-k-test.true) in
    series_stops names g values k c.loop-k.made.items d inside c.loop-k.invariant
    (ap (λ p. coefficient_answer ((slice_index_or values k d).0, p.1)) (any_default values k d c.index-values-k-in-loop-k.result inside) ∙ sym c.coefficient.ensures ∙ c.in_default.is)

pub returns-clause-lines : goal.returns-clause-lines
returns-clause-lines c names g =
    series_fits names g c.args.values.now c.loop-k.made.items (ap (map coefficient_answer) (sym (take_all c.loop-k.k c.args.values.now (omega (arith, c.loop-k-test.false)))) ∙ c.loop-k.invariant)
