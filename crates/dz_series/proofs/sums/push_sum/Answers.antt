use Rattle.std.proofs.Common.{◌∙◌, ◌++◌, length, take, Some, sym, ap, ap₂, arith}
use Rattle.dz_syntax.specs.Names.{signature_of}
use Rattle.dz_jet.specs.Jets.{Values}
use Rattle.dz_series.specs.Series.{coefficient_answer, points_of, summand}
use Rattle.dz_series.specs.Writing.{terms_text}
use Rattle.dz_series.proofs.SeriesCoefficients.{coefficient_at}
use Rattle.dz_series.proofs.SeriesTexts.{points_front, points_length, sum_step}
use Rattle.dz_series.proofs.sums.push_sum.Goals as goal

pub slice_bounds-points-end : goal.slice_bounds-points-end
slice_bounds-points-end c =
    let n = c.from.ensures ∙ ap (λ g. g.independents) c.signature.ensures.value in
    n ∙ sym (points_length (signature_of c.args.names.now) c.args.values.now c.requires.writable) ∙ ap (λ k. length (take k c.args.values.now)) (sym n)

pub push_term-requires-clause-points : goal.push_term-requires-clause-points
push_term-requires-clause-points c =
    let n = c.from.ensures ∙ ap (λ g. g.independents) c.signature.ensures.value in
    ap (λ k. length (take k c.args.values.now)) n ∙ points_length (signature_of c.args.names.now) c.args.values.now c.requires.writable

pub push_term-requires-clause-coefficient : goal.push_term-requires-clause-coefficient
push_term-requires-clause-coefficient c =
    ap coefficient_answer c.index-values-k.is
    ∙ coefficient_at c.args.values.now c.args.coefficients.now c.terms.k c.index-values-k.result c.index-coefficients-k.result c.requires.coefficients (omega (arith, c.terms-test.true))
    ∙ ap (λ x. Some x) (sym c.index-coefficients-k.is)

pub terms-preserved : goal.terms-preserved
terms-preserved c =
    let names = c.args.names.now in
    let values = c.args.values.now in
    let u = c.args.dependent in
    let now = c.terms.into.items in
    let first = c.terms.first in
    let n = c.from.ensures ∙ ap (λ g. g.independents) c.signature.ensures.value in
    let points = ap (λ k. take k values) n ∙ sym (points_front (signature_of names) values c.requires.writable) in
    sum_step (summand names (points_of values) u) values c.terms.k c.index-values-k.result now c.push_term.new.into.items _ first c.in_ok-first.first (omega (arith, c.terms-test.true))
    (λ ts. c.in_ok-first.ensures ts ∙ ap₂ (λ (ps : Values) p. now ++ terms_text first (summand names ps u p ++ ts)) points c.index-values-k.is) c.terms.invariant
