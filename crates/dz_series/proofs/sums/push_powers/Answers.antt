use Rattle.std.proofs.Common.{◌<◌, ◌≤◌, ◌∙◌, ◌++◌, ◌==◌, ◌&&◌, length, codes, slice_index_or, sym, ap, ap₂, subst, arith}
use Rattle.dz_rank.specs.declared.rankings.Signature.{Signature}
use Rattle.dz_form.specs.Writing.{marked}
use Rattle.dz_series.specs.Writing.{powers}
use Rattle.dz_series.proofs.SeriesTexts.{powers_done, powers_more}
use Rattle.dz_series.proofs.sums.push_powers.Goals as goal

pub independents-preserved : goal.independents-preserved
independents-preserved c =
    let names = c.args.names.now in
    let counts = c.args.operator.counts in
    let points = c.args.points.now in
    let i = c.independents.i in
    let d = c.index-points-from.result in
    let now = c.independents.into.items in
    let first = c.independents.first in
    let below : i < names.independents = subst (λ (g : Signature). i < g.independents) c.signature-i-end.ensures.value c.independents-test.true in
    let inside : i < length points = subst (λ n. i < n) (sym c.requires.points) below in
    let among : i < length counts = omega (arith, c.requires.operator.size, c.signature-i-end.ensures.few_independents, c.independents-test.true) in
    let count_is = ap (λ k. slice_index_or counts k 0) c.from.ensures in
    let point_is = ap (λ k. slice_index_or points k d) c.from-in-independents.ensures in
    powers_more now c.push_next_power.new.into.items _ first c.in_ok-first.first names points counts i c.independent.result.now d inside among c.independent.ensures
    (c.in_ok-first.ensures.written ∙ ap₂ (λ (v : _) k. now ++ marked (codes "*") first (powers c.independent.result.now v.1 k)) point_is count_is) (c.in_ok-first.ensures.still ∙ ap (λ k. first && k == 0) count_is) c.independents.invariant

pub returns : goal.returns
returns c =
    let names = c.args.names.now in
    let past : names.independents ≤ c.independents.i = subst (λ (g : Signature). g.independents ≤ c.independents.i) c.signature-i-end.ensures.value c.independents-test.false in
    powers_done c.independents.into.items c.args.into.now.items c.independents.first names c.args.points.now c.args.operator.counts c.independents.i (subst (λ n. n ≤ c.independents.i) (sym c.requires.points) past) c.independents.invariant
