use Rattle.std.proofs.Common.{◌∙◌, ap, sym, refl, arith}
use Rattle.dz_poly.specs.Books.{polynomial, term_at}
use Rattle.dz_monomials.specs.Ranked.{symbols_under}
use Rattle.dz_jet.specs.Jets.{multiplied, value_in}
use Rattle.dz_jet.proofs.FoldSteps.{power_stops, power_goes_on, powers_end}
use Rattle.dz_jet.proofs.folds.multiply_by_powers.Goals as goal

pub loop-j-init : goal.loop-j-init
loop-j-init c = refl

pub returns-in_err-product : goal.returns-in_err-product
returns-in_err-product c =
    let at = value_in (symbols_under c.args.book.now.ranking) c.args.values.now in
    let m = (term_at (polynomial c.args.book.now c.args.p) c.args.k).0 in
    c.from_residual.ensures
    ∙ sym (power_stops at m c.loop-j.j c.power_at-symbol.result c.loop-j.product c.multiply_often.result c.power_at-symbol.ensures
    (c.multiply_often.ensures ∙ ap (λ v. multiplied c.power_at-symbol.result.1 v c.loop-j.product) (c.value_of-value.ensures ∙ ap (λ r. value_in (symbols_under r) c.args.values.now c.power_at-symbol.result.0) c.ranking.ensures))
    c.in_err-product.was)
    ∙ c.loop-j.invariant

pub loop-j-preserved : goal.loop-j-preserved
loop-j-preserved c =
    let at = value_in (symbols_under c.args.book.now.ranking) c.args.values.now in
    let m = (term_at (polynomial c.args.book.now c.args.p) c.args.k).0 in
    sym (power_goes_on at m c.loop-j.j c.power_at-symbol.result c.loop-j.product c.multiply_often.result c.power_at-symbol.ensures
    (c.multiply_often.ensures ∙ ap (λ v. multiplied c.power_at-symbol.result.1 v c.loop-j.product) (c.value_of-value.ensures ∙ ap (λ r. value_in (symbols_under r) c.args.values.now c.power_at-symbol.result.0) c.ranking.ensures))
    c.in_ok-product.product c.in_ok-product.was)
    ∙ c.loop-j.invariant

pub returns : goal.returns
returns c =
    let at = value_in (symbols_under c.args.book.now.ranking) c.args.values.now in
    let m = (term_at (polynomial c.args.book.now c.args.p) c.args.k).0 in
    sym (powers_end at m c.loop-j.j c.loop-j.product (omega (arith, c.loop-j-test.false, c.power_count-j-end.ensures))) ∙ c.loop-j.invariant
