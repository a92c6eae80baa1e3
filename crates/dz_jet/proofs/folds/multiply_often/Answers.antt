use Rattle.std.proofs.Common.{◌∙◌, sym, refl, arith}
use Rattle.dz_jet.proofs.FoldSteps.{multiplied_stops, multiplied_goes_on, multiplied_ends}
use Rattle.dz_jet.proofs.folds.multiply_often.Goals as goal

pub loop-left-init : goal.loop-left-init
loop-left-init c = (c.numerator.ensures.fraction.reduced, refl)

pub returns-in_err-product : goal.returns-in_err-product
returns-in_err-product c =
    c.from_residual.ensures
    ∙ sym (multiplied_stops c.loop-left.left c.args.v c.loop-left.product c.mul.result (omega (arith, c.loop-left-test.true)) c.loop-left.invariant.0 c.numerator-2.ensures.fraction.reduced c.mul.ensures c.in_err-product.was)
    ∙ c.loop-left.invariant.1

pub loop-left-preserved : goal.loop-left-preserved
loop-left-preserved c = (
  c.in_ok-product.ensures.0.reduced,
  sym (multiplied_goes_on c.loop-left.left c.args.v c.loop-left.product c.in_ok-product.product c.mul.result (omega (arith, c.loop-left-test.true)) c.loop-left.invariant.0 c.numerator-2.ensures.fraction.reduced c.mul.ensures c.in_ok-product.was)
      ∙ c.loop-left.invariant.1,
)

pub returns : goal.returns
returns c = sym (multiplied_ends c.loop-left.left c.args.v c.loop-left.product (omega (arith, c.loop-left-test.false))) ∙ c.loop-left.invariant.1
