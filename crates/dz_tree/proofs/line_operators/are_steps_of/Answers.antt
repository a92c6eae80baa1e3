use Rattle.std.proofs.Common.{◌<◌, length, subst}
use Rattle.dz_step.specs.StepOperators.{DeriveAlong}
use Rattle.dz_tree.proofs.OperatorLists.{step_passed}
use Rattle.dz_tree.proofs.line_operators.are_steps_of.Goals as goal

pub steps-preserved : goal.steps-preserved
steps-preserved c =
    let inside : c.steps.k < length c.args.run.now = subst (λ n. c.steps.k < n) c.len-k-end.ensures c.steps-test.true in
    step_passed c.args.independents (DeriveAlong c.args.independents c.args.run.now) c.args.run.now c.steps.k c.get.result c.get.ensures inside (c.is_operator_of.ensures.0 c.if-not-is_operator_of.false) c.steps.invariant
