use Rattle.std.proofs.Common.{◌≡◌, ◌<◌, All, drop, length, arith}
use Rattle.dz_tree.proofs.OperatorLists.{zero_passed}
use Rattle.dz_tree.proofs.line_operators.is_operator_of.Goals as goal

pub directions-preserved : goal.directions-preserved
directions-preserved c =
    let inside : c.directions.k < length c.args.operator.counts = omega (arith, c.directions-test.true) in
    zero_passed (All (λ n. n ≡ 0) (drop c.args.independents c.args.operator.counts)) c.args.operator.counts c.directions.k inside c.if-operator-k-ne0.false c.directions.invariant
