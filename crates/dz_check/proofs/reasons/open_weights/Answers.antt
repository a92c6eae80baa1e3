use Rattle.std.proofs.Common.{◌+◌, ℕ, Option, arith, subst}
use Rattle.dz_diff.specs.Operations.{setting_of}
use Rattle.dz_diff.specs.States.{state_in}
use Rattle.dz_check.specs.SpentPairs.{weight_of}
use Rattle.dz_move.specs.Parts.{IsOpenWeight}
use Rattle.dz_move.specs.TreeLines.{line_of}
use Rattle.dz_check.proofs.EvidenceWeights.{one_weighed}
use Rattle.dz_check.proofs.reasons.open_weights.Goals as goal

pub lines-preserved : goal.lines-preserved
lines-preserved c =
    let book = c.args.book.now in
    let g = setting_of book.ranking in
    let s = state_in book c.args.state.now in
    let n = c.lines.invariant in
    let m = subst (λ (o : Option ℕ). IsOpenWeight o (weight_of g s (line_of c.line-item.result))) c.in-Some.is c.in_ok-weight.ensures in
    (n.0 + m.0, omega (arith, n.1, m.2, c.saturating_add-total.ensures), one_weighed g s c.args.evidence.now c.lines.line-index n.0 n.2 c.line-item.result c.lines-test.true c.line-item.is m.0 m.1)
