use Rattle.std.proofs.Common.{◌≡◌, ◌+◌, ◌-◌, ◌^◌, min, arith}
use Rattle.std.proofs.lemmas.Result.{err_from_is_err_and}
use Rattle.dz_monomials.specs.Ranked.{symbols_under}
use Rattle.dz_diff.specs.Operations.{setting_of}
use Rattle.dz_diff.specs.States.{state_in}
use Rattle.dz_tree.specs.ChainParts.{IsForPair, is_within}
use Rattle.dz_step.specs.StepOperators.{DeriveAlong}
use Rattle.dz_tree.specs.LineOperators.{steps_in}
use Rattle.dz_tree.proofs.ChainRules.{evidence_here, line_is_pair}
use Rattle.dz_tree.proofs.ChainWeights.{evidence_has, line_has, past_left, run_costs, run_counts, run_fails, within_left}
use Rattle.dz_tree.proofs.evidence.runs_weight.Goals as goal

pub line_weight-requires-clause-pair : goal.line_weight-requires-clause-pair
line_weight-requires-clause-pair c = line_is_pair _ _ _ (evidence_here c.args.evidence.now c.lines.k c.index-evidence-k.result c.requires.pairs c.lines-test.true c.index-evidence-k.is)

pub line_weight-requires-clause-places : goal.line_weight-requires-clause-places
line_weight-requires-clause-places c =
    let here = evidence_here c.args.evidence.now c.lines.k c.index-evidence-k.result c.requires.pairs c.lines-test.true c.index-evidence-k.is in
    evidence_has (IsForPair (symbols_under c.args.book.now.ranking) (state_in c.args.book.now c.args.state.now).equations) c.args.evidence.now c.lines.k c.index-evidence-k.result c.requires.pairs c.requires.places here

pub line_weight-requires-clause-operators : goal.line_weight-requires-clause-operators
line_weight-requires-clause-operators c =
    line_has (λ line. DeriveAlong c.args.book.now.ranking.signature.independents (steps_in line)) c.args.evidence.now c.lines.k c.index-evidence-k.result c.requires.operators c.lines-test.true c.index-evidence-k.is

pub returns-in_err-weight-clause-refused : goal.returns-in_err-weight-clause-refused
returns-in_err-weight-clause-refused c =
    let book = c.args.book.now in
    let here = evidence_here c.args.evidence.now c.lines.k c.index-evidence-k.result c.requires.pairs c.lines-test.true c.index-evidence-k.is in
    let n = c.lines.invariant in
    let y = err_from_is_err_and c.from_residual.result c.from_residual.ensures.1 in
    rw (y.1, y.2)
    (run_fails (setting_of book.ranking) (state_in book c.args.state.now) (is_within c.args.left) c.args.evidence.now c.lines.k n.0 _ n.3 c.index-evidence-k.result here _ (c.in_err-weight.ensures.refused here.evidence here.is))

pub returns-then-total-left-clause-refused : goal.returns-then-total-left-clause-refused
returns-then-total-left-clause-refused c =
    let book = c.args.book.now in
    let here = evidence_here c.args.evidence.now c.lines.k c.index-evidence-k.result c.requires.pairs c.lines-test.true c.index-evidence-k.is in
    let n = c.lines.invariant in
    let w = c.in_ok-weight.ensures.ok here.evidence here.is in
    let sum : c.saturating_add-total.result ≡ min (n.0 + w.0) (2 ^ 64 - 1) = omega (arith, n.1, w.2, c.saturating_add-total.ensures) in
    run_costs (setting_of book.ranking) (state_in book c.args.state.now) (is_within c.args.left) c.args.evidence.now c.lines.k n.0 _ n.3 c.index-evidence-k.result here w.0 w.1
    (past_left c.args.left (n.0 + w.0) _ sum c.if-total-left.true)

pub lines-preserved : goal.lines-preserved
lines-preserved c =
    let book = c.args.book.now in
    let here = evidence_here c.args.evidence.now c.lines.k c.index-evidence-k.result c.requires.pairs c.lines-test.true c.index-evidence-k.is in
    let n = c.lines.invariant in
    let w = c.in_ok-weight.ensures.ok here.evidence here.is in
    let sum : c.saturating_add-total.result ≡ min (n.0 + w.0) (2 ^ 64 - 1) = omega (arith, n.1, w.2, c.saturating_add-total.ensures) in (
      n.0 + w.0,
      sum,
      c.if-total-left.false,
      run_counts (setting_of book.ranking) (state_in book c.args.state.now) (is_within c.args.left) c.args.evidence.now c.lines.k n.0 _ n.3 c.index-evidence-k.result here w.0 w.1
          (within_left c.args.left (n.0 + w.0) _ sum c.if-total-left.false),
    )
