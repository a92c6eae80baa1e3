use Rattle.std.proofs.Common.{arith}
use Rattle.dz_ask.proofs.TermPasses.{counted_first}
use Rattle.dz_ask.proofs.working.left_after.Goals as goal

pub returns-then-count-left-clause-passed : goal.returns-then-count-left-clause-passed
returns-then-count-left-clause-passed c =
    let first = counted_first c.args.terms.now c.loop-term.term-index c.term-item.result c.loop-term-test.true c.term-item.is in
    omega (arith, first, c.term_count-count.ensures, c.loop-term.invariant.counted, c.if-count-left.true)

pub loop-term-preserved : goal.loop-term-preserved
loop-term-preserved c =
    let first = counted_first c.args.terms.now c.loop-term.term-index c.term-item.result c.loop-term-test.true c.term-item.is in
    record {
      counted = omega (arith, first, c.term_count-count.ensures, c.loop-term.invariant.counted, c.if-count-left.false);
      positive = omega (arith, c.if-count-left.false);
    }
