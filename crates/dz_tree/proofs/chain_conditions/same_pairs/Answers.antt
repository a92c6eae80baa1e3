use Rattle.std.proofs.Common.{◌<◌, ◌∙◌, length, sym, arith}
use Rattle.dz_tree.proofs.ChainRules.{evidence_here, evidence_length, line_is_pair, other_length, other_pair, pairs_end, this_pair}
use Rattle.dz_tree.proofs.chain_conditions.same_pairs.Goals as goal

pub returns-then-evidence-pairs : goal.returns-then-evidence-pairs
returns-then-evidence-pairs c = other_length _ c.args.pairs.now (λ e. c.if-evidence-pairs.true (sym (evidence_length c.args.evidence.now c.requires) ∙ e))

pub is_for-requires : goal.is_for-requires
is_for-requires c = line_is_pair _ _ _ (evidence_here c.args.evidence.now c.lines.k c.index-evidence-k.result c.requires c.lines-test.true c.index-evidence-k.is)

pub returns-then-not-is_for : goal.returns-then-not-is_for
returns-then-not-is_for c =
    let here = evidence_here c.args.evidence.now c.lines.k c.index-evidence-k.result c.requires c.lines-test.true c.index-evidence-k.is in
    let inside : c.lines.k < length c.args.pairs.now = omega (arith, c.lines-test.true, c.if-evidence-pairs.false) in
    other_pair c.args.evidence.now c.args.pairs.now c.lines.k _ c.lines.invariant c.index-evidence-k.result here (0, 0) inside (sym (c.is_for.ensures here.evidence here.is) ∙ c.if-not-is_for.true)

pub lines-preserved : goal.lines-preserved
lines-preserved c =
    let here = evidence_here c.args.evidence.now c.lines.k c.index-evidence-k.result c.requires c.lines-test.true c.index-evidence-k.is in
    let inside : c.lines.k < length c.args.pairs.now = omega (arith, c.lines-test.true, c.if-evidence-pairs.false) in
    this_pair c.args.evidence.now c.args.pairs.now c.lines.k _ c.lines.invariant c.index-evidence-k.result here (0, 0) inside (sym (c.is_for.ensures here.evidence here.is) ∙ c.if-not-is_for.false)

pub returns : goal.returns
returns c = pairs_end c.args.evidence.now c.args.pairs.now c.lines.k _ c.lines.invariant c.if-evidence-pairs.false (omega (arith, c.lines-test.false))
