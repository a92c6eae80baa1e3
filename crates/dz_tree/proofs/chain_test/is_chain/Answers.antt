use Rattle.std.proofs.Common.{map, true, subst}
use Rattle.dz_diff.specs.Operations.{setting_of}
use Rattle.dz_diff.specs.States.{state_in}
use Rattle.dz_tree.specs.Chain.{chain_weight}
use Rattle.dz_tree.specs.ChainParts.{is_within}
use Rattle.dz_tree.specs.Entering.{IsEntryFault}
use Rattle.dz_tree.specs.EvidenceLines.{evidence_of}
use Rattle.dz_move.specs.TreeLines.{line_of}
use Rattle.dz_tree.proofs.ChainWeights.{all_within, chain_same, rule_broken}
use Rattle.dz_tree.proofs.chain_test.is_chain.Goals as goal

pub returns-in-Err-Rule-clause-rule : goal.returns-in-Err-Rule-clause-rule
returns-in-Err-Rule-clause-rule c =
    let book = c.args.book.now in
    let all = chain_same (setting_of book.ranking) (state_in book c.args.state.now) (evidence_of (map line_of c.args.evidence.now)) (is_within 18446744073709551615) (λ k. true) all_within in
    rule_broken c.in-Err-Rule.field-0-0 c.in-Err-Rule.rule _ (subst (λ f. IsEntryFault f (chain_weight (setting_of book.ranking) (state_in book c.args.state.now) (λ k. true) (evidence_of (map line_of c.args.evidence.now)))) c.in-Err-Rule.field-0-is (subst (IsEntryFault c.in-Err-Rule.field-0) all c.in-Err-Rule.ensures.refused))
