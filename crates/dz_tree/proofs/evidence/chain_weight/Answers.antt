use Rattle.std.proofs.Common.{◌+◌, ◌-◌, map, subst}
use Rattle.std.specs.Prelude.{nat_le}
use Rattle.dz_diff.specs.Operations.{setting_of}
use Rattle.dz_diff.specs.States.{state_in}
use Rattle.dz_tree.specs.ChainParts.{is_within}
use Rattle.dz_tree.specs.Entering.{IsEntryFault}
use Rattle.dz_tree.specs.EvidenceLines.{evidence_of}
use Rattle.dz_move.specs.TreeLines.{line_of}
use Rattle.dz_tree.proofs.ChainWeights.{chain_same, within_budget}
use Rattle.dz_tree.proofs.evidence.chain_weight.Goals as goal

pub returns-in-Err-clause-refused : goal.returns-in-Err-clause-refused
returns-in-Err-clause-refused c =
    let book = c.args.book.now in
    let all = chain_same (setting_of book.ranking) (state_in book c.args.state.now) (evidence_of (map line_of c.args.evidence.now)) (is_within (c.args.budget - c.args.weight)) (λ k. nat_le (c.args.weight + k) c.args.budget)
    (within_budget c.args.weight c.args.budget c.requires.within c.ranges.budget.fits) in
    subst (IsEntryFault c.in-Err.fault) all c.in-Err.ensures.refused
