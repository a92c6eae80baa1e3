use Rattle.dz_check.proofs.LeadingPairs.{front_evidence, front_operators, front_pairs}
use Rattle.dz_check.proofs.walking.leading_pairs.Goals as goal

pub returns-clause-pairs : goal.returns-clause-pairs
returns-clause-pairs c = front_pairs c.args.lines.now c.pair_count-count.result c.pair_count-count.ensures.count

pub returns-clause-evidence : goal.returns-clause-evidence
returns-clause-evidence c = front_evidence c.args.lines.now c.pair_count-count.result c.pair_count-count.ensures.count

pub returns-clause-operators : goal.returns-clause-operators
returns-clause-operators c = λ n h. front_operators c.args.lines.now c.pair_count-count.result n h
