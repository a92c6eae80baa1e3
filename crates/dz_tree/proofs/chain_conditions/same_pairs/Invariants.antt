use Rattle.std.proofs.Common.{◌≡◌, drop, map}
use Rattle.dz_tree.specs.Chain.{same_pairs}
use Rattle.dz_tree.specs.EvidenceLines.{evidence_of}
use Rattle.dz_move.specs.TreeLines.{line_of}
use Rattle.dz_tree.proofs.chain_conditions.same_pairs.Given as goal

abbrev pub invariant-lines : goal.invariant-lines
invariant-lines l = same_pairs (evidence_of (map line_of (drop l.k l.evidence))) (drop l.k l.pairs) ≡ same_pairs (evidence_of (map line_of l.evidence)) l.pairs
