use Rattle.std.proofs.Common.{◌≡◌, ◌-◌, ◌^◌, min, ℕ, drop, map}
use Rattle.dz_diff.specs.Operations.{setting_of}
use Rattle.dz_diff.specs.States.{state_in}
use Rattle.dz_tree.specs.EvidenceLines.{evidence_of}
use Rattle.dz_check.specs.Reasons.{open_weights}
use Rattle.dz_move.specs.TreeLines.{line_of}
use Rattle.dz_check.proofs.EvidenceWeights.{added}
use Rattle.dz_check.proofs.reasons.open_weights.Given as goal

abbrev pub invariant-lines : goal.invariant-lines
invariant-lines l =
    (n : ℕ) × (l.total ≡ min n (2 ^ 64 - 1))
    × (added n (open_weights (setting_of l.book.ranking) (state_in l.book l.state) (evidence_of (map line_of (drop l.line-index l.evidence)))) ≡ open_weights (setting_of l.book.ranking) (state_in l.book l.state) (evidence_of (map line_of l.evidence)))
