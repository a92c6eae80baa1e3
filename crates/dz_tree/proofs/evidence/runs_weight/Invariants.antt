use Rattle.std.proofs.Common.{◌≡◌, ◌≤◌, ◌+◌, ◌-◌, ◌^◌, min, ℕ, drop, map}
use Rattle.dz_diff.specs.Operations.{setting_of}
use Rattle.dz_diff.specs.States.{state_in}
use Rattle.dz_tree.specs.Chain.{evidence_from}
use Rattle.dz_tree.specs.ChainParts.{is_within}
use Rattle.dz_tree.specs.EvidenceLines.{evidence_of}
use Rattle.dz_move.specs.TreeLines.{line_of}
use Rattle.dz_tree.proofs.evidence.runs_weight.Given as goal

abbrev pub invariant-lines : goal.invariant-lines
invariant-lines l =
    (n : ℕ) × (l.total ≡ min n (2 ^ 64 - 1)) × (l.total ≤ l.left)
    × (evidence_from (setting_of l.book.ranking) (state_in l.book l.state) (is_within l.left) (l.k + 1) n (evidence_of (map line_of (drop l.k l.evidence)))
    ≡ evidence_from (setting_of l.book.ranking) (state_in l.book l.state) (is_within l.left) 1 0 (evidence_of (map line_of l.evidence)))
