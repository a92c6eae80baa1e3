use Rattle.std.proofs.Common.{◌≡◌, ◌&&◌, not, drop, map}
use Rattle.dz_tree.specs.EvidenceLines.{evidence_of}
use Rattle.dz_tree.specs.Forms.{is_empty}
use Rattle.dz_check.specs.Reasons.{is_increasing}
use Rattle.dz_move.specs.TreeLines.{line_of}
use Rattle.dz_check.proofs.GrowingPlaces.{grown}
use Rattle.dz_check.proofs.reasons.are_growing.Given as goal

abbrev pub invariant-lines : goal.invariant-lines
invariant-lines l =
    grown l.last (evidence_of (map line_of (drop l.line-index l.evidence))) ≡ (not (is_empty (evidence_of (map line_of l.evidence))) && is_increasing (evidence_of (map line_of l.evidence)))
