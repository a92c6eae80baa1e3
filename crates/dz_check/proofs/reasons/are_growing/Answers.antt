use Rattle.std.proofs.Common.{◌+◌, ◌∙◌, ap, sym, drop, map}
use Rattle.dz_tree.specs.EvidenceLines.{evidence_of}
use Rattle.dz_move.specs.TreeLines.{line_of}
use Rattle.dz_check.proofs.GrowingPlaces.{grown, one_grown}
use Rattle.dz_check.proofs.reasons.are_growing.Goals as goal

pub lines-preserved : goal.lines-preserved
lines-preserved c =
    ap (λ o. grown o (evidence_of (map line_of (drop (c.lines.line-index + 1) c.args.evidence.now)))) c.last_after-last.ensures
    ∙ one_grown c.args.evidence.now c.lines.line-index c.lines.last _ c.lines.invariant c.line-item.result c.lines-test.true c.line-item.is (sym c.follows.ensures ∙ c.if-not-follows.false)
