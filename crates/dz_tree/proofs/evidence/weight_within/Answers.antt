use Rattle.std.proofs.Common.{◌∙◌, map, sym}
use Rattle.dz_diff.specs.Operations.{setting_of}
use Rattle.dz_diff.specs.States.{state_in}
use Rattle.dz_tree.specs.EvidenceLines.{evidence_of}
use Rattle.dz_move.specs.TreeLines.{line_of}
use Rattle.dz_tree.proofs.ChainRules.{for_pairs}
use Rattle.dz_tree.proofs.evidence.weight_within.Goals as goal

pub runs_weight-requires-clause-places : goal.runs_weight-requires-clause-places
runs_weight-requires-clause-places c =
    let book = c.args.book.now in
    for_pairs (setting_of book.ranking) (state_in book c.args.state.now) (evidence_of (map line_of c.args.evidence.now)) (sym c.in_default.is ∙ c.in_ok-failed.ensures)
