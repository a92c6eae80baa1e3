use Rattle.std.proofs.Common.{◌∙◌, sym, map, true, false}
use Rattle.dz_diff.specs.Operations.{setting_of}
use Rattle.dz_diff.specs.States.{state_in}
use Rattle.dz_move.specs.declared.Rule.TheVariants as rules
use Rattle.dz_tree.specs.EvidenceLines.{evidence_of}
use Rattle.dz_move.specs.TreeLines.{line_of}
use Rattle.dz_check.proofs.Entries.{line_broken, open_by}
use Rattle.dz_check.proofs.entering.open_end.Goals as goal

pub returns-then-not-branch-clause-refused : goal.returns-then-not-branch-clause-refused
returns-then-not-branch-clause-refused c =
    let book = c.args.book.now in
    line_broken c.at_line.result rules.Reason _ c.at_line.ensures
    (open_by (setting_of book.ranking) c.args.budget c.args.weight (state_in book c.args.state.now) (line_of c.args.line.now) (evidence_of (map line_of c.args.evidence.now)) c.requires.ended false (sym c.in_ok-holds.ensures.value ∙ c.if-not-branch.true))

pub returns-clause-ok : goal.returns-clause-ok
returns-clause-ok c =
    let book = c.args.book.now in
    record {
      is = open_by (setting_of book.ranking) c.args.budget c.args.weight (state_in book c.args.state.now) (line_of c.args.line.now) (evidence_of (map line_of c.args.evidence.now)) c.requires.ended true (sym c.in_ok-holds.ensures.value ∙ c.if-not-branch.false);
      stand = tt;
      facts = tt;
    }
