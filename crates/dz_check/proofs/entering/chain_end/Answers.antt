use Rattle.std.proofs.Common.{map}
use Rattle.std.proofs.lemmas.Result.{err_from_is_err_and}
use Rattle.dz_diff.specs.Operations.{setting_of}
use Rattle.dz_diff.specs.States.{state_in}
use Rattle.dz_tree.specs.EvidenceLines.{evidence_of}
use Rattle.dz_move.specs.TreeLines.{line_of}
use Rattle.dz_check.proofs.Entries.{chain_fault, chain_ok}
use Rattle.dz_check.proofs.entering.chain_end.Goals as goal

pub returns-in_err-weight-clause-refused : goal.returns-in_err-weight-clause-refused
returns-in_err-weight-clause-refused c =
    let book = c.args.book.now in
    let y = err_from_is_err_and c.from_residual.result c.from_residual.ensures.1 in
    rw (y.1, y.2) (chain_fault (setting_of book.ranking) c.args.budget c.args.weight (state_in book c.args.state.now) (evidence_of (map line_of c.args.evidence.now)) c.in_err-weight.field-0.0 c.in_err-weight.ensures.refused)

pub returns-clause-ok : goal.returns-clause-ok
returns-clause-ok c =
    let book = c.args.book.now in
    record {
      is = chain_ok (setting_of book.ranking) c.args.budget c.args.weight (state_in book c.args.state.now) (evidence_of (map line_of c.args.evidence.now)) c.in_ok-weight.weight c.in_ok-weight.ensures.ok;
      stand = tt;
      facts = tt;
    }
