use Rattle.std.proofs.Common.{ℕ, List, map}
use Rattle.dz_diff.specs.Operations.{setting_of}
use Rattle.dz_diff.specs.States.{state_in}
use Rattle.dz_tree.specs.Entering.{IsEntryFault}
use Rattle.dz_tree.specs.EvidenceLines.{evidence_of}
use Rattle.dz_check.specs.Leaving.{Leaves}
use Rattle.dz_move.specs.Lines.{Evidence, closed}
use Rattle.dz_move.specs.TreeLines.{line_of}
use Rattle.dz_check.specs.Walk.{entered}
use Rattle.dz_move.proofs.MemberLists.{if_err, if_ok}
use Rattle.dz_check.proofs.entering.entered.Goals as goal

pub returns-in-Closed-clause-ok : goal.returns-in-Closed-clause-ok
returns-in-Closed-clause-ok c =
    let book = c.args.book.now in
    let g = setting_of book.ranking in
    let s = state_in book c.args.state.now in
    let es = evidence_of (map line_of c.args.evidence.now) in
    rw c.in-Closed.is
    (if_ok (λ x. (budget weight : ℕ) (es : List Evidence) → Leaves book closed s x (entered g budget weight s closed es)) (λ x. Leaves book closed s x (entered g c.args.budget c.args.weight s closed es)) c.closed_end.result (λ x h. h c.args.budget c.args.weight es) c.closed_end.ensures.ok)

pub returns-in-Closed-clause-refused : goal.returns-in-Closed-clause-refused
returns-in-Closed-clause-refused c =
    let book = c.args.book.now in
    let g = setting_of book.ranking in
    let s = state_in book c.args.state.now in
    let es = evidence_of (map line_of c.args.evidence.now) in
    rw c.in-Closed.is
    (if_err (λ fault. (budget weight : ℕ) (es : List Evidence) → IsEntryFault fault (entered g budget weight s closed es)) (λ fault. IsEntryFault fault (entered g c.args.budget c.args.weight s closed es)) c.closed_end.result (λ fault h. h c.args.budget c.args.weight es) c.closed_end.ensures.refused)
