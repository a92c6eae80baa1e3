use Rattle.std.proofs.Common.{◌∙◌, ℕ, length, ap, sym}
use Rattle.std.proofs.lemmas.Result.{err_from_is_err_and}
use Rattle.dz_diff.specs.Operations.{setting_of}
use Rattle.dz_diff.specs.States.{state_in}
use Rattle.dz_move.specs.declared.fault.MoveFault.TheVariants.{NotPermitted}
use Rattle.dz_move.specs.declared.Rule.TheVariants as rules
use Rattle.dz_move.proofs.Outcomes.{broken_stop, grown_not_added, grown_stopped, step_not_added}
use Rattle.dz_move.proofs.moves.grown.Goals as goal

pub returns-in_err-ran-clause-refused : goal.returns-in_err-ran-clause-refused
returns-in_err-ran-clause-refused c =
    let book = c.args.book.now in
    let y = err_from_is_err_and c.from_residual.result c.from_residual.ensures.1 in
    rw (y.1, y.2)
    (grown_stopped (setting_of book.ranking) (state_in book c.args.state.now) c.args.first c.args.second c.args.run.now _ c.in_err-ran.ensures.refused)

pub returns-then-branch-clause-refused : goal.returns-then-branch-clause-refused
returns-then-branch-clause-refused c =
    let book = c.args.book.now in
    let s = state_in book c.args.state.now in
    let h = c.in_ok-ran.ensures.ok in
    broken_stop _ (length c.args.run.now) rules.End _ (c.broken.ensures ∙ ap (λ (n : ℕ). record { steps = n; fault = NotPermitted rules.End }) c.len.ensures)
    (grown_not_added (setting_of book.ranking) s c.args.first c.args.second c.args.run.now (record { terms = c.in_ok-ran.ran.terms; ran = record { end = c.in_ok-ran.ran.run.end.terms; count = h.count } }) h.is
    (step_not_added (setting_of book.ranking) s c.args.first c.args.second c.args.run.now _ (sym c.in_ok-admits.ensures ∙ c.if-branch.true)))
