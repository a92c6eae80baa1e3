use Rattle.std.proofs.Common.{ℕ, List, sym, subst}
use Rattle.std.proofs.lemmas.Result.{err_from_is_err_and}
use Rattle.dz_diff.specs.Operations.{setting_of}
use Rattle.dz_diff.specs.States.{polynomials, state_in}
use Rattle.dz_step.specs.declared.Role.TheVariants.{Equation}
use Rattle.dz_move.specs.Actions.{IsActionStop}
use Rattle.dz_move.specs.Parts.{placed_run}
use Rattle.dz_move.proofs.Acting.{bind_stopped, reduced_is}
use Rattle.dz_move.proofs.moves.reduced.Goals as goal

pub returns-in_err-ran-clause-refused : goal.returns-in_err-ran-clause-refused
returns-in_err-ran-clause-refused c =
    let book = c.args.book.now in
    let s = state_in book c.args.state.now in
    let y = err_from_is_err_and c.from_residual.result c.from_residual.ensures.1 in
    rw (y.1, y.2)
    (subst (IsActionStop c.in_err-ran.field-0.0) (sym (reduced_is (setting_of book.ranking) s c.args.place c.args.run.now))
    (bind_stopped c.in_err-ran.field-0.0 _ _ (subst (λ (ps : List ℕ). IsActionStop c.in_err-ran.field-0.0 (placed_run (setting_of book.ranking) s (Equation c.args.place) c.args.place (polynomials book ps) c.args.run.now)) c.equations.ensures.items c.in_err-ran.ensures.refused)))
