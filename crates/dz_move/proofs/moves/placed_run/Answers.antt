use Rattle.std.proofs.Common.{◌∙◌, sym, subst}
use Rattle.std.proofs.lemmas.Result.{err_from_is_err_and}
use Rattle.dz_diff.specs.Operations.{setting_of}
use Rattle.dz_diff.specs.States.{polynomials, state_in}
use Rattle.dz_step.proofs.BookPlaces.{lives_at}
use Rattle.dz_move.specs.declared.fault.ActionStop.{ActionStop}
use Rattle.dz_move.specs.Actions.{IsActionStop}
use Rattle.dz_move.specs.Parts.{placed_run}
use Rattle.dz_move.proofs.Acting.{none_placed, place_inside, placed_ran, placed_stopped}
use Rattle.dz_move.proofs.moves.placed_run.Goals as goal

pub returns-in_default-clause-refused : goal.returns-in_default-clause-refused
returns-in_default-clause-refused c =
    let book = c.args.book.now in
    let s = state_in book c.args.state.now in
    subst (λ (stop : ActionStop). IsActionStop stop (placed_run (setting_of book.ranking) s c.args.role c.args.place (polynomials book c.args.polys.now) c.args.run.now)) (sym c.broken.ensures)
    (none_placed book s c.args.role c.args.place c.args.polys.now c.args.run.now (sym c.in_default.is ∙ c.member_at.ensures))

pub norm_entry-requires : goal.norm_entry-requires
norm_entry-requires c = lives_at c.args.book.now c.args.polys.now c.args.place c.in-Some.p c.requires.live (sym c.in-Some.ensures)

pub returns-in_err-run_entry-clause-refused : goal.returns-in_err-run_entry-clause-refused
returns-in_err-run_entry-clause-refused c =
    let book = c.args.book.now in
    let y = err_from_is_err_and c.from_residual-in_err-run_entry.result c.from_residual-in_err-run_entry.ensures.1 in
    rw (y.1, y.2) (placed_stopped book (state_in book c.args.state.now) c.args.role c.args.place c.args.polys.now c.args.run.now c.in-Some.p (sym c.in-Some.ensures) c.in_ok-norm.norm.terms c.in_ok-norm.ensures.terms _ c.in_err-run_entry.ensures.refused)

pub returns-clause-ok : goal.returns-clause-ok
returns-clause-ok c =
    let book = c.args.book.now in
    placed_ran book (state_in book c.args.state.now) c.args.role c.args.place c.args.polys.now c.args.run.now c.in-Some.p (sym c.in-Some.ensures) c.in_ok-norm.norm.terms c.in_ok-norm.ensures.terms _ c.in_ok-run_entry.ensures.ok

pub returns-clause-counts : goal.returns-clause-counts
returns-clause-counts c = (place_inside c.args.polys.now c.args.place c.in-Some.p (sym c.in-Some.ensures)).0

pub returns-clause-inside : goal.returns-clause-inside
returns-clause-inside c = (place_inside c.args.polys.now c.args.place c.in-Some.p (sym c.in-Some.ensures)).1
