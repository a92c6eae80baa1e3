use Rattle.std.proofs.Common.{◌∙◌, sym}
use Rattle.std.proofs.lemmas.Result.{err_from_is_err_and}
use Rattle.dz_poly.specs.Books.{polynomial, term_at}
use Rattle.dz_diff.specs.Operations.{setting_of}
use Rattle.dz_diff.specs.States.{polynomials}
use Rattle.dz_solution.proofs.Steps.{power_goes_on, power_stops, symbol_belongs}
use Rattle.dz_solution.proofs.evaluating.times_powers.Goals as goal

pub times_power-requires-clause-belongs : goal.times_power-requires-clause-belongs
times_power-requires-clause-belongs c = symbol_belongs c.args.book.now c.args.p c.args.k c.loop-j.j c.power_at-symbol.result c.opened.ensures c.requires.lives c.requires.inside c.power_at-symbol.ensures

pub returns-in_err-multiple : goal.returns-in_err-multiple
returns-in_err-multiple c =
    let y = err_from_is_err_and c.from_residual.result c.from_residual.ensures.1 in
    rw (y.1, y.2)
    (power_stops (setting_of c.args.book.now.ranking) (polynomials c.args.book.now c.args.functions.now) (term_at (polynomial c.args.book.now c.args.p) c.args.k).0 c.loop-j.j c.power_at-symbol.result c.loop-j.multiple.terms c.power_at-symbol.ensures _ _ c.loop-j.invariant.rest c.in_err-multiple.ensures)

pub loop-j-preserved : goal.loop-j-preserved
loop-j-preserved c = record {
  stands = c.in_ok-multiple.ensures.entry;
  rest = sym (power_goes_on (setting_of c.args.book.now.ranking) (polynomials c.args.book.now c.args.functions.now) (term_at (polynomial c.args.book.now c.args.p) c.args.k).0 c.loop-j.j c.power_at-symbol.result c.loop-j.multiple.terms c.power_at-symbol.ensures c.in_ok-multiple.multiple.terms c.in_ok-multiple.ensures.ok) ∙ c.loop-j.invariant.rest;
}
