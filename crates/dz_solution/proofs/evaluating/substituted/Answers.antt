use Rattle.std.proofs.Common.{◌∙◌, arith, sym}
use Rattle.std.proofs.lemmas.Result.{err_from_is_err_and}
use Rattle.dz_poly.specs.Books.{polynomial}
use Rattle.dz_diff.specs.Operations.{setting_of}
use Rattle.dz_diff.specs.States.{polynomials}
use Rattle.dz_solution.proofs.FunctionsInBook.{functions_are_ground}
use Rattle.dz_solution.proofs.Steps.{term_stops, terms_begin, terms_end}
use Rattle.dz_solution.proofs.Substitutions.{substitution_answered}
use Rattle.dz_solution.proofs.evaluating.substituted.Goals as goal

pub loop-k-init : goal.loop-k-init
loop-k-init c = record {
  stands = c.in_ok-so_far.ensures.entry c.args.book.now.ranking;
  rest = terms_begin (setting_of c.args.book.now.ranking) (polynomials c.args.book.now c.args.functions.now) (polynomial c.args.book.now c.args.p) c.in_ok-so_far.so_far.terms c.in_ok-so_far.ensures.terms;
}

pub returns-in_err-so_far-2-clause-answer : goal.returns-in_err-so_far-2-clause-answer
returns-in_err-so_far-2-clause-answer c =
    let y = err_from_is_err_and c.from_residual-in_err-so_far-2.result c.from_residual-in_err-so_far-2.ensures.1 in
    rw (y.1, y.2)
    (term_stops (setting_of c.args.book.now.ranking) (polynomials c.args.book.now c.args.functions.now) (polynomial c.args.book.now c.args.p) c.loop-k.k c.loop-k.so_far.terms (omega (arith, c.loop-k-test.true, c.term_count-k-end.ensures)) _ _ c.loop-k.invariant.rest c.in_err-so_far-2.ensures)

pub returns-clause-value : goal.returns-clause-value
returns-clause-value c =
    let book = c.args.book.now in
    let fs = polynomials book c.args.functions.now in
    let p = polynomial book c.args.p in
    substitution_answered book.ranking fs (functions_are_ground book c.opened.ensures c.args.functions.now c.requires.functions).canonical p c.loop-k.so_far.terms
    (sym c.loop-k.invariant.rest ∙ terms_end (setting_of book.ranking) fs p c.loop-k.k c.loop-k.so_far.terms (omega (arith, c.loop-k-test.false, c.term_count-k-end.ensures)))
