use Rattle.std.proofs.Common.{◌∙◌, ap, sym, arith}
use Rattle.dz_algebra.specs.Parts.{leader}
use Rattle.dz_poly.specs.Books.{polynomial}
use Rattle.dz_monomials.specs.Ranked.{symbols_under}
use Rattle.dz_diff.specs.States.{polynomials}
use Rattle.dz_step.proofs.DivisorTables.{polynomial_here, polynomials_length}
use Rattle.dz_jet.specs.Fixing.{proper_operator}
use Rattle.dz_jet.proofs.FirstLeading.{leads_behind, leads_here, leads_nowhere}
use Rattle.dz_jet.proofs.leading.leading_to.Goals as goal

pub returns-in-Some : goal.returns-in-Some
returns-in-Some c =
    let g = symbols_under c.args.book.now.ranking in
    let es = polynomials c.args.book.now c.args.equations.now in
    let l = polynomials_length c.args.book.now c.args.equations.now in
    leads_here g c.args.w es c.loop-i.i c.loop-i.invariant (omega (arith, l, c.loop-i-test.true)) c.leads.result
    (c.leads.ensures ∙ ap (λ q. proper_operator (leader g q) c.args.w) (ap (polynomial c.args.book.now) c.index-equations-i.is ∙ sym (polynomial_here c.args.book.now c.args.equations.now c.loop-i.i c.index-equations-i.result (omega (arith, c.loop-i-test.true))))) c.in-Some.operator c.in-Some.is

pub loop-i-preserved : goal.loop-i-preserved
loop-i-preserved c =
    let g = symbols_under c.args.book.now.ranking in
    let es = polynomials c.args.book.now c.args.equations.now in
    let l = polynomials_length c.args.book.now c.args.equations.now in
    leads_behind g c.args.w es c.loop-i.i c.loop-i.invariant (omega (arith, l, c.loop-i-test.true)) c.leads.result
    (c.leads.ensures ∙ ap (λ q. proper_operator (leader g q) c.args.w) (ap (polynomial c.args.book.now) c.index-equations-i.is ∙ sym (polynomial_here c.args.book.now c.args.equations.now c.loop-i.i c.index-equations-i.result (omega (arith, c.loop-i-test.true))))) c.in_default.is

pub returns : goal.returns
returns c =
    let l = polynomials_length c.args.book.now c.args.equations.now in
    leads_nowhere (symbols_under c.args.book.now.ranking) c.args.w (polynomials c.args.book.now c.args.equations.now) c.loop-i.i c.loop-i.invariant (omega (arith, l, c.loop-i-test.false))
