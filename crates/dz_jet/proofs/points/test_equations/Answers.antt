use Rattle.std.proofs.Common.{◌+◌, ◌∙◌, [], slice_index_or, ap, sym, arith, refl}
use mir.Syntax.{w128}
use mir.Val.{of_z}
use Rattle.std.proofs.lemmas.Result.{err_from_is_err_and}
use Rattle.dz_poly.specs.Books.{polynomial}
use Rattle.dz_monomials.specs.Ranked.{symbols_under}
use Rattle.dz_diff.specs.States.{polynomials}
use Rattle.dz_step.proofs.DivisorTables.{polynomial_here, polynomials_length}
use Rattle.dz_jet.specs.declared.faults.At.TheVariants as ats
use Rattle.dz_jet.specs.declared.faults.JetFault.TheVariants as faults
use Rattle.dz_jet.specs.declared.faults.Part.TheVariants as parts
use Rattle.dz_jet.specs.Jets.{test_equations, value_answer, value_in}
use Rattle.dz_jet.proofs.FoldSteps.{read_zero}
use Rattle.dz_jet.proofs.PointSteps.{equation_more, equation_off, equation_on, equation_step, equation_wide, member_passes, member_stops, members_end}
use Rattle.dz_jet.proofs.points.test_equations.Goals as goal

pub returns-in_err-value : goal.returns-in_err-value
returns-in_err-value c =
    let b = c.args.book.now in
    let at = value_in (symbols_under b.ranking) c.args.values.now in
    let es = polynomials b c.args.equations.now in
    let i = c.loop-i.i in
    let l = polynomials_length b c.args.equations.now in
    let here = ap (polynomial b) c.index-equations-i.is ∙ sym (polynomial_here b c.args.equations.now i c.index-equations-i.result (omega (arith, c.loop-i-test.true))) in
    let p = err_from_is_err_and c.from_residual.result c.from_residual.ensures.1 in
    rw (p.1, p.2) (member_stops (test_equations at) (equation_step at) (equation_more at) (λ j. refl) es i c.loop-i.invariant (omega (arith, l, c.loop-i-test.true)) c.in_err-value.field-0.0
    (equation_wide at (i + 1) (slice_index_or es i []) c.in_err-value.field-0.0 (sym c.in_err-value.was ∙ c.value_at.ensures ∙ ap (value_answer (faults.Wide (ats.Part (parts.Equation (i + 1)))) at) here)))

pub returns-then-numerator-ne0 : goal.returns-then-numerator-ne0
returns-then-numerator-ne0 c =
    let b = c.args.book.now in
    let at = value_in (symbols_under b.ranking) c.args.values.now in
    let es = polynomials b c.args.equations.now in
    let i = c.loop-i.i in
    let l = polynomials_length b c.args.equations.now in
    let here = ap (polynomial b) c.index-equations-i.is ∙ sym (polynomial_here b c.args.equations.now i c.index-equations-i.result (omega (arith, c.loop-i-test.true))) in
    member_stops (test_equations at) (equation_step at) (equation_more at) (λ j. refl) es i c.loop-i.invariant (omega (arith, l, c.loop-i-test.true)) (faults.OffChain (i + 1) c.in_ok-value.value)
    (equation_off at (i + 1) (slice_index_or es i []) c.in_ok-value.value (sym c.in_ok-value.was ∙ c.value_at.ensures ∙ ap (value_answer (faults.Wide (ats.Part (parts.Equation (i + 1)))) at) here) (λ z. c.if-numerator-ne0.true (ap (of_z w128) (c.numerator.ensures.value ∙ z))))

pub loop-i-preserved : goal.loop-i-preserved
loop-i-preserved c =
    let b = c.args.book.now in
    let at = value_in (symbols_under b.ranking) c.args.values.now in
    let es = polynomials b c.args.equations.now in
    let i = c.loop-i.i in
    let l = polynomials_length b c.args.equations.now in
    let here = ap (polynomial b) c.index-equations-i.is ∙ sym (polynomial_here b c.args.equations.now i c.index-equations-i.result (omega (arith, c.loop-i-test.true))) in
    member_passes (test_equations at) (equation_step at) (equation_more at) (λ j. refl) es i c.loop-i.invariant (omega (arith, l, c.loop-i-test.true)) tt
    (equation_on at (i + 1) (slice_index_or es i []) c.in_ok-value.value (sym c.in_ok-value.was ∙ c.value_at.ensures ∙ ap (value_answer (faults.Wide (ats.Part (parts.Equation (i + 1)))) at) here) (read_zero c.in_ok-value.value.numerator c.numerator.ensures.fraction.numerator_in_range (ap (of_z w128) (sym c.numerator.ensures.value) ∙ c.if-numerator-ne0.false)))

pub returns : goal.returns
returns c =
    let b = c.args.book.now in
    let at = value_in (symbols_under b.ranking) c.args.values.now in
    let l = polynomials_length b c.args.equations.now in
    members_end (test_equations at) (equation_step at) (equation_more at) (λ j. refl) (polynomials b c.args.equations.now) c.loop-i.i c.loop-i.invariant (omega (arith, l, c.loop-i-test.false))
