use Rattle.std.proofs.Common.{◌+◌, ◌∙◌, ap, sym, arith, refl}
use Rattle.std.proofs.lemmas.Result.{err_from_is_err_and}
use Rattle.dz_poly.specs.Books.{polynomial}
use Rattle.dz_monomials.specs.Ranked.{symbols_under}
use Rattle.dz_diff.specs.States.{polynomials}
use Rattle.dz_step.proofs.DivisorTables.{polynomial_here, polynomials_length}
use Rattle.dz_jet.specs.declared.faults.Part.TheVariants as parts
use Rattle.dz_jet.specs.Jets.{test_inequations, test_part, value_in}
use Rattle.dz_jet.proofs.PointSteps.{member_passes, member_stops, members_end}
use Rattle.dz_jet.proofs.points.test_inequations.Goals as goal

pub returns-in_err-test_part : goal.returns-in_err-test_part
returns-in_err-test_part c =
    let b = c.args.book.now in
    let at = value_in (symbols_under b.ranking) c.args.values.now in
    let hs = polynomials b c.args.inequations.now in
    let i = c.loop-i.i in
    let l = polynomials_length b c.args.inequations.now in
    let here = ap (polynomial b) c.index-inequations-i.is ∙ sym (polynomial_here b c.args.inequations.now i c.index-inequations-i.result (omega (arith, c.loop-i-test.true))) in
    let p = err_from_is_err_and c.from_residual.result c.from_residual.ensures.1 in
    rw (p.1, p.2) (member_stops (test_inequations at) (λ j h. test_part at (parts.Inequation j) h) (λ j h hs. refl) (λ j. refl) hs i c.loop-i.invariant (omega (arith, l, c.loop-i-test.true)) c.in_err-test_part.field-0.0
    (sym (ap (test_part at (parts.Inequation (i + 1))) here) ∙ sym c.test_part.ensures ∙ c.in_err-test_part.was))

pub loop-i-preserved : goal.loop-i-preserved
loop-i-preserved c =
    let b = c.args.book.now in
    let at = value_in (symbols_under b.ranking) c.args.values.now in
    let hs = polynomials b c.args.inequations.now in
    let i = c.loop-i.i in
    let l = polynomials_length b c.args.inequations.now in
    let here = ap (polynomial b) c.index-inequations-i.is ∙ sym (polynomial_here b c.args.inequations.now i c.index-inequations-i.result (omega (arith, c.loop-i-test.true))) in
    member_passes (test_inequations at) (λ j h. test_part at (parts.Inequation j) h) (λ j h hs. refl) (λ j. refl) hs i c.loop-i.invariant (omega (arith, l, c.loop-i-test.true)) c.in_ok-test_part.field-0
    (sym (ap (test_part at (parts.Inequation (i + 1))) here) ∙ sym c.test_part.ensures ∙ c.in_ok-test_part.was)

pub returns : goal.returns
returns c =
    let b = c.args.book.now in
    let at = value_in (symbols_under b.ranking) c.args.values.now in
    let l = polynomials_length b c.args.inequations.now in
    members_end (test_inequations at) (λ j h. test_part at (parts.Inequation j) h) (λ j h hs. refl) (λ j. refl) (polynomials b c.args.inequations.now) c.loop-i.i c.loop-i.invariant (omega (arith, l, c.loop-i-test.false))
