use Rattle.std.proofs.Common.{◌≡◌, ◌∙◌, ◌+◌, ◌++◌, Ok, drop, ap, sym, subst, arith}
use Rattle.std.proofs.lemmas.Result.{err_from_is_err_and}
use Rattle.dz_algebra.specs.Parts.{leader}
use Rattle.dz_algebra.specs.Polynomial.{Polynomial}
use Rattle.dz_poly.specs.Books.{Lives, polynomial}
use Rattle.dz_poly.proofs.Books.{kept_polynomial, kept_trans, lives_on}
use Rattle.dz_rank.specs.Rankings.{RankingValue}
use Rattle.dz_rank.specs.declared.symbols.Symbol.{Symbol}
use Rattle.dz_monomials.specs.Ranked.{symbols_under}
use Rattle.dz_algebra.specs.Outcome.{◌>>=◌}
use Rattle.dz_diff.specs.States.{polynomials}
use Rattle.dz_step.proofs.DivisorTables.{polynomial_here, polynomials_length}
use Rattle.dz_jet.specs.Jets.{test_all_multipliers, test_multipliers, value_in}
use Rattle.dz_jet.specs.Stops.{IsFault}
use Rattle.dz_jet.specs.Tables.{IsTable}
use Rattle.dz_jet.proofs.PointSteps.{multipliers_end, multipliers_pass, multipliers_stop}
use Rattle.dz_jet.proofs.points.test_all_multipliers.Goals as goal

pub test_multipliers-requires-clause-lives : goal.test_multipliers-requires-clause-lives
test_multipliers-requires-clause-lives c = lives_on c.args.book.now c.loop-i.book c.index-equations-i.result c.loop-i.invariant.kept (subst (λ p. Lives c.args.book.now p) (sym c.index-equations-i.is) (c.requires.live c.loop-i.i c.index-equations-i.result c.loop-i-test.true))

pub test_multipliers-requires-clause-table : goal.test_multipliers-requires-clause-table
test_multipliers-requires-clause-table c = subst (λ r. IsTable r c.args.values.now) (sym c.loop-i.invariant.kept.ranking) c.requires.table

pub returns-in_err-value-clause-fault : goal.returns-in_err-value-clause-fault
returns-in_err-value-clause-fault c =
    let b = c.args.book.now in
    let g = symbols_under b.ranking in
    let at = value_in g c.args.values.now in
    let es = polynomials b c.args.equations.now in
    let i = c.loop-i.i in
    let l = polynomials_length b c.args.equations.now in
    let lives : Lives b c.index-equations-i.result = subst (λ p. Lives b p) (sym c.index-equations-i.is) (c.requires.live i c.index-equations-i.result c.loop-i-test.true) in
    let here = kept_polynomial b c.loop-i.book c.index-equations-i.result c.loop-i.invariant.kept lives ∙ ap (polynomial b) c.index-equations-i.is ∙ sym (polynomial_here b c.args.equations.now i c.index-equations-i.result (omega (arith, c.loop-i-test.true))) in
    let p = err_from_is_err_and c.from_residual.result c.from_residual.ensures.1 in
    rw (p.1, p.2) (multipliers_stop at g es i c.loop-i.separants.items c.loop-i.invariant.rest (omega (arith, l, c.loop-i-test.true)) c.in_err-value.field-0.0
    (subst (λ (q : Polynomial Symbol). IsFault c.in_err-value.field-0.0 (test_multipliers g at (i + 1) q (leader g q))) here
    (subst (λ (r : RankingValue). IsFault c.in_err-value.field-0.0 (test_multipliers (symbols_under r) (value_in (symbols_under r) c.args.values.now) (i + 1) (polynomial c.loop-i.book c.index-equations-i.result) (leader (symbols_under r) (polynomial c.loop-i.book c.index-equations-i.result)))) c.loop-i.invariant.kept.ranking c.in_err-value.ensures.fault)))

pub loop-i-preserved : goal.loop-i-preserved
loop-i-preserved c =
    let b = c.args.book.now in
    let g = symbols_under b.ranking in
    let at = value_in g c.args.values.now in
    let es = polynomials b c.args.equations.now in
    let i = c.loop-i.i in
    let l = polynomials_length b c.args.equations.now in
    let lives : Lives b c.index-equations-i.result = subst (λ p. Lives b p) (sym c.index-equations-i.is) (c.requires.live i c.index-equations-i.result c.loop-i-test.true) in
    let here = kept_polynomial b c.loop-i.book c.index-equations-i.result c.loop-i.invariant.kept lives ∙ ap (polynomial b) c.index-equations-i.is ∙ sym (polynomial_here b c.args.equations.now i c.index-equations-i.result (omega (arith, c.loop-i-test.true))) in
    let one = subst (λ (q : Polynomial Symbol). test_multipliers g at (i + 1) q (leader g q) ≡ Ok c.in_ok-value.value) here
    (subst (λ (r : RankingValue). test_multipliers (symbols_under r) (value_in (symbols_under r) c.args.values.now) (i + 1) (polynomial c.loop-i.book c.index-equations-i.result) (leader (symbols_under r) (polynomial c.loop-i.book c.index-equations-i.result)) ≡ Ok c.in_ok-value.value) c.loop-i.invariant.kept.ranking c.in_ok-value.ensures.value) in
    record {
      kept = kept_trans b c.loop-i.book c.test_multipliers.new.book c.loop-i.invariant.kept c.test_multipliers.ensures.kept;
      rest = ap (λ xs. test_all_multipliers g at ((i + 1) + 1) (drop (i + 1) es) >>= (λ vs. Ok (xs ++ vs))) c.in_ok-push.ensures.items ∙ multipliers_pass at g es i c.loop-i.separants.items c.loop-i.invariant.rest (omega (arith, l, c.loop-i-test.true)) c.in_ok-value.value one;
    }

pub returns-clause-values : goal.returns-clause-values
returns-clause-values c =
    let b = c.args.book.now in
    let g = symbols_under b.ranking in
    let l = polynomials_length b c.args.equations.now in
    multipliers_end (value_in g c.args.values.now) g (polynomials b c.args.equations.now) c.loop-i.i c.loop-i.separants.items c.loop-i.invariant.rest (omega (arith, l, c.loop-i-test.false))
