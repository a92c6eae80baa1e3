use Rattle.std.proofs.Common.{◌∙◌, ◌++◌, ap, subst, sym}
use Rattle.dz_algebra.specs.Size.{operation}
use Rattle.dz_terms.specs.Entries.{IsEntry}
use Rattle.dz_monomials.specs.Ranked.{symbols_under}
use Rattle.dz_monomials.specs.Signs.{with_sign}
use Rattle.dz_monomials.specs.Stops.{IsStop}
use Rattle.dz_monomials.specs.declared.sign.Sign.TheVariants.{Plus}
use Rattle.std.proofs.lemmas.Result.{err_from_is_err_and}
use Rattle.dz_poly.specs.Books.{polynomial, term_at}
use Rattle.dz_diff.specs.Operations.{setting_of}
use Rattle.dz_diff.specs.States.{polynomials}
use Rattle.dz_solution.proofs.Steps.{sum_stops, term_made}
use Rattle.dz_solution.proofs.evaluating.with_term.Goals as goal

pub returns-in_err-sum : goal.returns-in_err-sum
returns-in_err-sum c =
    let y = err_from_is_err_and c.from_residual-in_err-sum.result c.from_residual-in_err-sum.ensures.1 in
    rw (y.1, y.2)
    (sum_stops (setting_of c.args.book.now.ranking) (polynomials c.args.book.now c.args.functions.now) (term_at (polynomial c.args.book.now c.args.p) c.args.k) c.args.so_far.now.terms c.in_ok-coefficient.coefficient.terms c.coefficient_at.result c.in_ok-coefficient.ensures.terms c.coefficient_at.ensures.in_range c.coefficient_at.ensures.value c.in_ok-term.term.terms c.in_ok-term.ensures.ok _
    (subst (λ r. IsStop c.in_err-sum.field-0.0 (operation (symbols_under r) (c.args.so_far.now.terms ++ with_sign Plus c.in_ok-term.term.terms))) c.ranking.ensures c.in_err-sum.ensures))

pub returns : goal.returns
returns c =
    let r = c.args.book.now.ranking in
    let ok = term_made (setting_of r) (polynomials c.args.book.now c.args.functions.now) (term_at (polynomial c.args.book.now c.args.p) c.args.k) c.args.so_far.now.terms c.in_ok-coefficient.coefficient.terms c.coefficient_at.result c.in_ok-coefficient.ensures.terms c.coefficient_at.ensures.in_range c.coefficient_at.ensures.value c.in_ok-term.term.terms c.in_ok-term.ensures.ok c.in_ok-sum.sum.terms
    (ap (λ r. operation (symbols_under r) (c.args.so_far.now.terms ++ with_sign Plus c.in_ok-term.term.terms)) (sym c.ranking.ensures) ∙ c.in_ok-sum.ensures.ok) in
    record { ok = ok; entry = subst (λ r. IsEntry r c.in_ok-sum.sum) c.ranking.ensures c.in_ok-sum.ensures.entry }
