use Rattle.std.proofs.Common.{◌∙◌, ap}
use Rattle.dz_poly.specs.Books.{polynomial, term_at}
use Rattle.dz_monomials.specs.Ranked.{symbols_under}
use Rattle.dz_jet.specs.Fractions.{whole}
use Rattle.dz_jet.specs.Jets.{term_value, value_in}
use Rattle.dz_jet.proofs.FoldSteps.{read_whole, term_added, term_passed}
use Rattle.dz_jet.proofs.folds.add_term.Goals as goal

pub returns-in_err-term : goal.returns-in_err-term
returns-in_err-term c =
    let at = value_in (symbols_under c.args.book.now.ranking) c.args.values.now in
    let t = term_at (polynomial c.args.book.now c.args.p) c.args.k in
    let is = c.multiply_by_powers.ensures ∙ ap (term_value at t.0) (read_whole c.new-coefficient.result c.coefficient_at.result c.new-coefficient.ensures.fraction c.coefficient_at.ensures.in_range c.new-coefficient.ensures.value ∙ ap whole c.coefficient_at.ensures.value) in
    c.from_residual.ensures ∙ term_passed at t c.args.sum c.multiply_by_powers.result is c.in_err-term.was

pub returns : goal.returns
returns c =
    let at = value_in (symbols_under c.args.book.now.ranking) c.args.values.now in
    let t = term_at (polynomial c.args.book.now c.args.p) c.args.k in
    let is = c.multiply_by_powers.ensures ∙ ap (term_value at t.0) (read_whole c.new-coefficient.result c.coefficient_at.result c.new-coefficient.ensures.fraction c.coefficient_at.ensures.in_range c.new-coefficient.ensures.value ∙ ap whole c.coefficient_at.ensures.value) in
    term_added at t c.args.sum c.in_ok-term.term c.multiply_by_powers.result c.add.result is c.in_ok-term.was c.numerator.ensures.fraction.reduced c.numerator-2.ensures.fraction.reduced c.add.ensures
