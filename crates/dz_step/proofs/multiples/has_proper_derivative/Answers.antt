use Rattle.std.proofs.Common.{ap, sym, subst}
use Rattle.std.specs.List.{list_any}
use Rattle.dz_rank.specs.declared.symbols.Symbol.TheVariants.{Independent}
use Rattle.dz_monomials.specs.Keeping.{IsTabled}
use Rattle.dz_diff.specs.Operators.{quotient}
use Rattle.dz_step.specs.Multiples.{is_proper_one}
use Rattle.dz_step.proofs.Searches.{derivatives_stand, four_here}
use Rattle.dz_step.proofs.multiples.has_proper_derivative.Goals as goal

pub powers-init : goal.powers-init
powers-init c =
    let r = c.args.ranking.now in
    let f = c.args.f.now.terms in
    ap (list_any (λ v. is_proper_one (quotient v c.args.lead))) (sym (derivatives_stand r f c.symbol_degrees-table.result.now (subst (IsTabled r f) (sym c.symbol_degrees-table.ensures) c.requires.f)))

pub is_above-requires-clause-derivative : goal.is_above-requires-clause-derivative
is_above-requires-clause-derivative c =
    let r = c.args.ranking.now in
    let f = c.args.f.now.terms in
    four_here r f c.symbol_degrees-table.result.now (subst (IsTabled r f) (sym c.symbol_degrees-table.ensures) c.requires.f) c.powers.k (Independent 0, 0) c.powers-test.true
