use Rattle.std.proofs.Common.{◌∙◌, sym, subst}
use Rattle.std.proofs.lemmas.Result.{err_from_is_err_and}
use Rattle.dz_monomials.specs.Stops.{IsStop}
use Rattle.dz_monomials.proofs.InPlaceAnswers.{found_entry, missing_entry, sum_found, sum_missing}
use Rattle.dz_monomials.proofs.Changes.{at_inside}
use Rattle.dz_terms.proofs.Answered.{answered}
use Rattle.dz_terms.proofs.in_place.sum_in_place.Goals as goal

pub add_at-requires-clause-inside : goal.add_at-requires-clause-inside
add_at-requires-clause-inside c = at_inside _ c.in-Ok.place c.args.sum.terms (rw c.terms.ensures at c.in-Ok.ensures.found)

pub returns-in_err-all-in-Ok : goal.returns-in_err-all-in-Ok
returns-in_err-all-in-Ok c =
    let y = err_from_is_err_and c.from_residual.result c.from_residual.ensures.1 in
    rw (y.1, y.2) (subst (IsStop _) (sym (sum_found c.args.ranking.now c.args.sum.terms c.args.sum.degrees c.args.sign c.args.one.terms c.args.one.degrees c.only_term-term.result c.requires.first c.requires.second c.only_term-term.ensures c.in-Ok.place (rw (c.terms.ensures, c.powers.ensures) at c.in-Ok.ensures.found))) c.in_err-all-in-Ok.ensures.refused)

pub returns-in_err-all-in-Err : goal.returns-in_err-all-in-Err
returns-in_err-all-in-Err c =
    let y = err_from_is_err_and c.from_residual-in_err-all-in-Err.result c.from_residual-in_err-all-in-Err.ensures.1 in
    rw (y.1, y.2) (subst (IsStop _) (sym (sum_missing c.args.ranking.now c.args.sum.terms c.args.sum.degrees c.args.sign c.args.one.terms c.args.one.degrees c.only_term-term.result c.requires.first c.requires.second c.only_term-term.ensures c.in-Err.place (rw c.terms.ensures at c.in-Err.ensures.in_reach) (rw (c.terms.ensures, c.powers.ensures) at c.in-Err.ensures.below) (rw (c.terms.ensures, c.powers.ensures) at c.in-Err.ensures.above))) c.in_err-all-in-Err.ensures.refused)

pub returns-in_ok-all-in-Ok : goal.returns-in_ok-all-in-Ok
returns-in_ok-all-in-Ok c =
    answered _ _ _
    (sum_found c.args.ranking.now c.args.sum.terms c.args.sum.degrees c.args.sign c.args.one.terms c.args.one.degrees c.only_term-term.result c.requires.first c.requires.second c.only_term-term.ensures c.in-Ok.place (rw (c.terms.ensures, c.powers.ensures) at c.in-Ok.ensures.found) ∙ c.in_ok-all-in-Ok.ensures.ok)
    (found_entry c.args.ranking.now c.args.sum.terms c.args.sum.degrees c.args.sign c.args.one.terms c.args.one.degrees c.only_term-term.result c.requires.first c.requires.second c.only_term-term.ensures c.in-Ok.place (rw (c.terms.ensures, c.powers.ensures) at c.in-Ok.ensures.found) _ _ c.in_ok-all-in-Ok.ensures.ok c.in_ok-all-in-Ok.ensures.degrees)

pub returns-in_ok-all-in-Err : goal.returns-in_ok-all-in-Err
returns-in_ok-all-in-Err c =
    answered _ _ _
    (sum_missing c.args.ranking.now c.args.sum.terms c.args.sum.degrees c.args.sign c.args.one.terms c.args.one.degrees c.only_term-term.result c.requires.first c.requires.second c.only_term-term.ensures c.in-Err.place (rw c.terms.ensures at c.in-Err.ensures.in_reach) (rw (c.terms.ensures, c.powers.ensures) at c.in-Err.ensures.below) (rw (c.terms.ensures, c.powers.ensures) at c.in-Err.ensures.above) ∙ c.in_ok-all-in-Err.ensures.ok)
    (missing_entry c.args.ranking.now c.args.sum.terms c.args.sum.degrees c.args.sign c.args.one.terms c.args.one.degrees c.only_term-term.result c.requires.first c.requires.second c.only_term-term.ensures c.in-Err.place (rw c.terms.ensures at c.in-Err.ensures.in_reach) (rw (c.terms.ensures, c.powers.ensures) at c.in-Err.ensures.below) (rw (c.terms.ensures, c.powers.ensures) at c.in-Err.ensures.above) _ _ c.in_ok-all-in-Err.ensures.ok c.in_ok-all-in-Err.ensures.degrees)
