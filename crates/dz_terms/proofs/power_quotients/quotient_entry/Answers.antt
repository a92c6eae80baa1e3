use Rattle.std.proofs.Common.{◌∙◌, ap}
use Rattle.dz_rank.specs.Rankings.{ranking_cmp}
use Rattle.dz_monomials.specs.Degrees.{degrees}
use Rattle.dz_monomials.specs.PowerDivision.{divided_by}
use Rattle.dz_monomials.proofs.QuotientsByPowers.{quotient_terms, quotient_is_entry}
use Rattle.dz_terms.proofs.power_quotients.quotient_entry.Goals as goal

pub returns-clause-terms : goal.returns-clause-terms
returns-clause-terms c =
    quotient_terms c.args.ranking.now c.args.v c.args.k c.args.entry.now.terms c.in_ok-terms.terms.items c.args.entry.now.degrees c.requires.entry c.requires.divides
    (c.in_ok-terms.ensures ∙ ap (divided_by (ranking_cmp c.args.ranking.now) c.args.v c.args.k) c.terms.ensures)

pub returns-clause-entry : goal.returns-clause-entry
returns-clause-entry c =
    quotient_is_entry c.args.ranking.now c.args.v c.args.k c.args.entry.now.terms c.in_ok-terms.terms.items c.args.entry.now.degrees c.in_ok-degrees.degrees.items c.requires.entry c.requires.divides
    (c.in_ok-terms.ensures ∙ ap (divided_by (ranking_cmp c.args.ranking.now) c.args.v c.args.k) c.terms.ensures)
    (c.in_ok-degrees.ensures ∙ ap (degrees (ranking_cmp c.args.ranking.now)) c.as_slice.ensures.value)
