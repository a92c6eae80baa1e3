use Rattle.std.proofs.Common.{◌∙◌, ap}
use Rattle.dz_algebra.specs.Parts.{coefficient_of}
use Rattle.dz_rank.specs.Rankings.{ranking_cmp}
use Rattle.dz_monomials.specs.Degrees.{degrees}
use Rattle.dz_monomials.specs.Terms.{times_power}
use Rattle.dz_monomials.proofs.PowerCoefficients.{part_is_entry}
use Rattle.dz_terms.proofs.coefficients.part_entry.Goals as goal

pub returns-clause-entry : goal.returns-clause-entry
returns-clause-entry c =
    part_is_entry c.args.ranking.now c.args.entry.now.terms c.args.entry.now.degrees c.args.symbol c.args.exponent c.args.left c.in_ok-terms.terms.items c.in_ok-degrees.degrees.items c.requires.entry c.requires.less
    (c.in_ok-terms.ensures ∙ ap (λ p. times_power (ranking_cmp c.args.ranking.now) c.args.symbol c.args.left (coefficient_of (ranking_cmp c.args.ranking.now) c.args.symbol c.args.exponent p)) c.terms.ensures)
    (c.in_ok-degrees.ensures ∙ ap (degrees (ranking_cmp c.args.ranking.now)) c.as_slice.ensures.value)
