use Rattle.std.proofs.Common.{◌≡◌, drop}
use Rattle.dz_rank.specs.Rankings.{ranking_cmp}
use Rattle.dz_monomials.specs.PowerDivision.{divisor_power, least_exponent}
use Rattle.dz_terms.proofs.power_quotients.divisor_power.Given as goal

abbrev pub invariant-loop-term : goal.invariant-loop-term
invariant-loop-term l = divisor_power (ranking_cmp l.ranking) l.v l.entry.terms ≡ least_exponent (ranking_cmp l.ranking) l.v l.least (drop l.term-index l.term-items)
