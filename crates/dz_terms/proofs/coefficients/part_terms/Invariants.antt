use Rattle.std.proofs.Common.{◌≡◌, take}
use Rattle.dz_algebra.specs.Parts.{coefficient_of}
use Rattle.dz_rank.specs.Rankings.{ranking_cmp}
use Rattle.dz_monomials.specs.Terms.{times_power}
use Rattle.dz_terms.proofs.coefficients.part_terms.Given as goal

abbrev pub invariant-loop-term : goal.invariant-loop-term
invariant-loop-term l = l.all.items ≡ times_power (ranking_cmp l.ranking) l.symbol l.left (coefficient_of (ranking_cmp l.ranking) l.symbol l.exponent (take l.term-index l.terms))
