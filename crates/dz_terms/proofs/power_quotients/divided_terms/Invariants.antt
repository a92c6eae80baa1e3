use Rattle.std.proofs.Common.{◌≡◌, take}
use Rattle.dz_rank.specs.Rankings.{ranking_cmp}
use Rattle.dz_monomials.specs.PowerDivision.{divided_by}
use Rattle.dz_terms.proofs.power_quotients.divided_terms.Given as goal

abbrev pub invariant-loop-term : goal.invariant-loop-term
invariant-loop-term l = l.all.items ≡ divided_by (ranking_cmp l.ranking) l.v l.k (take l.term-index l.terms)
