use Rattle.std.proofs.Common.{◌≡◌, length}
use Rattle.dz_algebra.specs.Monomial.{IsMonomial, exponent}
use Rattle.dz_rank.specs.Rankings.{ranking_cmp}
use Rattle.dz_monomials.proofs.powers.exponent_of.Given as goal

abbrev pub invariant-loop-rest : goal.invariant-loop-rest
invariant-loop-rest l = record {
  falls : IsMonomial (ranking_cmp l.ranking) l.rest;
  rest : exponent (ranking_cmp l.ranking) l.symbol l.rest ≡ exponent (ranking_cmp l.ranking) l.symbol l.powers;
}

abbrev pub decreases-loop-rest : goal.decreases-loop-rest
decreases-loop-rest l = length l.rest
