use Rattle.std.proofs.Common.{◌≡◌, drop}
use Rattle.dz_algebra.specs.Monomial.{IsMonomial, exponent}
use Rattle.dz_rank.specs.Rankings.{ranking_cmp}
use Rattle.dz_monomials.proofs.rows.place_in.Given as goal

abbrev pub invariant-loop-i : goal.invariant-loop-i
invariant-loop-i l = record {
  falls : IsMonomial (ranking_cmp l.ranking) (drop l.i l.powers);
  rest : exponent (ranking_cmp l.ranking) l.symbol (drop l.i l.powers) ≡ exponent (ranking_cmp l.ranking) l.symbol l.powers;
}
