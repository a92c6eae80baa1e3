use Rattle.std.proofs.Common.{◌≤◌, ◌-◌, length, take, drop}
use Rattle.dz_algebra.specs.Monomial.{monomial_cmp}
use Rattle.dz_algebra.specs.Order.{IsAbove}
use Rattle.dz_rank.specs.Rankings.{ranking_cmp}
use Rattle.dz_monomials.specs.InPlace.{IsBelow}
use Rattle.dz_monomials.proofs.finding.place_of.Given as goal

-- the terms before `low` are greater, and those from `high` on are less
abbrev pub invariant-loop-low : goal.invariant-loop-low
invariant-loop-low l = record {
  ordered : l.low ≤ l.high;
  in_reach : l.high ≤ length l.terms;
  below : IsBelow (monomial_cmp (ranking_cmp l.ranking)) l.powers (take l.low l.terms);
  above : IsAbove (monomial_cmp (ranking_cmp l.ranking)) l.powers (drop l.high l.terms);
}

abbrev pub decreases-loop-low : goal.decreases-loop-low
decreases-loop-low l = l.high - l.low
