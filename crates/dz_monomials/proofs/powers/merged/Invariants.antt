use Rattle.std.proofs.Common.{◌≡◌, ◌++◌, ◌+◌, ◌||◌, length}
use Rattle.dz_algebra.specs.Gather.{merge}
use Rattle.dz_rank.specs.Rankings.{ranking_cmp}
use Rattle.dz_monomials.specs.Degrees.{has_high_exponent}
use Rattle.dz_monomials.specs.Joinings.{joined_by}
use Rattle.dz_monomials.proofs.powers.merged.Given as goal

abbrev pub invariant-powers : goal.invariant-powers
invariant-powers l = record {
  powers : l.all.items ++ merge (ranking_cmp l.ranking) (joined_by l.joining) l.n l.m ≡ merge (ranking_cmp l.ranking) (joined_by l.joining) l.initial.n l.initial.m;
  high : (has_high_exponent l.all.items || (has_high_exponent l.m || has_high_exponent l.n)) ≡ (has_high_exponent l.initial.m || has_high_exponent l.initial.n);
}

abbrev pub decreases-powers : goal.decreases-powers
decreases-powers l = length l.n + length l.m
