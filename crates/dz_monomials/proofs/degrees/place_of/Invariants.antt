use Rattle.std.proofs.Common.{◌≡◌, ◌≤◌, ◌-◌, ◌++◌, ℕ, length, take, drop, max}
use Rattle.dz_algebra.specs.Gather.{put}
use Rattle.dz_rank.specs.Rankings.{ranking_cmp}
use Rattle.dz_monomials.proofs.degrees.place_of.Given as goal

abbrev pub invariant-loop-place : goal.invariant-loop-place
invariant-loop-place l = record {
  in_table : l.place ≤ length l.table;
  passed : (e : ℕ) → put (ranking_cmp l.ranking) max l.symbol e l.table ≡ take l.place l.table ++ put (ranking_cmp l.ranking) max l.symbol e (drop l.place l.table);
}

abbrev pub decreases-loop-place : goal.decreases-loop-place
decreases-loop-place l = length l.table - l.place
