-- Where a dependent stands under a ranking, and the table of it. No public clause cites this file.
use Rattle.std.specs.Prelude.{◌≡◌, ◌<◌, ℕ, List, length, reverse, sum, slice_index_or}
use Rattle.std.specs.declared.cmp.Ordering.{Ordering}
use Rattle.std.specs.Ordering.{nat_cmp, ordering_then}
use Rattle.std.specs.Cmp.Lexicographic.{slice_cmp}
use Rattle.dz_rank.specs.declared.rankings.Kind.{Kind}
use Rattle.dz_rank.specs.declared.rankings.Kind.TheVariants.{GrlexA, GrlexB, DegrevA, DegrevB, LexA}
use Rattle.dz_rank.specs.declared.rankings.Standing.{Standing}
use Rattle.dz_rank.specs.Rankings.{BlockValue, RankingValue, IsRanking, block_number, block_at, place_of}

-- where u stands in the n-th block
abbrev pub standing_at : List BlockValue → ℕ → ℕ → Standing
standing_at bs n u = record { block = n; kind = (block_at bs n).kind; place = place_of u (block_at bs n).dependents }

-- where u stands in blocks
abbrev pub standing_of : List BlockValue → ℕ → Standing
standing_of bs u = standing_at bs (block_number bs u) u

-- what a table says; a dependent past its end stands in none of the n blocks
abbrev pub standing_in : List Standing → ℕ → ℕ → Standing
standing_in table n u = slice_index_or table u (record { block = n; kind = LexA; place = u })

-- a ranking, and where each dependent stands
pub record IsTabled (r : RankingValue) (table : List Standing) : Type 0 where
  pub ranking : IsRanking r
  pub standings : (u : ℕ) → standing_in table (length r.blocks) u ≡ standing_of r.blocks u

-- the dependents below n stand in the block of the first
pub record HaveOneBlock (n : ℕ) (bs : List BlockValue) : Type 0 where
  pub each : (u : ℕ) → u < n → block_number bs u ≡ block_number bs 0

-- the keys of a kind in turn, where the order of the places is known
abbrev pub by_keys : Kind → List ℕ → List ℕ → Ordering → Ordering
by_keys GrlexA s t o = ordering_then (nat_cmp (sum s) (sum t)) (ordering_then (slice_cmp nat_cmp s t) o)
by_keys GrlexB s t o = ordering_then (nat_cmp (sum s) (sum t)) (ordering_then o (slice_cmp nat_cmp s t))
by_keys DegrevA s t o = ordering_then (nat_cmp (sum s) (sum t)) (ordering_then (slice_cmp nat_cmp (reverse t) (reverse s)) o)
by_keys DegrevB s t o = ordering_then (nat_cmp (sum s) (sum t)) (ordering_then o (slice_cmp nat_cmp (reverse t) (reverse s)))
by_keys LexA s t o = ordering_then (slice_cmp nat_cmp s t) o
