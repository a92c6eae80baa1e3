-- A test of rankings.
use Rattle.std.specs.Prelude.{◌==◌, Bool, true, false, not, ◌&&◌, ◌||◌}
use Rattle.std.specs.List.{list_all, range_with_len}
use Rattle.dz_rank.specs.declared.rankings.Kind.{Kind}
use Rattle.dz_rank.specs.declared.rankings.Kind.TheVariants.{LexA}
use Rattle.dz_rank.specs.Rankings.{RankingValue, block_at, block_number}

-- a kind whose derivatives are not compared by their total order first
abbrev pub is_lexicographic : Kind → Bool
is_lexicographic LexA = true
is_lexicographic kind = false

-- all dependents stand in one block
abbrev pub has_one_block : RankingValue → Bool
has_one_block r = list_all (λ u. block_number r.blocks u == block_number r.blocks 0) (range_with_len 0 r.signature.dependents)

-- whether a ranking is orderly: without derivatives or derivations every one is, and else one of a single block that
-- compares total orders first, as a single exponent does too
unfoldable pub is_orderly : RankingValue → Bool
is_orderly r =
    (r.signature.independents == 0) || (r.signature.dependents == 0)
    || (has_one_block r && ((r.signature.independents == 1) || not (is_lexicographic (block_at r.blocks (block_number r.blocks 0)).kind)))
