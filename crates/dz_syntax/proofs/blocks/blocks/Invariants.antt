use Rattle.std.proofs.Common.{◌≡◌, ◌<◌, ◌+◌, ℕ, length}
use Rattle.dz_rank.specs.Rankings.{block_values}
use Rattle.dz_syntax.specs.Blocks.{blocks}
use Rattle.dz_syntax.proofs.blocks.blocks.Given as goal

-- some count that suffices for the rest gives the same
abbrev pub invariant-kinds : goal.invariant-kinds
invariant-kinds l =
    (n : ℕ) × (length l.rest < n)
    × (blocks n l.names (block_values l.into.items) l.rest ≡ blocks (length l.fn.text + 1) l.fn.names (block_values l.fn.into.items) l.fn.text)

abbrev pub decreases-kinds : goal.decreases-kinds
decreases-kinds l = length l.rest
