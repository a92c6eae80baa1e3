-- Rankings: blocks of dependents, each with a kind.
use Rattle.std.specs.Prelude.{◌≡◌, ◌≢◌, ⊤, IsTrue, ◌<◌, ◌≤◌, ℕ, zero, suc, ◌==◌, Bool, cond, List, [], ◌∷◌, length, take, slice_index_or, map, reverse, sum, All}
use Rattle.std.specs.List.{AllPairs, Contains, concat, list_any}
use Rattle.std.specs.declared.cmp.Ordering.{Ordering}
use Rattle.std.specs.declared.cmp.Ordering.TheVariants.{Less, Greater}
use Rattle.std.specs.Ordering.{nat_cmp, then_cmp, on, flip_args, ordering_then}
use Rattle.std.specs.Cmp.Lexicographic.{slice_cmp}
use Rattle.dz_rank.specs.declared.rankings.Kind.{Kind}
use Rattle.dz_rank.specs.declared.rankings.Kind.TheVariants.{GrlexA, GrlexB, DegrevA, DegrevB, LexA}
use Rattle.dz_rank.specs.declared.rankings.Block.{Block}
use Rattle.dz_rank.specs.declared.rankings.RankFault.{RankFault}
use Rattle.dz_rank.specs.declared.rankings.RankFault.TheVariants.{Memory, Twice, Missing}
use Rattle.dz_rank.specs.declared.rankings.Signature.{Signature}
use Rattle.dz_rank.specs.declared.symbols.Symbol.{Symbol}
use Rattle.dz_rank.specs.declared.symbols.Symbol.TheVariants.{Independent, Derivative}
use Rattle.dz_rank.specs.Symbols.{is_derivative, total_order, BelongsTo}

-- a block with the list of its dependents
pub record BlockValue : Type 0 where
  pub kind : Kind
  pub dependents : List ℕ

-- what a ranking means: a signature, and blocks from the greatest to the least
pub record RankingValue : Type 0 where
  pub signature : Signature
  pub blocks : List BlockValue

-- blocks with their lists of dependents
abbrev pub block_values : List Block → List BlockValue
block_values bs = map (λ b. record { kind = b.kind; dependents = b.dependents.items }) bs

-- the meaning of a signature and blocks
abbrev pub ranking_value : Signature → List Block → RankingValue
ranking_value g bs = record { signature = g; blocks = block_values bs }

-- the dependents in the order in which the blocks name them
abbrev pub dependents_of : List BlockValue → List ℕ
dependents_of bs = concat (map (λ b. b.dependents) bs)

-- no number stands twice
pub record IsRepeatFree (us : List ℕ) : Type 0 where
  pub apart : AllPairs (λ u v. u ≢ v) us

-- each number below n stands
pub record HasAllBelow (n : ℕ) (us : List ℕ) : Type 0 where
  pub each : (u : ℕ) → u < n → Contains us u

-- the blocks name each dependent of the signature once, and nothing else
pub record IsRanking (r : RankingValue) : Type 0 where
  pub few_independents : r.signature.independents ≤ 4
  pub few_dependents : r.signature.dependents ≤ 16
  pub only : All (λ u. u < r.signature.dependents) (dependents_of r.blocks)
  pub once : IsRepeatFree (dependents_of r.blocks)
  pub all : HasAllBelow r.signature.dependents (dependents_of r.blocks)

-- u is the first number that stands before already
pub record IsFirstRepeat (us : List ℕ) (u : ℕ) : Type 0 where
  pub at : ℕ
  pub inside : at < length us
  pub is : slice_index_or us at 0 ≡ u
  pub once : IsRepeatFree (take at us)
  pub stands : Contains (take at us) u

-- u is the least number below n that is missing
pub record IsLeastMissing (n : ℕ) (us : List ℕ) (u : ℕ) : Type 0 where
  pub below : u < n
  pub missing : Contains us u → ⊥
  pub smaller : HasAllBelow u us

-- why a signature and blocks are no ranking; a missing dependent is told where none stands twice
abbrev pub IsFaultOf : RankingValue → RankFault → Type 0
IsFaultOf r Memory = ⊤
IsFaultOf r (Twice u) = IsFirstRepeat (dependents_of r.blocks) u
IsFaultOf r (Missing u) = IsRepeatFree (dependents_of r.blocks) × IsLeastMissing r.signature.dependents (dependents_of r.blocks) u

-- where u stands in a list; past its end, at a number of u's own, where it does not
abbrev pub place_of : ℕ → List ℕ → ℕ
place_of u [] = u
place_of u (v ∷ vs) = cond (v == u) 0 (suc (place_of u vs))

abbrev pub stands_in : ℕ → List ℕ → Bool
stands_in u us = list_any (λ v. v == u) us

-- the number of the block of u; past the last block where it stands in none
abbrev pub block_number : List BlockValue → ℕ → ℕ
block_number [] u = 0
block_number (b ∷ bs) u = cond (stands_in u b.dependents) 0 (suc (block_number bs u))

-- the block with a number; past the last one an empty block
abbrev pub block_at : List BlockValue → ℕ → BlockValue
block_at [] n = record { kind = LexA; dependents = [] }
block_at (b ∷ bs) zero = b
block_at (b ∷ bs) (suc n) = block_at bs n

-- derivatives, as a dependent and exponents, by their total order: the larger is greater
abbrev pub by_order : ℕ × List ℕ → ℕ × List ℕ → Ordering
by_order = on (λ d. sum d.1) nat_cmp

-- at the first exponent that differs the larger is greater
abbrev pub by_lex : ℕ × List ℕ → ℕ × List ℕ → Ordering
by_lex = on (λ d. d.1) (slice_cmp nat_cmp)

-- at the last exponent that differs the smaller is greater
abbrev pub by_reverse_lex : ℕ × List ℕ → ℕ × List ℕ → Ordering
by_reverse_lex = flip_args (on (λ d. reverse d.1) (slice_cmp nat_cmp))

-- the dependent that stands earlier in the block is greater
abbrev pub by_place : List ℕ → ℕ × List ℕ → ℕ × List ℕ → Ordering
by_place us = flip_args (on (λ d. place_of d.0 us) nat_cmp)

-- two derivatives of a block, by the keys of its kind in turn
abbrev pub by_kind : Kind → List ℕ → ℕ × List ℕ → ℕ × List ℕ → Ordering
by_kind GrlexA us = then_cmp by_order (then_cmp by_lex (by_place us))
by_kind GrlexB us = then_cmp by_order (then_cmp (by_place us) by_lex)
by_kind DegrevA us = then_cmp by_order (then_cmp by_reverse_lex (by_place us))
by_kind DegrevB us = then_cmp by_order (then_cmp (by_place us) by_reverse_lex)
by_kind LexA us = then_cmp by_lex (by_place us)

abbrev pub by_block : BlockValue → ℕ × List ℕ → ℕ × List ℕ → Ordering
by_block b = by_kind b.kind b.dependents

-- the derivative of an earlier block is greater; within a block its kind decides
abbrev pub derivative_cmp : List BlockValue → ℕ × List ℕ → ℕ × List ℕ → Ordering
derivative_cmp bs d e = ordering_then (nat_cmp (block_number bs e.0) (block_number bs d.0)) (by_block (block_at bs (block_number bs d.0)) d e)

-- every derivative is greater than every independent, and an earlier independent is greater
abbrev pub symbol_cmp : List BlockValue → Symbol → Symbol → Ordering
symbol_cmp bs (Independent i) (Independent j) = nat_cmp j i
symbol_cmp bs (Independent i) (Derivative v t) = Less
symbol_cmp bs (Derivative u s) (Independent j) = Greater
symbol_cmp bs (Derivative u s) (Derivative v t) = derivative_cmp bs (u, s.counts) (v, t.counts)

-- the order of symbols under a ranking
unfoldable pub ranking_cmp : RankingValue → Symbol → Symbol → Ordering
ranking_cmp r = symbol_cmp r.blocks

-- a greater total order always makes a greater derivative
pub record IsOrderly (r : RankingValue) : Type 0 where
  pub greater : (a b : Symbol) → IsTrue (is_derivative a) → IsTrue (is_derivative b) → BelongsTo r.signature a → BelongsTo r.signature b → total_order a < total_order b → ranking_cmp r a b ≡ Less
