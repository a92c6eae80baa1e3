-- The order of two symbols, from where their dependents stand.
use Rattle.std.proofs.Common.{◌≡◌, ◌∙◌, ℕ, List, refl, sym, ap}
use Rattle.std.specs.declared.cmp.Ordering.{Ordering}
use Rattle.std.specs.declared.cmp.Ordering.TheVariants.{Less, Equal, Greater}
use Rattle.std.specs.FinMap.{nat_cmp-IsAntisymmetric}
use Rattle.std.specs.Ordering.{nat_cmp, ordering_then}
use Rattle.dz_rank.specs.declared.rankings.Kind.{Kind}
use Rattle.dz_rank.specs.declared.rankings.Kind.TheVariants.{GrlexA, GrlexB, DegrevA, DegrevB, LexA}
use Rattle.dz_rank.specs.declared.symbols.Operator.{Operator}
use Rattle.dz_rank.specs.declared.symbols.Symbol.TheVariants.{Independent, Derivative}
use Rattle.dz_rank.specs.Rankings.{RankingValue, ranking_cmp, block_number, block_at, by_block, by_kind, place_of}
use Rattle.dz_rank.specs.Standings.{by_keys, standing_of}

keys_are : (k : Kind) (us : List ℕ) (u v : ℕ) (s t : List ℕ) → by_keys k s t (nat_cmp (place_of v us) (place_of u us)) ≡ by_kind k us (u, s) (v, t)
keys_are GrlexA us u v s t = refl
keys_are GrlexB us u v s t = refl
keys_are DegrevA us u v s t = refl
keys_are DegrevB us u v s t = refl
keys_are LexA us u v s t = refl

pub independents : (r : RankingValue) (i j : ℕ) → nat_cmp j i ≡ ranking_cmp r (Independent i) (Independent j)
unfolding ranking_cmp
independents r i j = refl

pub independent_first : (r : RankingValue) (i v : ℕ) (t : Operator) → Less ≡ ranking_cmp r (Independent i) (Derivative v t)
unfolding ranking_cmp
independent_first r i v t = refl

pub derivative_first : (r : RankingValue) (u j : ℕ) (s : Operator) → Greater ≡ ranking_cmp r (Derivative u s) (Independent j)
unfolding ranking_cmp
derivative_first r u j s = refl

-- one block
pub same_block : (r : RankingValue) (u v : ℕ) (s t : Operator) → nat_cmp (block_number r.blocks v) (block_number r.blocks u) ≡ Equal → by_keys (standing_of r.blocks u).kind s.counts t.counts (nat_cmp (standing_of r.blocks v).place (standing_of r.blocks u).place) ≡ ranking_cmp r (Derivative u s) (Derivative v t)
unfolding ranking_cmp
same_block r u v s t h =
    let b = block_at r.blocks (block_number r.blocks u) in
    ap (λ n. by_keys b.kind s.counts t.counts (nat_cmp (place_of v (block_at r.blocks n).dependents) (place_of u b.dependents))) (nat_cmp-IsAntisymmetric (block_number r.blocks v) (block_number r.blocks u) h)
    ∙ keys_are b.kind b.dependents u v s.counts t.counts
    ∙ sym (ap (λ o. ordering_then o (by_block b (u, s.counts) (v, t.counts))) h)

decided : (o u : Ordering) → (o ≡ Equal → ⊥) → o ≡ ordering_then o u
decided Less u h = refl
decided Equal u h = absurd (h refl)
decided Greater u h = refl

pub other_block : (r : RankingValue) (u v : ℕ) (s t : Operator) → (nat_cmp (block_number r.blocks v) (block_number r.blocks u) ≡ Equal → ⊥) → nat_cmp (block_number r.blocks v) (block_number r.blocks u) ≡ ranking_cmp r (Derivative u s) (Derivative v t)
unfolding ranking_cmp
other_block r u v s t h = decided _ _ h
