-- The table of where dependents stand.
use Rattle.std.proofs.Common.{◌≡◌, ◌<◌, ◌≤◌, ◌+◌, ◌==◌, ◌||◌, ◌∙◌, ℕ, suc, Bool, true, false, cond, List, [], ◌∷◌, ◌++◌, length, map, slice_index_or, nat_lt, refl, sym, ap, subst, arith, All}
use Rattle.std.specs.List.{range_with_len}
use Rattle.std.proofs.lemmas.List.Folds.{list_any-append, list_any_none}
use Rattle.std.proofs.Math.ListN.{get_or-eq_default}
use Rattle.std.proofs.lemmas.List.FromFn.{map-range_with_len_more, get_or-map-range_with_len, length-map-range_with_len}
use Rattle.dz_rank.specs.declared.rankings.Block.{Block}
use Rattle.dz_rank.specs.declared.rankings.Signature.{Signature}
use Rattle.dz_rank.specs.declared.rankings.Kind.TheVariants.{LexA}
use Rattle.dz_rank.specs.declared.rankings.Standing.{Standing}
use Rattle.dz_rank.specs.Rankings.{BlockValue, RankingValue, block_values, ranking_value, IsRanking, IsRepeatFree, HasAllBelow, dependents_of, stands_in, block_number}
use Rattle.dz_rank.specs.Standings.{standing_at, standing_of, standing_in, IsTabled}

pub one_standing_more : (bs : List BlockValue) (u : ℕ) → map (standing_of bs) (range_with_len 0 (u + 1)) ≡ map (standing_of bs) (range_with_len 0 u) ++ standing_of bs u ∷ []
one_standing_more bs u = map-range_with_len_more (standing_of bs) 0 u u (omega arith)

-- a dependent that no block names stands past the last block
unnamed : (bs : List BlockValue) (u : ℕ) → stands_in u (dependents_of bs) ≡ false → standing_of bs u ≡ record { block = length bs; kind = LexA; place = u }
unnamed [] u e = refl
unnamed (b ∷ bs) u e =
    let parts : (stands_in u b.dependents || stands_in u (dependents_of bs)) ≡ false = sym (list_any-append (λ v. v == u) b.dependents (dependents_of bs)) ∙ e in
    let neither = both_false (stands_in u b.dependents) (stands_in u (dependents_of bs)) parts in
    later (stands_in u b.dependents) neither.0 ∙ ap (λ (s : Standing). record { block = suc s.block; kind = s.kind; place = s.place }) (unnamed bs u neither.1)
  where
    both_false : (x y : Bool) → (x || y) ≡ false → (x ≡ false) × (y ≡ false)
    both_false true y e = cc
    both_false false y e = (refl, e)

    later : (x : Bool) → x ≡ false → standing_at (b ∷ bs) (cond x 0 (suc (block_number bs u))) u ≡ standing_at (b ∷ bs) (suc (block_number bs u)) u
    later true e = cc
    later false e = refl

past : (us : List ℕ) (n u : ℕ) → All (λ v. v < n) us → n ≤ u → stands_in u us ≡ false
past us n u p h = list_any_none (λ v. v == u) us (λ k d g. differs (slice_index_or us k d) (p k d g))
  where
    differs : (v : ℕ) → v < n → (v == u) ≡ false
    differs v g = grind arith

pub tabled : (r : RankingValue) (table : List Standing) → IsRanking r → table ≡ map (standing_of r.blocks) (range_with_len 0 r.signature.dependents) → IsTabled r table
tabled r table i e = record { ranking = i; standings = λ u. by_test u (nat_lt u r.signature.dependents) refl }
  where
    default : ℕ → Standing
    default u = record { block = length r.blocks; kind = LexA; place = u }

    count : ℕ
    count = r.signature.dependents

    full : length table ≡ count
    full = ap length e ∙ length-map-range_with_len (standing_of r.blocks) 0 count

    by_test : (u : ℕ) (b : Bool) → nat_lt u count ≡ b → standing_in table (length r.blocks) u ≡ standing_of r.blocks u
    by_test u true h = ap (λ (t : List Standing). slice_index_or t u (default u)) e ∙ get_or-map-range_with_len (standing_of r.blocks) 0 count u u (default u) (grind arith) (omega arith)
    by_test u false h = get_or-eq_default table (default u) (grind (arith, full)) ∙ sym (unnamed r.blocks u (past (dependents_of r.blocks) count u i.only (grind arith)))

pub tabled_copy : (g : Signature) (bs copy : List Block) (table : List Standing) → IsRanking (ranking_value g bs) → block_values copy ≡ block_values bs → table ≡ map (standing_of (block_values bs)) (range_with_len 0 g.dependents) → IsTabled (ranking_value g copy) table
tabled_copy g bs copy table i e f = subst (λ vs. IsTabled (record { signature = g; blocks = vs }) table) (sym e) (tabled (ranking_value g bs) table i f)

pub is_ranking : (g : Signature) (bs : List Block) (named : List ℕ) → g.independents ≤ 4 → g.dependents ≤ 16 → All (λ u. u < g.dependents) (dependents_of (block_values bs)) → named ≡ dependents_of (block_values bs) → IsRepeatFree named → HasAllBelow g.dependents named → IsRanking (ranking_value g bs)
is_ranking g bs named p q only e once all = record { few_independents = p; few_dependents = q; only = only; once = subst IsRepeatFree e once; all = subst (HasAllBelow g.dependents) e all }
