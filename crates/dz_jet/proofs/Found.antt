-- What a search finds in a list of values, and what a list with one value for each symbol gives.
use Rattle.std.proofs.Common.{◌≡◌, ◌⊎◌, inl, inr, ◌<◌, ◌≤◌, ◌∙◌, ℕ, zero, suc, Bool, true, false, cond, [], ◌∷◌, length, slice_index_or, Option, Some, None, refl, sym, ap, arith}
use Rattle.std.specs.List.{Contains, HoldsAt}
use Rattle.std.specs.List.Sorted.{IsNonDecreasingBy, IsPartitionPoint, IsPermutation}
use Rattle.std.specs.Ordering.{ordering_index}
use Rattle.std.specs.declared.cmp.Ordering.TheVariants.{Less, Equal, Greater}
use Rattle.std.proofs.lemmas.Cmp.{tied_itself}
use Rattle.std.proofs.lemmas.List.Sorted.{Contains-permutation, IsPermutation-sym, searchable_from_sorted}
use Rattle.dz_int.specs.Fractions.{Fraction}
use Rattle.dz_rank.specs.Rankings.{RankingValue, ranking_cmp}
use Rattle.dz_rank.specs.declared.symbols.Symbol.{Symbol}
use Rattle.dz_monomials.specs.Ranked.{symbols_under}
use Rattle.dz_monomials.proofs.SymbolLaws.{ranking_order}
use Rattle.dz_diff.specs.Tests.{same_symbol}
use Rattle.dz_jet.specs.Jets.{Values, given_to}
use Rattle.dz_jet.specs.Tables.{AreSorted, HaveOneValue}
use Rattle.dz_jet.proofs.FoldSteps.{any_default}
use Rattle.dz_jet.proofs.JetLists.{itself_same, same_is}

-- no element stands in an empty list
nothing_contained : {A : Type 0} (x : A) → Contains [] x → ⊥
nothing_contained x h = let l = h.1 in absurd (omega arith)

module _ (r : RankingValue) where
  pub less_itself : (s t : Symbol) → s ≡ t → ranking_cmp r s t ≡ Less → ⊥
  less_itself s t e h = let n = tied_itself (ranking_order r).total s in let f : ranking_cmp r s s ≡ Less = ap (ranking_cmp r s) e ∙ h in cc

  greater_itself : (s t : Symbol) → s ≡ t → ranking_cmp r s t ≡ Greater → ⊥
  greater_itself s t e h = let n = tied_itself (ranking_order r).total s in let f : ranking_cmp r s s ≡ Greater = ap (ranking_cmp r s) e ∙ h in cc

  -- ---- where a search ends
  module _ (xs : Values) (s : Symbol) where
    pub searchable : AreSorted r xs → IsNonDecreasingBy (λ p. ordering_index (ranking_cmp r p.0 s)) xs
    searchable h = searchable_from_sorted (ranking_order r).total (λ p. p.0) xs s h

    pub found_contained : (i : ℕ) (d : Symbol × Fraction) → i < length xs → HoldsAt (λ p. ranking_cmp r p.0 s ≡ Equal) xs i → Contains xs (s, (slice_index_or xs i d).1)
    found_contained i d inside h =
        let e : (slice_index_or xs i d).0 ≡ s = (ranking_order r).same (slice_index_or xs i d).0 s (h d) in
        (i, inside, any_default xs i (s, (slice_index_or xs i d).1) d inside ∙ ap (λ t. (t, (slice_index_or xs i d).1)) e)

    pub missed_missing : (i : ℕ) → IsPartitionPoint (λ p. ranking_cmp r p.0 s ≡ Less) (λ p. ranking_cmp r p.0 s ≡ Greater) xs i → (v : Fraction) → Contains xs (s, v) → ⊥
    missed_missing i h v k = by_side (split k.0 i)
      where
        split : (a b : ℕ) → (a < b) ⊎ (b ≤ a)
        split a zero = inr (omega arith)
        split zero (suc b) = inl (omega arith)
        split (suc a) (suc b) = elim (split a b) [ inl e ↦ inl (omega arith) | inr e ↦ inr (omega arith) ]

        by_side : (k.0 < i) ⊎ (i ≤ k.0) → ⊥
        by_side (inl l) = less_itself (slice_index_or xs k.0 (s, v)).0 s (ap (λ p. p.0) k.2) (h.0 k.0 (s, v) (omega arith) l)
        by_side (inr l) = greater_itself (slice_index_or xs k.0 (s, v)).0 s (ap (λ p. p.0) k.2) (h.1 k.0 (s, v) l k.1)

  -- ---- what a list gives
  contained_behind : (p : Symbol × Fraction) (xs : Values) (q : Symbol × Fraction) → Contains xs q → Contains (p ∷ xs) q
  contained_behind p xs q h = let l = h.1 in (suc h.0, omega arith, h.2)

  pub given_contained : (xs : Values) (s : Symbol) (v : Fraction) → given_to (symbols_under r) xs s ≡ Some v → Contains xs (s, v)
  given_contained [] s v e = cc
  given_contained (p ∷ xs) s v e = by_test (same_symbol (symbols_under r) p.0 s) refl e (λ f. contained_behind p xs (s, v) (given_contained xs s v f))
    where
      by_test : (b : Bool) → same_symbol (symbols_under r) p.0 s ≡ b → cond b (Some p.1) (given_to (symbols_under r) xs s) ≡ Some v → (given_to (symbols_under r) xs s ≡ Some v → Contains (p ∷ xs) (s, v)) → Contains (p ∷ xs) (s, v)
      by_test true e f k =
          let g : p.1 ≡ v = cc in
          let h : p ≡ (s, v) = ap (λ t. (t, p.1)) (same_is r p.0 s e) ∙ ap (λ x. (s, x)) g in
          (0, omega arith, h)
      by_test false e f k = k f

  contained_given : (xs : Values) (s : Symbol) (v : Fraction) → Contains xs (s, v) → (w : Fraction) × (given_to (symbols_under r) xs s ≡ Some w)
  contained_given [] s v h = absurd (nothing_contained (s, v) h)
  contained_given (p ∷ xs) s v h = by_test (same_symbol (symbols_under r) p.0 s) refl h.0 h.1 h.2 (λ k. contained_given xs s v k)
    where
      by_test : (b : Bool) → same_symbol (symbols_under r) p.0 s ≡ b → (k : ℕ) → k < length (p ∷ xs) → slice_index_or (p ∷ xs) k (s, v) ≡ (s, v) → (Contains xs (s, v) → (w : Fraction) × (given_to (symbols_under r) xs s ≡ Some w)) → (w : Fraction) × (cond b (Some p.1) (given_to (symbols_under r) xs s) ≡ Some w)
      by_test true e k l i f = (p.1, refl)
      by_test false e zero l i f = let t : same_symbol (symbols_under r) p.0 s ≡ true = ap (same_symbol (symbols_under r) p.0) (sym (ap (λ q. q.0) i)) ∙ itself_same r p.0 in cc
      by_test false e (suc k) l i f = f (k, omega arith, i)

  module _ (xs : Values) (one : HaveOneValue xs) (s : Symbol) where
    pub contained_is_given : (v : Fraction) → Contains xs (s, v) → given_to (symbols_under r) xs s ≡ Some v
    contained_is_given v h =
        let g = contained_given xs s v h in
        g.1 ∙ ap Some (one s g.0 v (given_contained xs s g.0 g.1) h)

    pub missing_not_given : ((v : Fraction) → Contains xs (s, v) → ⊥) → given_to (symbols_under r) xs s ≡ None
    missing_not_given f = by_answer (given_to (symbols_under r) xs s) refl
      where
        by_answer : (o : Option Fraction) → given_to (symbols_under r) xs s ≡ o → given_to (symbols_under r) xs s ≡ None
        by_answer None e = e
        by_answer (Some v) e = absurd (f v (given_contained xs s v e))

  -- a list with the same members gives the same
  pub same_given : (xs ys : Values) → HaveOneValue xs → IsPermutation xs ys → (s : Symbol) → given_to (symbols_under r) ys s ≡ given_to (symbols_under r) xs s
  same_given xs ys one p s = by_answer (given_to (symbols_under r) ys s) refl
    where
      by_answer : (o : Option Fraction) → given_to (symbols_under r) ys s ≡ o → given_to (symbols_under r) ys s ≡ given_to (symbols_under r) xs s
      by_answer (Some v) e = e ∙ sym (contained_is_given xs one s v (Contains-permutation ys xs (s, v) (IsPermutation-sym xs ys p) (given_contained ys s v e)))
      by_answer None e = e ∙ sym (missing_not_given xs one s (λ v h. let g = contained_given ys s v (Contains-permutation xs ys (s, v) p h) in cc))

-- one value for each symbol, after a sort too
pub one_value_sorted : (xs ys : Values) → HaveOneValue xs → IsPermutation xs ys → HaveOneValue ys
one_value_sorted xs ys one p s v w h k =
    let q = IsPermutation-sym xs ys p in
    one s v w (Contains-permutation ys xs (s, v) q h) (Contains-permutation ys xs (s, w) q k)
