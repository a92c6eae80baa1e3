-- Under an orderly ranking the derivatives up to a total order are an initial segment.
use Rattle.std.proofs.Common.{◌≡◌, ◌⊎◌, inl, inr, ◌<◌, ◌≤◌, ◌+◌, ℕ, zero, suc, nat_le, List, [], ◌∷◌, ◌++◌, map, length, sum, IsTrue, refl, sym, ap, subst, arith}
use Rattle.std.proofs.lemmas.Bool.{le-leb, leb-true}
use Rattle.std.proofs.lemmas.List.Sums.{sum_by-cons}
use Rattle.std.proofs.lemmas.Cmp.{tied_itself}
use Rattle.std.specs.declared.cmp.Ordering.TheVariants.{Less}
use Rattle.dz_rank.specs.Rankings.{RankingValue, ranking_cmp, IsOrderly}
use Rattle.dz_rank.specs.Symbols.{BelongsTo, is_derivative, total_order}
use Rattle.dz_rank.specs.declared.symbols.Symbol.{Symbol}
use Rattle.dz_rank.specs.declared.symbols.Symbol.TheVariants.{Independent, Derivative}
use Rattle.dz_monomials.proofs.SymbolLaws.{ranking_order}
use Rattle.dz_monomials.specs.Lists.{SomeOf}
use Rattle.dz_diff.proofs.Places.{some_left, some_right}
use Rattle.dz_jet.specs.Clashes.{IsInitialSegment}

-- ---- lists of numbers up to m
each_first : ℕ → List (List ℕ) → List (List ℕ)
each_first zero ls = map (λ (es : List ℕ). 0 ∷ es) ls
each_first (suc k) ls = map (λ (es : List ℕ). suc k ∷ es) ls ++ each_first k ls

lists_to : ℕ → ℕ → List (List ℕ)
lists_to zero m = [] ∷ []
lists_to (suc n) m = each_first m (lists_to n m)

in_map : {A B : Type 0} (f : A → B) (x : A) (xs : List A) → SomeOf (λ y. y ≡ x) xs → SomeOf (λ y. y ≡ f x) (map f xs)
in_map f x [] h = absurd h
in_map f x (y ∷ xs) (inl e) = inl (ap f e)
in_map f x (y ∷ xs) (inr h) = inr (in_map f x xs h)

in_each_first : (k j : ℕ) (es : List ℕ) (ls : List (List ℕ)) → j ≤ k → SomeOf (λ y. y ≡ es) ls → SomeOf (λ y. y ≡ j ∷ es) (each_first k ls)
unfolding each_first
in_each_first zero zero es ls l h = in_map (λ (es : List ℕ). 0 ∷ es) es ls h
in_each_first zero (suc j) es ls l h = absurd (omega arith)
in_each_first (suc k) j es ls l h = by_test (last k j l) (λ i. in_each_first k j es ls i h)
  where
    last : (k j : ℕ) → j ≤ suc k → (j ≡ suc k) ⊎ (j ≤ k)
    last zero zero l = inr (omega arith)
    last zero (suc zero) l = inl refl
    last zero (suc (suc j)) l = absurd (omega arith)
    last (suc k) zero l = inr (omega arith)
    last (suc k) (suc j) l = elim (last k j (omega arith)) [ inl e ↦ inl (ap suc e) | inr h ↦ inr (omega arith) ]

    by_test : (j ≡ suc k) ⊎ (j ≤ k) → (j ≤ k → SomeOf (λ y. y ≡ j ∷ es) (each_first k ls)) → SomeOf (λ y. y ≡ j ∷ es) (map (λ (es : List ℕ). suc k ∷ es) ls ++ each_first k ls)
    by_test (inl e) f = some_left (λ y. y ≡ j ∷ es) (map (λ (es : List ℕ). suc k ∷ es) ls) (each_first k ls) (subst (λ n. SomeOf (λ y. y ≡ n ∷ es) (map (λ (es : List ℕ). suc k ∷ es) ls)) (sym e) (in_map (λ (es : List ℕ). suc k ∷ es) es ls h))
    by_test (inr i) f = some_right (λ y. y ≡ j ∷ es) (map (λ (es : List ℕ). suc k ∷ es) ls) (each_first k ls) (f i)

in_lists : (n m : ℕ) (ks : List ℕ) → length ks ≡ n → sum ks ≤ m → SomeOf (λ y. y ≡ ks) (lists_to n m)
unfolding lists_to
in_lists zero m [] e h = inl refl
in_lists zero m (k ∷ ks) e h = absurd (omega arith)
in_lists (suc n) m [] e h = absurd (omega arith)
in_lists (suc n) m (k ∷ ks) e h =
    let parts : k + sum ks ≤ m = omega (arith, h, sum_by-cons (λ x. x) k ks) in
    in_each_first m k ks (lists_to n m) (omega arith) (in_lists n m ks (omega arith) (omega arith))

-- ---- the derivatives with these exponents
derivatives_of : ℕ → List (List ℕ) → List Symbol
derivatives_of zero ls = []
derivatives_of (suc d) ls = map (λ (ks : List ℕ). Derivative d (record { counts = ks })) ls ++ derivatives_of d ls

in_derivatives : (d u : ℕ) (ks : List ℕ) (ls : List (List ℕ)) → u < d → SomeOf (λ y. y ≡ ks) ls → SomeOf (λ y. y ≡ Derivative u (record { counts = ks })) (derivatives_of d ls)
unfolding derivatives_of
in_derivatives zero u ks ls l h = absurd (omega arith)
in_derivatives (suc d) u ks ls l h = by_test (last d u l) (λ i. in_derivatives d u ks ls i h)
  where
    last : (d u : ℕ) → u < suc d → (u ≡ d) ⊎ (u < d)
    last zero zero l = inl refl
    last zero (suc u) l = absurd (omega arith)
    last (suc d) zero l = inr (omega arith)
    last (suc d) (suc u) l = elim (last d u (omega arith)) [ inl e ↦ inl (ap suc e) | inr h ↦ inr (omega arith) ]

    by_test : (u ≡ d) ⊎ (u < d) → (u < d → SomeOf (λ y. y ≡ Derivative u (record { counts = ks })) (derivatives_of d ls))
        → SomeOf (λ y. y ≡ Derivative u (record { counts = ks })) (map (λ (ks : List ℕ). Derivative d (record { counts = ks })) ls ++ derivatives_of d ls)
    by_test (inl e) f =
        some_left (λ y. y ≡ Derivative u (record { counts = ks })) (map (λ (ks : List ℕ). Derivative d (record { counts = ks })) ls) (derivatives_of d ls)
        (subst (λ n. SomeOf (λ y. y ≡ Derivative n (record { counts = ks })) (map (λ (ks : List ℕ). Derivative d (record { counts = ks })) ls)) (sym e) (in_map (λ (ks : List ℕ). Derivative d (record { counts = ks })) ks ls h))
    by_test (inr i) f = some_right (λ y. y ≡ Derivative u (record { counts = ks })) (map (λ (ks : List ℕ). Derivative d (record { counts = ks })) ls) (derivatives_of d ls) (f i)

-- ---- the segment
module _ (r : RankingValue) (orderly : IsOrderly r) (m : ℕ) where
  all_up_to : (v : Symbol) → IsTrue (is_derivative v) → BelongsTo r.signature v → total_order v ≤ m → SomeOf (λ u. u ≡ v) (derivatives_of r.signature.dependents (lists_to 4 m))
  all_up_to (Independent i) d b h = cc
  all_up_to (Derivative u t) d b h = in_derivatives r.signature.dependents u t.counts (lists_to 4 m) b.0 (in_lists 4 m t.counts b.1.size h)

  -- a lesser derivative has no greater total order
  pub no_greater : (v w : Symbol) → IsTrue (is_derivative v) → IsTrue (is_derivative w) → BelongsTo r.signature v → BelongsTo r.signature w → ranking_cmp r v w ≡ Less → total_order w < total_order v → ⊥
  no_greater v w d e b c f h =
      let g = orderly.greater w v e d c b h in
      let k = (ranking_order r).total.trans v w v f g in
      let n = tied_itself (ranking_order r).total v in
      cc

  pub orderly_segment : IsInitialSegment r (λ w. nat_le (total_order w) m)
  orderly_segment = record {
    lower = λ v w d c e h. le-leb (total_order v) m (bound v w (leb-true (total_order w) m h) (no_greater v w d.0 c.0 d.1 c.1 e));
    members = derivatives_of r.signature.dependents (lists_to 4 m);
    all = λ v d h. all_up_to v d.0 d.1 (leb-true (total_order v) m h);
  }
    where
      bound : (v w : Symbol) → total_order w ≤ m → (total_order w < total_order v → ⊥) → total_order v ≤ m
      bound v w h n = by_test (compare (total_order v) (total_order w))
        where
          compare : (a b : ℕ) → (a ≤ b) ⊎ (b < a)
          compare zero b = inl (omega arith)
          compare (suc a) zero = inr (omega arith)
          compare (suc a) (suc b) = elim (compare a b) [ inl e ↦ inl (omega arith) | inr e ↦ inr (omega arith) ]

          by_test : (total_order v ≤ total_order w) ⊎ (total_order w < total_order v) → total_order v ≤ m
          by_test (inl k) = omega arith
          by_test (inr k) = absurd (n k)
