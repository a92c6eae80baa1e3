-- Tables of values: the independents stand first, and the derivatives behind them rise.
use Rattle.std.specs.List.{range_with_len}
use Rattle.std.proofs.Common.{◌≡◌, ◌⊎◌, inl, inr, ◌<◌, ◌≤◌, ◌+◌, ◌-◌, ◌∙◌, ℕ, zero, suc, Bool, true, false, cond, List, [], ◌∷◌, ◌++◌, length, take, drop, map, slice_index_or, Some, None, refl, sym, ap, subst, arith}
use Rattle.std.specs.Ordering.{is_lt, ordering_reverse}
use Rattle.std.specs.declared.cmp.Ordering.TheVariants.{Less}
use Rattle.std.proofs.lemmas.List.{length-map}
use Rattle.dz_int.specs.Fractions.{Fraction}
use Rattle.dz_rank.specs.Rankings.{RankingValue, ranking_cmp}
use Rattle.dz_rank.specs.Symbols.{is_derivative}
use Rattle.dz_rank.specs.declared.symbols.Symbol.{Symbol}
use Rattle.dz_rank.specs.declared.symbols.Symbol.TheVariants.{Independent, Derivative}
use Rattle.dz_monomials.specs.Ranked.{symbols_under}
use Rattle.dz_monomials.proofs.SymbolLaws.{ranking_order}
use Rattle.dz_monomials.specs.Lists.{AllOf}
use Rattle.dz_diff.specs.Tests.{same_symbol}
use Rattle.dz_diff.proofs.Places.{some_parts}
use Rattle.dz_jet.specs.Jets.{Values, given_to, independents_of}
use Rattle.dz_jet.specs.Tables.{AreSorted, HaveOneValue, IsTable, keys}
use Rattle.dz_parametric.specs.Orders.{IsRising}
use Rattle.dz_jet.proofs.FoldSteps.{any_default}
use Rattle.dz_jet.proofs.Found.{less_itself}
use Rattle.dz_jet.proofs.JetLists.{itself_same, key_or_none, same_is}
use Rattle.dz_parametric.proofs.Members.{In, all_map, all_range, of_member}

keys_drop : (n : ℕ) (xs : Values) → keys (drop n xs) ≡ drop n (keys xs)
keys_drop zero xs = refl
keys_drop (suc n) [] = refl
keys_drop (suc n) (x ∷ xs) = keys_drop n xs

pub drop_front : {A : Type 0} (xs ys : List A) → drop (length xs) (xs ++ ys) ≡ ys
drop_front [] ys = refl
drop_front (x ∷ xs) ys = drop_front xs ys

length_front : {A : Type 0} (xs ys : List A) → length xs ≤ length (xs ++ ys)
length_front [] ys = omega arith
length_front (x ∷ xs) ys = let h = length_front xs ys in omega arith

length_range : (k n : ℕ) → length (range_with_len k n) ≡ n
length_range k zero = refl
length_range k (suc n) = ap suc (length_range (k + 1) n)

pub independents_length : (n : ℕ) → length (map (λ i. Independent i) (range_with_len 0 n)) ≡ n
independents_length n = length-map (range_with_len 0 n) (λ i. Independent i) ∙ length_range 0 n

pub front_short : (n : ℕ) (ds : List Symbol) → n ≤ length (map (λ i. Independent i) (range_with_len 0 n) ++ ds)
front_short n ds = omega (arith, independents_length n, length_front (map (λ i. Independent i) (range_with_len 0 n)) ds)

-- a slice from n on
take_whole : {A : Type 0} (xs : List A) → take (length xs - 0) xs ≡ xs
take_whole [] = refl
take_whole (x ∷ xs) = ap (λ k. take k (x ∷ xs)) (let e : suc (length xs) - 0 ≡ suc (length xs - 0) = omega arith in e) ∙ ap (λ ys. x ∷ ys) (take_whole xs)

take_nothing : {A : Type 0} (k : ℕ) → take {A = A} k [] ≡ []
take_nothing zero = refl
take_nothing (suc k) = refl

pub slice_rest : {A : Type 0} (n : ℕ) (xs : List A) → drop n xs ≡ take (length xs - n) (drop n xs)
slice_rest zero xs = sym (take_whole xs)
slice_rest (suc n) [] = sym (take_nothing (0 - suc n))
slice_rest (suc n) (x ∷ xs) = slice_rest n xs ∙ ap (λ k. take k (drop n xs)) (let e : length xs - n ≡ suc (length xs) - suc n = omega arith in e)

-- ---- rising lists
all_at : (P : Symbol → Type 0) (xs : Values) (j : ℕ) (d : Symbol × Fraction) → AllOf P (keys xs) → j < length xs → P (slice_index_or xs j d).0
all_at P [] j d h l = absurd (omega arith)
all_at P (x ∷ xs) zero d h l = h.0
all_at P (x ∷ xs) (suc j) d h l = all_at P xs j d h.1 (omega arith)

module _ (r : RankingValue) where
  rising_pairs : (xs : Values) → IsRising (ranking_cmp r) (keys xs) → (i j : ℕ) (d : Symbol × Fraction) → i < j → j < length xs → ranking_cmp r (slice_index_or xs i d).0 (slice_index_or xs j d).0 ≡ Less
  rising_pairs [] h i j d l k = absurd (omega arith)
  rising_pairs (x ∷ xs) h i zero d l k = absurd (omega arith)
  rising_pairs (x ∷ xs) h zero (suc j) d l k = all_at (λ t. ranking_cmp r x.0 t ≡ Less) xs j d h.0 (omega arith)
  rising_pairs (x ∷ xs) h (suc i) (suc j) d l k = rising_pairs xs h.1 i j d (omega arith) (omega arith)

  pub rising_sorted : (xs : Values) → IsRising (ranking_cmp r) (keys xs) → AreSorted r xs
  rising_sorted xs h k d low high =
      let less = rising_pairs xs h k (k + 1) d (omega arith) high in
      ap is_lt ((ranking_order r).total.antisymm (slice_index_or xs (k + 1) d).0 (slice_index_or xs k d).0 ∙ ap ordering_reverse less)

  pub rising_single : (xs : Values) → IsRising (ranking_cmp r) (keys xs) → HaveOneValue xs
  rising_single xs h s v w a b = by_places (split a.0 b.0)
    where
      split : (i j : ℕ) → ((i < j) ⊎ (j < i)) ⊎ (i ≡ j)
      split zero zero = inr refl
      split zero (suc j) = inl (inl (omega arith))
      split (suc i) zero = inl (inr (omega arith))
      split (suc i) (suc j) = elim (split i j) [ inl (inl e) ↦ inl (inl (omega arith)) | inl (inr e) ↦ inl (inr (omega arith)) | inr e ↦ inr (ap suc e) ]

      apart : (i j : ℕ) (x y : Fraction) → i < j → j < length xs → slice_index_or xs i (s, x) ≡ (s, x) → slice_index_or xs j (s, y) ≡ (s, y) → ⊥
      apart i j x y l k e f =
          less_itself r (slice_index_or xs i (s, x)).0 (slice_index_or xs j (s, x)).0
          (ap (λ p. p.0) e ∙ sym (ap (λ p. p.0) (any_default xs j (s, x) (s, y) k ∙ f)))
          (rising_pairs xs h i j (s, x) l k)

      by_places : ((a.0 < b.0) ⊎ (b.0 < a.0)) ⊎ (a.0 ≡ b.0) → v ≡ w
      by_places (inl (inl l)) = absurd (apart a.0 b.0 v w l b.1 a.2 b.2)
      by_places (inl (inr l)) = absurd (apart b.0 a.0 w v l a.1 b.2 a.2)
      by_places (inr e) =
          ap (λ p. p.1) (sym a.2 ∙ ap (λ i. slice_index_or xs i (s, v)) e ∙ any_default xs b.0 (s, v) (s, w) b.1 ∙ b.2)

  -- ---- what stands first
  pub derivative_is : (s : Symbol) → ((i : ℕ) → s ≡ Independent i → ⊥) → is_derivative s ≡ true
  derivative_is (Independent i) n = absurd (n i refl)
  derivative_is (Derivative u t) n = refl

  not_independent : (m : ℕ) (s : Symbol) → is_derivative s ≡ true → same_symbol (symbols_under r) (Independent m) s ≡ false
  not_independent m s d = by_test (same_symbol (symbols_under r) (Independent m) s) refl
    where
      by_test : (b : Bool) → same_symbol (symbols_under r) (Independent m) s ≡ b → same_symbol (symbols_under r) (Independent m) s ≡ false
      by_test false e = e
      by_test true e = let f : false ≡ is_derivative s = ap is_derivative (same_is r (Independent m) s e) in cc

  abbrev number_of : ℕ → Symbol → ℕ
  number_of d (Independent i) = i
  number_of d (Derivative u t) = d

  other_independent : (m i : ℕ) → (m ≡ i → ⊥) → same_symbol (symbols_under r) (Independent m) (Independent i) ≡ false
  other_independent m i n = by_test (same_symbol (symbols_under r) (Independent m) (Independent i)) refl
    where
      by_test : (b : Bool) → same_symbol (symbols_under r) (Independent m) (Independent i) ≡ b → same_symbol (symbols_under r) (Independent m) (Independent i) ≡ false
      by_test false e = e
      by_test true e = absurd (n (ap (number_of m) (same_is r (Independent m) (Independent i) e)))

  head_key : (p : Symbol × Fraction) (xs : Values) (s : Symbol) (ss : List Symbol) → keys (p ∷ xs) ≡ s ∷ ss → (p.0 ≡ s) × (keys xs ≡ ss)
  head_key p xs s ss e = (cc, cc)

  behind_given : (ms : List ℕ) (xs : Values) (ds : List Symbol) (s : Symbol) → keys xs ≡ map (λ i. Independent i) ms ++ ds → is_derivative s ≡ true → given_to (symbols_under r) xs s ≡ given_to (symbols_under r) (drop (length ms) xs) s
  behind_given [] xs ds s e d = refl
  behind_given (m ∷ ms) [] ds s e d = cc
  behind_given (m ∷ ms) (p ∷ xs) ds s e d =
      let k = head_key p xs (Independent m) (map (λ i. Independent i) ms ++ ds) e in
      ap (λ b. cond b (Some p.1) (given_to (symbols_under r) xs s)) (ap (λ t. same_symbol (symbols_under r) t s) k.0 ∙ not_independent m s d)
      ∙ behind_given ms xs ds s k.1 d

  first_given : (k n : ℕ) (xs : Values) (ds : List Symbol) (i : ℕ) (d : Symbol × Fraction) → keys xs ≡ map (λ i. Independent i) (range_with_len k n) ++ ds → i < n → given_to (symbols_under r) xs (Independent (k + i)) ≡ Some (slice_index_or xs i d).1
  first_given k zero xs ds i d e l = absurd (omega arith)
  first_given k (suc n) [] ds i d e l = cc
  first_given k (suc n) (p ∷ xs) ds zero d e l =
      let h = head_key p xs (Independent k) (map (λ i. Independent i) (range_with_len (k + 1) n) ++ ds) e in
      let f : Independent k ≡ Independent (k + 0) = ap (λ j. Independent j) (omega arith) in
      ap (λ b. cond b (Some p.1) (given_to (symbols_under r) xs (Independent (k + 0)))) (ap (λ t. same_symbol (symbols_under r) t (Independent (k + 0))) (h.0 ∙ f) ∙ itself_same r (Independent (k + 0)))
  first_given k (suc n) (p ∷ xs) ds (suc i) d e l =
      let h = head_key p xs (Independent k) (map (λ i. Independent i) (range_with_len (k + 1) n) ++ ds) e in
      let f : Independent (k + suc i) ≡ Independent ((k + 1) + i) = ap (λ j. Independent j) (omega arith) in
      ap (λ b. cond b (Some p.1) (given_to (symbols_under r) xs (Independent (k + suc i)))) (ap (λ t. same_symbol (symbols_under r) t (Independent (k + suc i))) h.0 ∙ other_independent k (k + suc i) (λ g. omega arith))
      ∙ ap (given_to (symbols_under r) xs) f
      ∙ first_given (k + 1) n xs ds i d h.1 (omega arith)

  module _ (xs : Values) (table : IsTable r xs) where
    abbrev n : ℕ
    n = r.signature.independents

    pub table_length : n ≤ length xs
    table_length =
        let a = length_front (independents_of r.signature) table.derivatives in
        let b : length (keys xs) ≡ length xs = length-map xs (λ p. p.0) in
        let c : length (keys xs) ≡ length (independents_of r.signature ++ table.derivatives) = ap length table.keys_are in
        let d = independents_length n in
        omega arith

    behind_keys : keys (drop n xs) ≡ table.derivatives
    behind_keys =
        keys_drop n xs ∙ ap (drop n) table.keys_are ∙ ap (λ k. drop k (independents_of r.signature ++ table.derivatives)) (sym (independents_length n))
        ∙ drop_front (independents_of r.signature) table.derivatives

    behind_rising : IsRising (ranking_cmp r) (keys (drop n xs))
    behind_rising = subst (IsRising (ranking_cmp r)) (sym behind_keys) table.rising

    pub behind_sorted : AreSorted r (take (length xs - n) (drop n xs))
    behind_sorted = subst (AreSorted r) (slice_rest n xs) (rising_sorted (drop n xs) behind_rising)

    pub behind_single : HaveOneValue (take (length xs - n) (drop n xs))
    behind_single = subst HaveOneValue (slice_rest n xs) (rising_single (drop n xs) behind_rising)

    pub given_behind_independents : (s : Symbol) → is_derivative s ≡ true → given_to (symbols_under r) (take (length xs - n) (drop n xs)) s ≡ given_to (symbols_under r) xs s
    given_behind_independents s d =
        ap (λ ys. given_to (symbols_under r) ys s) (sym (slice_rest n xs))
        ∙ ap (λ k. given_to (symbols_under r) (drop k xs) s) (sym (length_range 0 n))
        ∙ sym (behind_given (range_with_len 0 n) xs table.derivatives s table.keys_are d)

    pub independent_given : (i : ℕ) (d : Symbol × Fraction) → i < n → Some (slice_index_or xs i d).1 ≡ given_to (symbols_under r) xs (Independent i)
    independent_given i d l = sym (ap (λ j. given_to (symbols_under r) xs (Independent j)) (let e : i ≡ 0 + i = omega arith in e) ∙ first_given 0 n xs table.derivatives i d table.keys_are l)

    pub no_independent : (i : ℕ) → n ≤ i → None ≡ given_to (symbols_under r) xs (Independent i)
    no_independent i l = elim (key_or_none r xs (Independent i)) [
      | inl e ↦ sym e
      | inr h ↦ absurd (elim (some_parts (λ u. u ≡ Independent i) (independents_of r.signature) table.derivatives (subst (In (Independent i)) table.keys_are h)) [
        | inl k ↦ of_member (λ s. s ≡ Independent i → ⊥) (Independent i) (independents_of r.signature) others k refl
        | inr k ↦ let e = of_member (λ s. is_derivative s ≡ true) (Independent i) table.derivatives table.proper k in cc
      ])
    ]
      where
        others : AllOf (λ s. s ≡ Independent i → ⊥) (independents_of r.signature)
        others = all_map (λ j. Independent j) (λ s. s ≡ Independent i → ⊥) (range_with_len 0 n) (all_range (λ j. Independent j ≡ Independent i → ⊥) 0 n (λ j a b e. let f : j ≡ i = ap (number_of i) e in omega arith))
