-- The cones of operators from those by their next exponent, as the program lists them.
use Rattle.std.specs.List.{filter, flat_map, range_with_len}
use Rattle.std.specs.Prelude.{nat_le, replicate, slice_set}
use Rattle.std.proofs.Common.{◌≡◌, ◌<◌, ◌≤◌, ◌+◌, ◌-◌, ◌∙◌, ℕ, zero, suc, Bool, true, false, cond, List, [], ◌∷◌, ◌++◌, length, map, take, drop, slice_index_or, refl, sym, ap, ap₂, arith, append_assoc, Result, Err}
use Rattle.std.proofs.lemmas.List.{length-append, length-map, map-append}
use Rattle.dz_rank.specs.declared.symbols.Operator.{Operator}
use Rattle.dz_parametric.specs.declared.listing.Cone.{Cone}
use Rattle.dz_parametric.specs.declared.listing.ConeFault.{ConeFault}
use Rattle.dz_parametric.specs.Cones.{Direction, at_most, begun_by, cone_of, cones_of_exponents, first_of, greatest_first, has_identity, rest_of}
use Rattle.dz_parametric.specs.Dividing.{completed, spliced, tails}
use Rattle.dz_parametric.proofs.Listings.{flat_same, map_flat}

-- ---- exponents from a direction on
rest_drop : (i : ℕ) (ks : List ℕ) → rest_of (drop i ks) ≡ drop (i + 1) ks
rest_drop i ks = at i ks ∙ ap (λ j. drop j ks) (let e : suc i ≡ i + 1 = omega arith in e)
  where
    at : (i : ℕ) (ks : List ℕ) → rest_of (drop i ks) ≡ drop (suc i) ks
    at zero [] = refl
    at zero (k ∷ ks) = refl
    at (suc i) [] = refl
    at (suc i) (k ∷ ks) = at i ks

first_drop : (i : ℕ) (ks : List ℕ) → first_of (drop i ks) ≡ slice_index_or ks i 0
first_drop zero [] = refl
first_drop zero (k ∷ ks) = refl
first_drop (suc i) [] = refl
first_drop (suc i) (k ∷ ks) = first_drop i ks

-- those behind the next direction
rest_tails : (i : ℕ) (ts : List Operator) → map rest_of (tails i ts) ≡ tails (i + 1) ts
rest_tails i [] = refl
rest_tails i (t ∷ ts) = ap₂ (λ k ks. k ∷ ks) (rest_drop i t.counts) (rest_tails i ts)

-- and of the operators that an exponent reaches
reached_tails : (i k : ℕ) (ts : List Operator) → map rest_of (at_most k (tails i ts)) ≡ tails (i + 1) (filter (λ t. nat_le (slice_index_or t.counts i 0) k) ts)
reached_tails i k [] = refl
reached_tails i k (t ∷ ts) = by (nat_le (first_of (drop i t.counts)) k) (nat_le (slice_index_or t.counts i 0) k) (ap (λ j. nat_le j k) (first_drop i t.counts)) (reached_tails i k ts)
  where
    by : (a b : Bool) → a ≡ b → map rest_of (at_most k (tails i ts)) ≡ tails (i + 1) (filter (λ t. nat_le (slice_index_or t.counts i 0) k) ts)
        → map rest_of (cond a (drop i t.counts ∷ at_most k (tails i ts)) (at_most k (tails i ts))) ≡ tails (i + 1) (cond b (t ∷ filter (λ t. nat_le (slice_index_or t.counts i 0) k) ts) (filter (λ t. nat_le (slice_index_or t.counts i 0) k) ts))
    by true true e h = ap₂ (λ k ks. k ∷ ks) (rest_drop i t.counts) h
    by false false e h = h
    by true false e h = absurd cc
    by false true e h = absurd cc

-- ---- cones with one more direction
spliced_next : {A : Type 0} (i n : ℕ) (xs ys : List A) (y : A) → i < n → i < length xs → spliced (i + 1) n (slice_set xs i y) ys ≡ spliced i n xs (y ∷ ys)
spliced_next i n xs ys y l h = ap (λ j. spliced j n (slice_set xs i y) ys) (let e : i + 1 ≡ suc i = omega arith in e) ∙ at i n xs l h
  where
    at : (i n : ℕ) (xs : List _) → i < n → i < length xs → spliced (suc i) n (slice_set xs i y) ys ≡ spliced i n xs (y ∷ ys)
    at i n [] l h = absurd (omega arith)
    at i zero (x ∷ xs) l h = absurd (omega arith)
    at zero (suc n) (x ∷ xs) l h = refl
    at (suc i) (suc n) (x ∷ xs) l h = ap (λ zs. x ∷ zs) (at i n xs (omega arith) (omega arith))

-- at the end nothing is put in
pub completed_end : (n : ℕ) (c : Cone) → completed n n c [] ≡ c
completed_end n c = ap₂ (λ ks fs. record { dependent = c.dependent; operator = record { counts = ks }; free = fs }) (whole n c.operator.counts) (whole n c.free)
  where
    whole : {A : Type 0} (n : ℕ) (xs : List A) → take n xs ++ drop n xs ≡ xs
    whole zero xs = refl
    whole (suc n) [] = refl
    whole (suc n) (x ∷ xs) = ap (λ ys. x ∷ ys) (whole n xs)

-- at the end no operator leaves one cone
pub one_at_end : (n i : ℕ) (c : Cone) (ts : List Operator) → i ≡ n → length ts ≡ 0 → map (completed i n c) (cones_of_exponents (n - i) (tails i ts)) ≡ c ∷ []
unfolding cones_of_exponents
one_at_end n i c [] e z = ap (λ j. map (completed j n c) (cones_of_exponents (n - j) (tails j []))) e ∙ ap (λ j. map (completed n n c) (cones_of_exponents j [])) (let f : n - n ≡ 0 = omega arith in f) ∙ ap (λ x. x ∷ []) (completed_end n c)
one_at_end n i c (t ∷ ts) e z = absurd (omega arith)

-- and one that is left leaves none
pub none_at_end : (n i : ℕ) (c : Cone) (ts : List Operator) → i ≡ n → 0 < length ts → map (completed i n c) (cones_of_exponents (n - i) (tails i ts)) ≡ []
unfolding cones_of_exponents
none_at_end n i c [] e z = absurd (omega arith)
none_at_end n i c (t ∷ ts) e z = ap (λ j. map (completed i n c) (cones_of_exponents j (tails i (t ∷ ts)))) (let f : n - i ≡ 0 = omega arith in f)

-- the three cases, where a direction is left
pub identity_none : (n : ℕ) (ss : List (List ℕ)) → has_identity ss ≡ true → cones_of_exponents (suc n) ss ≡ []
unfolding cones_of_exponents
identity_none n [] e = absurd cc
identity_none n (s ∷ ss) e = rw e refl

pub next_exponent : (n : ℕ) (ss : List (List ℕ)) → has_identity ss ≡ false
    → cones_of_exponents (suc n) ss ≡ flat_map (λ k. begun_by k false (cones_of_exponents n (map rest_of (at_most k ss)))) (range_with_len 0 (greatest_first ss)) ++ begun_by (greatest_first ss) true (cones_of_exponents n (map rest_of ss))
unfolding cones_of_exponents
next_exponent n [] e = refl
next_exponent n (s ∷ ss) e = rw e refl

-- ---- faults
-- what is told twice is the same
pub same_fault : {A : Type 0} (x : Result A ConeFault) (d e : ConeFault) → x ≡ Err d → x ≡ Err e → d ≡ e
same_fault x d e h k = cc

-- ---- lists of lists, as far as a loop has come
-- so many lists and one more are not longer than all
pub not_longer : {A : Type 0} (f : ℕ → List A) (k m : ℕ) → k < m → length (flat_map f (range_with_len 0 k)) + length (f k) ≤ length (flat_map f (range_with_len 0 m))
not_longer f k m h = ap_le (at 0 k m h)
  where
    at : (a k m : ℕ) → k < m → length (flat_map f (range_with_len a k)) + length (f (a + k)) ≤ length (flat_map f (range_with_len a m))
    at a k zero h = absurd (omega arith)
    at a zero (suc m) h = let e : length (f (a + 0)) ≡ length (f a) = ap (λ j. length (f j)) (let g : a + 0 ≡ a = omega arith in g) in omega (arith, e, length-append (f a) (flat_map f (range_with_len (a + 1) m)))
    at a (suc k) (suc m) h =
        let e : length (f (a + suc k)) ≡ length (f (a + 1 + k)) = ap (λ j. length (f j)) (let g : a + suc k ≡ a + 1 + k = omega arith in g) in
        omega (arith, e, at (a + 1) k m (omega arith), length-append (f a) (flat_map f (range_with_len (a + 1) m)), length-append (f a) (flat_map f (range_with_len (a + 1) k)))

    ap_le : length (flat_map f (range_with_len 0 k)) + length (f (0 + k)) ≤ length (flat_map f (range_with_len 0 m)) → length (flat_map f (range_with_len 0 k)) + length (f k) ≤ length (flat_map f (range_with_len 0 m))
    ap_le h = let e : length (f (0 + k)) ≡ length (f k) = ap (λ j. length (f j)) (let g : 0 + k ≡ k = omega arith in g) in omega (arith, e, h)

-- ---- all cones from those by the next exponent
module _ (n i : ℕ) (c : Cone) (ts : List Operator) where
  -- the operators that an exponent reaches
  abbrev pub reached : ℕ → List Operator
  reached k = filter (λ t. nat_le (slice_index_or t.counts i 0) k) ts

  -- the cone with an exponent
  abbrev pub with_exponent : ℕ → Bool → Cone
  with_exponent k free = record { dependent = c.dependent; operator = record { counts = slice_set c.operator.counts i k }; free = slice_set c.free i free }

  -- the cones with an exponent that is less than the greatest one
  abbrev pub fixed_part : ℕ → List Cone
  fixed_part k = map (completed (i + 1) n (with_exponent k false)) (cones_of_exponents (n - (i + 1)) (tails (i + 1) (reached k)))

  -- the greatest one
  abbrev pub most : ℕ
  most = greatest_first (tails i ts)

  -- those that are free
  abbrev pub free_part : List Cone
  free_part = map (completed (i + 1) n (with_exponent most true)) (cones_of_exponents (n - (i + 1)) (tails (i + 1) ts))

  -- all from here on
  abbrev pub whole : List Cone
  whole = map (completed i n c) (cones_of_exponents (n - i) (tails i ts))

  pub no_part : i < n → has_identity (tails i ts) ≡ true → whole ≡ []
  no_part l e = ap (λ j. map (completed i n c) (cones_of_exponents j (tails i ts))) (let f : n - i ≡ suc (n - (i + 1)) = omega arith in f) ∙ ap (map (completed i n c)) (identity_none (n - (i + 1)) (tails i ts) e)

  module _ (l : i < n) (counts : i < length c.operator.counts) (frees : i < length c.free) where
    completed_next : (k : ℕ) (free : Bool) (ds : List Direction) → completed i n c (record { exponent = k; is_free = free } ∷ ds) ≡ completed (i + 1) n (with_exponent k free) ds
    completed_next k free ds = ap₂ (λ ks fs. record { dependent = c.dependent; operator = record { counts = ks }; free = fs })
        (sym (spliced_next i n c.operator.counts (map (λ d. d.exponent) ds) k l counts)) (sym (spliced_next i n c.free (map (λ d. d.is_free) ds) free l frees))

    all_begun : (k : ℕ) (free : Bool) (cs : List (List Direction)) → map (completed i n c) (begun_by k free cs) ≡ map (completed (i + 1) n (with_exponent k free)) cs
    all_begun k free [] = refl
    all_begun k free (ds ∷ cs) = ap₂ (λ x xs. x ∷ xs) (completed_next k free ds) (all_begun k free cs)

    pub parts : has_identity (tails i ts) ≡ false → whole ≡ flat_map fixed_part (range_with_len 0 most) ++ free_part
    parts e =
        let m = n - (i + 1) in
        let f = completed i n c in
        let begun = λ (k : ℕ). begun_by k false (cones_of_exponents m (map rest_of (at_most k (tails i ts)))) in
        ap (λ j. map f (cones_of_exponents j (tails i ts))) (let h : n - i ≡ suc m = omega arith in h)
        ∙ ap (map f) (next_exponent m (tails i ts) e)
        ∙ map-append f (flat_map begun (range_with_len 0 most)) (begun_by most true (cones_of_exponents m (map rest_of (tails i ts))))
        ∙ ap₂ (λ xs ys. xs ++ ys)
        (map_flat f begun (range_with_len 0 most)
        ∙ flat_same (λ k. map f (begun k)) fixed_part (λ k. all_begun k false (cones_of_exponents m (map rest_of (at_most k (tails i ts)))) ∙ ap (λ ss. map (completed (i + 1) n (with_exponent k false)) (cones_of_exponents m ss)) (reached_tails i k ts)) (range_with_len 0 most))
        (all_begun most true (cones_of_exponents m (map rest_of (tails i ts))) ∙ ap (λ ss. map (completed (i + 1) n (with_exponent most true)) (cones_of_exponents m ss)) (rest_tails i ts))

    -- what the loop has listed, and those that are free
    pub all_listed : has_identity (tails i ts) ≡ false → (old now new : List Cone) (k : ℕ) → k ≡ most → now ≡ old ++ flat_map fixed_part (range_with_len 0 k) → new ≡ now ++ free_part → new ≡ old ++ whole
    all_listed e old now new k end before after =
        after ∙ ap (λ xs. xs ++ free_part) (before ∙ ap (λ j. old ++ flat_map fixed_part (range_with_len 0 j)) end)
        ∙ append_assoc old (flat_map fixed_part (range_with_len 0 most)) free_part ∙ ap (λ xs. old ++ xs) (sym (parts e))

    all_of_them : has_identity (tails i ts) ≡ false → length (cones_of_exponents (n - i) (tails i ts)) ≡ length (flat_map fixed_part (range_with_len 0 most)) + length free_part
    all_of_them e = sym (length-map (cones_of_exponents (n - i) (tails i ts)) (completed i n c)) ∙ ap length (parts e) ∙ length-append (flat_map fixed_part (range_with_len 0 most)) free_part

    -- too many with an exponent are too many
    pub too_far : has_identity (tails i ts) ≡ false → (old now : List Cone) (k : ℕ) → k < most → now ≡ old ++ flat_map fixed_part (range_with_len 0 k) → 4096 < length now + length (fixed_part k) → 4096 < length old + length (cones_of_exponents (n - i) (tails i ts))
    too_far e old now k h before far =
        omega (arith, all_of_them e, not_longer fixed_part k most h, far, ap length before ∙ length-append old (flat_map fixed_part (range_with_len 0 k)))

    -- and so are too many that are free
    pub too_far_free : has_identity (tails i ts) ≡ false → (old now : List Cone) (k : ℕ) → k ≡ most → now ≡ old ++ flat_map fixed_part (range_with_len 0 k) → 4096 < length now + length free_part → 4096 < length old + length (cones_of_exponents (n - i) (tails i ts))
    too_far_free e old now k end before far =
        omega (arith, all_of_them e, far, ap length (before ∙ ap (λ j. old ++ flat_map fixed_part (range_with_len 0 j)) end) ∙ length-append old (flat_map fixed_part (range_with_len 0 most)))

-- ---- the cones of a dependent
-- the cone that no direction has been put into
abbrev pub none_put : ℕ → Cone
none_put u = record { dependent = u; operator = record { counts = replicate 4 0 }; free = replicate 4 false }

pub cones_begun : (n u : ℕ) (ss : List (List ℕ)) → n ≤ 4 → map (completed 0 n (none_put u)) (cones_of_exponents (n - 0) ss) ≡ map (cone_of n u) (cones_of_exponents n ss)
cones_begun n u ss few =
    ap (λ j. map (completed 0 n (none_put u)) (cones_of_exponents j ss)) (let e : n - 0 ≡ n = omega arith in e)
    ∙ ap₂ (λ zs fs. map (λ ds. record { dependent = u; operator = record { counts = map (λ d. d.exponent) ds ++ zs }; free = map (λ d. d.is_free) ds ++ fs }) (cones_of_exponents n ss)) (left n 4 0 few) (left n 4 false few)
  where
    left : {A : Type 0} (n m : ℕ) (x : A) → n ≤ m → drop n (replicate m x) ≡ replicate (m - n) x
    left zero m x h = ap (λ j. replicate j x) (let e : m ≡ m - 0 = omega arith in e)
    left (suc n) zero x h = absurd (omega arith)
    left (suc n) (suc m) x h = left n m x (omega arith) ∙ ap (λ j. replicate j x) (let e : m - n ≡ suc m - suc n = omega arith in e)
