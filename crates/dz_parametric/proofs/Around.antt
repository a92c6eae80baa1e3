-- Exponents lie in one cone where no operator divides them, and else in none.
use Rattle.std.specs.List.{count_by, flat_map, list_all, list_any, range_with_len}
use Rattle.std.specs.Prelude.{nat_le, ◌==◌, ◌&&◌, ◌||◌, replicate}
use Rattle.std.proofs.Common.{◌≡◌, ◌⊎◌, inl, inr, ◌<◌, ◌≤◌, ◌+◌, ◌∙◌, ℕ, zero, suc, Bool, true, false, cond, List, [], ◌∷◌, ◌++◌, map, drop, refl, sym, ap, ap₂, arith, eqb-true, leb-true}
use Rattle.std.proofs.lemmas.Bool.{eq-eqb, le-leb, ne_eqb}
use Rattle.std.proofs.Math.Dec.{leb-zero}
use Rattle.std.proofs.lemmas.List.Sums.{sum_by-append, sum_by-cons}
use Rattle.dz_diff.specs.Operators.{divides}
use Rattle.dz_monomials.specs.Lists.{AllOf}
use Rattle.dz_parametric.specs.Cones.{Direction, at_most, begun_by, cones_of_exponents, first_of, greatest_first, has_identity, rest_of, takes}
use Rattle.dz_parametric.proofs.Splits.{identity_none, next_exponent}

-- each direction takes its exponent
abbrev pub taken : List Direction → List ℕ → Bool
taken [] ts = true
taken (d ∷ ds) ts = takes d.is_free d.exponent (first_of ts) && taken ds (rest_of ts)

-- how many cones take exponents
abbrev pub around : List ℕ → List (List Direction) → ℕ
around ts cones = count_by (λ ds. taken ds ts) cones

-- one where a test fails, and else none
abbrev pub one_unless : Bool → ℕ
one_unless b = cond b 0 1

-- ---- counts
count-append : {A : Type 0} (p : A → Bool) (xs ys : List A) → count_by p (xs ++ ys) ≡ count_by p xs + count_by p ys
count-append p xs ys = sum_by-append (λ x. cond (p x) 1 0) xs ys

count-cons : {A : Type 0} (p : A → Bool) (x : A) (xs : List A) → count_by p (x ∷ xs) ≡ cond (p x) 1 0 + count_by p xs
count-cons p x xs = sum_by-cons (λ x. cond (p x) 1 0) x xs

begun_count : (ts : List ℕ) (k : ℕ) (free : Bool) (cs : List (List Direction)) → around ts (begun_by k free cs) ≡ cond (takes free k (first_of ts)) (around (rest_of ts) cs) 0
begun_count ts k free cs = by (takes free k (first_of ts)) refl cs
  where
    by : (b : Bool) → takes free k (first_of ts) ≡ b → (cs : List (List Direction)) → around ts (begun_by k free cs) ≡ cond b (around (rest_of ts) cs) 0
    by true e [] = refl
    by false e [] = refl
    by true e (ds ∷ cs) =
        count-cons (λ ds. taken ds ts) (record { exponent = k; is_free = free } ∷ ds) (begun_by k free cs)
        ∙ ap₂ (λ (b : Bool) (j : ℕ). cond (b && taken ds (rest_of ts)) 1 0 + j) e (by true e cs) ∙ sym (count-cons (λ ds. taken ds (rest_of ts)) ds cs)
    by false e (ds ∷ cs) =
        count-cons (λ ds. taken ds ts) (record { exponent = k; is_free = free } ∷ ds) (begun_by k free cs)
        ∙ ap₂ (λ (b : Bool) (j : ℕ). cond (b && taken ds (rest_of ts)) 1 0 + j) e (by false e cs)

-- of lists of which at most one counts
module _ {A : Type 0} (p : A → Bool) (f : ℕ → List A) (t : ℕ) (apart : (k : ℕ) → (k ≡ t → ⊥) → count_by p (f k) ≡ 0) where
  pub none_counts : (a m : ℕ) → ((k : ℕ) → a ≤ k → k < a + m → k ≡ t → ⊥) → count_by p (flat_map f (range_with_len a m)) ≡ 0
  none_counts a zero out = refl
  none_counts a (suc m) out =
      count-append p (f a) (flat_map f (range_with_len (a + 1) m))
      ∙ ap₂ (λ i j. i + j) (apart a (out a (omega arith) (omega arith))) (none_counts (a + 1) m (λ k g h. out k (omega arith) (omega arith)))

  pub one_counts : (a m : ℕ) → a ≤ t → t < a + m → count_by p (flat_map f (range_with_len a m)) ≡ count_by p (f t)
  one_counts a zero g h = absurd (omega arith)
  one_counts a (suc m) g h = by_first (split a t g) (λ l. one_counts (a + 1) m (omega (arith, l)) (omega (arith, h)))
    where
      split : (a t : ℕ) → a ≤ t → (a ≡ t) ⊎ (a < t)
      split zero zero g = inl refl
      split zero (suc t) g = inr (omega arith)
      split (suc a) zero g = absurd (omega arith)
      split (suc a) (suc t) g = elim (split a t (omega arith)) [ inl e ↦ inl (ap suc e) | inr l ↦ inr (omega arith) ]

      by_first : (a ≡ t) ⊎ (a < t) → (a < t → count_by p (flat_map f (range_with_len (a + 1) m)) ≡ count_by p (f t)) → count_by p (flat_map f (range_with_len a (suc m))) ≡ count_by p (f t)
      by_first (inl e) later =
          count-append p (f a) (flat_map f (range_with_len (a + 1) m))
          ∙ ap₂ (λ i j. i + j) (ap (λ k. count_by p (f k)) e) (none_counts (a + 1) m (λ k x y f. let z : k ≡ a = f ∙ sym e in omega (arith, x, z)))
          ∙ (let z : count_by p (f t) + 0 ≡ count_by p (f t) = omega arith in z)
      by_first (inr l) later =
          count-append p (f a) (flat_map f (range_with_len (a + 1) m))
          ∙ ap₂ (λ i j. i + j) (apart a (λ e. omega (arith, l, e))) (later l)
          ∙ (let z : 0 + count_by p (f t) ≡ count_by p (f t) = omega arith in z)

-- ---- division
eq_zero-le : (k : ℕ) → (k == 0) ≡ nat_le k 0
eq_zero-le k = by (k == 0) (nat_le k 0) refl refl
  where
    by : (a b : Bool) → (k == 0) ≡ a → nat_le k 0 ≡ b → a ≡ b
    by true true e f = refl
    by false false e f = refl
    by true false e f = absurd (let z = eqb-true k 0 e in let g = le-leb k 0 (omega arith) in let h : true ≡ false = sym g ∙ f in cc)
    by false true e f = absurd (let z = leb-true k 0 f in let g = eq-eqb k 0 (omega arith) in let h : true ≡ false = sym g ∙ e in cc)

divides_parts : (s ts : List ℕ) → divides s ts ≡ nat_le (first_of s) (first_of ts) && divides (rest_of s) (rest_of ts)
divides_parts [] [] = refl
divides_parts [] (t ∷ ts) = ap (λ (b : Bool). b && true) (sym (leb-zero t))
divides_parts (k ∷ s) [] = ap (λ (b : Bool). b && divides s []) (eq_zero-le k)
divides_parts (k ∷ s) (t ∷ ts) = refl

zeros_divide : (s ts : List ℕ) → list_all (λ k. k == 0) s ≡ true → divides s ts ≡ true
zeros_divide [] ts e = refl
zeros_divide (k ∷ s) ts e =
    divides_parts (k ∷ s) ts
    ∙ ap₂ (λ (a b : Bool). a && b) (le-leb k (first_of ts) (let z = eqb-true k 0 (both_left (k == 0) (list_all (λ k. k == 0) s) e) in omega arith)) (zeros_divide s (rest_of ts) (both_right (k == 0) (list_all (λ k. k == 0) s) e))
  where
    both_left : (a b : Bool) → (a && b) ≡ true → a ≡ true
    both_left true b e = refl
    both_left false b e = e

    both_right : (a b : Bool) → (a && b) ≡ true → b ≡ true
    both_right true b e = e
    both_right false b e = absurd cc

-- one of the operators divides the exponents
abbrev pub some_divides : List ℕ → List (List ℕ) → Bool
some_divides ts ss = list_any (λ s. divides s ts) ss

-- a disjunction whose second part is true
pub or_right : (a b : Bool) → b ≡ true → (a || b) ≡ true
or_right true b e = refl
or_right false b e = e

identity_divides : (ts : List ℕ) (ss : List (List ℕ)) → has_identity ss ≡ true → some_divides ts ss ≡ true
identity_divides ts [] e = absurd cc
identity_divides ts (s ∷ ss) e = by (list_all (λ k. k == 0) s) refl e (identity_divides ts ss)
  where
    by : (b : Bool) → list_all (λ k. k == 0) s ≡ b → (b || has_identity ss) ≡ true → (has_identity ss ≡ true → some_divides ts ss ≡ true) → some_divides ts (s ∷ ss) ≡ true
    by true f h rest = ap (λ (b : Bool). b || some_divides ts ss) (zeros_divide s ts f)
    by false f h rest = or_right (divides s ts) (some_divides ts ss) (rest h)

-- of those that an exponent reaches
reached_divides : (ts : List ℕ) (ss : List (List ℕ)) → some_divides (rest_of ts) (map rest_of (at_most (first_of ts) ss)) ≡ some_divides ts ss
reached_divides ts [] = refl
reached_divides ts (s ∷ ss) = by (nat_le (first_of s) (first_of ts)) refl (reached_divides ts ss)
  where
    by : (b : Bool) → nat_le (first_of s) (first_of ts) ≡ b → some_divides (rest_of ts) (map rest_of (at_most (first_of ts) ss)) ≡ some_divides ts ss → some_divides (rest_of ts) (map rest_of (cond b (s ∷ at_most (first_of ts) ss) (at_most (first_of ts) ss))) ≡ some_divides ts (s ∷ ss)
    by true e h = ap₂ (λ (a b : Bool). a || b) (sym (divides_parts s ts ∙ ap (λ b. b && divides (rest_of s) (rest_of ts)) e)) h
    by false e h = h ∙ ap (λ (a : Bool). a || some_divides ts ss) (sym (divides_parts s ts ∙ ap (λ b. b && divides (rest_of s) (rest_of ts)) e))

-- of all, where the exponent reaches the greatest
le-false : (a b : ℕ) → b < a → nat_le a b ≡ false
le-false a b h = by (nat_le a b) refl
  where
    by : (c : Bool) → nat_le a b ≡ c → c ≡ false
    by false e = refl
    by true e = absurd (let l = leb-true a b e in omega arith)

rest_divides : (ts : List ℕ) (ss : List (List ℕ)) → greatest_first ss ≤ first_of ts → some_divides (rest_of ts) (map rest_of ss) ≡ some_divides ts ss
rest_divides ts [] h = refl
rest_divides ts (s ∷ ss) h =
    ap₂ (λ (a b : Bool). a || b) (sym (divides_parts s ts ∙ ap (λ b. b && divides (rest_of s) (rest_of ts)) (le-leb (first_of s) (first_of ts) (omega arith)))) (rest_divides ts ss (omega arith))

-- ---- the exponents of operators are zero behind the directions
abbrev pub AreZeroFrom : ℕ → List (List ℕ) → Type 0
AreZeroFrom n ss = AllOf (λ s. list_all (λ k. k == 0) (drop n s) ≡ true) ss

rest_zero : (n : ℕ) (ss : List (List ℕ)) → AreZeroFrom (suc n) ss → AreZeroFrom n (map rest_of ss)
rest_zero n [] z = tt
rest_zero n (s ∷ ss) z = (one s z.0, rest_zero n ss z.1)
  where
    one : (s : List ℕ) → list_all (λ k. k == 0) (drop (suc n) s) ≡ true → list_all (λ k. k == 0) (drop n (rest_of s)) ≡ true
    one [] e = none n
      where
        none : (n : ℕ) → list_all (λ k. k == 0) (drop n (rest_of [])) ≡ true
        none zero = refl
        none (suc n) = refl
    one (k ∷ s) e = e

reached_zero : (n k : ℕ) (ss : List (List ℕ)) → AreZeroFrom n ss → AreZeroFrom n (at_most k ss)
reached_zero n k [] z = tt
reached_zero n k (s ∷ ss) z = by (nat_le (first_of s) k) (reached_zero n k ss z.1)
  where
    by : (b : Bool) → AreZeroFrom n (at_most k ss) → AreZeroFrom n (cond b (s ∷ at_most k ss) (at_most k ss))
    by true h = (z.0, h)
    by false h = h

-- ---- the law for exponents
free_takes : (n : ℕ) (ts : List ℕ) → taken (replicate n (record { exponent = 0; is_free = true })) ts ≡ true
free_takes zero ts = refl
free_takes (suc n) ts = ap₂ (λ (a b : Bool). a && b) (leb-zero (first_of ts)) (free_takes n (rest_of ts))

-- one direction more
module _ (n : ℕ) (rest : (ts : List ℕ) (ss : List (List ℕ)) → AreZeroFrom n ss → around ts (cones_of_exponents n ss) ≡ one_unless (some_divides ts ss)) (ts : List ℕ) (ss : List (List ℕ)) (z : AreZeroFrom (suc n) ss) where
  abbrev t : ℕ
  t = first_of ts

  abbrev m : ℕ
  m = greatest_first ss

  abbrev fixed : ℕ → List (List Direction)
  fixed k = begun_by k false (cones_of_exponents n (map rest_of (at_most k ss)))

  abbrev free : List (List Direction)
  free = begun_by m true (cones_of_exponents n (map rest_of ss))

  none_apart : (k : ℕ) → (k ≡ t → ⊥) → around ts (fixed k) ≡ 0
  none_apart k h = begun_count ts k false (cones_of_exponents n (map rest_of (at_most k ss))) ∙ ap (λ b. cond b (around (rest_of ts) (cones_of_exponents n (map rest_of (at_most k ss)))) 0) (ne_eqb k t h)

  at_fixed : around ts (fixed t) ≡ one_unless (some_divides ts ss)
  at_fixed =
      begun_count ts t false (cones_of_exponents n (map rest_of (at_most t ss)))
      ∙ ap (λ b. cond b (around (rest_of ts) (cones_of_exponents n (map rest_of (at_most t ss)))) 0) (eq-eqb t t refl)
      ∙ rest (rest_of ts) (map rest_of (at_most t ss)) (rest_zero n (at_most t ss) (reached_zero (suc n) t ss z))
      ∙ ap one_unless (reached_divides ts ss)

  by_size : (t < m) ⊎ (m ≤ t) → around ts (flat_map fixed (range_with_len 0 m)) + around ts free ≡ one_unless (some_divides ts ss)
  by_size (inl h) =
      ap₂ (λ i j. i + j) (one_counts (λ ds. taken ds ts) fixed t none_apart 0 m (omega arith) (omega arith) ∙ at_fixed)
      (begun_count ts m true (cones_of_exponents n (map rest_of ss)) ∙ ap (λ b. cond b (around (rest_of ts) (cones_of_exponents n (map rest_of ss))) 0) (le-false m t h))
      ∙ (let e : one_unless (some_divides ts ss) + 0 ≡ one_unless (some_divides ts ss) = omega arith in e)
  by_size (inr h) =
      ap₂ (λ i j. i + j) (none_counts (λ ds. taken ds ts) fixed t none_apart 0 m (λ k g l e. omega arith))
      (begun_count ts m true (cones_of_exponents n (map rest_of ss)) ∙ ap (λ b. cond b (around (rest_of ts) (cones_of_exponents n (map rest_of ss))) 0) (le-leb m t h) ∙ rest (rest_of ts) (map rest_of ss) (rest_zero n ss z) ∙ ap one_unless (rest_divides ts ss h))
      ∙ (let e : 0 + one_unless (some_divides ts ss) ≡ one_unless (some_divides ts ss) = omega arith in e)

  by_identity : (b : Bool) → has_identity ss ≡ b → around ts (cones_of_exponents (suc n) ss) ≡ one_unless (some_divides ts ss)
  by_identity true e = ap (around ts) (identity_none n ss e) ∙ ap one_unless (sym (identity_divides ts ss e))
  by_identity false e = ap (around ts) (next_exponent n ss e) ∙ count-append (λ ds. taken ds ts) (flat_map fixed (range_with_len 0 m)) free ∙ by_size (split t m)
    where
      split : (a b : ℕ) → (a < b) ⊎ (b ≤ a)
      split a zero = inr (omega arith)
      split zero (suc b) = inl (omega arith)
      split (suc a) (suc b) = elim (split a b) [ inl l ↦ inl (omega arith) | inr l ↦ inr (omega arith) ]

-- one cone takes exponents that no operator divides, and else none does
pub divided : (n : ℕ) (ts : List ℕ) (ss : List (List ℕ)) → AreZeroFrom n ss → around ts (cones_of_exponents n ss) ≡ one_unless (some_divides ts ss)
unfolding cones_of_exponents
divided zero ts [] z = refl
divided zero ts (s ∷ ss) z = ap one_unless (sym (ap (λ (b : Bool). b || some_divides ts ss) (zeros_divide s ts z.0)))
divided (suc n) ts ss z = by_identity n (divided n) ts ss z (has_identity ss) refl
