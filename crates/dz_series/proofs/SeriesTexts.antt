-- The sums of series, written one term after the other.
use Rattle.std.specs.Prelude.{not, ◌&&◌, IsTrue, OnOk, Result, Ok, Err, is_ok, if◌then◌else◌}
use Rattle.std.specs.List.{flat_map, range_with_len}
use Rattle.std.proofs.Common.{◌≡◌, ◌<◌, ◌≤◌, ◌+◌, ◌==◌, ◌∙◌, ℕ, zero, suc, Bool, true, false, cond, All, List, [], ◌∷◌, ◌++◌, length, take, drop, map, codes, Some, slice_get, slice_index_or, sum, refl, sym, ap, ap₂, subst, arith, append_assoc, append-nil}
use Rattle.std.proofs.lemmas.Bool.Decides.{nat_tests}
use Rattle.std.proofs.lemmas.List.{drop_all, drop_more, length-take-le}
use Rattle.std.proofs.lemmas.List.Sums.{sum_by-cons}
use Rattle.dz_int.specs.Fractions.{Fraction}
use Rattle.dz_rank.specs.declared.rankings.Signature.{Signature}
use Rattle.dz_rank.specs.declared.symbols.Operator.{Operator}
use Rattle.dz_rank.specs.declared.symbols.Symbol.{Symbol}
use Rattle.dz_rank.specs.declared.symbols.Symbol.TheVariants.{Independent}
use Rattle.dz_rank.specs.Symbols.{IsOperatorOf, is_derivative}
use Rattle.dz_diff.specs.Operators.{is_proper}
use Rattle.dz_syntax.specs.Names.{Declared}
use Rattle.dz_form.specs.Texts.{joined, name_numbered}
use Rattle.dz_form.specs.Writing.{marked}
use Rattle.dz_form.proofs.Marks.{marked-append, marked_joined, still}
use Rattle.dz_jet.specs.Jets.{Values}
use Rattle.dz_series.specs.Series.{displacements, points_of, size_text, summand_text}
use Rattle.dz_jet.specs.Writable.{IsWritable}
use Rattle.dz_series.specs.Writing.{is_unit, power_text, powers, terms_text}

-- ---- the powers of displacements
-- a name that is found
pub got_index : {A : Type 0} (xs : List A) (i : ℕ) (x d : A) → Some x ≡ slice_get xs i → slice_index_or xs i d ≡ x
got_index [] i x d e = absurd cc
got_index (y ∷ xs) zero x d e = cc
got_index (y ∷ xs) (suc i) x d e = got_index xs i x d e

-- those from an independent on
displacements_more : (names : Declared) (points : Values) (counts : List ℕ) (i : ℕ) (name : List ℕ) (d : Symbol × Fraction) → i < length points → i < length counts → Some name ≡ slice_get names.all i
    → displacements names i (drop i points) (drop i counts) ≡ powers name (slice_index_or points i d).1 (slice_index_or counts i 0) ++ displacements names (i + 1) (drop (i + 1) points) (drop (i + 1) counts)
displacements_more names points counts i name d inside among e =
    let next : suc i ≡ i + 1 = omega arith in
    ap₂ (displacements names i) (drop_more points i d inside) (drop_more counts i 0 among)
    ∙ ap (λ (n : List ℕ). powers n (slice_index_or points i d).1 (slice_index_or counts i 0) ++ displacements names (suc i) (drop (i + 1) points) (drop (i + 1) counts)) (got_index names.all i name [] e)
    ∙ ap (λ j. powers name (slice_index_or points i d).1 (slice_index_or counts i 0) ++ displacements names j (drop (i + 1) points) (drop (i + 1) counts)) next

still_powers : (first b : Bool) (text : List ℕ) → still first (cond b [] (text ∷ [])) ≡ (first && b)
still_powers true true text = refl
still_powers true false text = refl
still_powers false true text = refl
still_powers false false text = refl

-- one more
pub powers_more : (now new total : List ℕ) (first next : Bool) (names : Declared) (points : Values) (counts : List ℕ) (i : ℕ) (name : List ℕ) (d : Symbol × Fraction) → i < length points → i < length counts → Some name ≡ slice_get names.all i
    → new ≡ now ++ marked (codes "*") first (powers name (slice_index_or points i d).1 (slice_index_or counts i 0)) → next ≡ (first && slice_index_or counts i 0 == 0)
    → now ++ marked (codes "*") first (displacements names i (drop i points) (drop i counts)) ≡ total
    → new ++ marked (codes "*") next (displacements names (i + 1) (drop (i + 1) points) (drop (i + 1) counts)) ≡ total
powers_more now new total first next names points counts i name d inside among e is still_is whole =
    let one = powers name (slice_index_or points i d).1 (slice_index_or counts i 0) in
    let rest = displacements names (i + 1) (drop (i + 1) points) (drop (i + 1) counts) in
    ap (λ (t : List ℕ). t ++ marked (codes "*") next rest) is ∙ append_assoc now (marked (codes "*") first one) (marked (codes "*") next rest)
    ∙ ap (λ (t : List ℕ). now ++ t) (ap (λ (b : Bool). marked (codes "*") first one ++ marked (codes "*") b rest) (still_is ∙ sym (still_powers first (slice_index_or counts i 0 == 0) _)) ∙ sym (marked-append (codes "*") first one rest)
    ∙ ap (marked (codes "*") first) (sym (displacements_more names points counts i name d inside among e)))
    ∙ whole

-- none is left
pub powers_done : (into old : List ℕ) (first : Bool) (names : Declared) (points : Values) (counts : List ℕ) (i : ℕ) → length points ≤ i
    → into ++ marked (codes "*") first (displacements names i (drop i points) (drop i counts)) ≡ old ++ marked (codes "*") true (displacements names 0 points counts)
    → into ≡ old ++ joined (codes "*") (displacements names 0 points counts)
powers_done into old first names points counts i past whole =
    sym (append-nil into) ∙ sym (ap (λ (ps : Values). into ++ marked (codes "*") first (displacements names i ps (drop i counts))) (drop_all i points past)) ∙ whole
    ∙ ap (λ (t : List ℕ). old ++ t) (marked_joined (codes "*") (displacements names 0 points counts))

-- ---- whether there is a power
not_zero : (n : ℕ) → (suc n == 0) ≡ false
not_zero n = grind (arith, nat_tests)

zeros_sum : (ks : List ℕ) → All (λ k. k ≡ 0) ks → sum ks ≡ 0
zeros_sum [] p = refl
zeros_sum (k ∷ ks) p =
    let first : k ≡ 0 = p 0 0 (omega arith) in
    let others : sum ks ≡ 0 = zeros_sum ks (λ i d h. p (suc i) d (omega arith)) in
    omega (arith, sum_by-cons (λ x. x) k ks)

no_powers : (names : Declared) (i : ℕ) (points : Values) (counts : List ℕ) → sum counts ≡ 0 → displacements names i points counts ≡ []
no_powers names i [] counts e = refl
no_powers names i (p ∷ points) [] e = refl
no_powers names i (p ∷ points) (zero ∷ counts) e = no_powers names (suc i) points counts (omega (arith, sum_by-cons (λ x. x) 0 counts))
no_powers names i (p ∷ points) (suc k ∷ counts) e = absurd (omega (arith, sum_by-cons (λ x. x) (suc k) counts))

record IsSome (texts : List (List ℕ)) : Type 0 where
  first : List ℕ
  others : List (List ℕ)
  is : texts ≡ first ∷ others

some_power : (names : Declared) (i : ℕ) (points : Values) (counts : List ℕ) → All (λ k. k ≡ 0) (drop (length points) counts) → 0 < sum counts → IsSome (displacements names i points counts)
some_power names i [] counts zeros more = absurd (omega (arith, zeros_sum counts zeros))
some_power names i (p ∷ points) [] zeros more = absurd (omega arith)
some_power names i (p ∷ points) (zero ∷ counts) zeros more = some_power names (suc i) points counts zeros (omega (arith, sum_by-cons (λ x. x) 0 counts))
some_power names i (p ∷ points) (suc k ∷ counts) zeros more = record {
  first = power_text (name_numbered names i) p.1 (suc k);
  others = displacements names (suc i) points counts;
  is = ap (λ b. cond b [] (power_text (name_numbered names i) p.1 (suc k) ∷ []) ++ displacements names (suc i) points counts) (not_zero k);
}

-- ---- summands
not_proper : (n : ℕ) → not (n == 0) ≡ false → n ≡ 0
not_proper zero e = refl
not_proper (suc n) e = let f = not_zero n in absurd cc

proper : (n : ℕ) → not (n == 0) ≡ true → 0 < n
proper zero e = absurd cc
proper (suc n) e = omega arith

-- a coefficient alone
pub lone_summand : (names : Declared) (points : Values) (t : Operator) (c : Fraction) → is_proper t ≡ false → summand_text c (displacements names 0 points t.counts) ≡ size_text c
lone_summand names points t c e = ap (summand_text c) (no_powers names 0 points t.counts (not_proper (sum t.counts) e))

-- a coefficient with powers
pub whole_summand : (names : Declared) (points : Values) (t : Operator) (c : Fraction) → length points ≡ names.independents → IsOperatorOf names.independents t → is_proper t ≡ true
    → summand_text c (displacements names 0 points t.counts) ≡ cond (is_unit c) [] (size_text c ++ codes "*") ++ joined (codes "*") (displacements names 0 points t.counts)
whole_summand names points t c size is e =
    let some = some_power names 0 points t.counts (subst (λ n. All (λ k. k ≡ 0) (drop n t.counts)) (sym size) is.zeros) (proper (sum t.counts) e) in
    ap (summand_text c) some.is ∙ ap (λ (texts : List (List ℕ)). cond (is_unit c) [] (size_text c ++ codes "*") ++ joined (codes "*") texts) (sym some.is)

-- ---- parts of a jet
-- no point stands among derivatives
filtered_none : (jet : Values) (ds : List Symbol) → map (λ p. p.0) jet ≡ ds → All (λ s. IsTrue (is_derivative s)) ds → points_of jet ≡ []
filtered_none [] ds e all = refl
filtered_none (p ∷ jet) [] e all = absurd cc
filtered_none (p ∷ jet) (s ∷ ds) e all =
    let is : p.0 ≡ s = cc in
    let rest : map (λ p. p.0) jet ≡ ds = cc in
    let yes : is_derivative s ≡ true = all 0 s (omega arith) in
    ap (λ b. cond (not b) (p ∷ points_of jet) (points_of jet)) (ap is_derivative is ∙ yes) ∙ filtered_none jet ds rest (λ i d h. all (suc i) d (omega arith))

-- those before them are the points
front_from : (k n : ℕ) (jet : Values) (ds : List Symbol) → map (λ p. p.0) jet ≡ map (λ i. Independent i) (range_with_len k n) ++ ds → All (λ s. IsTrue (is_derivative s)) ds → points_of jet ≡ take n jet
front_from k zero jet ds e all = filtered_none jet ds e all
front_from k (suc n) [] ds e all = absurd cc
front_from k (suc n) (p ∷ jet) ds e all =
    let is : p.0 ≡ Independent k = cc in
    let rest : map (λ p. p.0) jet ≡ map (λ i. Independent i) (range_with_len (k + 1) n) ++ ds = cc in
    ap (λ s. cond (not (is_derivative s)) (p ∷ points_of jet) (points_of jet)) is ∙ ap (λ (ps : Values). p ∷ ps) (front_from (k + 1) n jet ds rest all)

-- and there are so many
many_from : (k n : ℕ) (jet : Values) (ds : List Symbol) → map (λ p. p.0) jet ≡ map (λ i. Independent i) (range_with_len k n) ++ ds → n ≤ length jet
many_from k zero jet ds e = omega arith
many_from k (suc n) [] ds e = absurd cc
many_from k (suc n) (p ∷ jet) ds e =
    let rest : map (λ p. p.0) jet ≡ map (λ i. Independent i) (range_with_len (k + 1) n) ++ ds = cc in
    let h = many_from (k + 1) n jet ds rest in omega arith

-- the points stand in front
pub points_front : (g : Signature) (jet : Values) → IsWritable g jet → points_of jet ≡ take g.independents jet
points_front g jet w = front_from 0 g.independents jet w.derivatives w.symbols_are w.proper

points_many : (g : Signature) (jet : Values) → IsWritable g jet → g.independents ≤ length jet
points_many g jet w = many_from 0 g.independents jet w.derivatives w.symbols_are

-- ---- sums
-- one term more
pub sum_step : (f : Symbol × Fraction → List (Fraction × List (List ℕ))) (jet : Values) (k : ℕ) (d : Symbol × Fraction) (now new total : List ℕ) (first next : Bool) → k < length jet
    → ((ts : List (Fraction × List (List ℕ))) → new ++ terms_text next ts ≡ now ++ terms_text first (f (slice_index_or jet k d) ++ ts)) → now ++ terms_text first (flat_map f (drop k jet)) ≡ total
    → new ++ terms_text next (flat_map f (drop (k + 1) jet)) ≡ total
sum_step f jet k d now new total first next inside is whole = is (flat_map f (drop (k + 1) jet)) ∙ ap (λ (ps : Values). now ++ terms_text first (flat_map f ps)) (sym (drop_more jet k d inside)) ∙ whole

-- there is a point for each independent
pub points_length : (g : Signature) (jet : Values) → IsWritable g jet → length (take g.independents jet) ≡ g.independents
points_length g jet w = length-take-le g.independents jet (points_many g jet w)

-- ---- bytes
-- what is appended last
pub appended : {A E : Type 0} (r : Result A E) (new now text total : List ℕ) → new ≡ (if is_ok r then now ++ text else now) → now ++ text ≡ total → OnOk r (new ≡ total)
appended (Ok x) new now text total is e = is ∙ e
appended (Err x) new now text total is e = tt
