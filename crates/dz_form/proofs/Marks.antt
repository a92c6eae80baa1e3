-- Texts with marks between them, written one after the other.
use Rattle.std.proofs.Common.{◌≡◌, ◌<◌, ◌≤◌, ◌∙◌, sym, ap, refl, subst, ℕ, zero, suc, ◌+◌, ◌==◌, ◌&&◌, Bool, true, false, cond, List, [], ◌∷◌, ◌++◌, length, take, drop, map, append_assoc, append-nil, arith, codes}
use Rattle.std.specs.Prelude.{slice_get, Some, slice_index_or, sum}
use Rattle.std.specs.List.{fold, list_all}
use Rattle.std.proofs.lemmas.Bool.Decides.{nat_tests}
use Rattle.std.proofs.lemmas.List.{drop_all, map-append, take_all}
use Rattle.dz_algebra.specs.Polynomial.{Polynomial, PolynomialIn}
use Rattle.dz_poly.specs.Books.{term_at}
use Rattle.dz_algebra.specs.Monomial.{Monomial, MonomialIn}
use Rattle.dz_rank.specs.declared.symbols.Symbol.{Symbol}
use Rattle.dz_form.specs.Texts.{copies, joined, repeated}
use Rattle.dz_form.specs.Writing.{marked}

-- whether a text is still the first behind others
abbrev pub still : Bool → List (List ℕ) → Bool
still first [] = first
still first (text ∷ texts) = false

-- texts behind others
pub marked-append : (mark : List ℕ) (first : Bool) (xs ys : List (List ℕ)) → marked mark first (xs ++ ys) ≡ marked mark first xs ++ marked mark (still first xs) ys
marked-append mark first [] ys = refl
marked-append mark first (x ∷ xs) ys =
    ap (λ (t : List ℕ). cond first [] mark ++ x ++ t) (marked-append mark false xs ys ∙ ap (λ (b : Bool). marked mark false xs ++ marked mark b ys) (still_false xs))
    ∙ sym (append_assoc (cond first [] mark ++ x) (marked mark false xs) (marked mark false ys))
  where
    still_false : (zs : List (List ℕ)) → still false zs ≡ false
    still_false [] = refl
    still_false (z ∷ zs) = refl

-- texts from the first on are joined by the mark
pub marked_joined : (mark : List ℕ) (xs : List (List ℕ)) → marked mark true xs ≡ joined mark xs
marked_joined mark [] = refl
marked_joined mark (x ∷ xs) = later x xs
  where
    later : (x : List ℕ) (xs : List (List ℕ)) → x ++ marked mark false xs ≡ joined mark (x ∷ xs)
    later x [] = append-nil x
    later x (y ∷ xs) =
        ap (λ (t : List ℕ). x ++ t) (append_assoc mark y (marked mark false xs) ∙ ap (λ (t : List ℕ). mark ++ t) (later y xs))
        ∙ sym (append_assoc x mark (joined mark (y ∷ xs)))

-- a name more, before or behind
copies_push : (name : List ℕ) (n : ℕ) → copies name (suc n) [] ≡ copies name n [] ++ name ∷ []
copies_push name zero = refl
copies_push name (suc n) = ap (λ (t : List (List ℕ)). name ∷ t) (copies_push name n)

-- a number behind another is not zero
not_zero : (n : ℕ) → (suc n == 0) ≡ false
not_zero n = grind (arith, nat_tests)

still_copies : (first : Bool) (name : List ℕ) (n : ℕ) → still first (copies name n []) ≡ (first && n == 0)
still_copies true name zero = refl
still_copies false name zero = refl
still_copies true name (suc n) = sym (not_zero n)
still_copies false name (suc n) = refl

-- a name more behind others
pub copies_more : (name old now new : List ℕ) (first : Bool) (n : ℕ) → now ≡ old ++ marked (codes ",") first (copies name n []) → new ≡ now ++ cond (first && n == 0) [] (codes ",") ++ name
    → new ≡ old ++ marked (codes ",") first (copies name (n + 1) [])
copies_more name old now new first n before is =
    let next : n + 1 ≡ suc n = omega arith in
    is ∙ append_assoc now (cond (first && n == 0) [] (codes ",")) name ∙ ap (λ (t : List ℕ). t ++ (cond (first && n == 0) [] (codes ",") ++ name)) before ∙ append_assoc old _ _
    ∙ ap (λ (t : List ℕ). old ++ t) (ap (λ (b : Bool). marked (codes ",") first (copies name n []) ++ (cond b [] (codes ",") ++ name)) (sym (still_copies first name n))
    ∙ ap (λ (t : List ℕ). marked (codes ",") first (copies name n []) ++ t) (sym (append-nil _))
    ∙ sym (marked-append (codes ",") first (copies name n []) (name ∷ []))
    ∙ ap (marked (codes ",") first) (sym (copies_push name n)) ∙ ap (λ k. marked (codes ",") first (copies name k [])) (sym next))

copies-append : (name : List ℕ) (n : ℕ) (rest : List (List ℕ)) → copies name n rest ≡ copies name n [] ++ rest
copies-append name zero rest = refl
copies-append name (suc n) rest = ap (λ (t : List (List ℕ)). name ∷ t) (copies-append name n rest)

-- ---- the independents of an operator
-- the names from an independent on, each as often as its exponent says, in order
pub repeated_more : (names : List (List ℕ)) (counts : List ℕ) (i : ℕ) (name : List ℕ) (count : ℕ) → slice_get names i ≡ Some name → i < length counts → count ≡ slice_index_or counts i 0
    → repeated (drop i names) (drop i counts) ≡ copies name count [] ++ repeated (drop (i + 1) names) (drop (i + 1) counts)
repeated_more [] counts i name count e inside same = absurd cc
repeated_more (n ∷ names) [] i name count e inside same = absurd (omega arith)
repeated_more (n ∷ names) (c ∷ counts) zero name count e inside same =
    let is : n ≡ name = cc in
    ap (λ m. copies m c (repeated names counts)) is ∙ ap (λ k. copies name k (repeated names counts)) (sym same) ∙ copies-append name count (repeated names counts)
repeated_more (n ∷ names) (c ∷ counts) (suc i) name count e inside same =
    let step : suc i + 1 ≡ suc (i + 1) = omega arith in
    repeated_more names counts i name count e (omega arith) same ∙ ap (λ k. copies name count [] ++ repeated (drop k (n ∷ names)) (drop k (c ∷ counts))) (sym step)

-- something was written
pub no_longer : (first : Bool) (n : ℕ) → false ≡ (first && n + 1 == 0)
no_longer true n = let e : n + 1 ≡ suc n = omega arith in sym (ap (λ k. k == 0) e ∙ not_zero n)
no_longer false n = refl

-- a sum that begins with a number
fold_from : (k : ℕ) (counts : List ℕ) → fold (λ s x. s + x) k counts ≡ k + fold (λ s x. s + x) 0 counts
fold_from k [] = omega arith
fold_from k (n ∷ counts) = fold_from (k + n) counts ∙ regroup k n (fold (λ s x. s + x) 0 counts) ∙ ap (λ x. k + x) (sym (fold_from (0 + n) counts))
  where
    regroup : (k n x : ℕ) → k + n + x ≡ k + (0 + n + x)
    regroup k n x = omega arith

sum_from : (n : ℕ) (counts : List ℕ) → sum (suc n ∷ counts) ≡ suc (n + sum counts)
sum_from n counts = fold_from (0 + suc n) counts ∙ regroup n (sum counts)
  where
    regroup : (n x : ℕ) → 0 + suc n + x ≡ suc (n + x)
    regroup n x = omega arith

-- no exponent is greater than zero
pub all_zero : (counts : List ℕ) → list_all (λ count. count == 0) counts ≡ (sum counts == 0)
all_zero [] = refl
all_zero (zero ∷ counts) = all_zero counts
all_zero (suc n ∷ counts) =
    let e : sum (suc n ∷ counts) ≡ suc (n + sum counts) = sum_from n counts in
    ap (λ b. b && list_all (λ count. count == 0) counts) (not_zero n) ∙ sym (ap (λ k. k == 0) e ∙ not_zero (n + sum counts))

-- the name of an independent
pub get_taken : (names : List (List ℕ)) (n i : ℕ) (name : List ℕ) → i < n → Some name ≡ slice_get names i → slice_get (take n names) i ≡ Some name
get_taken names zero i name below e = absurd (omega arith)
get_taken [] (suc n) i name below e = absurd cc
get_taken (x ∷ names) (suc n) zero name below e = sym e
get_taken (x ∷ names) (suc n) (suc i) name below e = get_taken names n i name (omega arith) e

-- the independents of an operator, one more
pub derivations_more : (now new : List ℕ) (first next : Bool) (names : List (List ℕ)) (counts : List ℕ) (i : ℕ) (name : List ℕ) (count : ℕ) (total : List ℕ)
    → slice_get names i ≡ Some name → i < length counts → count ≡ slice_index_or counts i 0 → new ≡ now ++ marked (codes ",") first (copies name count []) → next ≡ (first && count == 0)
    → now ++ marked (codes ",") first (repeated (drop i names) (drop i counts)) ≡ total → new ++ marked (codes ",") next (repeated (drop (i + 1) names) (drop (i + 1) counts)) ≡ total
derivations_more now new first next names counts i name count total e inside same is still_is whole =
    let rest = repeated (drop (i + 1) names) (drop (i + 1) counts) in
    let named = copies name count [] in
    ap (λ (t : List ℕ). t ++ marked (codes ",") next rest) is ∙ append_assoc now (marked (codes ",") first named) (marked (codes ",") next rest)
    ∙ ap (λ (t : List ℕ). now ++ t) (ap (λ (b : Bool). marked (codes ",") first named ++ marked (codes ",") b rest) (still_is ∙ sym (still_copies first name count)) ∙ sym (marked-append (codes ",") first named rest)
    ∙ ap (marked (codes ",") first) (sym (repeated_more names counts i name count e inside same)))
    ∙ whole

-- no independent is left
pub derivations_done : (into old : List ℕ) (first : Bool) (names : List (List ℕ)) (counts : List ℕ) (n i : ℕ) → n ≤ i
    → into ++ marked (codes ",") first (repeated (drop i (take n names)) (drop i counts)) ≡ old ++ marked (codes ",") true (repeated (take n names) counts) → into ≡ old ++ joined (codes ",") (repeated (take n names) counts)
derivations_done into old first names counts n i past whole =
    let none : drop i (take n names) ≡ [] = drop_all i (take n names) (shorter n names) in
    sym (append-nil into) ∙ sym (ap (λ (ns : List (List ℕ)). into ++ marked (codes ",") first (repeated ns (drop i counts))) none) ∙ whole ∙ ap (λ (t : List ℕ). old ++ t) (marked_joined (codes ",") (repeated (take n names) counts))
  where
    taken : (k : ℕ) (ns : List (List ℕ)) → length (take k ns) ≤ k
    taken zero ns = omega arith
    taken (suc k) [] = omega arith
    taken (suc k) (x ∷ ns) = let h = taken k ns in omega arith

    shorter : (k : ℕ) (ns : List (List ℕ)) → length (take n names) ≤ i
    shorter k ns = let h = taken n names in omega arith

-- ---- the powers of a term
-- one power more
pub powers_more : (text : (Symbol × ℕ) → List ℕ) (old now new : List ℕ) (m : Monomial Symbol) (j : ℕ) (p : Symbol × ℕ) → slice_get m j ≡ Some p → now ≡ old ++ marked (codes "*") true (map text (take j m))
    → new ≡ now ++ cond (j == 0) [] (codes "*") ++ text p → new ≡ old ++ marked (codes "*") true (map text (take (j + 1) m))
powers_more text old now new m j p e before is =
    let written = marked (codes "*") true (map text (take j m)) in
    is ∙ append_assoc now (cond (j == 0) [] (codes "*")) (text p) ∙ ap (λ (t : List ℕ). t ++ (cond (j == 0) [] (codes "*") ++ text p)) before ∙ append_assoc old written (cond (j == 0) [] (codes "*") ++ text p)
    ∙ ap (λ (t : List ℕ). old ++ t) (ap (λ (b : Bool). written ++ (cond b [] (codes "*") ++ text p)) (sym (still_taken m j p e)) ∙ ap (λ (t : List ℕ). written ++ t) (sym (append-nil _))
    ∙ sym (marked-append (codes "*") true (map text (take j m)) (text p ∷ [])) ∙ ap (marked (codes "*") true) (sym (map-append text (take j m) (p ∷ [])) ∙ ap (map text) (sym (take_next m j p e))))
  where
    still_taken : (ps : Monomial Symbol) (k : ℕ) (q : Symbol × ℕ) → slice_get ps k ≡ Some q → still true (map text (take k ps)) ≡ (k == 0)
    still_taken ps zero q f = refl
    still_taken [] (suc k) q f = absurd cc
    still_taken (x ∷ ps) (suc k) q f = sym (not_zero k)

    take_next : (ps : Monomial Symbol) (k : ℕ) (q : Symbol × ℕ) → slice_get ps k ≡ Some q → take (k + 1) ps ≡ take k ps ++ q ∷ []
    take_next [] k q f = absurd cc
    take_next (x ∷ ps) zero q f = let same : x ≡ q = cc in ap (λ y. y ∷ []) same
    take_next (x ∷ ps) (suc k) q f = let step : suc k + 1 ≡ suc (k + 1) = omega arith in ap (λ n. take n (x ∷ ps)) step ∙ ap (λ (ys : Monomial Symbol). x ∷ ys) (take_next ps k q f)

-- no power is left
pub powers_done : (text : (Symbol × ℕ) → List ℕ) (old now : List ℕ) (m : Monomial Symbol) (j : ℕ) → length m ≤ j → now ≡ old ++ marked (codes "*") true (map text (take j m)) → now ≡ old ++ joined (codes "*") (map text m)
powers_done text old now m j past before =
    before ∙ ap (λ (ps : Monomial Symbol). old ++ marked (codes "*") true (map text ps)) (take_all j m past) ∙ ap (λ (t : List ℕ). old ++ t) (marked_joined (codes "*") (map text m))

-- a symbol in a term of a polynomial has what all its symbols have
pub symbol_of_term : (P : Symbol → Type 0) (p : Polynomial Symbol) (k j : ℕ) (q : Symbol × ℕ) → PolynomialIn P p → k < length p → slice_get (term_at p k).0 j ≡ Some q → P q.0
symbol_of_term P [] k j q h inside e = absurd (omega arith)
symbol_of_term P (t ∷ p) zero j q h inside e = of_monomial t.0 j h.0 e
  where
    of_monomial : (m : Monomial Symbol) (i : ℕ) → MonomialIn P m → slice_get m i ≡ Some q → P q.0
    of_monomial [] i g f = absurd cc
    of_monomial (x ∷ m) zero g f = let same : x ≡ q = cc in subst (λ y. P y.0) same g.0
    of_monomial (x ∷ m) (suc i) g f = of_monomial m i g.1 f
symbol_of_term P (t ∷ p) (suc k) j q h inside e = symbol_of_term P p k j q h.1 (omega arith) e
