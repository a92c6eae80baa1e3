-- Lists that are passed through once.
use Rattle.std.specs.Prelude.{slice_index_or}
use Rattle.std.proofs.Common.{◌≡◌, ◌<◌, ◌≤◌, ◌+◌, ◌-◌, ◌∙◌, ◌++◌, ℕ, zero, suc, List, [], ◌∷◌, length, drop, take, refl, sym, ap, ap₂, arith}
use Rattle.std.proofs.lemmas.Option.{get_or_from_slice_get, slice_get_read}
use Rattle.std.proofs.Math.Seq.{drop-cons, take-suc}

-- what is left at a position begins with what stands there
pub dropped : {A : Type 0} (xs : List A) (i : ℕ) (x : A) → i < length xs → x ≡ slice_index_or xs i x → drop i xs ≡ x ∷ drop (i + 1) xs
dropped {A} xs i x h e =
    let k : suc i ≡ i + 1 = omega arith in
    drop-cons xs i x h ∙ ap₂ (λ (a : A) (n : ℕ). a ∷ drop n xs) (get_or_from_slice_get xs i x x (slice_get_read xs (length xs) i x refl h e)) k

-- and what is passed ends with it
pub taken_more : {A : Type 0} (xs : List A) (i : ℕ) (x : A) → i < length xs → x ≡ slice_index_or xs i x → take (i + 1) xs ≡ take i xs ++ x ∷ []
taken_more {A} xs i x h e =
    let k : i + 1 ≡ suc i = omega arith in
    ap (λ n. take n xs) k ∙ take-suc xs i x h ∙ ap (λ (a : A). take i xs ++ a ∷ []) (get_or_from_slice_get xs i x x (slice_get_read xs (length xs) i x refl h e))

-- all that is left at a position is what is left
pub take_rest : {A : Type 0} (xs : List A) (i : ℕ) → take (length xs - i) (drop i xs) ≡ drop i xs
take_rest [] zero = refl
take_rest {A} [] (suc i) = let k : length {A = A} [] - suc i ≡ 0 = omega arith in ap (λ n. take {A = A} n []) k
take_rest (x ∷ xs) zero = all_of (x ∷ xs)
  where
    all_of : {A : Type 0} (xs : List A) → take (length xs - 0) xs ≡ xs
    all_of [] = refl
    all_of (x ∷ xs) = let k : length (x ∷ xs) - 0 ≡ suc (length xs) = omega arith in let j : length xs - 0 ≡ length xs = omega arith in ap (λ n. take n (x ∷ xs)) k ∙ ap (λ l. x ∷ l) (ap (λ n. take n xs) (sym j) ∙ all_of xs)
take_rest (x ∷ xs) (suc i) = let k : length (x ∷ xs) - suc i ≡ length xs - i = omega arith in ap (λ n. take n (drop i xs)) k ∙ take_rest xs i

-- past the end nothing is left
pub all_dropped : {A : Type 0} (xs : List A) (i : ℕ) → length xs ≤ i → drop i xs ≡ []
all_dropped [] zero h = refl
all_dropped [] (suc i) h = refl
all_dropped (x ∷ xs) zero h = absurd (omega (arith, h))
all_dropped (x ∷ xs) (suc i) h = all_dropped xs i (omega (arith, h))
