-- Texts that are compared one by one, and the first chain in which they differ.
use Rattle.std.proofs.Common.{◌≡◌, ℕ, zero, suc, ◌<◌, ◌≤◌, Bool, true, false, ◌&&◌, List, [], ◌∷◌, length, drop, map, Some, refl, ap, ◌∙◌, arith}
use Rattle.std.specs.Str.{bytes_eq}
use Rattle.std.proofs.lemmas.List.{drop_all, length-map}
use Rattle.dz_cert.specs.Documents.{ChainTexts}
use Rattle.dz_cert.specs.Verdicts.{are_same, first_other}

-- lists of different lengths are not the same
pub are_same-length : (ts us : List (List ℕ)) → (length ts ≡ length us → ⊥) → are_same ts us ≡ false
are_same-length [] [] apart = absurd (apart refl)
are_same-length [] (u ∷ us) apart = refl
are_same-length (t ∷ ts) [] apart = refl
are_same-length (t ∷ ts) (u ∷ us) apart = by_first (bytes_eq t u) (are_same-length ts us (λ e. apart (ap suc e)))
  where
    by_first : (is : Bool) → are_same ts us ≡ false → (is && are_same ts us) ≡ false
    by_first true e = e
    by_first false e = refl

-- there are as many texts of things as there are things
pub are_same-counts : {A B : Type 0} (text : B → List ℕ) (f : A → B) (ts : List (List ℕ)) (xs : List A) → (length ts ≡ length xs → ⊥) → are_same ts (map text (map f xs)) ≡ false
are_same-counts text f ts xs apart = are_same-length ts (map text (map f xs)) (λ e. apart (e ∙ length-map (map f xs) text ∙ length-map xs f))

-- ---- the first other chain
-- where the states are over, the next chain is the first other
pub other-none : {A B : Type 0} (f : A → ChainTexts) (g : B → ChainTexts) (n k : ℕ) (cs : List A) (ss : List B) → k < length cs → k ≡ length ss → first_other n (map f (drop k cs)) (map g (drop k ss)) ≡ Some n
other-none f g n zero [] ss less is = absurd (omega arith)
other-none f g n zero (c ∷ cs) [] less is = refl
other-none f g n zero (c ∷ cs) (s ∷ ss) less is = absurd (omega arith)
other-none f g n (suc k) [] ss less is = absurd (omega arith)
other-none f g n (suc k) (c ∷ cs) [] less is = absurd (omega arith)
other-none f g n (suc k) (c ∷ cs) (s ∷ ss) less is = other-none f g n k cs ss (omega arith) (omega arith)

-- behind all chains the next state is the first other
rest-none : {B : Type 0} (g : B → ChainTexts) (n k : ℕ) (ss : List B) → k < length ss → first_other n [] (map g (drop k ss)) ≡ Some n
rest-none g n zero [] less = absurd (omega arith)
rest-none g n zero (s ∷ ss) less = refl
rest-none g n (suc k) [] less = absurd (omega arith)
rest-none g n (suc k) (s ∷ ss) less = rest-none g n k ss (omega arith)

-- and so it is in the lists as a whole
pub other-rest : {A B : Type 0} (f : A → ChainTexts) (g : B → ChainTexts) (n k : ℕ) (cs : List A) (ss : List B) → length cs ≤ k → k < length ss → first_other n (map f (drop k cs)) (map g (drop k ss)) ≡ Some n
other-rest {A = A} f g n k cs ss over less = ap (λ (xs : List A). first_other n (map f xs) (map g (drop k ss))) (drop_all k cs over) ∙ rest-none g n k ss less
