-- Chains by their numbers.
use Rattle.std.specs.Prelude.{slice_get, slice_index_or}
use Rattle.std.proofs.Common.{◌≡◌, ◌<◌, ◌+◌, ◌∙◌, ℕ, zero, suc, List, [], ◌∷◌, length, map, take, refl, ap, subst, arith, Some}
use Rattle.std.proofs.lemmas.Option.{slice_get-map, slice_get_read}
use Rattle.std.specs.Option.{option_map}
use Rattle.dz_monomials.specs.Lists.{AllOf}

-- what a map makes of the one at a position
pub mapped_at : {A B : Type 0} (f : A → B) (xs : List A) (i : ℕ) (x : A) → i < length xs → x ≡ slice_index_or xs i x → slice_get (map f xs) i ≡ Some (f x)
mapped_at f xs i x h e = slice_get-map f xs i ∙ ap (option_map f) (slice_get_read xs (length xs) i x refl h e)

-- what holds of the first so many and of the next holds of one more
pub all_taken_more : {A : Type 0} (P : A → Type 0) (xs : List A) (i : ℕ) (x : A) → slice_get xs i ≡ Some x → P x → AllOf P (take i xs) → AllOf P (take (i + 1) xs)
all_taken_more P [] i x e p h = absurd cc
all_taken_more P (y ∷ ys) zero x e p h = let same : x ≡ y = cc in (subst P same p, tt)
all_taken_more P (y ∷ ys) (suc i) x e p h =
    let k : suc (i + 1) ≡ suc i + 1 = omega arith in
    subst (λ n. AllOf P (take n (y ∷ ys))) k (h.0, all_taken_more P ys i x e p h.1)
