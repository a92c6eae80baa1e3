-- Members of lists, one by one.
use Rattle.std.specs.List.{flat_map, range_with_len}
use Rattle.std.proofs.Common.{◌≡◌, ◌<◌, ◌≤◌, ◌+◌, inl, inr, ℕ, zero, suc, List, [], ◌∷◌, map, sym, ap, subst, arith}
use Rattle.dz_monomials.specs.Lists.{AllOf, SomeOf}
use Rattle.dz_diff.proofs.Places.{all-append, some_left, some_right}

abbrev pub In : {A : Type 0} → A → List A → Type 0
In x xs = SomeOf (λ y. y ≡ x) xs

-- what holds of all members holds of one
pub of_member : {A : Type 0} (P : A → Type 0) (x : A) (xs : List A) → AllOf P xs → In x xs → P x
of_member P x [] h k = absurd k
of_member P x (y ∷ xs) h (inl e) = subst P e h.0
of_member P x (y ∷ xs) h (inr k) = of_member P x xs h.1 k

pub in_map : {A B : Type 0} (f : A → B) (x : A) (xs : List A) → In x xs → In (f x) (map f xs)
in_map f x [] h = absurd h
in_map f x (y ∷ xs) (inl e) = inl (ap f e)
in_map f x (y ∷ xs) (inr h) = inr (in_map f x xs h)

pub all_map : {A B : Type 0} (f : A → B) (P : B → Type 0) (xs : List A) → AllOf (λ x. P (f x)) xs → AllOf P (map f xs)
all_map f P [] h = tt
all_map f P (x ∷ xs) h = (h.0, all_map f P xs h.1)

pub in_flat_map : {A B : Type 0} (f : A → List B) (x : A) (y : B) (xs : List A) → In x xs → In y (f x) → In y (flat_map f xs)
in_flat_map f x y [] h k = absurd h
in_flat_map f x y (z ∷ xs) (inl e) k = some_left (λ u. u ≡ y) (f z) (flat_map f xs) (subst (λ u. In y (f u)) (sym e) k)
in_flat_map f x y (z ∷ xs) (inr h) k = some_right (λ u. u ≡ y) (f z) (flat_map f xs) (in_flat_map f x y xs h k)

pub all_flat_map : {A B : Type 0} (f : A → List B) (P : B → Type 0) (xs : List A) → AllOf (λ x. AllOf P (f x)) xs → AllOf P (flat_map f xs)
all_flat_map f P [] h = tt
all_flat_map f P (x ∷ xs) h = all-append P (f x) (flat_map f xs) h.0 (all_flat_map f P xs h.1)

pub in_range : (k n i : ℕ) → i < n → In (k + i) (range_with_len k n)
in_range k zero i h = absurd (omega arith)
in_range k (suc n) zero h = inl (omega arith)
in_range k (suc n) (suc i) h = inr (subst (λ j. In j (range_with_len (k + 1) n)) (let e : (k + 1) + i ≡ k + suc i = omega arith in e) (in_range (k + 1) n i (omega arith)))

pub all_range : (P : ℕ → Type 0) (k n : ℕ) → ((i : ℕ) → k ≤ i → i < k + n → P i) → AllOf P (range_with_len k n)
all_range P k zero f = tt
all_range P k (suc n) f = (f k (omega arith) (omega arith), all_range P (k + 1) n (λ i h g. f i (omega arith) (omega arith)))
