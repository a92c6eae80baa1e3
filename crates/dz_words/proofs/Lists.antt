-- Tests, and lists whose members pass them.
use Rattle.std.proofs.Common.{◌≡◌, ◌&&◌, ◌||◌, Bool, true, false, not, List, [], ◌∷◌, map, find, Some, refl, ap, ap₂, subst, if◌then◌else◌}
use Rattle.std.specs.Prelude.{All}
use Rattle.std.specs.List.{AllByRecursion, list_any}
use Rattle.std.proofs.lemmas.List.Elements.{All-cons, All-head, All-nil, All-tail}

-- ---- tests
-- the parts of a conjunction that is true
pub both : (a b : Bool) → (a && b) ≡ true → (a ≡ true) × (b ≡ true)
both true b e = (refl, e)
both false b e = absurd cc

-- the parts of a disjunction that is false
pub neither : (a b : Bool) → (a || b) ≡ false → (a ≡ false) × (b ≡ false)
neither true b e = absurd cc
neither false b e = (refl, e)

-- what is not true is false
pub not_true : (b : Bool) → not b ≡ true → b ≡ false
not_true true e = absurd cc
not_true false e = refl

-- ---- lists
-- a fact of each member, by recursion over the list
pub to_all : {X : Type 0} (P : X → Type 0) (xs : List X) → AllByRecursion P xs → All P xs
to_all P [] h = All-nil P
to_all P (x ∷ xs) h = All-cons P x xs h.0 (to_all P xs h.1)

-- and back
pub from_all : {X : Type 0} (P : X → Type 0) (xs : List X) → All P xs → AllByRecursion P xs
from_all P [] h = tt
from_all P (x ∷ xs) h = (All-head P x xs h, from_all P xs (All-tail P x xs h))

-- what is found passes the test
pub find_passes : {X : Type 0} (p : X → Bool) (xs : List X) (x : X) → find p xs ≡ Some x → p x ≡ true
find_passes p [] x e = absurd cc
find_passes p (y ∷ ys) x e = go (find_passes p ys x) (p y) refl
  where
    go : (find p ys ≡ Some x → p x ≡ true) → (b : Bool) → p y ≡ b → p x ≡ true
    go later true is = let found : Some y ≡ Some x = rw is at e in let same : y ≡ x = cc in subst (λ z. p z ≡ true) same is
    go later false is = later (rw is at e)

-- and stands in the list
pub find_stands : {X : Type 0} (p q : X → Bool) (xs : List X) (x : X) → q x ≡ true → find p xs ≡ Some x → list_any q xs ≡ true
find_stands p q [] x own e = absurd cc
find_stands p q (y ∷ ys) x own e = go (find_stands p q ys x own) (p y) refl
  where
    or_right : (a b : Bool) → b ≡ true → (a || b) ≡ true
    or_right true b e = refl
    or_right false b e = e

    go : (find p ys ≡ Some x → list_any q ys ≡ true) → (b : Bool) → p y ≡ b → (q y || list_any q ys) ≡ true
    go later true is = let found : Some y ≡ Some x = rw is at e in let same : y ≡ x = cc in rw (same, own) refl
    go later false is = or_right (q y) (list_any q ys) (later (rw is at e))

-- tests that agree find the same
pub find_as : {X : Type 0} (p q : X → Bool) (xs : List X) → ((x : X) → p x ≡ q x) → find p xs ≡ find q xs
find_as p q [] h = refl
find_as p q (x ∷ xs) h = ap₂ (λ b later. if b then Some x else later) (h x) (find_as p q xs h)

-- a test of the members is one of what they are taken to
pub list_any_map : {X Y : Type 0} (p : Y → Bool) (f : X → Y) (xs : List X) → list_any (λ x. p (f x)) xs ≡ list_any p (map f xs)
list_any_map p f [] = refl
list_any_map p f (x ∷ xs) = ap (λ b. p (f x) || b) (list_any_map p f xs)
