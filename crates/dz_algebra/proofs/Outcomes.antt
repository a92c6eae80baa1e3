-- What follows from an answer that is Ok.
use Rattle.std.proofs.Common.{◌≡◌, Bool, true, false, not, ◌&&◌, ◌||◌, refl, Result, Ok, Err, Option, Some, None, ◌⊎◌, inl, inr}
use Rattle.std.specs.Prelude.{⊤}
use Rattle.dz_algebra.specs.Outcome.{◌>>=◌, needs, given, told_as}

-- both parts of a computation are Ok
pub bind_ok : {A B E : Type 0} (r : Result A E) (f : A → Result B E) (y : B) → (r >>= f) ≡ Ok y → (x : A) × (r ≡ Ok x) × (f x ≡ Ok y)
bind_ok (Ok x) f y e = (x, refl, e)
bind_ok (Err k) f y e = cc

-- an answer that is told in another way is the same answer
pub told_ok : {A E F : Type 0} (tell : E → F) (r : Result A E) (x : A) → told_as tell r ≡ Ok x → r ≡ Ok x
told_ok tell (Ok y) x e = cc
told_ok tell (Err y) x e = cc

-- a test that guards the rest of a computation holds
pub then_ok : {B E : Type 0} (b : Bool) (k : E) (f : ⊤ → Result B E) (y : B) → (needs b k >>= f) ≡ Ok y → (b ≡ true) × (f tt ≡ Ok y)
then_ok true k f y e = (refl, e)
then_ok false k f y e = cc

-- there is what the rest of a computation takes
pub given_then : {A B E : Type 0} (o : Option A) (k : E) (f : A → Result B E) (y : B) → (given o k >>= f) ≡ Ok y → (x : A) × (o ≡ Some x) × (f x ≡ Ok y)
given_then (Some x) k f y e = (x, refl, e)
given_then None k f y e = cc

-- two answers that are the same
pub ok_same : {A E : Type 0} (x y : A) → ◌≡◌ {A = Result A E} (Ok x) (Ok y) → x ≡ y
ok_same x y e = cc

-- ---- tests
-- a conjunction that holds has both parts
pub both : (a b : Bool) → (a && b) ≡ true → (a ≡ true) × (b ≡ true)
both true true e = (refl, refl)
both true false e = cc
both false b e = cc

-- a disjunction that holds has one of its parts
pub either : (a b : Bool) → (a || b) ≡ true → (a ≡ true) ⊎ (b ≡ true)
either true b e = inl refl
either false b e = inr e

-- what is not true is false
pub is_false : (a : Bool) → not a ≡ true → a ≡ false
is_false true e = cc
is_false false e = refl
