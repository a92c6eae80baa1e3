-- Computing with the first condition that fails.
use Rattle.std.specs.Prelude.{⊤, ℕ, Bool, true, false, Option, Some, None, Result, Ok, Err}

infixl 10 ◌>>=◌
-- what follows an answer, unless it is a refusal
abbrev pub ◌>>=◌ : {A B E : Type 0} → Result A E → (A → Result B E) → Result B E
Ok x >>= f = f x
Err e >>= f = Err e

-- a test, and what is told where it fails
abbrev pub needs : {E : Type 0} → Bool → E → Result ⊤ E
needs true e = Ok tt
needs false e = Err e

-- what there is, and what is told where there is nothing
abbrev pub given : {A E : Type 0} → Option A → E → Result A E
given (Some x) e = Ok x
given None e = Err e

-- an answer whose refusal is told in another way
abbrev pub told_as : {A E F : Type 0} → (E → F) → Result A E → Result A F
told_as tell (Ok x) = Ok x
told_as tell (Err e) = Err (tell e)

-- an answer whose refusal is told with a number
abbrev pub numbered : {A E : Type 0} → ℕ → Result A E → Result A (ℕ × E)
numbered k = told_as (λ e. (k, e))
