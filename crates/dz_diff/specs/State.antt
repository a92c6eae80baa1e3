-- States, their places, and putting a polynomial at a place (this project).
use Rattle.std.specs.Prelude.{ℕ, zero, suc, ◌+◌, Bool, false, ◌&&◌, ◌||◌, cond, nat_lt, List, [], ◌∷◌, length, Option, Some, None}
use Rattle.dz_algebra.specs.declared.Limit.{Limit}
use Rattle.dz_algebra.specs.declared.Limit.TheVariants as limits
use Rattle.dz_algebra.specs.Polynomial.{Polynomial}
use Rattle.dz_algebra.specs.Symbols.{Symbols}
use Rattle.dz_rank.specs.declared.symbols.Symbol.{Symbol}
use Rattle.dz_diff.specs.Tests.{Polynomials, is_zero, is_unit, is_member, same_all}

-- equations, inequations, and the number of forks above
pub record State : Type 0 where
  pub equations : Polynomials
  pub inequations : Polynomials
  pub splits : ℕ

-- two states have the same equations and the same inequations
abbrev pub same_state : Symbols Symbol → State → State → Bool
same_state g s t = same_all g s.equations t.equations && same_all g s.inequations t.inequations

-- ---- places, counted from 1
-- what stands at a place
abbrev pub at_place : {A : Type 0} → ℕ → List A → Option A
at_place i [] = None
at_place zero (x ∷ xs) = None
at_place (suc zero) (x ∷ xs) = Some x
at_place (suc (suc i)) (x ∷ xs) = at_place (suc i) xs

-- a list without one of its places
abbrev pub without_place : {A : Type 0} → ℕ → List A → List A
without_place i [] = []
without_place zero (x ∷ xs) = x ∷ xs
without_place (suc zero) (x ∷ xs) = xs
without_place (suc (suc i)) (x ∷ xs) = x ∷ without_place (suc i) xs

-- a list with another value at one of its places
abbrev pub replaced : {A : Type 0} → ℕ → A → List A → List A
replaced i y [] = []
replaced zero y (x ∷ xs) = x ∷ xs
replaced (suc zero) y (x ∷ xs) = y ∷ xs
replaced (suc (suc i)) y (x ∷ xs) = x ∷ replaced (suc i) y xs

-- an equation put at a place is removed if it is zero or stands at another place
abbrev pub put_equation : Symbols Symbol → ℕ → Polynomial Symbol → Polynomials → Polynomials
put_equation g i p es =
    cond (is_zero p || is_member g p (without_place i es)) (without_place i es) (replaced i p es)

-- an inequation put at a place is removed if it is ground and not zero or stands at another place
abbrev pub put_inequation : Symbols Symbol → ℕ → Polynomial Symbol → Polynomials → Polynomials
put_inequation g j p hs =
    cond (is_unit g p || is_member g p (without_place j hs)) (without_place j hs) (replaced j p hs)

-- ---- limits
-- the number of terms in polynomials
abbrev pub terms_of : Polynomials → ℕ
terms_of [] = 0
terms_of (p ∷ ps) = length p + terms_of ps

-- the number of equations and inequations
abbrev pub member_count : State → ℕ
member_count s = length s.equations + length s.inequations

-- the number of terms in them together
abbrev pub term_count : State → ℕ
term_count s = terms_of s.equations + terms_of s.inequations

-- a count of one of the states is greater than n
abbrev pub some_passes : (State → ℕ) → ℕ → List State → Bool
some_passes count n [] = false
some_passes count n (s ∷ ss) = nat_lt n (count s) || some_passes count n ss

-- the first limit that one of the states passes: at most 256 polynomials, 65,536 terms, and 200 forks above
abbrev pub limit_passed : List State → Option Limit
limit_passed ss =
    cond (some_passes member_count 256 ss) (Some limits.Polynomials)
    (cond (some_passes term_count 65536 ss) (Some limits.Node)
    (cond (some_passes (λ s. s.splits) 200 ss) (Some limits.Splits) None))
