-- Derivation operators and the derivatives that they make, by computation (Kolchin).
use Rattle.std.specs.Prelude.{ℕ, ◌-◌, ◌==◌, nat_le, sum, Bool, true, not, ◌&&◌, cond, List, [], ◌∷◌, Option, Some, None}
use Rattle.dz_rank.specs.declared.symbols.Operator.{Operator}
use Rattle.dz_rank.specs.declared.symbols.Symbol.{Symbol}
use Rattle.dz_rank.specs.declared.symbols.Symbol.TheVariants.{Independent, Derivative}

-- a proper operator takes a derivation
abbrev pub is_proper : Operator → Bool
is_proper t = not (sum t.counts == 0)

-- no exponent of the first is greater than that of the second
abbrev pub divides : List ℕ → List ℕ → Bool
divides [] ts = true
divides (s ∷ ss) [] = (s == 0) && divides ss []
divides (s ∷ ss) (t ∷ ts) = nat_le s t && divides ss ts

-- the exponents of the first less those of the second
abbrev pub exponent_differences : List ℕ → List ℕ → List ℕ
exponent_differences [] ss = []
exponent_differences (t ∷ ts) [] = t ∷ ts
exponent_differences (t ∷ ts) (s ∷ ss) = (t - s) ∷ exponent_differences ts ss

-- the operator that takes the second symbol to the first, where there is one
abbrev pub quotient : Symbol → Symbol → Option Operator
quotient (Independent i) w = None
quotient (Derivative u t) (Independent j) = None
quotient (Derivative u t) (Derivative v s) =
    cond ((u == v) && divides s.counts t.counts) (Some (record { counts = exponent_differences t.counts s.counts })) None
