-- What the cells of an operation mean, and what they answer. No clause about books cites this file.
use Rattle.std.specs.Prelude.{nat_le, cond, List, [], ◌∷◌, map, Option, Some, None, Result, Ok, Err}
use Rattle.dz_algebra.specs.declared.Limit.{Limit}
use Rattle.dz_algebra.specs.Monomial.{Monomial}
use Rattle.dz_algebra.specs.Polynomial.{Polynomial, keep}
use Rattle.dz_algebra.specs.Amount.{Amount, add_amounts, greatest}
use Rattle.dz_algebra.specs.Size.{Refusal, wide, large}

-- an amount where it fits
abbrev pub capped : Amount → Option Amount
capped a = cond (nat_le a.majorant greatest) (Some a) None

-- the sum of two amounts where it fits
abbrev pub add_capped : Option Amount → Option Amount → Option Amount
add_capped None b = None
add_capped (Some a) None = None
add_capped (Some a) (Some b) = capped (add_amounts a b)

-- amounts at keys, each where it fits
abbrev pub caps : {M : Type 0} → List (M × Amount) → List (M × Option Amount)
caps ts = map (λ t. (t.0, capped t.1)) ts

-- a term before others, if all of them fit
abbrev pub keep_fitting : {S : Type 0} → Monomial S → Option Amount → Option (Polynomial S) → Option (Polynomial S)
keep_fitting m None p = None
keep_fitting m (Some a) None = None
keep_fitting m (Some a) (Some p) = Some (keep m a.total p)

-- the polynomial of the cells, if all of them fit
abbrev pub finished : {S : Type 0} → List (Monomial S × Option Amount) → Option (Polynomial S)
finished [] = Some []
finished (t ∷ ts) = keep_fitting t.0 t.1 (finished ts)

-- what cells answer under the limit that they pass
abbrev pub concluded : {S : Type 0} → Option Limit → Option (Polynomial S) → Result (Polynomial S) Refusal
concluded (Some l) p = Err (large l)
concluded None None = Err wide
concluded None (Some p) = Ok p
