-- Combining two rows in a symbol (this project): Ritt's pseudo-division of the rests, done on each component.
use Rattle.std.specs.Prelude.{ℕ, ◌+◌, ◌-◌, max, length, [], ◌∷◌, pos, Result, Ok}
use Rattle.dz_algebra.specs.Norm.{content, divided, gcd}
use Rattle.dz_algebra.specs.Parts.{degree, initial}
use Rattle.dz_algebra.specs.Polynomial.{Polynomial}
use Rattle.dz_algebra.specs.Size.{Refusal, difference_answer, product_answer}
use Rattle.dz_algebra.specs.Symbols.{Symbols}
use Rattle.dz_rank.specs.declared.symbols.Symbol.{Symbol}
use Rattle.dz_monomials.specs.Terms.{times_power}
use Rattle.dz_algebra.specs.Outcome.{◌>>=◌}
use Rattle.dz_diff.specs.Tests.{Polynomials}
use Rattle.dz_regular.specs.Rows.{rest_of}

-- what the first row and the second are multiplied by
pub record Multipliers : Type 0 where
  pub first : Polynomial Symbol
  pub second : Polynomial Symbol

-- For rests f and q of degrees d and e in v, with the highest coefficients c and m: m/k and (c/k)*v^(d-e), where k is the greatest
-- common divisor of the coefficients of m and c.
abbrev pub multipliers_of : Symbols Symbol → Symbol → Polynomial Symbol → Polynomial Symbol → Multipliers
multipliers_of g v f q =
    let c = initial g.cmp v f in
    let m = initial g.cmp v q in
    let k = pos (gcd (content m) (content c)) in
    record { first = divided k m; second = times_power g.cmp v (degree g.cmp v f - degree g.cmp v q) (divided k c) }

-- one component: the first product, the second, and their difference
abbrev pub crossed : Symbols Symbol → Multipliers → Polynomial Symbol → Polynomial Symbol → Result (Polynomial Symbol) Refusal
crossed g m x y = do
  left ← product_answer g m.first x
  right ← product_answer g m.second y
  difference_answer g left right

-- all components, one after the other
abbrev pub crossed_all : Symbols Symbol → Multipliers → Polynomials → Polynomials → Result Polynomials Refusal
crossed_all g m [] ys = Ok []
crossed_all g m (x ∷ xs) [] = Ok []
crossed_all g m (x ∷ xs) (y ∷ ys) = do
  z ← crossed g m x y
  zs ← crossed_all g m xs ys
  Ok (z ∷ zs)

-- the greatest common divisor of all coefficients
abbrev pub common_content : Polynomials → ℕ
common_content [] = 0
common_content (p ∷ ps) = gcd (content p) (common_content ps)

-- by what a row is divided; by one where it has no coefficient
abbrev pub row_divisor : Polynomials → ℕ
row_divisor ps = max 1 (common_content ps)

-- each divided by k
abbrev pub divided_all : ℕ → Polynomials → Polynomials
divided_all k [] = []
divided_all k (p ∷ ps) = divided (pos k) p ∷ divided_all k ps

-- the components divided by the greatest common divisor of their coefficients
abbrev pub primitive_row : Polynomials → Polynomials
primitive_row ps = divided_all (row_divisor ps) ps

-- the combination of two rows in v
abbrev pub combined : Symbols Symbol → Symbol → Polynomials → Polynomials → Result Polynomials Refusal
combined g v xs ys = crossed_all g (multipliers_of g v (rest_of xs) (rest_of ys)) xs ys >>= (λ zs. Ok (primitive_row zs))

-- the terms of all components
abbrev pub terms_in_all : Polynomials → ℕ
terms_in_all [] = 0
terms_in_all (p ∷ ps) = length p + terms_in_all ps
