-- Rows (this project): a rest, a cofactor and a part for each equation, of which the cofactor times an inequation is the rest and
-- the sum of the parts times the equations. A row is kept as the list of its components, in this order.
use Rattle.std.specs.Prelude.{ℕ, zero, suc, [], ◌∷◌, length, set, slice_index_or, pos, negsuc}
use Rattle.dz_algebra.specs.Polynomial.{Polynomial}
use Rattle.dz_rank.specs.declared.symbols.Symbol.{Symbol}
use Rattle.dz_monomials.specs.Terms.{constant_polynomial}
use Rattle.dz_diff.specs.Tests.{Polynomials}

-- the rest of a row
abbrev pub rest_of : Polynomials → Polynomial Symbol
rest_of [] = []
rest_of (r ∷ others) = r

-- n polynomials that are zero
abbrev pub zeros : ℕ → Polynomials
zeros zero = []
zeros (suc n) = [] ∷ zeros n

-- row 0 of an inequation: it times one is itself
abbrev pub inequation_row : Polynomials → Polynomial Symbol → Polynomials
inequation_row equations h = h ∷ constant_polynomial (pos 1) ∷ zeros (length equations)

-- the row of the equation with an index: the inequation times zero is the equation, and the part -1 times it
abbrev pub equation_row : Polynomials → ℕ → Polynomials
equation_row equations i = slice_index_or equations i [] ∷ [] ∷ set (zeros (length equations)) i (constant_polynomial (negsuc 0))

-- a row with its number
pub record Numbered : Type 0 where
  pub number : ℕ
  pub components : Polynomials
