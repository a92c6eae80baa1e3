-- What a row means: its cofactor times the inequation is its rest and the sum of its parts times the equations.
use Rattle.std.specs.Prelude.{◌≡◌, length, [], ◌∷◌}
use Rattle.std.specs.declared.cmp.Ordering.{Ordering}
use Rattle.dz_algebra.specs.Polynomial.{Polynomial, polynomial_product, polynomial_sum}
use Rattle.dz_rank.specs.declared.symbols.Symbol.{Symbol}
use Rattle.dz_diff.specs.Tests.{Polynomials}

-- the sum of the parts times the equations
abbrev pub sum_of_products : (Symbol → Symbol → Ordering) → Polynomials → Polynomials → Polynomial Symbol
sum_of_products cmp [] equations = []
sum_of_products cmp (c ∷ parts) [] = []
sum_of_products cmp (c ∷ parts) (e ∷ equations) = polynomial_sum cmp (polynomial_product cmp c e) (sum_of_products cmp parts equations)

-- the components are a row for an inequation by some equations
pub record IsRowFor (cmp : Symbol → Symbol → Ordering) (equations : Polynomials) (h : Polynomial Symbol) (components : Polynomials) : Type 0 where
  pub rest : Polynomial Symbol
  pub cofactor : Polynomial Symbol
  pub parts : Polynomials
  pub components_are : components ≡ rest ∷ cofactor ∷ parts
  pub width : length parts ≡ length equations
  pub identity : polynomial_product cmp cofactor h ≡ polynomial_sum cmp rest (sum_of_products cmp parts equations)
