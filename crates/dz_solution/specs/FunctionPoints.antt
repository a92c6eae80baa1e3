-- Function points: ground polynomials as the dependents of a point, in polynomials in four variables over whole numbers (this
-- project).
use Rattle.std.specs.Prelude.{ℕ, ℤ, List, [], ◌∷◌, map, take}
use Rattle.dz_algebra.specs.Domain.{Arithmetic, Operations}
use Rattle.dz_algebra.specs.Whole.{whole_operations}
use Rattle.dz_domain.specs.Adjoin.{adjoin_operations}
use Rattle.dz_domain.specs.Point.{Coordinates, value_at}
use Rattle.dz_diff.specs.Tests.{Polynomials}

-- polynomials in one variable over whole numbers
abbrev pub in_one_variable : Operations (List ℤ)
in_one_variable = adjoin_operations whole_operations

-- in two
abbrev pub in_two_variables : Operations (List (List ℤ))
in_two_variables = adjoin_operations in_one_variable

-- in three
abbrev pub in_three_variables : Operations (List (List (List ℤ)))
in_three_variables = adjoin_operations in_two_variables

-- and in four
abbrev pub Element : Type 0
Element = List (List (List (List ℤ)))

abbrev pub in_four_variables : Operations Element
in_four_variables = adjoin_operations in_three_variables

-- the new variable over a ring
abbrev pub new_variable : {E : Type 0} → Arithmetic E → List E
new_variable r = r.zero ∷ r.one ∷ []

-- the four variables, the innermost first
unfoldable pub variables : List (List (List (List (List ℤ))))
variables =
    (((new_variable whole_operations.arithmetic ∷ []) ∷ []) ∷ [])
    ∷ ((new_variable in_one_variable.arithmetic ∷ []) ∷ [])
    ∷ (new_variable in_two_variables.arithmetic ∷ [])
    ∷ new_variable in_three_variables.arithmetic
    ∷ []

-- a point with these independents whose dependents are the values of functions there
abbrev pub point_of : {E : Type 0} → Operations E → List E → Polynomials → Coordinates E
point_of o xs functions = record {
  independents = xs;
  dependents = map (value_at o (record { independents = xs; dependents = [] })) functions;
}

-- the function point: the first n variables are the independents
unfoldable pub function_point : ℕ → Polynomials → Coordinates (List (List (List (List ℤ))))
function_point n functions = point_of in_four_variables (take n variables) functions
