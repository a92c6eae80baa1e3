-- Permission of the multiplier of a step, by its place.
use Rattle.std.specs.Prelude.{ℕ, Bool, false, Option, Some, None}
use Rattle.dz_algebra.specs.Parts.{leader}
use Rattle.dz_algebra.specs.Polynomial.{Polynomial}
use Rattle.dz_rank.specs.declared.symbols.Operator.{Operator}
use Rattle.dz_rank.specs.declared.symbols.Symbol.{Symbol}
use Rattle.dz_diff.specs.Operations.{Setting}
use Rattle.dz_diff.specs.State.{State, at_place}
use Rattle.dz_step.specs.declared.Role.{Role}
use Rattle.dz_step.specs.Step.{is_permitted}

-- the multiplier of a step by this equation with this leader is permitted; without them there is none
abbrev pub is_permitted_by : Setting → State → Role → Operator → Polynomial Symbol → Option Symbol → Bool
is_permitted_by g s role t q (Some l) = is_permitted g s role q l t
is_permitted_by g s role t q None = false

-- and that by the equation at a place, where there is one
abbrev pub is_permitted_with : Setting → State → Role → Operator → Option (Polynomial Symbol) → Bool
is_permitted_with g s role t (Some q) = is_permitted_by g s role t q (leader g.symbols q)
is_permitted_with g s role t None = false

-- the multiplier of a step by an operator and the equation at a place is permitted
abbrev pub is_permitted_at : Setting → State → Role → ℕ → Operator → Bool
is_permitted_at g s role j t = is_permitted_with g s role t (at_place j s.equations)
