-- Cones of worked examples.
use Rattle.std.specs.Prelude.{◌≡◌, ℕ, true, false, [], ◌∷◌}
use Rattle.dz_parametric.specs.Cones.{Direction, cones_of_exponents}

-- a direction whose exponent is fixed
abbrev pub at : ℕ → Direction
at k = record { exponent = k; is_free = false }

-- and one that is free from an exponent on
abbrev pub from : ℕ → Direction
from k = record { exponent = k; is_free = true }

pub record ConeExamples : Type 0 where
  -- of the heat equation u_xx = u_t, by x and t
  pub heat : cones_of_exponents 2 ((2 ∷ 0 ∷ []) ∷ []) ≡ (at 0 ∷ from 0 ∷ []) ∷ (at 1 ∷ from 0 ∷ []) ∷ []
  -- of u_xxy and u_yyy: six derivatives, and those by x alone from u_xx on
  pub stairs : cones_of_exponents 2 ((2 ∷ 1 ∷ []) ∷ (0 ∷ 3 ∷ []) ∷ [])
      ≡ (at 0 ∷ at 0 ∷ []) ∷ (at 0 ∷ at 1 ∷ []) ∷ (at 0 ∷ at 2 ∷ []) ∷ (at 1 ∷ at 0 ∷ []) ∷ (at 1 ∷ at 1 ∷ []) ∷ (at 1 ∷ at 2 ∷ []) ∷ (from 2 ∷ at 0 ∷ []) ∷ []
  -- where nothing leads, and where the dependent itself does
  pub all_free : cones_of_exponents 2 [] ≡ (from 0 ∷ from 0 ∷ []) ∷ []
  pub none_free : cones_of_exponents 2 ((0 ∷ 0 ∷ []) ∷ (1 ∷ 0 ∷ []) ∷ []) ≡ []
  -- and so without independents
  pub constant_free : cones_of_exponents 0 [] ≡ [] ∷ []
  pub constant_led : cones_of_exponents 0 ([] ∷ []) ≡ []
