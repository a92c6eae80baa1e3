-- The root state of a system, and closed states (this project).
use Rattle.std.specs.Prelude.{Bool, ◌||◌, if◌then◌else◌, [], ◌∷◌, ◌++◌}
use Rattle.dz_algebra.specs.Polynomial.{Polynomial}
use Rattle.dz_algebra.specs.Norm.{norm}
use Rattle.dz_algebra.specs.Symbols.{Symbols}
use Rattle.dz_rank.specs.declared.symbols.Symbol.{Symbol}
use Rattle.dz_diff.specs.Tests.{Polynomials, has_unit, has_zero, is_zero, is_unit, is_member}
use Rattle.dz_diff.specs.State.{State}

-- the equations and the inequations that are handed in
pub record System : Type 0 where
  pub equations : Polynomials
  pub inequations : Polynomials

-- the norms in their order, without those that a test drops and without repeats; some are kept already
abbrev pub kept_norms : Symbols Symbol → (Polynomial Symbol → Bool) → Polynomials → Polynomials → Polynomials
kept_norms g is_dropped kept [] = kept
kept_norms g is_dropped kept (p ∷ ps) =
    if is_dropped (norm p) || is_member g (norm p) kept then kept_norms g is_dropped kept ps
    else kept_norms g is_dropped (kept ++ norm p ∷ []) ps

-- the root: norms without zero equations, without inequations that are ground and not zero, and without repeats
unfoldable pub root_of : Symbols Symbol → System → State
root_of g s =
    record { equations = kept_norms g is_zero [] s.equations; inequations = kept_norms g (is_unit g) [] s.inequations; splits = 0 }

-- some equation is ground and not zero, or some inequation is zero
abbrev pub is_closed : Symbols Symbol → State → Bool
is_closed g s = has_unit g s.equations || has_zero s.inequations
