-- Parts of the conditions on a chain. No public clause cites this file.
use Rattle.std.specs.Prelude.{◌≡◌, ℕ, ◌-◌, ◌^◌, min, nat_le, Bool, true, ◌&&◌, cond, Result, Ok, Err, Option, Some, None}
use Rattle.std.specs.List.{list_all}
use Rattle.dz_algebra.specs.Polynomial.{Polynomial}
use Rattle.dz_algebra.specs.Size.{Refusal}
use Rattle.dz_algebra.specs.Symbols.{Symbols}
use Rattle.dz_rank.specs.declared.symbols.Symbol.{Symbol}
use Rattle.dz_diff.specs.State.{State, at_place}
use Rattle.dz_diff.specs.Tests.{Polynomials}
use Rattle.dz_step.specs.Step.{is_allowed}
use Rattle.dz_pair.specs.Pair.{is_pair}
use Rattle.dz_move.specs.declared.Rule.{Rule}
use Rattle.dz_move.specs.declared.Rule.TheVariants as rules
use Rattle.dz_move.specs.Lines.{Evidence}
use Rattle.dz_tree.specs.Chain.{has_permitted, separant_fits}

-- the rule that an answer tells, where it is none
abbrev pub failed : {A : Type 0} → Result A Rule → Option Rule
failed (Ok x) = None
failed (Err r) = Some r

-- ---- multipliers
-- a multiplier is allowed, if it can be computed
abbrev pub allowed_if : Symbols Symbol → State → Result (Polynomial Symbol) Refusal → Option Bool
allowed_if g s (Ok m) = Some (is_allowed g s.inequations m)
allowed_if g s (Err refusal) = None

-- the initial and the separant of an equation are permitted, if the separant can be computed
abbrev pub multipliers : Symbols Symbol → State → Polynomial Symbol → Option Bool
multipliers g s p = cond (separant_fits g p) (Some (has_permitted g s p)) None

-- the rule of multipliers that fails for some equations, if they are permitted for those before
abbrev pub multiplier_rule : Symbols Symbol → State → Bool → Polynomials → Option Rule
multiplier_rule g s before es = cond (list_all (separant_fits g) es) (cond (before && list_all (has_permitted g s) es) None (Some rules.Multiplier)) (Some rules.Wide)

-- ---- evidence
-- the places of evidence are those of a critical pair
pub record IsForPair (g : Symbols Symbol) (es : Polynomials) (e : Evidence) : Type 0 where
  pub first : Polynomial Symbol
  pub second : Polynomial Symbol
  pub first_is : at_place e.first es ≡ Some first
  pub second_is : at_place e.second es ≡ Some second
  pub is_one : is_pair g first second ≡ true

-- a weight that is told, up to the greatest number of a usize
abbrev pub IsRunWeight : {E : Type 0} → ℕ → Result ℕ E → Type 0
IsRunWeight w answer = (n : ℕ) × (answer ≡ Ok n) × (w ≡ min n (2 ^ 64 - 1))

-- a weight, up to the greatest number of a usize, is not more than what is left
abbrev pub is_within : ℕ → ℕ → Bool
is_within left n = nat_le (min n (2 ^ 64 - 1)) left
