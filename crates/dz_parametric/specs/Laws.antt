-- The law of cones; the crate's law function asks for its proof. And what a report on a chain says.
use Rattle.std.specs.Prelude.{◌≡◌, ◌↔◌, ℕ, IsTrue}
use Rattle.std.specs.List.{Contains, count_by}
use Rattle.dz_rank.specs.Rankings.{RankingValue}
use Rattle.dz_rank.specs.Symbols.{BelongsTo, is_derivative}
use Rattle.dz_rank.specs.declared.symbols.Symbol.{Symbol}
use Rattle.dz_diff.specs.State.{State}
use Rattle.dz_parametric.specs.Cones.{cones_of, lies_in}
use Rattle.dz_parametric.specs.Choosing.{parametric_to}
use Rattle.dz_parametric.specs.Parametric.{IsParametric, IsParametricTo, leaders_in}

-- the number of a state's cones that a symbol lies in
abbrev pub cones_around : RankingValue → State → Symbol → ℕ
cones_around r s w = count_by (lies_in w) (cones_of r s)

-- a derivative is parametric exactly where it lies in one cone, and lies in none where it is not
pub record IsCovered (r : RankingValue) (s : State) (w : Symbol) : Type 0 where
  pub parametric : IsParametric (leaders_in r s) w ↔ (cones_around r s w ≡ 1)
  pub otherwise : (IsParametric (leaders_in r s) w → ⊥) → cones_around r s w ≡ 0

-- the derivatives that are listed up to the order m are the parametric ones of total order at most m, and each derivative of
-- the signature, of any total order, is parametric exactly where it lies in one cone
pub record IsDescribed (r : RankingValue) (s : State) (m : ℕ) : Type 0 where
  pub listed : (w : Symbol) → Contains (parametric_to r s m) w ↔ IsParametricTo r (leaders_in r s) m w
  pub covered : (w : Symbol) → IsTrue (is_derivative w) → BelongsTo r.signature w → IsCovered r s w
