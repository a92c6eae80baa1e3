-- Parametric derivatives of a chain (Riquier, Janet).
use Rattle.std.specs.Prelude.{ℕ, ◌≤◌, IsTrue, List, [], ◌∷◌, Option, Some, None}
use Rattle.std.specs.List.{Contains}
use Rattle.dz_algebra.specs.Parts.{leader}
use Rattle.dz_algebra.specs.Symbols.{Symbols}
use Rattle.dz_rank.specs.Rankings.{RankingValue}
use Rattle.dz_rank.specs.Symbols.{BelongsTo, IsDerivativeOf, is_derivative, total_order}
use Rattle.dz_rank.specs.declared.symbols.Symbol.{Symbol}
use Rattle.dz_monomials.specs.Ranked.{symbols_under}
use Rattle.dz_diff.specs.State.{State}
use Rattle.dz_diff.specs.Tests.{Polynomials}

-- what there is, before others
abbrev pub with_some : {A : Type 0} → Option A → List A → List A
with_some None xs = xs
with_some (Some x) xs = x ∷ xs

-- the leaders of polynomials, in their order
abbrev pub leaders_of : Symbols Symbol → Polynomials → List Symbol
leaders_of g [] = []
leaders_of g (p ∷ ps) = with_some (leader g p) (leaders_of g ps)

-- the leaders of a state's equations
abbrev pub leaders_in : RankingValue → State → List Symbol
leaders_in r s = leaders_of (symbols_under r) s.equations

-- w is a derivative of one of these symbols, which may be w itself
pub record IsLed (leaders : List Symbol) (w : Symbol) : Type 0 where
  pub by : Symbol
  pub stands : Contains leaders by
  pub derives : IsDerivativeOf by w

-- w is a derivative, and neither one of these symbols nor a derivative of one
pub record IsParametric (leaders : List Symbol) (w : Symbol) : Type 0 where
  pub derivative : IsTrue (is_derivative w)
  pub unled : IsLed leaders w → ⊥

-- w is a parametric derivative of the signature, of total order at most m
pub record IsParametricTo (r : RankingValue) (leaders : List Symbol) (m : ℕ) (w : Symbol) : Type 0 where
  pub parametric : IsParametric leaders w
  pub belongs : BelongsTo r.signature w
  pub within : total_order w ≤ m
