-- Worked jets, computed by hand or by a plain program.
use Rattle.std.specs.Prelude.{◌≡◌, ℕ, true, [], ◌∷◌, pos, neg_ℤ, Ok, Err}
use Rattle.dz_algebra.specs.Polynomial.{symbol_polynomial}
use Rattle.dz_int.specs.Fractions.{Fraction}
use Rattle.dz_rank.specs.declared.rankings.Kind.TheVariants.{GrlexA, DegrevB}
use Rattle.dz_rank.specs.declared.symbols.Symbol.{Symbol}
use Rattle.dz_rank.specs.declared.symbols.Symbol.TheVariants.{Independent, Derivative}
use Rattle.dz_rank.specs.Rankings.{RankingValue}
use Rattle.dz_diff.specs.Operations.{setting_of}
use Rattle.dz_diff.specs.State.{State}
use Rattle.dz_tree.specs.Chain.{chain_weight}
use Rattle.dz_jet.specs.Fractions.{whole}
use Rattle.dz_jet.specs.declared.faults.JetFault.TheVariants as faults
use Rattle.dz_jet.specs.declared.faults.Part.TheVariants as parts
use Rattle.dz_jet.specs.Jets.{Values, jet_answer}

-- the dependent u over x
abbrev pub ordinary : RankingValue
ordinary = record { signature = record { independents = 1; dependents = 1 }; blocks = record { kind = GrlexA; dependents = 0 ∷ [] } ∷ [] }

abbrev pub x : Symbol
x = Independent 0

-- u derived k times
abbrev pub u : ℕ → Symbol
u k = Derivative 0 (record { counts = k ∷ 0 ∷ 0 ∷ 0 ∷ [] })

-- the chain u[x]^2 - 4*u with the inequation u[x]
abbrev pub conic : State
conic = record { equations = ((((u 1, 2) ∷ []), pos 1) ∷ (((u 0, 1) ∷ []), neg_ℤ (pos 4)) ∷ []) ∷ []; inequations = symbol_polynomial (u 1) ∷ []; splits = 1 }

-- x at 0, u and u[x]
abbrev pub starts : ℕ → ℕ → Values
starts a b = (x, whole (pos 0)) ∷ (u 0, whole (pos a)) ∷ (u 1, whole (pos b)) ∷ []

pub record JetExamples : Type 0 where
  -- from u = 1 and u[x] = 2 on: u = 1 + 2*x + x^2
  pub conic_jet : jet_answer ordinary conic (starts 1 2) 3 ≡ Ok ((x, whole (pos 0)) ∷ (u 0, whole (pos 1)) ∷ (u 1, whole (pos 2)) ∷ (u 2, whole (pos 2)) ∷ (u 3, whole (pos 0)) ∷ [])
  -- the equation has value 5
  pub off : jet_answer ordinary conic (starts 1 3) 3 ≡ Err (faults.OffChain 1 (whole (pos 5)))
  -- the separant has value 0
  pub singular : jet_answer ordinary conic (starts 0 0) 3 ≡ Err (faults.Vanishes (parts.Separant 1))
  -- no value for u; one for u[x,x], which is fixed
  pub lacks : jet_answer ordinary conic ((x, whole (pos 0)) ∷ []) 3 ≡ Err (faults.Missing (u 0))
  pub too_much : jet_answer ordinary conic ((u 2, whole (pos 2)) ∷ starts 1 2) 3 ≡ Err (faults.NotFree (u 2))
  -- a fraction: from u = 1/4 and u[x] = 1 on, u[x,x] is 2
  pub quarter : jet_answer ordinary conic ((x, whole (pos 0)) ∷ (u 0, record { numerator = pos 1; denominator = 4 }) ∷ (u 1, whole (pos 1)) ∷ []) 2
      ≡ Ok ((x, whole (pos 0)) ∷ (u 0, record { numerator = pos 1; denominator = 4 }) ∷ (u 1, whole (pos 1)) ∷ (u 2, whole (pos 2)) ∷ [])

-- ---- two independents
-- the dependent u over x and y
abbrev pub plane : RankingValue
plane = record { signature = record { independents = 2; dependents = 1 }; blocks = record { kind = GrlexA; dependents = 0 ∷ [] } ∷ [] }

-- the same under a ranking by degrees and the last exponent
abbrev pub reversed : RankingValue
reversed = record { signature = record { independents = 2; dependents = 1 }; blocks = record { kind = DegrevB; dependents = 0 ∷ [] } ∷ [] }

abbrev pub y : Symbol
y = Independent 1

-- u derived by x and y, each so often
abbrev pub at : ℕ → ℕ → Symbol
at i j = Derivative 0 (record { counts = i ∷ j ∷ 0 ∷ 0 ∷ [] })

-- a fraction
abbrev pub over : ℕ → ℕ → Fraction
over n d = record { numerator = pos n; denominator = d }

-- u[x] - y and u[y] - k*x
abbrev pub gradient : ℕ → State
gradient k = record {
  equations = ((((at 1 0, 1) ∷ []), pos 1) ∷ (((y, 1) ∷ []), neg_ℤ (pos 1)) ∷ []) ∷ ((((at 0 1, 1) ∷ []), pos 1) ∷ (((x, 1) ∷ []), neg_ℤ (pos k)) ∷ []) ∷ [];
  inequations = [];
  splits = 0;
}

-- u[y]^2 - 4*u*y^2 and u[x]*y - u[y], with the inequation u[y]
abbrev pub tied : State
tied = record {
  equations = ((((at 0 1, 2) ∷ []), pos 1) ∷ (((at 0 0, 1) ∷ (y, 2) ∷ []), neg_ℤ (pos 4)) ∷ []) ∷ ((((at 1 0, 1) ∷ (y, 1) ∷ []), pos 1) ∷ (((at 0 1, 1) ∷ []), neg_ℤ (pos 1)) ∷ []) ∷ [];
  inequations = symbol_polynomial (at 0 1) ∷ [];
  splits = 1;
}

-- at x = 1 and y = 2
abbrev pub corner : ℕ → Values
corner k = (x, over 1 1) ∷ (y, over 2 1) ∷ (at 0 0, over 3 1) ∷ (at 0 1, over k 1) ∷ (at 1 0, over 2 1) ∷ []

pub record PairExamples : Type 0 where
  -- u[x] - y and u[y] - x are a chain: their Delta-polynomial is zero
  pub is_chain : chain_weight (setting_of plane) (gradient 1) (λ _. true) (record { first = 1; second = 2; steps = [] } ∷ []) ≡ Ok 1
  -- both lead to u[x,y], and agree there
  pub gradient_jet : jet_answer plane (gradient 1) (corner 1) 2 ≡ Ok ((x, over 1 1) ∷ (y, over 2 1) ∷ (at 0 0, over 3 1) ∷ (at 0 1, over 1 1) ∷ (at 1 0, over 2 1) ∷ (at 0 2, over 0 1) ∷ (at 1 1, over 1 1) ∷ (at 2 0, over 0 1) ∷ [])
  -- fractions
  pub tied_jet : jet_answer reversed tied ((x, over 0 1) ∷ (y, over 1 3) ∷ (at 0 0, over 1 4) ∷ (at 0 1, over 1 3) ∷ (at 1 0, over 1 1) ∷ []) 2
      ≡ Ok ((x, over 0 1) ∷ (y, over 1 3) ∷ (at 0 0, over 1 4) ∷ (at 0 1, over 1 3) ∷ (at 1 0, over 1 1) ∷ (at 0 2, over 11 9) ∷ (at 1 1, over 2 3) ∷ (at 2 0, over 2 1) ∷ [])
