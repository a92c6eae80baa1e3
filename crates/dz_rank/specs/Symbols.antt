-- Derivation operators, derivatives and symbols.
use Rattle.std.specs.Prelude.{◌≡◌, ⊤, ◌<◌, ℕ, zero, suc, ◌+◌, Bool, true, false, List, [], ◌∷◌, length, drop, sum, max, All, IsTrue, ◌==◌}
use Rattle.dz_rank.specs.declared.rankings.Signature.{Signature}
use Rattle.dz_rank.specs.declared.symbols.Operator.{Operator}
use Rattle.dz_rank.specs.declared.symbols.Symbol.{Symbol}
use Rattle.dz_rank.specs.declared.symbols.Symbol.TheVariants.{Independent, Derivative}

-- the operator that takes no derivation
abbrev pub identity : Operator
identity = record { counts = 0 ∷ 0 ∷ 0 ∷ 0 ∷ [] }

-- an operator of n independents has four exponents, which are zero from position n on
pub record IsOperatorOf (n : ℕ) (t : Operator) : Type 0 where
  pub size : length t.counts ≡ 4
  pub zeros : All (λ k. k ≡ 0) (drop n t.counts)

-- a symbol of a signature has its number, or its dependent and operator, below the signature's
abbrev pub BelongsTo : Signature → Symbol → Type 0
BelongsTo g (Independent i) = i < g.independents
BelongsTo g (Derivative u t) = (u < g.dependents) × IsOperatorOf g.independents t

-- a symbol whose operator, if it has one, has four exponents, as every symbol of the code
abbrev pub HasFourExponents : Symbol → Type 0
HasFourExponents (Independent i) = ⊤
HasFourExponents (Derivative u t) = length t.counts ≡ 4

abbrev pub is_derivative : Symbol → Bool
is_derivative (Independent i) = false
is_derivative (Derivative u t) = true

-- the total order of a derivative is the sum of its operator's exponents; an independent has 0
abbrev pub total_order : Symbol → ℕ
total_order (Independent i) = 0
total_order (Derivative u t) = sum t.counts

-- exponents with the i-th greater by one
abbrev pub raised : ℕ → List ℕ → List ℕ
raised zero [] = 1 ∷ []
raised zero (k ∷ ks) = suc k ∷ ks
raised (suc i) [] = 0 ∷ raised i []
raised (suc i) (k ∷ ks) = k ∷ raised i ks

-- the derivative of a derivative by the i-th derivation
abbrev pub raised_symbol : ℕ → Symbol → Symbol
raised_symbol i (Independent j) = Independent j
raised_symbol i (Derivative u t) = Derivative u (record { counts = raised i t.counts })

-- the exponents of a product of operators
abbrev pub exponent_sums : List ℕ → List ℕ → List ℕ
exponent_sums [] ts = ts
exponent_sums (s ∷ ss) [] = s ∷ ss
exponent_sums (s ∷ ss) (t ∷ ts) = (s + t) ∷ exponent_sums ss ts

-- the greater of each two exponents
abbrev pub exponent_maxima : List ℕ → List ℕ → List ℕ
exponent_maxima [] ts = ts
exponent_maxima (s ∷ ss) [] = s ∷ ss
exponent_maxima (s ∷ ss) (t ∷ ts) = max s t ∷ exponent_maxima ss ts

-- the derivative of a derivative by an operator
abbrev pub derivative_by : Operator → Symbol → Symbol
derivative_by t (Independent i) = Independent i
derivative_by t (Derivative u s) = Derivative u (record { counts = exponent_sums s.counts t.counts })

-- a is the derivative of the derivative b by t
abbrev pub IsDerivativeBy : Operator → Symbol → Symbol → Type 0
IsDerivativeBy t b a = IsTrue (is_derivative b) × (a ≡ derivative_by t b)

-- a is a derivative of b
abbrev pub IsDerivativeOf : Symbol → Symbol → Type 0
IsDerivativeOf b a = (t : Operator) × IsDerivativeBy t b a

abbrev pub have_one_dependent : Symbol → Symbol → Bool
have_one_dependent (Independent i) b = false
have_one_dependent (Derivative u s) (Independent j) = false
have_one_dependent (Derivative u s) (Derivative v t) = u == v

-- the least common derivative of two derivatives of one dependent
abbrev pub least_common_derivative : Symbol → Symbol → Symbol
least_common_derivative (Independent i) b = Independent i
least_common_derivative (Derivative u s) (Independent j) = Derivative u s
least_common_derivative (Derivative u s) (Derivative v t) = Derivative u (record { counts = exponent_maxima s.counts t.counts })

-- w is a derivative of both, and every other common derivative is one of w
pub record IsLeastCommon (a b w : Symbol) : Type 0 where
  pub first : IsDerivativeOf a w
  pub second : IsDerivativeOf b w
  pub least : (v : Symbol) → IsDerivativeOf a v → IsDerivativeOf b v → IsDerivativeOf w v
