-- The equations that are made from a seed: each is a derivative of a dependent, less a multiple of the dependent.
use Rattle.std.specs.Prelude.{ℕ, ℤ, zero, suc, pos, ◌+◌, ◌*◌, ◌-ℤ◌, ◌*ℤ◌, ◌≤◌, unsigned_abs, List, [], ◌∷◌, ◌++◌, slice_index_or}
use Rattle.std.specs.Int.{int_pow}
use Rattle.dz_rank.specs.declared.symbols.Operator.{Operator}
use Rattle.dz_sample.specs.declared.equations.Rates.{Rates}
use Rattle.dz_sample.specs.declared.equations.SampleEquation.{SampleEquation}
use Rattle.dz_sample.specs.Draws.{draw, drawn_number, next_state}

-- the operator that derives p times by the first independent and q times by the second
abbrev pub operator : ℕ → ℕ → Operator
operator p q = record { counts = p ∷ q ∷ 0 ∷ 0 ∷ [] }

-- a number from -9 to 9: the n-th draw of 19, less 9
abbrev pub rate : ℕ → ℕ → ℤ
rate seed n = pos (draw seed n 19) -ℤ pos 9

-- with what a dependent is multiplied when it is derived by the first independent, and by the second
abbrev pub rates_of : ℕ → ℕ → Rates
rates_of seed i = record { first = rate seed (2 * i + 1); second = rate seed (2 * i + 2) }

-- both are from -9 to 9
abbrev pub AreSmall : Rates → Type 0
AreSmall r = (unsigned_abs r.first ≤ 9) × (unsigned_abs r.second ≤ 9)

-- the two equations of a dependent with these rates
abbrev pub two_equations : ℕ → Rates → List SampleEquation
two_equations i r =
    record { dependent = i; operator = operator 1 0; coefficient = r.first }
    ∷ record { dependent = i; operator = operator 0 1; coefficient = r.second } ∷ []

-- an equation that follows from them, by p derivations and q
abbrev pub derived_equation : ℕ → Rates → ℕ → ℕ → SampleEquation
derived_equation i r p q =
    record { dependent = i; operator = operator p q; coefficient = int_pow r.first p *ℤ int_pow r.second q }

-- the j-th further equation, counted from 0: its dependent and its operator are drawn
abbrev pub further_equation : ℕ → ℕ → SampleEquation
further_equation seed j =
    let i = draw seed (3 * j + 17) 8 in
    derived_equation i (rates_of seed i) (draw seed (3 * j + 18) 8 + 1) (draw seed (3 * j + 19) 9)

-- the rates of the first n dependents
unfoldable pub first_rates : ℕ → ℕ → List Rates
first_rates seed zero = []
first_rates seed (suc n) = first_rates seed n ++ rates_of seed n ∷ []

-- and their equations
unfoldable pub first_equations : ℕ → ℕ → List SampleEquation
first_equations seed zero = []
first_equations seed (suc n) = first_equations seed n ++ two_equations n (rates_of seed n)

-- and n further ones
unfoldable pub further_equations : ℕ → ℕ → List SampleEquation
further_equations seed zero = []
further_equations seed (suc n) = further_equations seed n ++ further_equation seed n ∷ []

-- the equations that a seed and a size make
abbrev pub sample : ℕ → ℕ → List SampleEquation
sample seed size = first_equations seed 8 ++ further_equations seed size

-- ---- what the code keeps as it draws; no public clause cites this
-- the equation that is drawn next, after this state
abbrev pub drawn_equation : List Rates → ℕ → SampleEquation
drawn_equation rates s =
    let i = drawn_number 8 (next_state s) in
    derived_equation i (slice_index_or rates i (record { first = pos 0; second = pos 0 })) (drawn_number 8 (next_state (next_state s)) + 1)
    (drawn_number 9 (next_state (next_state (next_state s))))
