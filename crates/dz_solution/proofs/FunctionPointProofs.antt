-- The function point is a point that fits the signature.
use Rattle.std.proofs.Common.{◌≡◌, ◌∙◌, ◌↔◌, ℕ, zero, suc, ◌≤◌, ◌<◌, ◌==◌, cond, IsTrue, All, List, [], length, take, get_or, slice_index_or, refl, sym, ap, arith}
use Rattle.std.proofs.lemmas.List.{get_or-take, length-map, length-take-le}
use Rattle.std.proofs.lemmas.List.Elements.{All-map, All-take}
use Rattle.dz_algebra.specs.Domain.{DomainLaws}
use Rattle.dz_algebra.specs.Polynomial.{Polynomial, PolynomialIn}
use Rattle.dz_algebra.specs.Whole.{whole_laws}
use Rattle.dz_algebra.proofs.DomainValues.{value_is_value}
use Rattle.dz_rank.specs.declared.rankings.Signature.{Signature}
use Rattle.dz_rank.specs.Rankings.{RankingValue}
use Rattle.dz_rank.specs.Symbols.{BelongsTo}
use Rattle.dz_rank.specs.declared.symbols.Symbol.{Symbol}
use Rattle.dz_diff.specs.Tests.{Polynomials}
use Rattle.dz_domain.specs.AdjoinLaws.{adjoin_laws}
use Rattle.dz_domain.specs.Point.{IsPoint, FitsSignature, symbol_value, value_at}
use Rattle.dz_domain.proofs.Points.{symbol_is_value}
use Rattle.dz_solution.specs.FunctionPoints.{Element, in_four_variables, variables, function_point}
use Rattle.dz_solution.specs.Substitution.{substitution}
use Rattle.dz_solution.proofs.FunctionValues.{AreGround, vanishes_there}

-- polynomials in four variables are a domain
pub four_laws : DomainLaws in_four_variables
four_laws = adjoin_laws (adjoin_laws (adjoin_laws (adjoin_laws whole_laws)))

-- there are four
variable_count : length variables ≡ 4
unfolding variables
variable_count = refl

-- they are values
variable_is_value : (k : ℕ) → k < 4 → (d : Element) → IsTrue (in_four_variables.is_value (get_or variables k d))
unfolding variables
variable_is_value zero h d = refl
variable_is_value (suc zero) h d = refl
variable_is_value (suc (suc zero)) h d = refl
variable_is_value (suc (suc (suc zero))) h d = refl
variable_is_value (suc (suc (suc (suc k)))) h d = absurd (omega arith)

-- each derivation takes its variable to one and the others to zero
variable_rate : (i j : ℕ) → i < 4 → j < 4 → in_four_variables.derivative i (get_or variables j in_four_variables.zero) ≡ cond (i == j) in_four_variables.one in_four_variables.zero
unfolding variables
variable_rate zero zero h g = refl
variable_rate zero (suc zero) h g = refl
variable_rate zero (suc (suc zero)) h g = refl
variable_rate zero (suc (suc (suc zero))) h g = refl
variable_rate (suc zero) zero h g = refl
variable_rate (suc zero) (suc zero) h g = refl
variable_rate (suc zero) (suc (suc zero)) h g = refl
variable_rate (suc zero) (suc (suc (suc zero))) h g = refl
variable_rate (suc (suc zero)) zero h g = refl
variable_rate (suc (suc zero)) (suc zero) h g = refl
variable_rate (suc (suc zero)) (suc (suc zero)) h g = refl
variable_rate (suc (suc zero)) (suc (suc (suc zero))) h g = refl
variable_rate (suc (suc (suc zero))) zero h g = refl
variable_rate (suc (suc (suc zero))) (suc zero) h g = refl
variable_rate (suc (suc (suc zero))) (suc (suc zero)) h g = refl
variable_rate (suc (suc (suc zero))) (suc (suc (suc zero))) h g = refl
variable_rate (suc (suc (suc (suc i)))) j h g = absurd (omega arith)
variable_rate i (suc (suc (suc (suc j)))) h g = absurd (omega arith)

module _ (n : ℕ) (few : n ≤ 4) (fs : Polynomials) where
  taken_count : length (take n variables) ≡ n
  taken_count = length-take-le n variables (omega (arith, few, variable_count))

  -- the point of the variables alone
  variables_point : (us : List Element) → All (λ x. IsTrue (in_four_variables.is_value x)) us → IsPoint in_four_variables (record { independents = take n variables; dependents = us })
  variables_point us values = record {
    independent_values = All-take (λ x. IsTrue (in_four_variables.is_value x)) n variables (λ k d h. variable_is_value k (omega (arith, h, variable_count)) d);
    dependent_values = values;
    enough = omega (arith, taken_count, few);
    rates = λ i j h g.
        ap (in_four_variables.derivative i) (get_or-take n variables j in_four_variables.zero (omega (arith, g, taken_count)))
        ∙ variable_rate i j h (omega (arith, g, taken_count, few));
  }

  alone : IsPoint in_four_variables (record { independents = take n variables; dependents = [] })
  alone = variables_point [] (λ k d h. absurd (omega (arith, h)))

  -- the function point
  pub function_point_is : IsPoint in_four_variables (function_point n fs)
  unfolding function_point
  function_point_is = variables_point _ (All-map (λ x. IsTrue (in_four_variables.is_value x)) (value_at in_four_variables (record { independents = take n variables; dependents = [] })) fs (λ k d h. value_is_value four_laws (symbol_value in_four_variables (record { independents = take n variables; dependents = [] })) (symbol_is_value four_laws alone) (slice_index_or fs k d)))

  -- it fits
  pub function_point_fits : (g : Signature) → g.independents ≡ n → length fs ≡ g.dependents → FitsSignature g (function_point n fs)
  unfolding function_point
  function_point_fits g is one_each = record { independents = taken_count ∙ sym is; dependents = length-map fs (value_at in_four_variables (record { independents = take n variables; dependents = [] })) ∙ one_each }

-- a polynomial vanishes there exactly where its substitution is zero
pub vanishes_at_functions : (r : RankingValue) (fs : Polynomials) (p : Polynomial Symbol) → r.signature.independents ≤ 4 → length fs ≡ r.signature.dependents → AreGround r fs → PolynomialIn (BelongsTo r.signature) p
    → (value_at in_four_variables (function_point r.signature.independents fs) p ≡ in_four_variables.zero) ↔ (substitution r fs p ≡ [])
unfolding function_point
vanishes_at_functions r fs p few one_each grounds belongs =
    vanishes_there r four_laws (take r.signature.independents variables) fs grounds (function_point_is r.signature.independents few fs) (function_point_fits r.signature.independents few fs r.signature refl one_each) p belongs
