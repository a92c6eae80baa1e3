-- Whether functions solve equations and inequations, by their substitutions (this project).
use Rattle.std.specs.Prelude.{◌≡◌, ◌≢◌, ◌+◌, ℕ, Bool, true, false, not, cond, [], ◌∷◌, Result, Ok}
use Rattle.dz_algebra.specs.Polynomial.{Polynomial}
use Rattle.dz_algebra.specs.Size.{Refusal, wide, large}
use Rattle.dz_rank.specs.declared.symbols.Symbol.{Symbol}
use Rattle.dz_rank.specs.Rankings.{RankingValue}
use Rattle.dz_monomials.specs.Lists.{AllOf}
use Rattle.dz_diff.specs.Operations.{Setting}
use Rattle.dz_algebra.specs.Outcome.{◌>>=◌, told_as}
use Rattle.dz_diff.specs.Tests.{Polynomials, is_zero}
use Rattle.dz_solution.specs.Evaluation.{substitution_answer}
use Rattle.dz_solution.specs.Substitution.{substitution}
use Rattle.dz_solution.specs.declared.stops.Place.{Place}
use Rattle.dz_solution.specs.declared.stops.Place.TheVariants.{Equation, Inequation}
use Rattle.dz_solution.specs.declared.stops.SolveStop.{SolveStop}
use Rattle.dz_solution.specs.declared.stops.SolveStop.TheVariants.{Wide, Large}

-- every equation has substitution zero, and no inequation has
pub record AreSolvedBy (r : RankingValue) (functions equations inequations : Polynomials) : Type 0 where
  pub equations_vanish : AllOf (λ p. substitution r functions p ≡ []) equations
  pub inequations_do_not : AllOf (λ h. substitution r functions h ≢ []) inequations

-- ---- the order of work
-- the place of the k-th equation, or of the k-th inequation
abbrev pub place_of : Bool → ℕ → Place
place_of true k = Equation k
place_of false k = Inequation k

-- a refused operation at a place
abbrev pub refused_at : Place → Refusal → SolveStop
refused_at place wide = Wide place
refused_at place (large limit) = Large place limit

-- a substitution of an equation passes where it is zero, and one of an inequation where it is not
abbrev pub passes : Bool → Polynomial Symbol → Bool
passes true q = is_zero q
passes false q = not (is_zero q)

-- whether the member at a place passes
abbrev pub member_answer : Setting → Polynomials → Bool → ℕ → Polynomial Symbol → Result Bool SolveStop
member_answer g functions equation k p =
    told_as (refused_at (place_of equation k)) (substitution_answer g functions p) >>= (λ q. Ok (passes equation q))

-- whether all members pass, of which k stand before the first; none is looked at behind one that does not
abbrev pub members_answer : Setting → Polynomials → Bool → ℕ → Polynomials → Result Bool SolveStop
members_answer g functions equation k [] = Ok true
members_answer g functions equation k (p ∷ ps) =
    member_answer g functions equation (k + 1) p
    >>= (λ passed. cond passed (members_answer g functions equation (k + 1) ps) (Ok false))

-- whether the functions solve equations and inequations, the equations first
unfoldable pub solution_answer : Setting → Polynomials → Polynomials → Polynomials → Result Bool SolveStop
solution_answer g functions equations inequations =
    members_answer g functions true 0 equations
    >>= (λ passed. cond passed (members_answer g functions false 0 inequations) (Ok false))
