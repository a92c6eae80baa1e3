-- States in a book.
use Rattle.std.specs.Prelude.{◌≡◌, ℕ, false, All, map, List, [], ◌∷◌, None}
use Rattle.std.specs.List.{IsDistinct}
use Rattle.dz_algebra.specs.Norm.{norm}
use Rattle.dz_algebra.specs.Symbols.{Symbols}
use Rattle.dz_rank.specs.declared.symbols.Symbol.{Symbol}
use Rattle.dz_poly.specs.Books.{BookValue, Lives, polynomial}
use Rattle.dz_monomials.specs.Lists.{AllOf}
use Rattle.dz_diff.specs.Tests.{Polynomials, has_unit, has_zero, same}
use Rattle.dz_diff.specs.State.{State, limit_passed}

-- the facts of a state: it has them at the root, and each move or fork is to keep them
pub record IsStateOf (g : Symbols Symbol) (s : State) : Type 0 where
  -- each member is its own norm
  pub equations_normalised : AllOf (λ p. norm p ≡ p) s.equations
  pub inequations_normalised : AllOf (λ p. norm p ≡ p) s.inequations
  -- no list has a repeat
  pub equations_distinct : IsDistinct (same g) s.equations
  pub inequations_distinct : IsDistinct (same g) s.inequations
  -- no equation is zero, and no inequation is ground and not zero
  pub no_zero : has_zero s.equations ≡ false
  pub no_unit : has_unit g s.inequations ≡ false
  -- it passes no limit
  pub within_limits : limit_passed (s ∷ []) ≡ None

-- ---- in a book
-- a state by the numbers of its polynomials
pub record StateValue : Type 0 where
  pub equations : List ℕ
  pub inequations : List ℕ
  pub splits : ℕ

-- a polynomial of each number stands in the book
abbrev pub LiveAll : BookValue → List ℕ → Type 0
LiveAll book ps = All (λ p. Lives book p) ps

-- the polynomials of numbers
abbrev pub polynomials : BookValue → List ℕ → Polynomials
polynomials book ps = map (λ p. polynomial book p) ps

-- the numbers mean these polynomials, in their order
pub record MeanAll (book : BookValue) (ps : List ℕ) (qs : Polynomials) : Type 0 where
  pub live : LiveAll book ps
  pub are : polynomials book ps ≡ qs

-- all polynomials of a state stand in the book
pub record StandsIn (book : BookValue) (s : StateValue) : Type 0 where
  pub equations_live : LiveAll book s.equations
  pub inequations_live : LiveAll book s.inequations

-- the state of the polynomials that the numbers mean
abbrev pub state_in : BookValue → StateValue → State
state_in book s = record { equations = polynomials book s.equations; inequations = polynomials book s.inequations; splits = s.splits }
