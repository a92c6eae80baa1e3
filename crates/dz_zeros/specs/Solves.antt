-- What it means that a point solves equations and inequations, and that it solves a chain.
use Rattle.std.specs.Prelude.{◌≡◌, Some}
use Rattle.dz_algebra.specs.Domain.{Operations}
use Rattle.dz_algebra.specs.Parts.{initial, leader, separant}
use Rattle.dz_algebra.specs.Polynomial.{Polynomial}
use Rattle.dz_algebra.specs.Symbols.{Symbols}
use Rattle.dz_rank.specs.declared.symbols.Symbol.{Symbol}
use Rattle.dz_domain.specs.Point.{Coordinates, value_at}
use Rattle.dz_monomials.specs.Lists.{AllOf}
use Rattle.dz_diff.specs.Tests.{Polynomials}
use Rattle.dz_diff.specs.State.{State}

-- the polynomial has value zero at a point
abbrev pub HasValueZero : {E : Type 0} → Operations E → Coordinates E → Polynomial Symbol → Type 0
HasValueZero o c a = value_at o c a ≡ o.zero

-- every equation has value zero, and no inequation has
pub record Solves {E : Type 0} (o : Operations E) (c : Coordinates E) (equations inequations : Polynomials) : Type 0 where
  pub equations_vanish : AllOf (HasValueZero o c) equations
  pub inequations_do_not : AllOf (λ h. HasValueZero o c h → ⊥) inequations

-- a point solves a state
abbrev pub SolvesState : {E : Type 0} → Operations E → Coordinates E → State → Type 0
SolvesState o c s = Solves o c s.equations s.inequations

-- neither the initial nor the separant of an equation has value zero
pub record IsRegularAt {E : Type 0} (g : Symbols Symbol) (o : Operations E) (c : Coordinates E) (p : Polynomial Symbol) : Type 0 where
  pub initial : (l : Symbol) → leader g p ≡ Some l → HasValueZero o c (initial g.cmp l p) → ⊥
  pub separant : (l : Symbol) → leader g p ≡ Some l → HasValueZero o c (separant g.cmp l p) → ⊥

-- A point is a regular zero of a chain (Ritt, Kolchin): its equations have value zero, and none of its initials, separants and
-- inequations has.
pub record SolvesChain {E : Type 0} (g : Symbols Symbol) (o : Operations E) (c : Coordinates E) (s : State) : Type 0 where
  pub members : SolvesState o c s
  pub multipliers : AllOf (λ p. IsRegularAt g o c p) s.equations
