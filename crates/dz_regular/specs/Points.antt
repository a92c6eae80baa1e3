-- Rows at points of a domain.
use Rattle.std.specs.Prelude.{◌≡◌, ⊤, List, [], ◌∷◌, map}
use Rattle.std.specs.declared.cmp.Ordering.{Ordering}
use Rattle.dz_algebra.specs.Domain.{Operations}
use Rattle.dz_rank.specs.declared.symbols.Symbol.{Symbol}
use Rattle.dz_poly.specs.Books.{BookValue, polynomial}
use Rattle.dz_domain.specs.Point.{Coordinates, value_at}
use Rattle.dz_monomials.specs.Lists.{AllOf}
use Rattle.dz_diff.specs.Tests.{Polynomials}
use Rattle.dz_regular.specs.Answers.{components_in}
use Rattle.dz_regular.specs.Identities.{IsRowFor}
use Rattle.dz_regular.specs.declared.answers.Row.{Row}

-- each has value zero at a point
abbrev pub HaveValueZero : {E : Type 0} → Operations E → Coordinates E → Polynomials → Type 0
HaveValueZero o c ps = AllOf (λ p. value_at o c p ≡ o.zero) ps

-- none has
abbrev pub NoneHasValueZero : {E : Type 0} → Operations E → Coordinates E → Polynomials → Type 0
NoneHasValueZero o c ps = AllOf (λ p. value_at o c p ≡ o.zero → ⊥) ps

-- one row for each inequation, in their order
abbrev pub AreRowsFor : (Symbol → Symbol → Ordering) → Polynomials → Polynomials → BookValue → List Row → Type 0
AreRowsFor cmp equations [] book [] = ⊤
AreRowsFor cmp equations [] book (row ∷ rows) = ⊥
AreRowsFor cmp equations (h ∷ inequations) book [] = ⊥
AreRowsFor cmp equations (h ∷ inequations) book (row ∷ rows) = IsRowFor cmp equations h (components_in book row) × AreRowsFor cmp equations inequations book rows

-- the rests of rows
abbrev pub rests_in : BookValue → List Row → Polynomials
rests_in book rows = map (λ (row : Row). polynomial book row.rest) rows
