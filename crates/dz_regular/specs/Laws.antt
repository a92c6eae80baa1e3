-- The laws of rows; the crate's law functions ask for their proofs.
use Rattle.std.specs.Prelude.{◌≡◌}
use Rattle.dz_algebra.specs.Domain.{Operations}
use Rattle.dz_algebra.specs.Polynomial.{Polynomial}
use Rattle.dz_algebra.specs.Value.{value}
use Rattle.dz_rank.specs.Rankings.{RankingValue, ranking_cmp}
use Rattle.dz_rank.specs.declared.symbols.Symbol.{Symbol}
use Rattle.dz_monomials.specs.Lists.{AllOf}
use Rattle.dz_diff.specs.Tests.{Polynomials}
use Rattle.dz_regular.specs.Identities.{IsRowFor}
use Rattle.dz_regular.specs.Rows.{rest_of}

-- what rows mean where the symbols have values in a domain
pub record RowValues {E : Type 0} (r : RankingValue) (o : Operations E) (at : Symbol → E) : Type 0 where
  -- where the equations have value zero and the rest has not, the inequation has not
  pub decides : (equations : Polynomials) (h : Polynomial Symbol) (components : Polynomials) → IsRowFor (ranking_cmp r) equations h components
      → AllOf (λ e. value o.arithmetic at e ≡ o.zero) equations
      → (value o.arithmetic at (rest_of components) ≡ o.zero → ⊥) → value o.arithmetic at h ≡ o.zero → ⊥
