-- The operators in answers, and the signature to which they belong.
use Rattle.std.specs.Prelude.{ℕ, List}
use Rattle.dz_rank.specs.Symbols.{IsOperatorOf}
use Rattle.dz_monomials.specs.Lists.{AllOf}
use Rattle.dz_step.specs.StepOperators.{StopDerivesAlong}
use Rattle.dz_ask.specs.declared.preparing.Power.{Power}
use Rattle.dz_ask.specs.declared.preparing.PreparedTerm.{PreparedTerm}
use Rattle.dz_ask.specs.declared.preparing.Preparation.{Preparation}
use Rattle.dz_ask.specs.declared.preparing.PrepareAttempt.{PrepareAttempt}

-- the powers of a product derive in the directions of n independents alone
abbrev pub PowersDeriveAlong : ℕ → List Power → Type 0
PowersDeriveAlong n product = AllOf (λ (p : Power). IsOperatorOf n p.operator) product

-- so do those of a preparation
abbrev pub PreparationDerivesAlong : ℕ → Preparation → Type 0
PreparationDerivesAlong n p = AllOf (λ (t : PreparedTerm). PowersDeriveAlong n t.product.items) p.terms.items

-- and those of one that stops, with the product and the step at which it does
pub record PrepareAttemptDerivesAlong (n : ℕ) (a : PrepareAttempt) : Type 0 where
  pub partial : PreparationDerivesAlong n a.partial
  pub product : PowersDeriveAlong n a.product.items
  pub stop : StopDerivesAlong n a.stop
