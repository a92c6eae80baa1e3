-- What parts of the computation of a Delta-polynomial answer.
use Rattle.std.specs.Prelude.{Result, Ok}
use Rattle.dz_algebra.specs.Norm.{norm}
use Rattle.dz_algebra.specs.Polynomial.{Polynomial}
use Rattle.dz_algebra.specs.Size.{Refusal, difference_answer, product_answer}
use Rattle.dz_algebra.specs.Symbols.{Symbols}
use Rattle.dz_rank.specs.declared.symbols.Operator.{Operator}
use Rattle.dz_rank.specs.declared.symbols.Symbol.{Symbol}
use Rattle.dz_algebra.specs.Outcome.{◌>>=◌}
use Rattle.dz_diff.specs.Operations.{Setting, operator_answer}

-- the norm of s * a - t * b
abbrev pub cross_answer : Symbols Symbol → Polynomial Symbol → Polynomial Symbol → Polynomial Symbol → Polynomial Symbol → Result (Polynomial Symbol) Refusal
cross_answer g s a t b = do
  left ← product_answer g s a
  right ← product_answer g t b
  rest ← difference_answer g left right
  Ok (norm rest)

-- the norm of t * phi p - s * psi q
abbrev pub derived_answer : Setting → Polynomial Symbol → Polynomial Symbol → Operator → Operator → Polynomial Symbol → Polynomial Symbol → Result (Polynomial Symbol) Refusal
derived_answer g s t phi psi p q = do
  a ← operator_answer g phi p
  b ← operator_answer g psi q
  cross_answer g.symbols t a s b
