-- What a polynomial has of the derivatives of a leader.
use Rattle.std.specs.Prelude.{ℕ, nat_le, Bool, false, Option, Some, None}
use Rattle.std.specs.List.{list_any}
use Rattle.dz_algebra.specs.Parts.{degree}
use Rattle.dz_algebra.specs.Polynomial.{Polynomial}
use Rattle.dz_algebra.specs.Symbols.{Symbols}
use Rattle.dz_rank.specs.declared.symbols.Operator.{Operator}
use Rattle.dz_rank.specs.declared.symbols.Symbol.{Symbol}
use Rattle.dz_diff.specs.Operators.{is_proper, quotient}
use Rattle.dz_step.specs.Step.{step_degree}
use Rattle.dz_step.specs.FullRun.{derivatives_of}

-- a degree in a derivative is at least that which an operator's derivative of q has in it, where there is an operator
abbrev pub is_enough_by : Symbols Symbol → Symbol → Polynomial Symbol → ℕ → Option Operator → Bool
is_enough_by g l q d None = false
is_enough_by g l q d (Some t) = nat_le (step_degree g t l q) d

-- f has in v at least the degree that the derivative of q with the leader v has in it, where l is the leader of q
abbrev pub is_reducible_at : Symbols Symbol → Polynomial Symbol → Polynomial Symbol → Symbol → Symbol → Bool
is_reducible_at g f q l v = is_enough_by g l q (degree g.cmp v f) (quotient v l)

-- and so it has in some derivative of the leader of q, where there is one
abbrev pub is_reducible_by : Symbols Symbol → Polynomial Symbol → Polynomial Symbol → Option Symbol → Bool
is_reducible_by g f q None = false
is_reducible_by g f q (Some l) = list_any (is_reducible_at g f q l) (derivatives_of g f)

-- an operator, where there is one, is proper
abbrev pub is_proper_one : Option Operator → Bool
is_proper_one None = false
is_proper_one (Some t) = is_proper t

-- f has a proper derivative of l
abbrev pub has_proper_derivative : Symbols Symbol → Symbol → Polynomial Symbol → Bool
has_proper_derivative g l f = list_any (λ v. is_proper_one (quotient v l)) (derivatives_of g f)
