-- Parts of what actions answer. Public clauses cite `is_act`, `delta_run`, `IsPairRun` and `IsOpenWeight` alone.
use Rattle.std.specs.Prelude.{◌≡◌, ℕ, ◌-◌, ◌^◌, min, nat_lt, Bool, true, false, not, ◌&&◌, List, [], ◌∷◌, ◌++◌, length, Option, Some, None, Result, Ok, is_ok}
use Rattle.dz_algebra.specs.Parts.{is_ground}
use Rattle.dz_algebra.specs.Polynomial.{Polynomial, symbol_polynomial}
use Rattle.dz_algebra.specs.Symbols.{Symbols}
use Rattle.dz_rank.specs.declared.symbols.Symbol.{Symbol}
use Rattle.dz_algebra.specs.Outcome.{◌>>=◌, given, needs, numbered, told_as}
use Rattle.dz_diff.specs.Operations.{Setting}
use Rattle.dz_diff.specs.State.{State, at_place, put_equation}
use Rattle.dz_diff.specs.Tests.{Polynomials, is_member, is_zero, same}
use Rattle.dz_step.specs.declared.Role.{Role}
use Rattle.dz_step.specs.declared.Role.TheVariants.{Free}
use Rattle.dz_step.specs.declared.Step.{Step}
use Rattle.dz_step.specs.FullRun.{admits}
use Rattle.dz_step.specs.Run.{Ran, run}
use Rattle.dz_pair.specs.Pair.{delta_answer, is_pair}
use Rattle.dz_move.specs.declared.pair_runs.ActionEnd.{ActionEnd}
use Rattle.dz_move.specs.declared.Rule.TheVariants as rules
use Rattle.dz_move.specs.Moves.{forked}
use Rattle.dz_move.specs.Lines.{Line, act}
use Rattle.dz_move.specs.Fault.{Fault, refusal, rule, run_fault}

-- a run on what stands at a place
abbrev pub placed_run : Setting → State → Role → ℕ → Polynomials → List Step → Result Ran (ℕ × Fault)
placed_run g s role i ps steps = given (at_place i ps) (0, rule rules.Place) >>= (λ f. told_as run_fault (run g s role f steps))

-- a Delta-polynomial by the number of its terms, and the run from it
pub record DeltaRun : Type 0 where
  pub terms : ℕ
  pub ran : Ran

-- the free run from the Delta-polynomial of two polynomials
abbrev pub delta_run : Setting → State → Polynomial Symbol → Polynomial Symbol → List Step → Result DeltaRun (ℕ × Fault)
delta_run g s p q steps = do
  d ← numbered 0 (told_as refusal (delta_answer g p q))
  r ← told_as run_fault (run g s Free d steps)
  Ok (record { terms = length d; ran = r })

-- and from that of the critical pair at two places
abbrev pub placed_pair_run : Setting → State → ℕ → ℕ → List Step → Result DeltaRun (ℕ × Fault)
placed_pair_run g s i j steps = do
  _ ← needs (nat_lt i j) (0, rule rules.Place)
  p ← given (at_place i s.equations) (0, rule rules.Place)
  q ← given (at_place j s.equations) (0, rule rules.Place)
  _ ← needs (is_pair g.symbols p q) (0, rule rules.Pair)
  delta_run g s p q steps

-- such a run, with its count up to the greatest number of a usize
pub record IsPairRun (x : ActionEnd) (answer : Result DeltaRun (ℕ × Fault)) : Type 0 where
  pub count : ℕ
  pub is : answer ≡ Ok (record { terms = x.terms; ran = record { end = ((x.run).end).terms; count = count } })
  pub counted : (x.run).count ≡ min count (2 ^ 64 - 1)

-- the end of a run may be added: it is not zero, no equation, and admits no free step
abbrev pub may_be_added : Setting → State → Polynomial Symbol → Bool
may_be_added g s x = not (is_zero x) && not (is_member g.symbols x s.equations) && not (admits g s Free x)

-- a polynomial may be split on: it is not ground, and neither equation nor inequation
abbrev pub is_new : Symbols Symbol → State → Polynomial Symbol → Bool
is_new g s h = not (is_ground g h) && not (is_member g h s.equations) && not (is_member g h s.inequations)

-- a symbol is a derivative that is neither an equation itself nor an inequation
abbrev pub may_be_factor : Symbols Symbol → State → Polynomial Symbol → Symbol → Bool
may_be_factor g s p v = g.is_derivative v && not (same g p (symbol_polynomial v)) && not (is_member g (symbol_polynomial v) s.inequations)

-- the line is a move or a fork
abbrev pub is_act : Line → Bool
is_act (act action) = true
is_act line = false

-- the states of a fork by a factor: a quotient at a place with a further inequation, and the factor there
abbrev pub factor_states : Symbols Symbol → State → ℕ → Polynomial Symbol → Polynomial Symbol → Polynomial Symbol → List State
factor_states g s i q h f = forked s (put_equation g i q s.equations) (s.inequations ++ h ∷ []) ∷ forked s (put_equation g i f s.equations) s.inequations ∷ []

-- the weight of a run that may stop anywhere, up to the greatest number of a usize; or it is none
abbrev pub IsOpenWeight : Option ℕ → Result ℕ (ℕ × Fault) → Type 0
IsOpenWeight (Some w) answer = (n : ℕ) × (answer ≡ Ok n) × (w ≡ min n (2 ^ 64 - 1))
IsOpenWeight None answer = is_ok answer ≡ false
