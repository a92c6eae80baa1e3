-- Moves and forks: the states after them and their weight, or the first rule that fails (this project).
use Rattle.std.specs.Prelude.{ℕ, suc, ◌+◌, nat_lt, Bool, false, true, not, ◌&&◌, List, [], ◌∷◌, ◌++◌, length, Result, Ok, Err, Option, Some, None, ⊤}
use Rattle.dz_algebra.specs.declared.Limit.{Limit}
use Rattle.dz_algebra.specs.Polynomial.{symbol_polynomial}
use Rattle.dz_algebra.specs.Norm.{norm}
use Rattle.dz_algebra.specs.Parts.{is_ground, leader}
use Rattle.dz_algebra.specs.Size.{large}
use Rattle.dz_rank.specs.declared.symbols.Symbol.{Symbol}
use Rattle.dz_algebra.specs.Outcome.{◌>>=◌, needs, given, numbered, told_as}
use Rattle.dz_diff.specs.Tests.{Polynomials, is_zero, is_member, same}
use Rattle.dz_diff.specs.Operations.{Setting}
use Rattle.dz_diff.specs.State.{State, at_place, put_equation, put_inequation, limit_passed, same_state}
use Rattle.dz_step.specs.declared.Which.{Which}
use Rattle.dz_step.specs.declared.Role.TheVariants.{Free, Equation, Inequation}
use Rattle.dz_step.specs.declared.Step.{Step}
use Rattle.dz_step.specs.Step.{multiplier_answer}
use Rattle.dz_step.specs.Run.{run}
use Rattle.dz_step.specs.FullRun.{admits}
use Rattle.dz_pair.specs.Pair.{is_pair, delta_answer}
use Rattle.dz_move.specs.declared.Rule.TheVariants as rules
use Rattle.dz_move.specs.Fault.{Fault, refusal, rule, run_fault}
use Rattle.dz_monomials.specs.PowerDivision.{quotient_by, is_divided}

-- What a move or a fork names. Moves: reduce an equation, weed out an inequation, add the end of a run from a
-- Delta-polynomial, divide an equation by a symbol. Forks: split on an initial or separant, factor a symbol out.
pub data Action : Type 0 where
  reduce : ℕ → List Step → Action
  weed : ℕ → List Step → Action
  add : ℕ → ℕ → List Step → Action
  divide : ℕ → Symbol → Action
  split : ℕ → Which → Action
  factor : ℕ → Symbol → Action

-- an action with two states after it
abbrev pub is_fork : Action → Bool
is_fork (split i which) = true
is_fork (factor i v) = true
is_fork action = false

-- the steps that an action names
abbrev pub steps_of : Action → List Step
steps_of (reduce i steps) = steps
steps_of (weed j steps) = steps
steps_of (add i j steps) = steps
steps_of (divide i v) = []
steps_of (split i which) = []
steps_of (factor i v) = []

-- ---- what an action makes
-- the states after an action, and its weight
pub record Done : Type 0 where
  pub after : List State
  pub weight : ℕ

-- no limit is passed
abbrev pub within : Option Limit → Result ⊤ Fault
within None = Ok tt
within (Some limit) = Err (refusal (large limit))

-- states within the limits; a refusal is told with the number of steps before it
abbrev pub settled : ℕ → List State → ℕ → Result Done (ℕ × Fault)
settled k ss w = numbered k (within (limit_passed ss)) >>= (λ _. Ok (record { after = ss; weight = w }))

-- a state with other equations
abbrev pub with_equations : State → Polynomials → State
with_equations s es = record { equations = es; inequations = s.inequations; splits = s.splits }

-- a state with other inequations
abbrev pub with_inequations : State → Polynomials → State
with_inequations s hs = record { equations = s.equations; inequations = hs; splits = s.splits }

-- a state with one more fork above it
abbrev pub forked : State → Polynomials → Polynomials → State
forked s es hs = record { equations = es; inequations = hs; splits = suc s.splits }

-- a state after a run, which differs from the state before
abbrev pub moved : Setting → State → ℕ → State → ℕ → Result Done (ℕ × Fault)
moved g s k after w = do
  _ ← needs (not (same_state g.symbols s after)) (k, rule rules.Same)
  settled k (after ∷ []) w

-- ---- the moves
-- the end of a run on equation i is put at place i
unfoldable pub reduced : Setting → State → ℕ → List Step → Result Done (ℕ × Fault)
reduced g s i steps = do
  f ← given (at_place i s.equations) (0, rule rules.Place)
  r ← told_as run_fault (run g s (Equation i) f steps)
  moved g s (length steps) (with_equations s (put_equation g.symbols i r.end s.equations)) (1 + r.count)

-- the end of a run on inequation j is put at place j
unfoldable pub weeded : Setting → State → ℕ → List Step → Result Done (ℕ × Fault)
weeded g s j steps = do
  f ← given (at_place j s.inequations) (0, rule rules.Place)
  r ← told_as run_fault (run g s (Inequation j) f steps)
  moved g s (length steps) (with_inequations s (put_inequation g.symbols j r.end s.inequations)) (1 + r.count)

-- the end of a free run from the Delta-polynomial of a critical pair is appended
unfoldable pub grown : Setting → State → ℕ → ℕ → List Step → Result Done (ℕ × Fault)
grown g s i j steps = do
  _ ← needs (nat_lt i j) (0, rule rules.Place)
  p ← given (at_place i s.equations) (0, rule rules.Place)
  q ← given (at_place j s.equations) (0, rule rules.Place)
  _ ← needs (is_pair g.symbols p q) (0, rule rules.Pair)
  d ← numbered 0 (told_as refusal (delta_answer g p q))
  r ← told_as run_fault (run g s Free d steps)
  _ ← needs (not (is_zero r.end) && not (is_member g.symbols r.end s.equations) && not (admits g s Free r.end)) (length steps, rule rules.End)
  settled (length steps) (with_equations s (s.equations ++ r.end ∷ []) ∷ []) (1 + length d + r.count)

-- an equation is divided by the greatest power of a symbol that is an inequation
unfoldable pub divided_at : Setting → State → ℕ → Symbol → Result Done (ℕ × Fault)
divided_at g s i v = do
  p ← given (at_place i s.equations) (0, rule rules.Place)
  _ ← needs (is_divided g.symbols.cmp v p && is_member g.symbols (symbol_polynomial v) s.inequations) (0, rule rules.Symbol)
  settled 0 (with_equations s (put_equation g.symbols i (quotient_by g.symbols.cmp v p) s.equations) ∷ []) (1 + length (quotient_by g.symbols.cmp v p))

-- ---- the forks
-- the norm of an initial or separant becomes an inequation, or an equation
unfoldable pub split_at : Setting → State → ℕ → Which → Result Done (ℕ × Fault)
split_at g s i which = do
  p ← given (at_place i s.equations) (0, rule rules.Place)
  l ← given (leader g.symbols p) (0, rule rules.Fork)
  m ← numbered 0 (told_as refusal (multiplier_answer g.symbols which l p))
  _ ← needs (not (is_ground g.symbols m) && not (is_member g.symbols (norm m) s.equations) && not (is_member g.symbols (norm m) s.inequations)) (0, rule rules.Fork)
  settled 0 (forked s s.equations (s.inequations ++ norm m ∷ []) ∷ forked s (s.equations ++ norm m ∷ []) s.inequations ∷ []) (1 + length (norm m))

-- a derivative that divides an equation becomes an inequation and is divided out, or takes the equation's place
unfoldable pub factored : Setting → State → ℕ → Symbol → Result Done (ℕ × Fault)
factored g s i v = do
  p ← given (at_place i s.equations) (0, rule rules.Place)
  _ ← needs (g.symbols.is_derivative v && is_divided g.symbols.cmp v p && not (same g.symbols p (symbol_polynomial v)) && not (is_member g.symbols (symbol_polynomial v) s.inequations)) (0, rule rules.Symbol)
  settled 0
      (forked s (put_equation g.symbols i (quotient_by g.symbols.cmp v p) s.equations) (s.inequations ++ symbol_polynomial v ∷ [])
      ∷ forked s (put_equation g.symbols i (symbol_polynomial v) s.equations) s.inequations ∷ [])
      (1 + length (quotient_by g.symbols.cmp v p))

-- the states after an action and its weight; a fault is told with the number of steps before it
abbrev pub perform : Setting → State → Action → Result Done (ℕ × Fault)
perform g s (reduce i steps) = reduced g s i steps
perform g s (weed j steps) = weeded g s j steps
perform g s (add i j steps) = grown g s i j steps
perform g s (divide i v) = divided_at g s i v
perform g s (split i which) = split_at g s i which
perform g s (factor i v) = factored g s i v
