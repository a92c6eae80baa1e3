-- Worked examples of small systems, computed by hand or by a plain program: their trees, verdicts and chains.
use Rattle.std.specs.Prelude.{◌≡◌, ℕ, ◌^◌, List, [], ◌∷◌, ℤ, pos, neg_ℤ, Ok, Err}
use Rattle.dz_algebra.specs.declared.Limit.TheVariants as limits
use Rattle.dz_algebra.specs.Monomial.{Monomial}
use Rattle.dz_algebra.specs.Polynomial.{Polynomial, symbol_polynomial}
use Rattle.dz_algebra.specs.Size.{large}
use Rattle.dz_rank.specs.declared.rankings.Kind.TheVariants.{GrlexA}
use Rattle.dz_rank.specs.declared.symbols.Symbol.{Symbol}
use Rattle.dz_rank.specs.declared.symbols.Symbol.TheVariants.{Independent, Derivative}
use Rattle.dz_rank.specs.Rankings.{BlockValue}
use Rattle.dz_diff.specs.Operations.{Setting, setting_of}
use Rattle.dz_diff.specs.State.{State}
use Rattle.dz_move.specs.Root.{System, root_of}
use Rattle.dz_diff.specs.Tests.{Polynomials}
use Rattle.dz_step.specs.declared.Step.{Step}
use Rattle.dz_step.specs.declared.Which.TheVariants.{Initial, Separant}
use Rattle.dz_step.specs.declared.Role.TheVariants.{Free}
use Rattle.dz_step.specs.Step.{no_step}
use Rattle.dz_step.specs.Run.{run}
use Rattle.dz_step.specs.FullRun.{finished, passed, full_run}
use Rattle.dz_pair.specs.Pair.{delta_answer, critical_pairs}
use Rattle.dz_move.specs.declared.Rule.TheVariants as rules
use Rattle.dz_move.specs.Moves.{reduce, weed, add, divide, split, factor}
use Rattle.dz_move.specs.Lines.{Line, act, closed, chain, pair, spent, spent_pairs, open_wide}
use Rattle.dz_check.specs.Walk.{Verdict, accepted, partial, rejected, verdict_of, chains_of, ends_in, ends_of}
use Rattle.dz_engine.specs.Worked.{worked_lines}

-- ---- symbols and settings
-- a block of the kind grlexA
abbrev pub graded : List ℕ → BlockValue
graded us = record { kind = GrlexA; dependents = us }

-- so many independents and dependents under some blocks
abbrev pub setting : ℕ → ℕ → List BlockValue → Setting
setting n m blocks = setting_of (record { signature = record { independents = n; dependents = m }; blocks = blocks })

-- the dependents u and v
abbrev pub u : ℕ
u = 0

abbrev pub v : ℕ
v = 1

-- a dependent derived by the first two independents, each so often
abbrev pub derived : ℕ → ℕ → ℕ → Symbol
derived d i j = Derivative d (record { counts = i ∷ j ∷ 0 ∷ 0 ∷ [] })

-- the first two independents
abbrev pub x : Symbol
x = Independent 0

abbrev pub y : Symbol
y = Independent 1

-- the step by the equation of a place, derived by the first two independents
abbrev pub step : ℕ → ℕ → ℕ → Step
step place i j = record { place = place; operator = record { counts = i ∷ j ∷ 0 ∷ 0 ∷ [] } }

-- a term with a negative coefficient
abbrev pub minus : ℕ → ℤ
minus n = neg_ℤ (pos n)

-- one symbol, as a monomial
abbrev pub one : Symbol → Monomial Symbol
one s = (s, 1) ∷ []

-- the difference of two symbols, the greater first
abbrev pub apart : Symbol → Symbol → Polynomial Symbol
apart s t = (one s, pos 1) ∷ (one t, minus 1) ∷ []

-- equations alone
abbrev pub equations : Polynomials → System
equations es = record { equations = es; inequations = [] }

-- the verdict on lines with a budget
abbrev pub checked : Setting → System → ℕ → List Line → Verdict
checked g system budget lines = verdict_of g system (record { budget = budget; lines = lines })

-- a pair of places with a run of no step
abbrev pub bare_pair : ℕ → ℕ → Line
bare_pair i j = pair (record { first = i; second = j; steps = [] })

-- ---- one dependent, one independent
-- the dependent u over x
abbrev pub ordinary : Setting
ordinary = setting 1 1 (graded (u ∷ []) ∷ [])

-- u[x]^2 - 4*u
abbrev pub conic : Polynomial Symbol
conic = ((derived u 1 0, 2) ∷ [], pos 1) ∷ (one (derived u 0 0), minus 4) ∷ []

-- u[x,x] - 2
abbrev pub bent : Polynomial Symbol
bent = (one (derived u 2 0), pos 1) ∷ ([], minus 2) ∷ []

-- a state with the equation u[x]^2 - 4*u and some inequations
abbrev pub conic_state : Polynomials → State
conic_state hs = record { equations = conic ∷ []; inequations = hs; splits = 0 }

-- the tree of u[x]^2 - 4*u, its last run with a step by the k-th derivative
abbrev pub conic_lines : ℕ → List Line
conic_lines k = act (split 1 Separant) ∷ chain ∷ act (reduce 1 (step 2 0 0 ∷ [])) ∷ act (reduce 2 (step 1 k 0 ∷ [])) ∷ chain ∷ []

-- the system u[x]^2 - 4*u
pub record ConicExamples : Type 0 where
  -- its worked tree
  pub worked : worked_lines ordinary 1000000 9 (equations (conic ∷ [])) ≡ conic_lines 1
  -- its chains: u[x]^2 - 4*u with the inequation u[x], and u
  pub chains : chains_of (ends_in (ends_of ordinary (equations (conic ∷ [])) (record { budget = 7; lines = conic_lines 1 })))
      ≡ record { equations = conic ∷ []; inequations = symbol_polynomial (derived u 1 0) ∷ []; splits = 1 }
      ∷ record { equations = symbol_polynomial (derived u 0 0) ∷ []; inequations = []; splits = 1 } ∷ []
  -- the weight is 7
  pub weight : checked ordinary (equations (conic ∷ [])) 7 (conic_lines 1) ≡ accepted
  pub too_heavy : checked ordinary (equations (conic ∷ [])) 6 (conic_lines 1) ≡ rejected 4 rules.Weight
  -- another operator in the last run makes no step
  pub wrong_operator : checked ordinary (equations (conic ∷ [])) 7 (conic_lines 0) ≡ rejected 4 rules.Step
  -- the root is no chain, since the separant is not permitted
  pub no_chain : checked ordinary (equations (conic ∷ [])) 1000000 (chain ∷ []) ≡ rejected 1 rules.Multiplier
  -- the split weighs 2
  pub no_budget : worked_lines ordinary 0 9 (equations (conic ∷ [])) ≡ spent (split 1 Separant) ∷ []
  pub spent_one : checked ordinary (equations (conic ∷ [])) 1 (spent (split 1 Separant) ∷ []) ≡ partial
  pub spent_two : checked ordinary (equations (conic ∷ [])) 2 (spent (split 1 Separant) ∷ []) ≡ rejected 1 rules.Reason

-- u = 0 and u != 0
abbrev pub contradiction : System
contradiction = record { equations = symbol_polynomial (derived u 0 0) ∷ []; inequations = symbol_polynomial (derived u 0 0) ∷ [] }

-- u[x] - u = 0 and u[x,x] != 0
abbrev pub exponential : System
exponential = record { equations = apart (derived u 1 0) (derived u 0 0) ∷ []; inequations = symbol_polynomial (derived u 2 0) ∷ [] }

-- the dependents u and v, and no independent
abbrev pub algebraic : Setting
algebraic = setting 0 2 (graded (u ∷ v ∷ []) ∷ [])

-- 10^25*u - 1 and u^6 - v
abbrev pub wide_system : System
wide_system = equations (((one (derived u 0 0), pos (10 ^ 25)) ∷ ([], minus 1) ∷ []) ∷ (((derived u 0 0, 6) ∷ [], pos 1) ∷ (one (derived v 0 0), minus 1) ∷ []) ∷ [])

-- u*v
abbrev pub product_system : System
product_system = equations ((((derived u 0 0, 1) ∷ (derived v 0 0, 1) ∷ [], pos 1) ∷ []) ∷ [])

-- the other moves and forks, and an operation that does not fit
pub record MoveExamples : Type 0 where
  -- u is divided by the inequation u, and 1 is left
  pub divided : worked_lines ordinary 1000000 9 contradiction ≡ act (divide 1 (derived u 0 0)) ∷ closed ∷ []
  -- u[x,x] is weeded to u
  pub weeded : worked_lines ordinary 1000000 9 exponential ≡ act (weed 1 (step 1 1 0 ∷ step 1 0 0 ∷ [])) ∷ chain ∷ []
  -- u*v is factored
  pub factored : worked_lines algebraic 1000000 9 product_system ≡ act (factor 1 (derived u 0 0)) ∷ chain ∷ chain ∷ []
  pub factors : chains_of (ends_in (ends_of algebraic product_system (record { budget = 1000000; lines = act (factor 1 (derived u 0 0)) ∷ chain ∷ chain ∷ [] })))
      ≡ record { equations = symbol_polynomial (derived v 0 0) ∷ []; inequations = symbol_polynomial (derived u 0 0) ∷ []; splits = 1 }
      ∷ record { equations = symbol_polynomial (derived u 0 0) ∷ []; inequations = []; splits = 1 } ∷ []
  -- the second step would contribute 10^50
  pub too_wide : worked_lines algebraic 1000000 9 wide_system ≡ open_wide (reduce 2 (step 1 0 0 ∷ step 1 0 0 ∷ [])) ∷ []
  pub is_partial : checked algebraic wide_system 1000000 (open_wide (reduce 2 (step 1 0 0 ∷ step 1 0 0 ∷ [])) ∷ []) ≡ partial

-- ---- places and roots
-- c*u
abbrev pub times_u : ℤ → Polynomial Symbol
times_u c = (one (derived u 0 0), c) ∷ []

-- u + v
abbrev pub sum_of_both : Polynomial Symbol
sum_of_both = (one (derived u 0 0), pos 1) ∷ (one (derived v 0 0), pos 1) ∷ []

-- steps and runs
pub record RunExamples : Type 0 where
  -- with u[x] as inequation, u[x,x] - 2 goes to zero by the derivative of u[x]^2 - 4*u
  pub to_zero : run ordinary (conic_state (symbol_polynomial (derived u 1 0) ∷ [])) Free bent (step 1 1 0 ∷ []) ≡ Ok (record { end = []; count = 1 })
  -- without it the separant is not permitted
  pub not_permitted : run ordinary (conic_state []) Free bent (step 1 1 0 ∷ []) ≡ Err (1, no_step)
  -- with the budget 0 the full run is cut at this step
  pub cut : full_run ordinary (conic_state (symbol_polynomial (derived u 1 0) ∷ [])) Free 0 bent ≡ passed (step 1 1 0 ∷ [])
  -- of u - v and u + v the first takes u to v
  pub least_place : full_run algebraic (record { equations = apart (derived u 0 0) (derived v 0 0) ∷ sum_of_both ∷ []; inequations = []; splits = 0 }) Free 9 (symbol_polynomial (derived u 0 0))
      ≡ finished (step 1 0 0 ∷ []) (symbol_polynomial (derived v 0 0)) 2

-- v, u and u + v
abbrev pub repeating : System
repeating = equations (symbol_polynomial (derived v 0 0) ∷ symbol_polynomial (derived u 0 0) ∷ sum_of_both ∷ [])

-- u by u + v, which gives v; and then u + v by v
abbrev pub repeating_lines : List Line
repeating_lines = act (reduce 2 (step 3 0 0 ∷ [])) ∷ act (reduce 2 (step 1 0 0 ∷ [])) ∷ chain ∷ []

-- the root, and a polynomial that is put at a place
pub record PlaceExamples : Type 0 where
  -- 2*u, -3*u and 0 are one equation; of the inequations 7 and v the first is dropped
  pub root : root_of algebraic.symbols (record { equations = times_u (pos 2) ∷ times_u (minus 3) ∷ [] ∷ []; inequations = (([], pos 7) ∷ []) ∷ symbol_polynomial (derived v 0 0) ∷ [] })
      ≡ record { equations = times_u (pos 1) ∷ []; inequations = symbol_polynomial (derived v 0 0) ∷ []; splits = 0 }
  -- v stands at the first place already, so the second is removed
  pub removed : checked algebraic repeating 1000000 repeating_lines ≡ accepted
  pub left : chains_of (ends_in (ends_of algebraic repeating (record { budget = 1000000; lines = repeating_lines })))
      ≡ record { equations = symbol_polynomial (derived v 0 0) ∷ symbol_polynomial (derived u 0 0) ∷ []; inequations = []; splits = 0 } ∷ []

-- ---- critical pairs
-- the dependent u over x and y
abbrev pub planar : Setting
planar = setting 2 1 (graded (u ∷ []) ∷ [])

-- u[x] and u[y] - x
abbrev pub crossed : System
crossed = equations (symbol_polynomial (derived u 1 0) ∷ apart (derived u 0 1) x ∷ [])

-- u[x] - y and u[y] - x
abbrev pub agreeing : System
agreeing = equations (apart (derived u 1 0) y ∷ apart (derived u 0 1) x ∷ [])

-- the dependents u and v over x and y
abbrev pub planar_two : Setting
planar_two = setting 2 2 (graded (u ∷ v ∷ []) ∷ [])

-- critical pairs, and the trees with them
pub record PairExamples : Type 0 where
  -- the Delta-polynomial of u[x] and u[y] - x is 1, and is added
  pub crossed_delta : delta_answer planar (symbol_polynomial (derived u 1 0)) (apart (derived u 0 1) x) ≡ Ok (([], pos 1) ∷ [])
  pub crossed_worked : worked_lines planar 1000000 9 crossed ≡ act (add 1 2 []) ∷ closed ∷ []
  -- that of u[x]^2 - u and u[y] is u[y], by their separants 2*u[x] and 1
  pub curved_delta : delta_answer planar (((derived u 1 0, 2) ∷ [], pos 1) ∷ (one (derived u 0 0), minus 1) ∷ []) (symbol_polynomial (derived u 0 1)) ≡ Ok (symbol_polynomial (derived u 0 1))
  -- this weighs 2
  pub crossed_exact : worked_lines planar 2 9 crossed ≡ act (add 1 2 []) ∷ closed ∷ []
  pub crossed_less : worked_lines planar 1 9 crossed ≡ spent_pairs ∷ bare_pair 1 2 ∷ []
  -- that of u[x] - y and u[y] - x is zero
  pub agreeing_worked : worked_lines planar 1000000 9 agreeing ≡ chain ∷ bare_pair 1 2 ∷ []
  pub agreeing_spent : worked_lines planar 0 9 agreeing ≡ spent_pairs ∷ bare_pair 1 2 ∷ []
  -- a chain needs its pair
  pub without_pair : checked planar agreeing 1000000 (chain ∷ []) ≡ rejected 1 rules.Pairs
  -- of u[x], v and u[y] the first and the third are a critical pair
  pub places : critical_pairs planar_two.symbols
      (record { equations = symbol_polynomial (derived u 1 0) ∷ symbol_polynomial (derived v 0 0) ∷ symbol_polynomial (derived u 0 1) ∷ []; inequations = []; splits = 0 })
      ≡ (1, 3) ∷ []
  -- the common derivative of u derived 31 times by x and of u derived 31 times by y has a total order above 60
  pub too_high : delta_answer planar (symbol_polynomial (derived u 31 0)) (symbol_polynomial (derived u 0 31)) ≡ Err (large limits.Order)

-- ---- a model of two species, observed through one of them
-- the dependents a and b before the dependent w, over one independent
abbrev pub model_setting : Setting
model_setting = setting 1 3 (graded (0 ∷ 1 ∷ []) ∷ graded (2 ∷ []) ∷ [])

-- a' - a + a*b, b' + b - a*b and a - w
abbrev pub model : System
model = equations (
    ((one (derived 0 1 0), pos 1) ∷ ((derived 0 0 0, 1) ∷ (derived 1 0 0, 1) ∷ [], pos 1) ∷ (one (derived 0 0 0), minus 1) ∷ [])
    ∷ ((one (derived 1 1 0), pos 1) ∷ ((derived 0 0 0, 1) ∷ (derived 1 0 0, 1) ∷ [], minus 1) ∷ (one (derived 1 0 0), pos 1) ∷ [])
    ∷ apart (derived 0 0 0) (derived 2 0 0)
    ∷ [])

-- the first seven lines of its tree
abbrev pub model_lines : List Line → List Line
model_lines rest =
    act (reduce 1 (step 3 1 0 ∷ step 3 0 0 ∷ []))
    ∷ act (reduce 2 (step 3 0 0 ∷ []))
    ∷ act (split 1 Initial)
    ∷ act (reduce 2 (step 1 1 0 ∷ step 1 0 0 ∷ []))
    ∷ chain
    ∷ act (reduce 1 (step 4 1 0 ∷ step 4 0 0 ∷ []))
    ∷ act (reduce 1 (step 3 0 0 ∷ []))
    ∷ rest

-- its last two lines
abbrev pub model_end : List Line
model_end = act (reduce 2 (step 3 0 0 ∷ [])) ∷ chain ∷ []

-- the model
pub record ModelExamples : Type 0 where
  pub worked : worked_lines model_setting 1000000 20 model ≡ model_lines model_end
  -- the weight is 42
  pub weight : checked model_setting model 42 (model_lines model_end) ≡ accepted
  pub too_heavy : checked model_setting model 41 (model_lines model_end) ≡ rejected 8 rules.Weight
  pub worked_less : worked_lines model_setting 41 20 model ≡ model_lines (spent (reduce 2 (step 3 0 0 ∷ [])) ∷ [])

-- ---- two dependents over two independents
-- v before u
abbrev pub mixed_setting : Setting
mixed_setting = setting 2 2 (graded (v ∷ u ∷ []) ∷ [])

-- u[x]^2 - 4*u, u[x,y]*v[y] - u + 1 and v[x,x] - u[x]
abbrev pub mixed : System
mixed = equations (
    conic
    ∷ (((derived u 1 1, 1) ∷ (derived v 0 1, 1) ∷ [], pos 1) ∷ (one (derived u 0 0), minus 1) ∷ ([], pos 1) ∷ [])
    ∷ apart (derived v 2 0) (derived u 1 0)
    ∷ [])

-- the first lines of its tree
pub record MixedExamples : Type 0 where
  pub begins : worked_lines mixed_setting 1000000 6 mixed
      ≡ act (split 1 Separant) ∷ act (reduce 2 (step 1 0 1 ∷ [])) ∷ act (split 2 Initial)
      ∷ act (reduce 1 (step 2 0 0 ∷ step 2 0 0 ∷ [])) ∷ act (reduce 3 (step 2 0 0 ∷ [])) ∷ act (split 1 Initial) ∷ []
