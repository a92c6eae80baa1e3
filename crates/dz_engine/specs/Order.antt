-- The order of work: the line that is next at a state and a running weight (this project).
use Rattle.std.specs.Prelude.{ℕ, suc, ◌+◌, ◌-◌, nat_lt, nat_le, Bool, not, ◌&&◌, ◌||◌, cond, List, [], ◌∷◌, ◌++◌, length, map, Result, Ok, Err, Option, Some, None}
use Rattle.dz_algebra.specs.Polynomial.{Polynomial, symbol_polynomial}
use Rattle.dz_algebra.specs.Norm.{norm}
use Rattle.dz_algebra.specs.Parts.{is_ground, leader}
use Rattle.dz_algebra.specs.Size.{Refusal, wide, large, symbols}
use Rattle.dz_algebra.specs.Symbols.{Symbols}
use Rattle.dz_rank.specs.declared.symbols.Symbol.{Symbol}
use Rattle.dz_diff.specs.Tests.{is_zero, is_member, same}
use Rattle.dz_diff.specs.Operations.{Setting}
use Rattle.dz_diff.specs.State.{State, at_place}
use Rattle.dz_move.specs.Root.{is_closed}
use Rattle.dz_step.specs.declared.Which.{Which}
use Rattle.dz_step.specs.declared.Which.TheVariants.{Initial, Separant}
use Rattle.dz_step.specs.declared.Role.TheVariants.{Free, Equation, Inequation}
use Rattle.dz_step.specs.declared.Step.{Step}
use Rattle.dz_step.specs.Step.{multiplier_answer}
use Rattle.dz_step.specs.FullRun.{derivatives_of, or_else, admits, Course, finished, stopped, passed, full_run}
use Rattle.dz_pair.specs.Pair.{delta_answer, critical_pairs}
use Rattle.dz_move.specs.Fault.{Fault, refusal, rule, fault_of}
use Rattle.dz_monomials.specs.PowerDivision.{is_divided}
use Rattle.dz_move.specs.Moves.{Action, reduce, weed, add, divide, split, factor, perform}
use Rattle.dz_move.specs.Lines.{Evidence, Line, act, closed, chain, spent, spent_pairs, open_wide, open_separant, open_large, Entry}

-- ---- one line
-- a line without evidence
abbrev pub line_alone : Line → Entry
line_alone line = record { line = line; evidence = [] }

-- a line with evidence
abbrev pub with_evidence : Line → List Evidence → Entry
with_evidence line es = record { line = line; evidence = es }

-- the open end of an action with an operation that is refused, or a state past a limit
abbrev pub refused_line : Refusal → Action → Line
refused_line wide action = open_wide action
refused_line (large limit) action = open_large limit action

-- the open end of an action with a fault; the order of work names no action that fails by another rule
abbrev pub open_line : Fault → Action → Line
open_line (refusal r) action = refused_line r action
open_line (rule r) action = spent action

-- an action as it is: within the budget or past it, or with a fault
abbrev pub plain : Setting → ℕ → ℕ → State → Action → Entry
plain g budget w s action =
    elim (perform g s action) [
      | Ok d ↦ line_alone (cond (nat_le (w + d.weight) budget) (act action) (spent action))
      | Err e ↦ line_alone (open_line e.1 action)
    ]

-- an action whose weight is known to be within the budget
abbrev pub affordable : Setting → State → Action → Entry
affordable g s action =
    elim (perform g s action) [
      | Ok d ↦ line_alone (act action)
      | Err e ↦ line_alone (open_line e.1 action)
    ]

-- an action by a full run
abbrev pub by_course : Setting → ℕ → ℕ → State → (List Step → Action) → Course → Entry
by_course g budget w s action (finished steps f count) = plain g budget w s (action steps)
by_course g budget w s action (stopped steps stop) = line_alone (open_line (fault_of stop) (action steps))
by_course g budget w s action (passed steps) = plain g budget w s (action steps)

-- ---- the first that is named
-- the entry at the least place, from the i-th on, at which one is named
abbrev pub first_place : {A : Type 0} → ℕ → (ℕ → A → Option Entry) → List A → Option Entry
first_place i named [] = None
first_place i named (x ∷ xs) = or_else (named i x) (first_place (suc i) named xs)

-- the first symbol that passes a test
abbrev pub first_symbol : (Symbol → Bool) → List Symbol → Option Symbol
first_symbol test [] = None
first_symbol test (v ∷ vs) = cond (test v) (Some v) (first_symbol test vs)

-- the symbols of a polynomial, the greatest first, each once
abbrev pub symbols_of : Symbols Symbol → Polynomial Symbol → List Symbol
symbols_of g p = symbols g.cmp (map (λ t. t.0) p)

-- ---- the rules in order
-- the state is closed
abbrev pub closed_next : Setting → State → Option Entry
closed_next g s = cond (is_closed g.symbols s) (Some (line_alone closed)) None

-- divide an equation by the greatest symbol that is an inequation and divides it
abbrev pub divide_next : Setting → ℕ → ℕ → State → Option Entry
divide_next g budget w s =
    first_place 1 (λ i p. elim (first_symbol (λ v. is_member g.symbols (symbol_polynomial v) s.inequations && is_divided g.symbols.cmp v p) (symbols_of g.symbols p)) [ None ↦ None | Some v ↦ Some (plain g budget w s (divide i v)) ]) s.equations

-- reduce an equation that admits a step, by a full run
abbrev pub reduce_next : Setting → ℕ → ℕ → State → Option Entry
reduce_next g budget w s =
    first_place 1 (λ i p. cond (admits g s (Equation i) p) (Some (by_course g budget w s (reduce i) (full_run g s (Equation i) (budget - (w + 1)) p))) None) s.equations

-- factor the greatest derivative out that divides an equation, unless it is the equation or an inequation
abbrev pub factor_next : Setting → ℕ → ℕ → State → Option Entry
factor_next g budget w s =
    first_place 1 (λ i p. elim (first_symbol (λ v. is_divided g.symbols.cmp v p && not (same g.symbols p (symbol_polynomial v)) && not (is_member g.symbols (symbol_polynomial v) s.inequations)) (derivatives_of g.symbols p)) [ None ↦ None | Some v ↦ Some (plain g budget w s (factor i v)) ]) s.equations

-- a split on a multiplier of equation i, unless it is ground, an equation or an inequation; an open end where it does not fit
abbrev pub split_on : Setting → ℕ → ℕ → State → ℕ → Which → Result (Polynomial Symbol) Refusal → Option Entry
split_on g budget w s i which (Err r) = Some (line_alone (open_separant i))
split_on g budget w s i which (Ok m) =
    cond (is_ground g.symbols m || is_member g.symbols (norm m) s.equations || is_member g.symbols (norm m) s.inequations) None (Some (plain g budget w s (split i which)))

-- split on the initial of an equation, or else on its separant
abbrev pub split_next : Setting → ℕ → ℕ → State → Option Entry
split_next g budget w s =
    first_place 1 (λ i p. elim (leader g.symbols p) [ None ↦ None | Some l ↦ or_else (split_on g budget w s i Initial (multiplier_answer g.symbols Initial l p)) (split_on g budget w s i Separant (multiplier_answer g.symbols Separant l p)) ]) s.equations

-- weed out an inequation that admits a step, by a full run
abbrev pub weed_next : Setting → ℕ → ℕ → State → Option Entry
weed_next g budget w s =
    first_place 1 (λ j h. cond (admits g s (Inequation j) h) (Some (by_course g budget w s (weed j) (full_run g s (Inequation j) (budget - (w + 1)) h))) None) s.inequations

-- ---- the pairs, with the evidence so far and the weight with it
-- a pair of places with a run
abbrev pub evidence : ℕ × ℕ → List Step → Evidence
evidence p steps = record { first = p.0; second = p.1; steps = steps }

-- after the full run of a pair: the next pair where it ends at zero, else an add or an open end
abbrev pub after_course : Setting → ℕ → State → ℕ → List Evidence → ℕ × ℕ → Course → (ℕ → List Evidence → Entry) → Entry
after_course g budget s w es p (stopped steps stop) next = line_alone (open_line (fault_of stop) (add p.0 p.1 steps))
after_course g budget s w es p (passed steps) next = with_evidence spent_pairs (es ++ evidence p steps ∷ [])
after_course g budget s w es p (finished steps f count) next =
    cond (is_zero f) (next (w + count) (es ++ evidence p steps ∷ [])) (affordable g s (add p.0 p.1 steps))

-- the Delta-polynomial of two places
abbrev pub delta_at : Setting → State → ℕ × ℕ → Result (Polynomial Symbol) Refusal
delta_at g s p = elim (at_place p.0 s.equations) [ None ↦ Ok [] | Some a ↦ elim (at_place p.1 s.equations) [ None ↦ Ok [] | Some b ↦ delta_answer g a b ] ]

-- after the Delta-polynomial of a pair: its full run, unless it is refused or passes the budget
abbrev pub after_delta : Setting → ℕ → State → ℕ → List Evidence → ℕ × ℕ → Result (Polynomial Symbol) Refusal → (ℕ → List Evidence → Entry) → Entry
after_delta g budget s w es p (Err r) next = line_alone (refused_line r (add p.0 p.1 []))
after_delta g budget s w es p (Ok d) next =
    cond (nat_lt budget (w + 1 + length d)) (with_evidence spent_pairs (es ++ evidence p [] ∷ []))
    (after_course g budget s (w + 1 + length d) es p (full_run g s Free (budget - (w + 1 + length d)) d) next)

-- the pairs in their order; a chain where there is none left
abbrev pub pairs_next : Setting → ℕ → State → ℕ → List Evidence → List (ℕ × ℕ) → Entry
pairs_next g budget s w es [] = with_evidence chain es
pairs_next g budget s w es (p ∷ ps) = after_delta g budget s w es p (delta_at g s p) (λ w' es'. pairs_next g budget s w' es' ps)

-- the first that there is
abbrev pub first_of : {A : Type 0} → List (Option A) → A → A
first_of [] x = x
first_of (None ∷ os) x = first_of os x
first_of (Some y ∷ os) x = y

-- the entry that the order of work names at a state and a running weight
unfoldable pub next_entry : Setting → ℕ → ℕ → State → Entry
next_entry g budget w s =
    first_of (closed_next g s ∷ divide_next g budget w s ∷ reduce_next g budget w s ∷ factor_next g budget w s ∷ split_next g budget w s ∷ weed_next g budget w s ∷ [])
    (pairs_next g budget s w [] (critical_pairs g.symbols s))
