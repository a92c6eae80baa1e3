-- The reasons of open ends: the next operation passes the budget, or it is wide or large (this project).
use Rattle.std.specs.Prelude.{ℕ, ◌+◌, ◌==◌, nat_lt, Bool, true, false, not, ◌&&◌, ◌||◌, List, [], ◌∷◌, length, Result, Ok, Err}
use Rattle.dz_algebra.specs.declared.Limit.{Limit}
use Rattle.dz_algebra.specs.declared.Limit.TheVariants as limits
use Rattle.dz_algebra.specs.Parts.{leader}
use Rattle.dz_algebra.specs.Polynomial.{Polynomial}
use Rattle.dz_algebra.specs.Size.{Refusal, wide, large, separant_answer}
use Rattle.dz_algebra.specs.Symbols.{Symbols}
use Rattle.dz_rank.specs.declared.symbols.Symbol.{Symbol}
use Rattle.dz_algebra.specs.Outcome.{◌>>=◌, numbered, told_as}
use Rattle.dz_diff.specs.Operations.{Setting}
use Rattle.dz_diff.specs.State.{State, at_place}
use Rattle.dz_move.specs.Fault.{Fault, refusal, rule}
use Rattle.dz_move.specs.Moves.{steps_of, Done, perform}
use Rattle.dz_tree.specs.Chain.{passes}
use Rattle.dz_move.specs.Lines.{Evidence, Line, act, closed, chain, pair, spent, spent_pairs, open_wide, open_separant, open_large}
use Rattle.dz_move.specs.PairRuns.{open_weight}
use Rattle.dz_tree.specs.Forms.{is_empty}

-- ---- wide and large
-- limits are told apart by these numbers
abbrev pub limit_number : Limit → ℕ
limit_number limits.Order = 0
limit_number limits.Exponent = 1
limit_number limits.Symbols = 2
limit_number limits.Terms = 3
limit_number limits.Polynomials = 4
limit_number limits.Node = 5
limit_number limits.Splits = 6

-- an operation does not fit
abbrev pub is_wide_refusal : Refusal → Bool
is_wide_refusal wide = true
is_wide_refusal (large limit) = false

-- the fault is an operation that does not fit
abbrev pub is_wide : Fault → Bool
is_wide (refusal r) = is_wide_refusal r
is_wide (rule r) = false

-- this limit is passed
abbrev pub is_refusal_by : Limit → Refusal → Bool
is_refusal_by limit wide = false
is_refusal_by limit (large l) = limit_number limit == limit_number l

-- the fault is that this limit is passed
abbrev pub is_large_by : Limit → Fault → Bool
is_large_by limit (refusal r) = is_refusal_by limit r
is_large_by limit (rule r) = false

-- there is a fault after n steps, and it passes a test
abbrev pub refused_after : {A : Type 0} → ℕ → (Fault → Bool) → Result A (ℕ × Fault) → Bool
refused_after n test (Ok x) = false
refused_after n test (Err e) = (e.0 == n) && test e.1

-- the separant of a polynomial does not fit
abbrev pub separant_refused : Symbols Symbol → Polynomial Symbol → Bool
separant_refused g p = passes (λ l. refused_after 0 is_wide (numbered 0 (told_as refusal (separant_answer g l p)))) (leader g p)

-- ---- spent
-- an action holds, and its weight added to w passes the budget
abbrev pub costs_more : ℕ → ℕ → Result Done (ℕ × Fault) → Bool
costs_more budget w (Ok d) = nat_lt budget (w + d.weight)
costs_more budget w (Err e) = false

-- the weight of several of them
abbrev pub open_weights : Setting → State → List Evidence → Result ℕ (ℕ × Fault)
open_weights g s [] = Ok 0
open_weights g s (e ∷ es) = do
  n ← open_weight g s e
  m ← open_weights g s es
  Ok (n + m)

-- a weight added to w passes the budget
abbrev pub weighs_more : ℕ → ℕ → Result ℕ (ℕ × Fault) → Bool
weighs_more budget w (Ok n) = nat_lt budget (w + n)
weighs_more budget w (Err e) = false

-- the places of the first are lexicographically before those of the second
abbrev pub is_before : Evidence → Evidence → Bool
is_before e f = nat_lt e.first f.first || ((e.first == f.first) && nat_lt e.second f.second)

-- the places grow
abbrev pub is_increasing : List Evidence → Bool
is_increasing [] = true
is_increasing (e ∷ []) = true
is_increasing (e ∷ f ∷ es) = is_before e f && is_increasing (f ∷ es)

-- the reason of an open end holds, at a state and a running weight; other lines give no reason
unfoldable pub reason_holds : Setting → ℕ → ℕ → State → Line → List Evidence → Bool
reason_holds g budget w s (spent action) es = costs_more budget w (perform g s action)
reason_holds g budget w s spent_pairs es = not (is_empty es) && is_increasing es && weighs_more budget w (open_weights g s es)
reason_holds g budget w s (open_wide action) es = refused_after (length (steps_of action)) is_wide (perform g s action)
reason_holds g budget w s (open_separant i) es = passes (separant_refused g.symbols) (at_place i s.equations)
reason_holds g budget w s (open_large limit action) es = refused_after (length (steps_of action)) (is_large_by limit) (perform g s action)
reason_holds g budget w s (act action) es = false
reason_holds g budget w s closed es = false
reason_holds g budget w s chain es = false
reason_holds g budget w s (pair e) es = false
