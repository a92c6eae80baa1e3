-- The combinations of a run, each on the rows of its numbers (this project).
use Rattle.std.specs.Prelude.{◌≡◌, ◌<◌, ◌≤◌, ◌+◌, ⊤, ℕ, slice_get, List, [], ◌∷◌, ◌++◌, Some, Result, Ok}
use Rattle.dz_algebra.specs.Polynomial.{Polynomial}
use Rattle.dz_algebra.specs.Symbols.{Symbols}
use Rattle.dz_rank.specs.declared.symbols.Symbol.{Symbol}
use Rattle.dz_algebra.specs.Outcome.{◌>>=◌, given, told_as}
use Rattle.dz_diff.specs.Tests.{Polynomials}
use Rattle.dz_regular.specs.Combining.{combined, terms_in_all}
use Rattle.dz_regular.specs.Rows.{equation_row, inequation_row}
use Rattle.dz_regular.specs.Runs.{Course, finished, stopped, passed}
use Rattle.dz_regular.specs.declared.answers.Combine.{Combine}

-- the rows by their numbers, and the weight of the run
pub record Replay : Type 0 where
  pub rows : List Polynomials
  pub weight : ℕ

-- the rows of the equations from an index on, as many as a list is long
abbrev pub equation_rows : Polynomials → ℕ → Polynomials → List Polynomials
equation_rows equations i [] = []
equation_rows equations i (e ∷ others) = equation_row equations i ∷ equation_rows equations (i + 1) others

-- row 0, and rows 1, 2, .. of the equations
abbrev pub first_rows : Polynomials → Polynomial Symbol → Replay
first_rows equations h = record { rows = inequation_row equations h ∷ equation_rows equations 0 equations; weight = 0 }

-- a combination of two rows makes the row of the next number; it weighs one and the terms of all components of its result
abbrev pub replayed : Symbols Symbol → Replay → Combine → Result Replay ⊤
replayed g x c = do
  a ← given (slice_get x.rows c.first) tt
  b ← given (slice_get x.rows c.second) tt
  row ← told_as (λ _. tt) (combined g c.symbol a b)
  Ok (record { rows = x.rows ++ row ∷ []; weight = x.weight + 1 + terms_in_all row })

-- all combinations of a run, one after the other
abbrev pub replay : Symbols Symbol → Replay → List Combine → Result Replay ⊤
replay g x [] = Ok x
replay g x (c ∷ run) = replayed g x c >>= (λ y. replay g y run)

-- a run holds, and does not weigh more than the budget
pub record HoldsWithin (g : Symbols Symbol) (equations : Polynomials) (h : Polynomial Symbol) (budget : ℕ) (run : List Combine) : Type 0 where
  pub end : Replay
  pub replays : replay g (first_rows equations h) run ≡ Ok end
  pub within : end.weight ≤ budget

-- so does the run of a course; the row in hand stands there under its number, and a combination that passes the budget is one
abbrev pub HoldsCourse : Symbols Symbol → Polynomials → Polynomial Symbol → ℕ → Course → Type 0
HoldsCourse g equations h budget (finished run row) = (k : HoldsWithin g equations h budget run) × (slice_get k.end.rows row.number ≡ Some row.components)
HoldsCourse g equations h budget (stopped run c refusal) = HoldsWithin g equations h budget run
HoldsCourse g equations h budget (passed run c) = (k : HoldsWithin g equations h budget run) × ((y : Replay) × (replayed g k.end c ≡ Ok y) × (budget < y.weight))
