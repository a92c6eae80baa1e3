-- The run that looks for a polynomial without leaders which decides an inequation (this project): the rest of row 0 is freed of
-- its greatest leader by combinations with the row of that member, then of the next, as long as it has one.
use Rattle.std.specs.Prelude.{ℕ, zero, suc, ◌+◌, ◌-◌, ◌==◌, nat_lt, Bool, ◌&&◌, ◌||◌, cond, length, slice_index_or, List, [], ◌∷◌, ◌++◌, Option, Some, None, Result, Ok, Err}
use Rattle.std.specs.Ordering.{match_ordering}
use Rattle.dz_algebra.specs.Parts.{degree, leader}
use Rattle.dz_algebra.specs.Polynomial.{Polynomial}
use Rattle.dz_algebra.specs.Size.{Refusal}
use Rattle.dz_algebra.specs.Symbols.{Symbols}
use Rattle.dz_rank.specs.declared.symbols.Symbol.{Symbol}
use Rattle.dz_diff.specs.State.{State}
use Rattle.dz_diff.specs.Tests.{Polynomials}
use Rattle.dz_regular.specs.Rows.{Numbered, rest_of, equation_row, inequation_row}
use Rattle.dz_regular.specs.Combining.{combined, terms_in_all}
use Rattle.dz_regular.specs.declared.answers.Combine.{Combine}

-- ---- the greatest leader
-- a member's index and leader, unless one found before is not smaller
abbrev pub greater_leader : Symbols Symbol → ℕ → Symbol → Option (ℕ × Symbol) → Option (ℕ × Symbol)
greater_leader g i v None = Some (i, v)
greater_leader g i v (Some best) = match_ordering (g.cmp v best.1) (Some best) (Some best) (Some (i, v))

-- a member counts where it has a leader that occurs in f
abbrev pub with_member : Symbols Symbol → Polynomial Symbol → ℕ → Option Symbol → Option (ℕ × Symbol) → Option (ℕ × Symbol)
with_member g f i None best = best
with_member g f i (Some v) best = cond (nat_lt 0 (degree g.cmp v f)) (greater_leader g i v best) best

-- the greatest of the leaders that occur in f, among members from an index on and one found before
abbrev pub greatest_leader_from : Symbols Symbol → Polynomial Symbol → ℕ → Polynomials → Option (ℕ × Symbol) → Option (ℕ × Symbol)
greatest_leader_from g f i [] best = best
greatest_leader_from g f i (p ∷ ps) best = greatest_leader_from g f (i + 1) ps (with_member g f i (leader g p) best)

-- the greatest leader of a member that occurs in f, with the member's index
abbrev pub greatest_leader : Symbols Symbol → Polynomials → Polynomial Symbol → Option (ℕ × Symbol)
greatest_leader g equations f = greatest_leader_from g f 0 equations None

-- ---- rows at work
-- the rows at work, in the order in which they are combined next, and the symbol
pub record Pair : Type 0 where
  pub symbol : Symbol
  pub first : Numbered
  pub second : Numbered

-- the row of greater degree is the first, at equal degrees that of the greater number
abbrev pub is_first : Symbols Symbol → Symbol → Numbered → Numbered → Bool
is_first g v a b =
    nat_lt (degree g.cmp v (rest_of b.components)) (degree g.cmp v (rest_of a.components))
    || ((degree g.cmp v (rest_of a.components) == degree g.cmp v (rest_of b.components)) && nat_lt b.number a.number)

-- two rows in their order
abbrev pub paired : Symbols Symbol → Symbol → Numbered → Numbered → Pair
paired g v a b = cond (is_first g v a b) (record { symbol = v; first = a; second = b }) (record { symbol = v; first = b; second = a })

-- where a run is: at its end, with the row in hand, or at two rows at work
pub data Stage : Type 0 where
  ended : Numbered → Stage
  at_work : Pair → Stage

-- with a row in hand, the row of the member with the greatest leader in its rest is at work with it
abbrev pub in_hand : Symbols Symbol → Polynomials → Numbered → Stage
in_hand g equations row =
    elim (greatest_leader g equations (rest_of row.components)) [
      | None ↦ ended row
      | Some best ↦ at_work (paired g best.1 (record { number = best.0 + 1; components = equation_row equations best.0 }) row)
    ]

-- the result takes the place of the first row at work; without the symbol in its rest it is the row in hand
abbrev pub after : Symbols Symbol → Polynomials → Pair → Numbered → Stage
after g equations pair row =
    cond (degree g.cmp pair.symbol (rest_of row.components) == 0) (in_hand g equations row) (at_work (paired g pair.symbol row pair.second))

-- ---- the run
-- the combination that is next
abbrev pub next_combine : Pair → Combine
next_combine pair = record { first = pair.first.number; second = pair.second.number; symbol = pair.symbol }

-- the row that it makes
abbrev pub next_row : Symbols Symbol → Pair → Result Polynomials Refusal
next_row g pair = combined g pair.symbol pair.first.components pair.second.components

-- how a run ends: with its combinations and the row in hand, or before a combination that is refused or passes the budget
pub data Course : Type 0 where
  finished : List Combine → Numbered → Course
  stopped : List Combine → Combine → Refusal → Course
  passed : List Combine → Combine → Course

-- The run from a stage on, where the next row has a number. A combination counts one and the terms of all components of its
-- result, so the rounds need not be more than the budget and one.
abbrev pub run_from : Symbols Symbol → Polynomials → ℕ → ℕ → ℕ → ℕ → List Combine → Stage → Course
run_from g equations budget zero number count run stage =
    elim stage [ ended row ↦ finished run row | at_work pair ↦ passed run (next_combine pair) ]
run_from g equations budget (suc rounds) number count run stage =
    elim stage [
      | ended row ↦ finished run row
      | at_work pair ↦ elim (next_row g pair) [
        | Err refusal ↦ stopped run (next_combine pair) refusal
        | Ok row ↦ cond (nat_lt budget (count + 1 + terms_in_all row))
            (passed run (next_combine pair))
            (run_from g equations budget rounds (number + 1) (count + 1 + terms_in_all row) (run ++ next_combine pair ∷ []) (after g equations pair (record { number = number; components = row })))
      ]
    ]

-- the run for an inequation, within a budget; row 0 is the first in hand, and rows 1, 2, .. are those of the equations
unfoldable pub regularity_run : Symbols Symbol → Polynomials → ℕ → Polynomial Symbol → Course
regularity_run g equations budget h =
    run_from g equations budget (suc budget) (length equations + 1) 0 [] (in_hand g equations (record { number = 0; components = inequation_row equations h }))

-- ---- at a state
-- the inequation at a place, counted from 1
abbrev pub inequation_of : State → ℕ → Polynomial Symbol
inequation_of s j = slice_index_or s.inequations (j - 1) []

-- the run for the inequation at a place
abbrev pub regularity_of : Symbols Symbol → State → ℕ → ℕ → Course
regularity_of g s budget j = regularity_run g s.equations budget (inequation_of s j)
