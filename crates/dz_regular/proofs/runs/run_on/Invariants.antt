use Rattle.std.proofs.Common.{◌≤◌, ◌+◌, ℕ, length}
use Rattle.dz_diff.specs.States.{polynomials}
use Rattle.dz_regular.specs.Progress.{IsAt}
use Rattle.dz_regular.specs.Runs.{Course}
use Rattle.dz_regular.specs.Working.{IsPair}
use Rattle.dz_regular.proofs.runs.run_on.Given as goal

abbrev pub invariant-combinations : goal.invariant-combinations
invariant-combinations l =
    IsPair l.book.ranking (length l.equations) l.pair
    × (l.run.next + l.run.left ≤ 4294967295)
    × ((budget : ℕ) (course : Course) → IsAt l.book.ranking (polynomials l.book l.equations) budget course l.initial.run l.initial.pair → IsAt l.book.ranking (polynomials l.book l.equations) budget course l.run l.pair)

abbrev pub decreases-combinations : goal.decreases-combinations
decreases-combinations l = l.run.left
