use Rattle.std.proofs.Common.{◌≤◌, ◌+◌, ◌*◌, ◌-◌, length, map}
use Rattle.dz_diff.specs.Operations.{setting_of}
use Rattle.dz_diff.specs.States.{state_in}
use Rattle.dz_check.specs.Pending.{StackedIn, pending_states}
use Rattle.dz_move.specs.TreeLines.{line_of}
use Rattle.dz_engine.specs.Turning.{AreKnownOnTop, HasCome, stacked}
use Rattle.dz_engine.proofs.decomposing.worked_lines.Given as goal

abbrev pub invariant-states : goal.invariant-states
invariant-states l =
    (l.progress.weight ≤ l.budget)
    × StackedIn l.fn.book l.book (stacked l.progress.pending.items)
    × HasCome (setting_of l.fn.book.ranking) l.budget (state_in l.fn.book l.fn.root) (map line_of l.progress.lines.items) l.progress.weight (pending_states l.book (stacked l.progress.pending.items))
    × AreKnownOnTop l.book l.progress.pending.items l.facts.items

abbrev pub decreases-states : goal.decreases-states
decreases-states l = 2 * (l.budget - l.progress.weight) + length l.progress.pending.items
