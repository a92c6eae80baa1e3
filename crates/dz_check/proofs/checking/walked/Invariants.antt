use Rattle.std.proofs.Common.{◌≡◌, ◌+◌, false, List, [], drop, map}
use Rattle.std.specs.Prelude.{reverse}
use Rattle.dz_diff.specs.Operations.{setting_of}
use Rattle.dz_diff.specs.State.{State}
use Rattle.dz_move.specs.TreeLines.{line_of}
use Rattle.dz_check.specs.Collecting.{Collects}
use Rattle.dz_check.specs.Walking.{IsWalking, verdict_from}
use Rattle.dz_check.proofs.checking.walked.Given as goal

abbrev pub invariant-lines : goal.invariant-lines
invariant-lines l = record {
  walks : IsWalking l.fn.book l.book l.budget l.weight (reverse l.stack.items) (map line_of (drop l.k l.lines));
  same : verdict_from (setting_of l.fn.book.ranking) l.budget l.weight l.is_open (l.k + 1) l.book (reverse l.stack.items) (map line_of (drop l.k l.lines))
      ≡ verdict_from (setting_of l.fn.book.ranking) l.budget 0 false 1 l.fn.book (reverse l.fn.stack.items) (map line_of l.lines);
  collects : (whole : List State) → Collects l.fn.book (setting_of l.fn.book.ranking) whole l.fn.book (reverse l.fn.stack.items) [] (map line_of l.lines)
      → Collects l.fn.book (setting_of l.fn.book.ranking) whole l.book (reverse l.stack.items) l.chains.items (map line_of (drop l.k l.lines));
}
