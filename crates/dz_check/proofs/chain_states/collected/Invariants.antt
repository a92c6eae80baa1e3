use Rattle.std.proofs.Common.{List, [], length, drop, map}
use Rattle.std.specs.Prelude.{reverse}
use Rattle.dz_diff.specs.Operations.{setting_of}
use Rattle.dz_diff.specs.State.{State}
use Rattle.dz_check.specs.Collecting.{IsCollecting}
use Rattle.dz_move.specs.TreeLines.{line_of}
use Rattle.dz_check.proofs.chain_states.collected.Given as goal

abbrev pub invariant-lines : goal.invariant-lines
invariant-lines l =
    (whole : List State) → IsCollecting l.fn.book (setting_of l.fn.book.ranking) whole l.fn.book (length l.fn.book.polynomials) (reverse l.fn.stack.items) [] (map line_of l.lines)
    → IsCollecting l.fn.book (setting_of l.fn.book.ranking) whole l.book l.floor (reverse l.stack.items) l.taken.items (map line_of (drop l.k l.lines))
