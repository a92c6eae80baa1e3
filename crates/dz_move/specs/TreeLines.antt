-- The lines of the program, as those of the definitions.
use Rattle.std.specs.Prelude.{[]}
use Rattle.dz_move.specs.declared.lines.Line.{Line as ProgramLine}
use Rattle.dz_move.specs.declared.lines.Line.TheVariants as lines
use Rattle.dz_move.specs.declared.lines.Next.{Next}
use Rattle.dz_move.specs.declared.lines.Next.TheVariants as nexts
use Rattle.dz_move.specs.Moves.{Action, reduce, weed, add, divide, split, factor}
use Rattle.dz_move.specs.Lines.{Line, act, closed, chain, pair, spent, spent_pairs, open_wide, open_separant, open_large}

-- The action that an open end names. A separant is none: it has a line of its own, and elsewhere it stands for a reduce
-- without steps, which no tree has either.
abbrev pub action_of : Next → Action
action_of (nexts.Reduce i run) = reduce i run
action_of (nexts.Weed j run) = weed j run
action_of (nexts.Pair i j run) = add i j run
action_of (nexts.Divide i v) = divide i v
action_of (nexts.Split i which) = split i which
action_of (nexts.Factor i v) = factor i v
action_of (nexts.Separant i) = reduce i []

-- an open end with what does not fit
abbrev pub wide_line : Next → Line
wide_line (nexts.Separant i) = open_separant i
wide_line next = open_wide (action_of next)

-- a line
abbrev pub line_of : ProgramLine → Line
line_of (lines.Reduce i run) = act (reduce i run)
line_of (lines.Weed j run) = act (weed j run)
line_of (lines.Add i j run) = act (add i j run)
line_of (lines.Divide i v) = act (divide i v)
line_of (lines.Split i which) = act (split i which)
line_of (lines.Factor i v) = act (factor i v)
line_of lines.Closed = closed
line_of lines.Chain = chain
line_of (lines.Pair i j run) = pair (record { first = i; second = j; steps = run })
line_of (lines.Spent next) = spent (action_of next)
line_of lines.SpentPairs = spent_pairs
line_of (lines.Wide next) = wide_line next
line_of (lines.Large limit next) = open_large limit (action_of next)
