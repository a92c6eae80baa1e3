-- Trees, and those of the program as those of the definitions.
use Rattle.std.specs.Prelude.{ℕ, List, map}
use Rattle.dz_move.specs.declared.lines.Line.{Line as ProgramLine}
use Rattle.dz_move.specs.Lines.{Line}
use Rattle.dz_move.specs.TreeLines.{line_of}

-- a budget and the lines in their order
pub record Tree : Type 0 where
  pub budget : ℕ
  pub lines : List Line

-- a budget and lines
abbrev pub tree_of : ℕ → List ProgramLine → Tree
tree_of budget ls = record { budget = budget; lines = map line_of ls }
