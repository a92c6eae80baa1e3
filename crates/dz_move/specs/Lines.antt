-- The lines of a tree, and their grouping into entries (this project).
use Rattle.std.specs.Prelude.{ℕ, Bool, true, false, not, List, [], ◌∷◌, ◌++◌, map}
use Rattle.dz_algebra.specs.declared.Limit.{Limit}
use Rattle.dz_step.specs.declared.Step.{Step}
use Rattle.dz_move.specs.Moves.{Action, is_fork}

-- a pair of places with a run from its Delta-polynomial
pub record Evidence : Type 0 where
  pub first : ℕ
  pub second : ℕ
  pub steps : List Step

-- a move or a fork; an end: closed, a chain, or open with a reason; or evidence for the end above it
pub data Line : Type 0 where
  act : Action → Line
  closed : Line
  chain : Line
  pair : Evidence → Line
  spent : Action → Line
  spent_pairs : Line
  open_wide : Action → Line
  open_separant : ℕ → Line
  open_large : Limit → Action → Line

-- a line with the evidence that follows it
pub record Entry : Type 0 where
  pub line : Line
  pub evidence : List Evidence

-- evidence that waits for its line, and the entries after it, with one more line before them
abbrev pub with_line : Line → List Evidence × List Entry → List Evidence × List Entry
with_line (pair e) r = (e ∷ r.0, r.1)
with_line line r = ([], record { line = line; evidence = r.0 } ∷ r.1)

-- the evidence before the first other line, and the entries from there on
abbrev pub grouped : List Line → List Evidence × List Entry
grouped [] = ([], [])
grouped (line ∷ lines) = with_line line (grouped lines)

-- the entries of a tree's lines
abbrev pub entries_of : List Line → List Entry
entries_of lines = (grouped lines).1

-- the lines of an entry
abbrev pub lines_of_entry : Entry → List Line
lines_of_entry e = e.line ∷ map pair e.evidence

-- the lines of entries
abbrev pub lines_of : List Entry → List Line
lines_of [] = []
lines_of (e ∷ es) = lines_of_entry e ++ lines_of es

-- the line is a fork
abbrev pub is_fork_line : Line → Bool
is_fork_line (act action) = is_fork action
is_fork_line line = false

-- the line is a move
abbrev pub is_move_line : Line → Bool
is_move_line (act action) = not (is_fork action)
is_move_line line = false

-- the line is a chain
abbrev pub is_chain_line : Line → Bool
is_chain_line chain = true
is_chain_line line = false
