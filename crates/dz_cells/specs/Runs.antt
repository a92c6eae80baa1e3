-- What is written on stacks of cells.
use Rattle.std.specs.Prelude.{◌≡◌, ℕ, List, ◌++◌, length, drop, map, Option}
use Rattle.dz_algebra.specs.Amount.{Amount}
use Rattle.dz_arena.specs.Stacks.{Pile, with_cells}
use Rattle.dz_cells.specs.Rows.{rows_with}
use Rattle.dz_cells.specs.Tallies.{tallied}
use Rattle.dz_cells.specs.declared.tally.Tally.{Tally}

-- what is added up at rows that lie one after the other
abbrev pub cells_of : ℕ → List ℕ → List Tally → List (List ℕ × Option Amount)
cells_of w es ts = rows_with w es (map tallied ts)

-- the cells that came on top
abbrev pub added : {X : Type 0} → Pile X → Pile X → List X
added old new = drop (length old.cells) new.cells

-- nothing changed but that cells came on top
abbrev pub IsExtended : {X : Type 0} → Pile X → Pile X → Type 0
IsExtended old new = new ≡ with_cells old (old.cells ++ added old new)
