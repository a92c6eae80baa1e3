-- The lines of evidence behind an open end, one by one. No public clause cites this file.
use Rattle.std.specs.Prelude.{ℕ, Bool, true, ◌&&◌, List, [], ◌∷◌, Option, Some, Result, Ok}
use Rattle.dz_diff.specs.Operations.{Setting}
use Rattle.dz_diff.specs.State.{State}
use Rattle.dz_check.specs.declared.reasons.Places.{Places}
use Rattle.dz_move.specs.Fault.{Fault}
use Rattle.dz_move.specs.Lines.{Evidence, Line, pair}
use Rattle.dz_move.specs.PairRuns.{open_weight}
use Rattle.dz_check.specs.Reasons.{is_before}

-- the weight of a line of evidence; other lines weigh nothing
abbrev pub weight_of : Setting → State → Line → Result ℕ (ℕ × Fault)
weight_of g s (pair e) = open_weight g s e
weight_of g s line = Ok 0

-- places as evidence without a run
abbrev pub places_of : Places → Evidence
places_of p = record { first = p.first; second = p.second; steps = [] }

-- a line of evidence may stand behind the last places
abbrev pub follows : Option Places → Line → Bool
follows (Some p) (pair e) = is_before (places_of p) e
follows o line = true

-- the last places after a line
abbrev pub last_after : Option Places → Line → Option Places
last_after o (pair e) = Some (record { first = e.first; second = e.second })
last_after o line = o

-- the places in lines grow, from the last on
abbrev pub grow_after : Option Places → List Line → Bool
grow_after o [] = true
grow_after o (line ∷ lines) = follows o line && grow_after (last_after o line) lines
