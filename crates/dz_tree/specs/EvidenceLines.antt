-- The evidence in lines.
use Rattle.std.specs.Prelude.{Bool, true, false, List, [], ◌∷◌}
use Rattle.dz_move.specs.Lines.{Evidence, Line, pair}

-- the line is evidence
abbrev pub is_pair_line : Line → Bool
is_pair_line (pair e) = true
is_pair_line line = false

-- the evidence that stands in some lines
abbrev pub evidence_of : List Line → List Evidence
evidence_of [] = []
evidence_of (pair e ∷ lines) = e ∷ evidence_of lines
evidence_of (line ∷ lines) = evidence_of lines
