-- How many bytes a source gave from one time to another.
use Rattle.std.specs.Prelude.{◌≡◌, ℕ, ◌≤◌, List, length}
use Rattle.std.specs.declared.option.Option.{Option}
use Rattle.std.specs.Io.KnownBytes.{Consumes}

-- it gave so many of the bytes that it tells, those in front
abbrev pub GivesBytes : Option (List ℕ) → Option (List ℕ) → ℕ → Type 0
GivesBytes old new count = (bytes : List ℕ) × Consumes old new bytes × (length bytes ≡ count)

-- it gave at most so many of the bytes that it tells, those in front
abbrev pub GivesAtMost : Option (List ℕ) → Option (List ℕ) → ℕ → Type 0
GivesAtMost old new limit = (bytes : List ℕ) × Consumes old new bytes × (length bytes ≤ limit)
