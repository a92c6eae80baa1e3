-- The faults of the text of a jet that a call answers.
use Rattle.std.specs.Prelude.{◌≡◌, ⊤, Result, Err}
use Rattle.dz_series.specs.Series.{SeriesStop, wide_at}
use Rattle.dz_series.specs.declared.faults.SeriesFault.{SeriesFault}
use Rattle.dz_series.specs.declared.faults.SeriesFault.TheVariants.{Memory, Wide}

-- a fault is the one that the definition answers; want of memory may come instead
abbrev pub IsStopOf : {A : Type 0} → SeriesFault → Result A SeriesStop → Type 0
IsStopOf Memory answer = ⊤
IsStopOf (Wide s) answer = answer ≡ Err (wide_at s)
