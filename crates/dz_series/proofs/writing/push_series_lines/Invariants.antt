use Rattle.std.specs.List.{flat_map, range_with_len}
use Rattle.std.proofs.Common.{◌≡◌, ◌++◌}
use Rattle.dz_series.specs.Series.{series_line}
use Rattle.dz_series.proofs.writing.push_series_lines.Given as goal

-- the lines so far
abbrev pub invariant-dependents : goal.invariant-dependents
invariant-dependents l = l.into.items ≡ l.fn.into.items ++ flat_map (series_line l.names l.values) (range_with_len 0 l.u)
