use Rattle.std.specs.List.{flat_map}
use Rattle.std.proofs.Common.{◌≡◌, ◌++◌, drop}
use Rattle.dz_series.specs.Series.{value_line}
use Rattle.dz_series.proofs.writing.push_value_lines.Given as goal

-- what is written, and the lines that are left
abbrev pub invariant-values : goal.invariant-values
invariant-values l = l.into.items ++ flat_map (value_line l.names) (drop l.k l.values) ≡ l.fn.into.items ++ flat_map (value_line l.names) l.values
