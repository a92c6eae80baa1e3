use Rattle.std.specs.List.{flat_map}
use Rattle.std.proofs.Common.{◌≡◌, ◌++◌, drop}
use Rattle.dz_parametric.specs.Reports.{free_line}
use Rattle.dz_parametric.proofs.reporting.push_free_lines.Given as goal

-- what is written, and the lines that are left
abbrev pub invariant-symbols : goal.invariant-symbols
invariant-symbols l = l.into.items ++ flat_map (free_line l.names) (drop l.k l.symbols) ≡ l.fn.into.items ++ flat_map (free_line l.names) l.symbols
