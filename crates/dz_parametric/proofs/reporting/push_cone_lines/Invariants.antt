use Rattle.std.specs.List.{flat_map}
use Rattle.std.proofs.Common.{◌≡◌, ◌++◌, drop}
use Rattle.dz_parametric.specs.Reports.{cone_line}
use Rattle.dz_parametric.proofs.reporting.push_cone_lines.Given as goal

-- what is written, and the lines that are left
abbrev pub invariant-cones : goal.invariant-cones
invariant-cones l = l.into.items ++ flat_map (cone_line l.names) (drop l.k l.cones) ≡ l.fn.into.items ++ flat_map (cone_line l.names) l.cones
