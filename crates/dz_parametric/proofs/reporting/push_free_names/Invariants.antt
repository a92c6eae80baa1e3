use Rattle.std.proofs.Common.{◌≡◌, ◌++◌, drop, false}
use Rattle.dz_parametric.specs.Reports.{listed_names}
use Rattle.dz_parametric.proofs.reporting.push_free_names.Given as goal

-- what is written, and the names that are left
abbrev pub invariant-loop-i : goal.invariant-loop-i
invariant-loop-i l = l.into.items ++ listed_names l.names l.some l.i (drop l.i l.cone.free) ≡ l.fn.into.items ++ listed_names l.names false 0 l.fn.cone.free
