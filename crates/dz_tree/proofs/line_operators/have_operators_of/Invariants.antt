use Rattle.std.proofs.Common.{◌↔◌, drop, map}
use Rattle.dz_tree.specs.LineOperators.{HaveOperatorsOf}
use Rattle.dz_move.specs.TreeLines.{line_of}
use Rattle.dz_tree.proofs.line_operators.have_operators_of.Given as goal

abbrev pub invariant-lines : goal.invariant-lines
invariant-lines l = HaveOperatorsOf l.independents (map line_of (drop l.line-index l.lines)) ↔ HaveOperatorsOf l.independents (map line_of l.lines)
