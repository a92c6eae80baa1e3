use Rattle.std.proofs.Common.{◌≡◌, drop, map}
use Rattle.std.specs.List.{list_all}
use Rattle.dz_tree.specs.EvidenceLines.{is_pair_line}
use Rattle.dz_move.specs.TreeLines.{line_of}
use Rattle.dz_tree_cases.proofs.alone.are_pairs.Given as goal

abbrev pub invariant-lines : goal.invariant-lines
invariant-lines l = list_all is_pair_line (map line_of (drop l.line-index l.lines)) ≡ list_all is_pair_line (map line_of l.lines)
