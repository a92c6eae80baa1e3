use Rattle.std.proofs.Common.{◌≡◌, ◌-◌, length, drop}
use Rattle.dz_rank.specs.Rankings.{ranking_cmp}
use Rattle.dz_monomials.specs.Degrees.{degrees}
use Rattle.dz_terms.proofs.derivations.degrees_of_cells.Given as goal

abbrev pub invariant-loop-i : goal.invariant-loop-i
invariant-loop-i l = l.table.items ≡ degrees (ranking_cmp l.ranking) (drop (length l.cells.items - l.i) l.cells.items)
