use Rattle.std.proofs.Common.{◌≡◌, ◌-◌, length, drop, max}
use Rattle.dz_algebra.specs.Gather.{onto}
use Rattle.dz_rank.specs.Rankings.{ranking_cmp}
use Rattle.dz_monomials.proofs.degrees.raise_degrees.Given as goal

abbrev pub invariant-loop-i : goal.invariant-loop-i
invariant-loop-i l = l.table.items ≡ onto (ranking_cmp l.ranking) max (drop (length l.powers - l.i) l.powers) l.initial.table.items
