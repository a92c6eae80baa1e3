use Rattle.std.proofs.Common.{◌≡◌, ◌-◌, length, drop}
use Rattle.dz_rank.specs.Rankings.{ranking_cmp}
use Rattle.dz_monomials.specs.Degrees.{degrees}
use Rattle.dz_monomials.proofs.degrees.degrees_of.Given as goal

abbrev pub invariant-loop-i : goal.invariant-loop-i
invariant-loop-i l = l.table.items ≡ degrees (ranking_cmp l.ranking) (drop (length l.terms - l.i) l.terms)
