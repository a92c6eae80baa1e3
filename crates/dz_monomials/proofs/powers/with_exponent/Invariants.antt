use Rattle.std.proofs.Common.{◌≡◌, take}
use Rattle.dz_rank.specs.Rankings.{ranking_cmp}
use Rattle.dz_monomials.specs.Terms.{with_exponent}
use Rattle.dz_monomials.proofs.powers.with_exponent.Given as goal

abbrev pub invariant-loop-power : goal.invariant-loop-power
invariant-loop-power l = l.all.items ≡ with_exponent (ranking_cmp l.ranking) l.symbol l.left (take l.power-index l.powers)
