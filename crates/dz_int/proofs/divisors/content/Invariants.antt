use Rattle.std.proofs.Common.{take}
use Rattle.dz_int.specs.Numbers.{IsContent}
use Rattle.dz_int.proofs.divisors.content.Given as goal

abbrev pub invariant-loop-value : goal.invariant-loop-value
invariant-loop-value l = IsContent (take l.value-index l.values) l.all
