use Rattle.std.proofs.Common.{take}
use Rattle.dz_jet.specs.Laws.{AreReduced}
use Rattle.dz_jet.proofs.making.read.Given as goal

abbrev pub invariant-loop-i : goal.invariant-loop-i
invariant-loop-i l = AreReduced (take l.i l.values)
