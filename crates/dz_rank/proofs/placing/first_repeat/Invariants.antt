use Rattle.std.proofs.Common.{take}
use Rattle.dz_rank.specs.Rankings.{IsRepeatFree}
use Rattle.dz_rank.proofs.placing.first_repeat.Given as goal

abbrev pub invariant-loop-i : goal.invariant-loop-i
invariant-loop-i l = IsRepeatFree (take l.i l.dependents)
