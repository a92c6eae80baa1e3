use Rattle.std.proofs.Common.{drop}
use Rattle.dz_parametric.specs.Parametric.{IsLed}
use Rattle.dz_parametric.proofs.choosing.is_led.Given as goal

abbrev pub invariant-loop-lead : goal.invariant-loop-lead
invariant-loop-lead l = IsLed l.fn.leaders l.fn.w → IsLed (drop l.lead-index l.leaders) l.w
