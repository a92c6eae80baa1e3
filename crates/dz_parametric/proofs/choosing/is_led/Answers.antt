use Rattle.dz_parametric.proofs.Chosen.{led_later}
use Rattle.dz_parametric.proofs.choosing.is_led.Goals as goal

pub loop-lead-preserved : goal.loop-lead-preserved
loop-lead-preserved c = λ k. led_later c.args.leaders.now c.loop-lead.lead-index _ c.args.w c.loop-lead-test.true c.if-derives.ensures (c.loop-lead.invariant k)
