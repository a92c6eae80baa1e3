use Rattle.std.proofs.Common.{◌<◌, arith}
use Rattle.dz_syntax.proofs.NumberLists.{one_more}
use Rattle.dz_syntax.proofs.blocks.numbers.Goals as goal

pub loop-number-preserved : goal.loop-number-preserved
loop-number-preserved c =
    let lt : c.loop-number.number < c.args.end = grind arith in
    one_more c.loop-number.numbers.items c.push.new.self.items _ c.loop-number.number c.args.end lt c.in_ok-push.ensures.items c.loop-number.invariant
