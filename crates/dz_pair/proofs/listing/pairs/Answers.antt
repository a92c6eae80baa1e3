use Rattle.std.proofs.Common.{arith}
use Rattle.dz_monomials.specs.Ranked.{symbols_under}
use Rattle.dz_diff.specs.States.{state_in}
use Rattle.dz_pair.proofs.PairLists.{are_critical}
use Rattle.dz_pair.proofs.listing.pairs.Goals as goal

pub returns : goal.returns
returns c =
    are_critical (symbols_under c.args.book.now.ranking) (state_in c.args.book.now c.args.state.now) c.in_ok-leaders.leaders.items c.loop-i.i c.loop-i.found.items c.in_ok-leaders.ensures.leaders (omega (arith, c.loop-i-test.false, c.len-i-end.ensures)) c.loop-i.invariant
