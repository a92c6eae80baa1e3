use Rattle.dz_engine.proofs.KnownTops.{new_top}
use Rattle.dz_engine.proofs.Turns.{pushed_one}
use Rattle.dz_engine.proofs.decomposing.push_state.Goals as goal

pub returns-clause-pushed : goal.returns-clause-pushed
returns-clause-pushed c = pushed_one c.args.book.now c.args.pending.now.items c.push.new.self.items _ c.in_ok-push.ensures.items c.mark.ensures c.requires.stands c.requires.facts

pub returns-clause-top : goal.returns-clause-top
returns-clause-top c = new_top c.args.book.now c.args.pending.now.items c.push.new.self.items _ c.in_ok-push.ensures.items c.mark.ensures
