use Rattle.std.proofs.Common.{refl}
use Rattle.dz_diff.specs.Operations.{setting_of}
use Rattle.dz_diff.specs.States.{state_in}
use Rattle.dz_step.proofs.FullCourses.{list_regular}
use Rattle.dz_step.specs.StepStops.{IsStepStop}
use Rattle.dz_ask.specs.Turns.{turned_terms}
use Rattle.dz_ask.specs.Working.{terms_in, turn_by}
use Rattle.dz_ask.proofs.NextTurns.{next_turn_stop}
use Rattle.dz_ask.proofs.preparing.made.Goals as goal

pub stop_of-requires : goal.stop_of-requires
stop_of-requires c =
    let book = c.args.book.now in
    let s = state_in book c.args.chain.now in
    let n = c.requires.next in
    let h : IsStepStop c.in-Err.stop (turned_terms (setting_of book.ranking) s (turn_by c.args.working.now.terms.items c.args.index n.0 c.args.step)) = (rw c.deref.ensures.value at c.in-Err.ensures.refused) n.0 n.2 in
    next_turn_stop book.ranking s (list_regular book c.args.chain.now.equations c.opened.ensures c.requires.stands.equations_live) c.args.working.now.terms.items c.args.index c.args.step c.requires.terms n c.in-Err.stop h

pub returns-in-None-clause-stopped : goal.returns-in-None-clause-stopped
returns-in-None-clause-stopped c = λ t e. (refl, ((c.in-Ok.after.factor.terms, terms_in c.in-Ok.after.terms.items), (rw c.deref.ensures.value at c.in-Ok.ensures.ok) t e, rw c.deref-in-Ok.ensures.value at c.in-None.ensures.passed))
