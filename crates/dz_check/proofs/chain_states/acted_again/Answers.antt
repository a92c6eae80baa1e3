use Rattle.dz_diff.specs.Operations.{setting_of}
use Rattle.dz_diff.specs.States.{state_in}
use Rattle.dz_move.specs.TreeLines.{line_of}
use Rattle.dz_check.proofs.ChainWalks.{act_again, act_goes}
use Rattle.dz_move.proofs.ReachedStates.{acts}
use Rattle.dz_check.proofs.chain_states.acted_again.Goals as goal

pub unreachable-requires : goal.unreachable-requires
unreachable-requires c =
    let book = c.args.book.now in
    let a = acts (line_of c.args.line.now) c.requires.act in
    absurd (c.in_default.not-Memory (act_goes (setting_of book.ranking) (state_in book c.args.state.now) (line_of c.args.line.now) a.0 a.1 c.requires.holds c.in-Err.stop (c.in-Err.ensures.refused a.0 a.1)))

pub returns-in-Ok-clause-left : goal.returns-in-Ok-clause-left
returns-in-Ok-clause-left c =
    let book = c.args.book.now in
    let a = acts (line_of c.args.line.now) c.requires.act in
    act_again (setting_of book.ranking) (state_in book c.args.state.now) (line_of c.args.line.now) a.0 a.1 c.performed.new.book c.in-Ok.field-0 (c.in-Ok.ensures.ok a.0 a.1) c.in-Ok.ensures.facts
