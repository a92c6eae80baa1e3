use Rattle.dz_diff.specs.Operations.{setting_of}
use Rattle.dz_diff.specs.States.{state_in}
use Rattle.dz_move.proofs.KnownActions.{no_other_known}
use Rattle.dz_move.proofs.next_actions.drafted_to.Goals as goal

pub unreachable-requires : goal.unreachable-requires
unreachable-requires c =
    no_other_known (setting_of c.args.book.now.ranking) (state_in c.args.book.now c.args.state.now) c.args.next.now c.args.end c.in_default.not-Reduce c.in_default.not-Weed c.in_default.not-Pair c.in_default.not-Separant c.requires.end
