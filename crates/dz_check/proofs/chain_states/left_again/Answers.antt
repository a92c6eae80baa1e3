use Rattle.std.proofs.Common.{◌∙◌, sym}
use Rattle.dz_diff.specs.Operations.{setting_of}
use Rattle.dz_diff.specs.States.{state_in}
use Rattle.dz_move.specs.TreeLines.{line_of}
use Rattle.dz_check.proofs.ChainWalks.{end_again}
use Rattle.dz_check.proofs.chain_states.left_again.Goals as goal

pub returns-clause-left : goal.returns-clause-left
returns-clause-left c =
    let book = c.args.book.now in
    end_again book (setting_of book.ranking) (state_in book c.args.state.now) (line_of c.args.line.now) (sym c.is_action.ensures ∙ c.if-is_action.false)
