use Rattle.std.proofs.Common.{◌≡◌, ◌∙◌, ap, sym, length, arith}
use Rattle.dz_diff.specs.Operations.{setting_of}
use Rattle.dz_diff.specs.States.{state_in}
use Rattle.dz_move.specs.Actions.{reached_in}
use Rattle.dz_move.specs.TreeLines.{line_of}
use Rattle.dz_move.proofs.ReachedStates.{fork_acts, two_after}
use Rattle.dz_move.proofs.performing.branches.Goals as goal

pub unreachable-requires : goal.unreachable-requires
unreachable-requires c =
    let book = c.args.book.now in
    let new = c.performed.new.book in
    let a = fork_acts (line_of c.args.line.now) c.requires.is_fork in
    let n : 1 ≡ 2 = sym (ap (λ x. length (reached_in new x)) c.in-One.is) ∙ two_after (setting_of book.ranking) (state_in book c.args.state.now) a.0 new c.in-Ok.field-0 (c.in-Ok.ensures.ok a.0 a.1) a.2 in
    absurd (omega (arith, n))
