use Rattle.std.proofs.Common.{subst}
use Rattle.std.specs.Prelude.{MatchResult}
use Rattle.dz_move.specs.Actions.{IsMoveFault, IsPerformed}
use Rattle.dz_move.specs.Lines.{Entry}
use Rattle.dz_move.specs.Moves.{perform}
use Rattle.dz_move.specs.TreeLines.{action_of}
use Rattle.dz_move.proofs.MemberLists.{if_ok}
use Rattle.dz_engine.specs.Naming.{IsDone}
use Rattle.dz_engine.proofs.working.told.Goals as goal

pub returns-in_ok-line-in-Err : goal.returns-in_ok-line-in-Err
returns-in_ok-line-in-Err c = if_ok _ _ c.one_line.result (λ x f book g s h.
    subst (λ (e : Entry). IsDone book g s x e)
    (c.in_ok-line-in-Err.ensures.line g c.args.budget c.args.weight s (subst (λ q. MatchResult q (λ d. IsPerformed book d (perform g s (action_of c.args.next))) (λ fault. IsMoveFault fault (perform g s (action_of c.args.next)))) c.in-Err.is h) c.requires.action)
    (f book g s (c.in_ok-line-in-Err.ensures.open c.requires.action))) c.one_line.ensures
