use Rattle.std.proofs.Common.{refl, subst, sym, arith}
use Rattle.dz_move.specs.Lines.{Entry}
use Rattle.dz_move.proofs.MemberLists.{if_ok}
use Rattle.dz_engine.specs.Naming.{IsDone}
use Rattle.dz_engine.proofs.NamedLines.{spent_is}
use Rattle.dz_engine.proofs.working.done.Goals as goal

pub returns-then-cost-budget : goal.returns-then-cost-budget
returns-then-cost-budget c = if_ok _ _ c.one_line.result (λ x f book g s h.
    subst (λ (e : Entry). IsDone book g s x e) (sym (spent_is book g c.args.budget c.args.weight s c.args.next c.args.performed h c.requires.within (omega (arith, c.ranges.budget)) c.if-cost-budget.true)) (f book g s refl)) c.one_line.ensures
