use Rattle.std.proofs.Common.{◌≡◌, false, subst, sym}
use Rattle.dz_syntax.specs.Names.{Declared, known}
use Rattle.dz_syntax.proofs.FirstNames.{first_is_new}
use Rattle.dz_syntax.proofs.functions.independents_alone.Goals as goal

pub declare-requires-clause-new : goal.declare-requires-clause-new
declare-requires-clause-new c =
    subst (λ (d : Declared). known d c.independent.result.now ≡ false) (sym c.loop-i.invariant)
    (first_is_new c.args.names.now c.opened.ensures c.loop-i.i c.independent.result.now c.independent.ensures)
