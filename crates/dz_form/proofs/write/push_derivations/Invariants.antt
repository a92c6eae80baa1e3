use Rattle.std.proofs.Common.{◌≡◌, ◌++◌, true, codes, drop}
use Rattle.dz_form.specs.Texts.{independents, repeated}
use Rattle.dz_form.specs.Writing.{marked}
use Rattle.dz_form.proofs.write.push_derivations.Given as goal

-- what is written, and what is still to be written
abbrev pub invariant-independents : goal.invariant-independents
invariant-independents l =
    l.into.items ++ marked (codes ",") l.first (repeated (drop l.i (independents l.names)) (drop l.i l.operator.counts))
    ≡ l.fn.into.items ++ marked (codes ",") true (repeated (independents l.names) l.operator.counts)
