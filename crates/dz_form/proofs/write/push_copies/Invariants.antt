use Rattle.std.proofs.Common.{◌≡◌, ◌++◌, ◌==◌, ◌&&◌, [], codes}
use Rattle.dz_form.specs.Texts.{copies}
use Rattle.dz_form.specs.Writing.{marked}
use Rattle.dz_form.proofs.write.push_copies.Given as goal

abbrev pub invariant-copies : goal.invariant-copies
invariant-copies l = record {
  written : l.into.items ≡ l.fn.into.items ++ marked (codes ",") l.first (copies l.name l.counter []);
  still : l.still ≡ (l.first && l.counter == 0);
}
