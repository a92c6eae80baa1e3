use Rattle.std.proofs.Common.{◌≡◌, ◌≤◌, ◌+◌, drop}
use Rattle.dz_regular.specs.Combining.{terms_in_all}
use Rattle.dz_regular.specs.Working.{polynomials_of}
use Rattle.dz_regular.proofs.combining.left_after.Given as goal

abbrev pub invariant-loop-entry : goal.invariant-loop-entry
invariant-loop-entry l = record {
  counted : l.left + terms_in_all (polynomials_of l.entries) ≡ l.fn.left + terms_in_all (polynomials_of (drop l.entry-index l.entries));
  positive : 1 ≤ l.left;
}
