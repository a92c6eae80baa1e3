use Rattle.std.proofs.Common.{◌≡◌, drop, length}
use Rattle.dz_monomials.specs.Ranked.{symbols_under}
use Rattle.dz_regular.specs.Combining.{crossed_all}
use Rattle.dz_regular.specs.Working.{AreEntries, multipliers_in, polynomials_of}
use Rattle.dz_regular.proofs.RowPasses.{prepended}
use Rattle.dz_regular.proofs.combining.crossed_all.Given as goal

abbrev pub invariant-loop-i : goal.invariant-loop-i
invariant-loop-i l = record {
  so_far : crossed_all (symbols_under l.ranking) (multipliers_in l.m) (polynomials_of l.xs) (polynomials_of l.ys)
      ≡ prepended (polynomials_of l.all.items) (crossed_all (symbols_under l.ranking) (multipliers_in l.m) (polynomials_of (drop l.i l.xs)) (polynomials_of (drop l.i l.ys)));
  entries : AreEntries l.ranking l.all.items;
  count : length l.all.items ≡ l.i;
}
