use Rattle.std.proofs.Common.{◌≡◌, length, take}
use Rattle.dz_rank.specs.Rankings.{RankingValue}
use Rattle.dz_regular.specs.Combining.{divided_all}
use Rattle.dz_regular.specs.Working.{AreEntries, polynomials_of}
use Rattle.dz_regular.proofs.combining.divided_all.Given as goal

abbrev pub invariant-loop-entry : goal.invariant-loop-entry
invariant-loop-entry l = record {
  so_far : polynomials_of l.all.items ≡ divided_all l.k (polynomials_of (take l.entry-index l.entries));
  entries : (r : RankingValue) → AreEntries r l.entries → AreEntries r l.all.items;
  count : length l.all.items ≡ l.entry-index;
}
