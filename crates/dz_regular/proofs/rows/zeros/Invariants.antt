use Rattle.std.proofs.Common.{◌≡◌, length}
use Rattle.dz_rank.specs.Rankings.{RankingValue}
use Rattle.dz_regular.specs.Rows.{zeros}
use Rattle.dz_regular.specs.Working.{AreEntries, polynomials_of}
use Rattle.dz_regular.proofs.rows.zeros.Given as goal

abbrev pub invariant-loop : goal.invariant-loop
invariant-loop l = record {
  so_far : polynomials_of l.all.items ≡ zeros l.counter;
  count : length l.all.items ≡ l.counter;
  entries : (r : RankingValue) → AreEntries r l.all.items;
}
