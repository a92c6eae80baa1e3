use Rattle.std.proofs.Common.{◌≡◌, ◌≤◌, drop}
use Rattle.dz_monomials.specs.Ranked.{symbols_under}
use Rattle.dz_diff.specs.Operations.{setting_of}
use Rattle.dz_diff.specs.States.{state_in}
use Rattle.dz_step.specs.Divisors.{AreDivisors}
use Rattle.dz_step.specs.declared.Role.TheVariants.{Free}
use Rattle.dz_pair.specs.Pair.{critical_pairs}
use Rattle.dz_engine.specs.Facts.{AreKnown, names_of}
use Rattle.dz_engine.specs.Naming.{IsSoFar}
use Rattle.dz_engine.proofs.pairing.pairs_named.Given as goal

abbrev pub invariant-pairs : goal.invariant-pairs
invariant-pairs l =
    AreKnown l.book l.facts.items
    × (names_of l.facts.items ≡ l.state.equations)
    × AreDivisors l.book.ranking (state_in l.book l.state) Free l.table.items
    × (l.so_far.spent ≤ l.budget)
    × IsSoFar (setting_of l.book.ranking) l.budget l.weight (state_in l.book l.state) l.so_far.lines.items l.so_far.spent (drop l.k (critical_pairs (symbols_under l.book.ranking) (state_in l.book l.state)))
