use Rattle.std.proofs.Common.{take}
use Rattle.dz_diff.specs.States.{polynomials, state_in}
use Rattle.dz_step.specs.Divisors.{AreKeptOf}
use Rattle.dz_step.specs.declared.Role.TheVariants.{Free}
use Rattle.dz_engine.specs.Facts.{names_of}
use Rattle.dz_engine.proofs.facts.divisors_by.Given as goal

abbrev pub invariant-loop-of_one : goal.invariant-loop-of_one
invariant-loop-of_one l = AreKeptOf l.book.ranking (state_in l.book l.state).inequations Free 1 (take l.of_one-index (polynomials l.book (names_of l.facts))) l.table.items
