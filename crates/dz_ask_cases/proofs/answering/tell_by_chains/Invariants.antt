use Rattle.std.proofs.Common.{◌≡◌}
use Rattle.dz_ask_cases.proofs.answering.tell_by_chains.Given as goal

abbrev pub invariant-chains : goal.invariant-chains
invariant-chains l = l.book ≡ l.fn.book
