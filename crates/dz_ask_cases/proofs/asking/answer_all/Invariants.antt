use Rattle.std.proofs.Common.{◌≡◌}
use Rattle.dz_ask_cases.proofs.asking.answer_all.Given as goal

abbrev pub invariant-questions : goal.invariant-questions
invariant-questions l = l.book ≡ l.fn.book
