use Rattle.std.proofs.Common.{◌≡◌, drop}
use Rattle.dz_diff.specs.Operations.{setting_of}
use Rattle.dz_diff.specs.States.{polynomials}
use Rattle.dz_solution.specs.Solutions.{members_answer}
use Rattle.dz_solution.proofs.solving.all_pass.Given as goal

abbrev pub invariant-loop-k : goal.invariant-loop-k
invariant-loop-k l =
    members_answer (setting_of l.book.ranking) (polynomials l.book l.functions) l.equations l.k (drop l.k (polynomials l.book l.members)) ≡ members_answer (setting_of l.fn.book.ranking) (polynomials l.fn.book l.fn.functions) l.fn.equations 0 (polynomials l.fn.book l.fn.members)
