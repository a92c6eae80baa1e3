use Rattle.std.proofs.Common.{◌≡◌, drop}
use Rattle.dz_diff.specs.States.{polynomials}
use Rattle.dz_monomials.specs.Ranked.{symbols_under}
use Rattle.dz_regular.specs.Runs.{greatest_leader, greatest_leader_from}
use Rattle.dz_regular.proofs.stages.greatest_leader.Given as goal

abbrev pub invariant-loop-i : goal.invariant-loop-i
invariant-loop-i l =
    greatest_leader (symbols_under l.book.ranking) (polynomials l.book l.equations) l.f.terms
    ≡ greatest_leader_from (symbols_under l.book.ranking) l.f.terms l.i (polynomials l.book (drop l.i l.equations)) l.best
