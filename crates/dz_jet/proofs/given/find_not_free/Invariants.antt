use Rattle.std.proofs.Common.{◌≡◌, ◌++◌, drop}
use Rattle.dz_diff.specs.States.{state_in}
use Rattle.dz_jet.specs.Jets.{independents_of}
use Rattle.dz_parametric.specs.Orders.{derivatives_to}
use Rattle.dz_jet.specs.Tables.{first_not_free}
use Rattle.dz_jet.proofs.given.find_not_free.Given as goal

abbrev pub invariant-loop-i : goal.invariant-loop-i
invariant-loop-i l =
    first_not_free l.fn.book.ranking (state_in l.fn.book l.fn.chain) (drop l.i l.fn.values) (independents_of l.fn.book.ranking.signature ++ derivatives_to l.fn.book.ranking l.fn.order)
    ≡ first_not_free l.fn.book.ranking (state_in l.fn.book l.fn.chain) l.fn.values (independents_of l.fn.book.ranking.signature ++ derivatives_to l.fn.book.ranking l.fn.order)
