use Rattle.std.proofs.Common.{◌≡◌, drop}
use Rattle.std.specs.List.{list_all}
use Rattle.dz_monomials.specs.Ranked.{symbols_under}
use Rattle.dz_diff.specs.States.{polynomials, state_in}
use Rattle.dz_tree.specs.Chain.{is_reduced}
use Rattle.dz_tree.proofs.inequations.are_reduced.Given as goal

abbrev pub invariant-polys : goal.invariant-polys
invariant-polys l =
    list_all (is_reduced (symbols_under l.book.ranking) (state_in l.book l.state)) (polynomials l.book (drop l.p-index l.p-items))
    ≡ list_all (is_reduced (symbols_under l.book.ranking) (state_in l.book l.state)) (state_in l.book l.state).inequations
