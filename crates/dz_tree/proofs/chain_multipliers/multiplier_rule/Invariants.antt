use Rattle.std.proofs.Common.{◌≡◌, true, drop}
use Rattle.dz_monomials.specs.Ranked.{symbols_under}
use Rattle.dz_diff.specs.States.{polynomials, state_in}
use Rattle.dz_tree.specs.ChainParts.{multiplier_rule}
use Rattle.dz_tree.proofs.chain_multipliers.multiplier_rule.Given as goal

abbrev pub invariant-equations : goal.invariant-equations
invariant-equations l =
    multiplier_rule (symbols_under l.book.ranking) (state_in l.book l.state) l.before (polynomials l.book (drop l.p-index l.p-items))
    ≡ multiplier_rule (symbols_under l.book.ranking) (state_in l.book l.state) true (state_in l.book l.state).equations
