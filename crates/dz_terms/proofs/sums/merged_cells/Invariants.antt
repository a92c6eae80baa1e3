use Rattle.std.proofs.Common.{◌≡◌, ◌++◌, ◌+◌, length}
use Rattle.dz_algebra.specs.Amount.{amounts}
use Rattle.dz_algebra.specs.Gather.{merge}
use Rattle.dz_algebra.specs.Monomial.{monomial_cmp}
use Rattle.dz_monomials.specs.Cells.{add_capped, caps}
use Rattle.dz_monomials.specs.Signs.{with_sign}
use Rattle.dz_monomials.specs.declared.sign.Sign.TheVariants.{Plus}
use Rattle.dz_rank.specs.Rankings.{ranking_cmp}
use Rattle.dz_terms.proofs.sums.merged_cells.Given as goal

abbrev pub invariant-terms : goal.invariant-terms
invariant-terms l =
    l.cells.items ++ merge (monomial_cmp (ranking_cmp l.ranking)) add_capped (caps (amounts (with_sign l.sign l.b))) (caps (amounts (with_sign Plus l.a)))
    ≡ merge (monomial_cmp (ranking_cmp l.ranking)) add_capped (caps (amounts (with_sign l.sign l.initial.b))) (caps (amounts (with_sign Plus l.initial.a)))

abbrev pub decreases-terms : goal.decreases-terms
decreases-terms l = length l.a + length l.b
