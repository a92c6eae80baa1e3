use Rattle.std.proofs.Common.{◌∙◌, ap₂, max}
use Rattle.dz_algebra.specs.Gather.{merge}
use Rattle.dz_rank.specs.Rankings.{ranking_cmp}
use Rattle.dz_monomials.proofs.Summing.{sum_support}
use Rattle.dz_terms.proofs.sums.sum_support.Goals as goal

pub returns : goal.returns
returns c =
    sum_support c.args.ranking.now c.args.a.now.terms c.args.a.now.degrees c.args.sign c.args.b.now.terms c.args.b.now.degrees _ _ c.requires.first c.requires.second
    (c.in_ok-degrees.ensures ∙ ap₂ (merge (ranking_cmp c.args.ranking.now) max) c.symbol_degrees-2.ensures c.symbol_degrees.ensures) (rw (← c.terms.ensures, ← c.terms-2.ensures) c.in_ok-cells.ensures)
