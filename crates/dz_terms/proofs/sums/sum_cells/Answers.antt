use Rattle.std.proofs.Common.{◌∙◌}
use Rattle.dz_monomials.proofs.Summing.{merged_signs}
use Rattle.dz_monomials.proofs.SymbolLaws.{ranking_order}
use Rattle.dz_terms.proofs.sums.sum_cells.Goals as goal

pub returns : goal.returns
returns c = c.in_ok-cells.ensures ∙ merged_signs (ranking_order c.args.ranking.now) c.args.a.now c.args.sign c.args.b.now c.requires.first c.requires.second
