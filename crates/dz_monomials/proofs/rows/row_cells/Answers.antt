use Rattle.std.proofs.Common.{◌∙◌, ◌++◌, ap₂, arith}
use Rattle.std.proofs.lemmas.Result.{err_from_is_err_and}
use Rattle.dz_rank.specs.Rankings.{ranking_cmp}
use Rattle.dz_monomials.proofs.Multiplying.{monomial_at, low_at}
use Rattle.dz_monomials.proofs.SymbolLaws.{ranking_order}
use Rattle.dz_monomials.proofs.RowPieces.{cells_more, low_more, term_refused}
use Rattle.dz_monomials.proofs.rows.row_cells.Goals as goal

pub row_cell-requires-clause-monomial : goal.row_cell-requires-clause-monomial
row_cell-requires-clause-monomial c = monomial_at (ranking_cmp c.args.ranking.now) c.args.terms.now c.loop-term.term-index c.term-item.result (omega arith) c.term-item.is c.requires.canonical

pub row_cell-requires-clause-low : goal.row_cell-requires-clause-low
row_cell-requires-clause-low c = low_at (ranking_order c.args.ranking.now) c.args.terms.now c.loop-term.term-index c.term-item.result (omega arith) c.term-item.is c.requires.low

pub returns-in_err-found-clause-refused : goal.returns-in_err-found-clause-refused
returns-in_err-found-clause-refused c =
    let y = err_from_is_err_and c.from_residual.result c.from_residual.ensures.1 in
    rw (y.1, y.2) (term_refused c.args.ranking.now c.args.symbol c.args.rate c.loop-term.term-index c.args.terms.now c.term-item.result (omega arith) c.term-item.is _ c.in_err-found.ensures.refused)

pub loop-term-preserved : goal.loop-term-preserved
loop-term-preserved c = record {
  cells_are =
      c.in_ok-push_found.ensures
      ∙ ap₂ (λ l m. l ++ m) c.loop-term.invariant.cells_are c.in_ok-found.ensures.ok
      ∙ cells_more c.args.ranking.now c.args.symbol c.args.rate c.loop-term.term-index c.args.terms.now c.term-item.result (omega arith) c.term-item.is;
  low = low_more c.args.ranking.now c.args.symbol c.args.rate c.loop-term.term-index c.args.terms.now c.term-item.result (omega arith) c.term-item.is c.loop-term.invariant.low c.in_ok-found.ensures.fits;
}
