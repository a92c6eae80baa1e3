use Rattle.std.proofs.lemmas.Result.{err_from_is_err_and}
use Rattle.dz_monomials.proofs.RateTables.{low_terms, rows_refused, rows_support}
use Rattle.dz_terms.proofs.derivations.rows_support.Goals as goal

pub rows_cells-requires-clause-low : goal.rows_cells-requires-clause-low
rows_cells-requires-clause-low c = rw c.terms.ensures (low_terms c.args.ranking.now c.args.entry.now.terms c.args.entry.now.degrees c.requires.entry)

pub returns-in_err-cells-clause-refused : goal.returns-in_err-cells-clause-refused
returns-in_err-cells-clause-refused c =
    let y = err_from_is_err_and c.from_residual.result c.from_residual.ensures.1 in
    rw (y.1, y.2)
    (rows_refused c.args.ranking.now c.args.entry.now.terms c.args.entry.now.degrees c.requires.entry c.args.rates.now c.requires.rates _ (rw (← c.terms.ensures) c.in_err-cells.ensures.refused))

pub returns-clause-ok : goal.returns-clause-ok
returns-clause-ok c =
    rows_support c.args.ranking.now c.args.entry.now.terms c.args.entry.now.degrees c.requires.entry c.args.rates.now c.requires.rates c.in_ok-degrees.degrees.items c.in_ok-cells.cells.items c.in_ok-degrees.ensures
    (rw (← c.terms.ensures) c.in_ok-cells.ensures.ok) (rw (← c.terms.ensures) c.in_ok-cells.ensures.fits)
