use Rattle.std.proofs.Common.{◌∙◌, sym, subst}
use Rattle.std.proofs.lemmas.Result.{err_from_is_err_and}
use Rattle.dz_algebra.specs.Monomial.{IsMonomial}
use Rattle.dz_rank.specs.Rankings.{ranking_cmp}
use Rattle.dz_monomials.specs.Rows.{Begins}
use Rattle.dz_monomials.proofs.RowPieces.{row_at, cell_is, cell_low, cell_refused, front_is}
use Rattle.dz_monomials.proofs.rows.cell_at.Goals as goal

pub rated_powers-requires-clause-monomial : goal.rated_powers-requires-clause-monomial
rated_powers-requires-clause-monomial c =
    front_is (ranking_cmp c.args.ranking.now) c.split_at.result.0.now c.split_at.result.1.now
    (subst (IsMonomial (ranking_cmp c.args.ranking.now)) (sym c.powers.ensures ∙ c.split_at.ensures.by_index.0) c.requires.monomial)

pub returns-in_err-powers-clause-refused : goal.returns-in_err-powers-clause-refused
returns-in_err-powers-clause-refused c =
    let y = err_from_is_err_and c.from_residual.result c.from_residual.ensures.1 in
    let b : Begins c.args.symbol c.split_at.result.1.now = rw (c.split_at.ensures.back, c.powers.ensures) c.requires.begins in
    rw (y.1, y.2)
    (cell_refused c.args.ranking.now c.args.symbol c.args.rate c.args.term.now _ _
    (row_at c.args.ranking.now c.args.symbol c.args.rate c.args.term.now c.split_at.result.0.now c.split_at.result.1.now _ (sym c.powers.ensures ∙ c.split_at.ensures.by_index.0) b c.requires.monomial c.requires.rises) _ c.in_err-powers.ensures.refused)

pub returns-clause-ok : goal.returns-clause-ok
returns-clause-ok c =
    let b : Begins c.args.symbol c.split_at.result.1.now = rw (c.split_at.ensures.back, c.powers.ensures) c.requires.begins in
    cell_is c.args.ranking.now c.args.symbol c.args.rate c.args.term.now _ _
    (row_at c.args.ranking.now c.args.symbol c.args.rate c.args.term.now c.split_at.result.0.now c.split_at.result.1.now _ (sym c.powers.ensures ∙ c.split_at.ensures.by_index.0) b c.requires.monomial c.requires.rises)
    _ c.in_ok-powers.ensures.ok _ c.term_cell.ensures

pub returns-clause-fits : goal.returns-clause-fits
returns-clause-fits c =
    let b : Begins c.args.symbol c.split_at.result.1.now = rw (c.split_at.ensures.back, c.powers.ensures) c.requires.begins in
    cell_low c.args.ranking.now c.args.symbol c.args.rate c.args.term.now _ _
    (row_at c.args.ranking.now c.args.symbol c.args.rate c.args.term.now c.split_at.result.0.now c.split_at.result.1.now _ (sym c.powers.ensures ∙ c.split_at.ensures.by_index.0) b c.requires.monomial c.requires.rises)
    _ c.in_ok-powers.ensures.ok c.in_ok-powers.ensures.fits
