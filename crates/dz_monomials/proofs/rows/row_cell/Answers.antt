use Rattle.std.proofs.Common.{◌≡◌, ap, sym, rules, arith}
use Rattle.std.proofs.lemmas.Grind.{common_steps}
use Rattle.dz_algebra.specs.Amount.{amounts}
use Rattle.dz_algebra.specs.Monomial.{exponent}
use Rattle.dz_rank.specs.Rankings.{ranking_cmp}
use Rattle.dz_monomials.specs.Cells.{caps}
use Rattle.dz_monomials.specs.Degrees.{degrees, has_high_exponent}
use Rattle.dz_monomials.proofs.RowPieces.{row_missing}
use Rattle.dz_monomials.proofs.rows.row_cell.Goals as goal

pub returns-in_default-clause-ok : goal.returns-in_default-clause-ok
returns-in_default-clause-ok c =
    let z : exponent (ranking_cmp c.args.ranking.now) c.args.symbol c.args.term.now.0 ≡ 0 = first_of (search rules, grind (arith, common_steps)) in
    ap (λ l. caps (amounts l)) (sym (row_missing c.args.ranking.now c.args.symbol c.args.rate c.args.term.now c.requires.monomial z))

pub returns-in_default-clause-fits : goal.returns-in_default-clause-fits
returns-in_default-clause-fits c =
    let z : exponent (ranking_cmp c.args.ranking.now) c.args.symbol c.args.term.now.0 ≡ 0 = first_of (search rules, grind (arith, common_steps)) in
    ap (λ l. has_high_exponent (degrees (ranking_cmp c.args.ranking.now) l)) (row_missing c.args.ranking.now c.args.symbol c.args.rate c.args.term.now c.requires.monomial z)
