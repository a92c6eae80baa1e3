use Rattle.std.proofs.Common.{◌≡◌, ◌<◌, ◌∙◌, ap, sym, length, rules, arith}
use Rattle.std.proofs.lemmas.Grind.{common_steps}
use Rattle.std.proofs.lemmas.Result.{err_from_is_err_and}
use Rattle.dz_algebra.specs.Amount.{gathered}
use Rattle.dz_rank.specs.Rankings.{ranking_cmp}
use Rattle.dz_monomials.specs.Cells.{caps}
use Rattle.dz_monomials.specs.Degrees.{degrees, has_high_exponent}
use Rattle.dz_monomials.proofs.SymbolLaws.{ranking_order}
use Rattle.dz_monomials.proofs.RateLists.{front_rates, back_rates, no_rows, one_row, one_refused, rows_absorbed, front_refused, back_refused, both_low}
use Rattle.dz_monomials.proofs.rows.+rows_cells.Goals as goal

pub returns-then-is_empty-clause-ok : goal.returns-then-is_empty-clause-ok
returns-then-is_empty-clause-ok t c =
    let z : length c.args.rates.now ≡ 0 = first_of (search rules, grind (arith, common_steps)) in
    c.new.ensures.items ∙ ap (λ l. caps (gathered (ranking_cmp c.args.ranking.now) l)) (sym (no_rows (ranking_order c.args.ranking.now) c.args.rates.now c.args.terms.now z))

pub returns-then-is_empty-clause-fits : goal.returns-then-is_empty-clause-fits
returns-then-is_empty-clause-fits t c =
    let z : length c.args.rates.now ≡ 0 = first_of (search rules, grind (arith, common_steps)) in
    ap (λ l. has_high_exponent (degrees (ranking_cmp c.args.ranking.now) l)) (no_rows (ranking_order c.args.ranking.now) c.args.rates.now c.args.terms.now z)

pub returns-in_err-row-clause-refused : goal.returns-in_err-row-clause-refused
returns-in_err-row-clause-refused t c =
    let y = err_from_is_err_and c.from_residual.result c.from_residual.ensures.1 in
    rw (y.1, y.2) (one_refused (ranking_order c.args.ranking.now) c.args.rates.now _ (omega arith) c.args.terms.now _ c.in_err-row.ensures.refused)

pub returns-then-rates-eq1-clause-ok : goal.returns-then-rates-eq1-clause-ok
returns-then-rates-eq1-clause-ok t c = one_row (ranking_order c.args.ranking.now) c.args.rates.now _ (omega arith) c.args.terms.now c.requires.canonical _ c.in_ok-row.ensures.ok

pub rows_cells-requires : goal.rows_cells-requires
rows_cells-requires t c =
    let e = c.split_at.ensures.by_index.0 in
    let l = c.split_at.ensures.front_len in
    let m = c.split_at.ensures.back_len in
    let d = c.decreases in
    let n : 0 < length c.args.rates.now = first_of (search rules, grind (arith, common_steps)) in
    (omega arith, (c.requires.canonical, (c.requires.low, front_rates c.args.ranking.now c.args.rates.now c.split_at.result.0.now c.split_at.result.1.now e c.requires.rates)))

pub returns-in_err-row-2-clause-refused : goal.returns-in_err-row-2-clause-refused
returns-in_err-row-2-clause-refused t c =
    let y = err_from_is_err_and c.from_residual-in_err-row-2.result c.from_residual-in_err-row-2.ensures.1 in
    rw (y.1, y.2) (front_refused (ranking_order c.args.ranking.now) c.args.rates.now c.split_at.result.0.now c.split_at.result.1.now c.split_at.ensures.by_index.0 c.requires.rates.falls c.args.terms.now c.requires.canonical _ c.in_err-row-2.ensures.refused)

pub rows_cells-requires-2 : goal.rows_cells-requires-2
rows_cells-requires-2 t c =
    let e = c.split_at.ensures.by_index.0 in
    let l = c.split_at.ensures.front_len in
    let m = c.split_at.ensures.back_len in
    let d = c.decreases in
    let n : 0 < length c.args.rates.now = first_of (search rules, grind (arith, common_steps)) in
    (omega arith, (c.requires.canonical, (c.requires.low, back_rates c.args.ranking.now c.args.rates.now c.split_at.result.0.now c.split_at.result.1.now e c.requires.rates)))

pub returns-in_err-rest-clause-refused : goal.returns-in_err-rest-clause-refused
returns-in_err-rest-clause-refused t c =
    let y = err_from_is_err_and c.from_residual-in_err-rest.result c.from_residual-in_err-rest.ensures.1 in
    rw (y.1, y.2) (back_refused (ranking_order c.args.ranking.now) c.args.rates.now c.split_at.result.0.now c.split_at.result.1.now c.split_at.ensures.by_index.0 c.requires.rates.falls c.args.terms.now c.requires.canonical _ c.in_err-rest.ensures.refused)

pub returns-clause-ok : goal.returns-clause-ok
returns-clause-ok t c = rows_absorbed (ranking_order c.args.ranking.now) c.args.rates.now c.split_at.result.0.now c.split_at.result.1.now c.split_at.ensures.by_index.0 c.requires.rates.falls c.args.terms.now c.requires.canonical _ _ c.in_ok-cells.cells.items c.in_ok-cells.ensures c.in_ok-row-2.ensures.ok c.in_ok-rest.ensures.ok

pub returns-clause-fits : goal.returns-clause-fits
returns-clause-fits t c = both_low (ranking_order c.args.ranking.now) c.args.rates.now c.split_at.result.0.now c.split_at.result.1.now c.split_at.ensures.by_index.0 c.requires.rates.falls c.args.terms.now c.requires.canonical c.in_ok-row-2.ensures.fits c.in_ok-rest.ensures.fits
