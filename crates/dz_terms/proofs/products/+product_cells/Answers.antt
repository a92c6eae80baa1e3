use Rattle.std.proofs.Common.{arith, inr, refl}
use Rattle.std.proofs.lemmas.Result.{err_from_is_err_and}
use Rattle.dz_rank.specs.Rankings.{ranking_cmp}
use Rattle.dz_algebra.specs.Polynomial.{pairs}
use Rattle.dz_monomials.proofs.Multiplying.{low_at}
use Rattle.dz_monomials.proofs.Halves.{one_row, front_is, back_is, front_low, back_low, front_pairs_low, back_pairs_low, front_refused, back_refused, parts_absorbed, too_many}
use Rattle.dz_monomials.proofs.SymbolLaws.{ranking_order}
use Rattle.dz_terms.proofs.products.+product_cells.Goals as goal

pub row_cells-requires-clause-low_term : goal.row_cells-requires-clause-low_term
row_cells-requires-clause-low_term t c = low_at (ranking_order c.args.ranking.now) c.args.p.now 0 c.index-p-0.result (omega arith) c.index-p-0.is c.requires.low_first

pub returns-then-p-eq1-clause-ok : goal.returns-then-p-eq1-clause-ok
returns-then-p-eq1-clause-ok t c = one_row (ranking_order c.args.ranking.now) c.args.p.now c.args.q.now c.index-p-0.result c.in_ok-row.row.items (omega arith) c.index-p-0.is c.requires.first c.requires.second c.in_ok-row.ensures.ok

pub product_cells-requires : goal.product_cells-requires
product_cells-requires t c =
    let order = ranking_order c.args.ranking.now in
    let e = c.split_at.ensures.by_index.0 in
    let l = c.split_at.ensures.front_len in
    let m = c.split_at.ensures.back_len in
    let d = c.decreases in
    let canonical = front_is order c.args.p.now c.split_at.result.0.now c.split_at.result.1.now c.args.q.now e c.requires.first in
    let low = front_low order c.args.p.now c.split_at.result.0.now c.split_at.result.1.now c.args.q.now e c.requires.low_first in
    let low_pairs = front_pairs_low order c.args.p.now c.split_at.result.0.now c.split_at.result.1.now c.args.q.now e c.requires.low in
    (omega arith, (omega arith, (canonical, (c.requires.second, (low, (c.requires.low_second, low_pairs))))))

pub returns-in_err-row-2-clause-refused : goal.returns-in_err-row-2-clause-refused
returns-in_err-row-2-clause-refused t c =
    let y = err_from_is_err_and c.from_residual-in_err-row-2.result c.from_residual-in_err-row-2.ensures.1 in
    rw (y.1, y.2) (front_refused (ranking_order c.args.ranking.now) c.args.p.now c.split_at.result.0.now c.split_at.result.1.now c.args.q.now c.split_at.ensures.by_index.0 _ c.in_err-row-2.ensures.refused)

pub product_cells-requires-2 : goal.product_cells-requires-2
product_cells-requires-2 t c =
    let order = ranking_order c.args.ranking.now in
    let e = c.split_at.ensures.by_index.0 in
    let l = c.split_at.ensures.front_len in
    let m = c.split_at.ensures.back_len in
    let d = c.decreases in
    let canonical = back_is order c.args.p.now c.split_at.result.0.now c.split_at.result.1.now c.args.q.now e c.requires.first in
    let low = back_low order c.args.p.now c.split_at.result.0.now c.split_at.result.1.now c.args.q.now e c.requires.low_first in
    let low_pairs = back_pairs_low order c.args.p.now c.split_at.result.0.now c.split_at.result.1.now c.args.q.now e c.requires.low in
    (omega arith, (omega arith, (canonical, (c.requires.second, (low, (c.requires.low_second, low_pairs))))))

pub returns-in_err-rest-clause-refused : goal.returns-in_err-rest-clause-refused
returns-in_err-rest-clause-refused t c =
    let y = err_from_is_err_and c.from_residual-in_err-rest.result c.from_residual-in_err-rest.ensures.1 in
    rw (y.1, y.2) (back_refused (ranking_order c.args.ranking.now) c.args.p.now c.split_at.result.0.now c.split_at.result.1.now c.args.q.now c.split_at.ensures.by_index.0 _ c.in_err-rest.ensures.refused)

pub returns-then-len-gt-MOST_TERMS-clause-refused :
    goal.returns-then-len-gt-MOST_TERMS-clause-refused
returns-then-len-gt-MOST_TERMS-clause-refused t c =
    let cmp = ranking_cmp c.args.ranking.now in
    let e = parts_absorbed (ranking_order c.args.ranking.now) c.args.p.now c.split_at.result.0.now c.split_at.result.1.now c.args.q.now c.split_at.ensures.by_index.0 _ _ c.in_ok-cells.cells.items c.in_ok-cells.ensures c.in_ok-row-2.ensures.ok c.in_ok-rest.ensures.ok in
    inr (refl, too_many cmp (pairs cmp c.args.p.now c.args.q.now) c.in_ok-cells.cells.items e (omega (arith, c.len.ensures, c.if-len-gt-MOST_TERMS.true)))

pub returns-clause-ok : goal.returns-clause-ok
returns-clause-ok t c = parts_absorbed (ranking_order c.args.ranking.now) c.args.p.now c.split_at.result.0.now c.split_at.result.1.now c.args.q.now c.split_at.ensures.by_index.0 _ _ c.in_ok-cells.cells.items c.in_ok-cells.ensures c.in_ok-row-2.ensures.ok c.in_ok-rest.ensures.ok
