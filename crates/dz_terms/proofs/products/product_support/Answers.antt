use Rattle.std.proofs.Common.{◌∙◌, ◌+◌, ap, ap₂, sym, arith, inr}
use Rattle.dz_algebra.specs.Gather.{merge}
use Rattle.std.proofs.lemmas.Result.{err_from_is_err_and}
use Rattle.dz_rank.specs.Rankings.{ranking_cmp}
use Rattle.dz_monomials.specs.Degrees.{has_high_exponent}
use Rattle.dz_monomials.proofs.Multiplying.{product_of, low_table, degrees_refused, cells_refused, too_many_symbols, product_support}
use Rattle.dz_monomials.proofs.Summing.{low_entry}
use Rattle.dz_terms.proofs.products.product_support.Goals as goal

pub multiply-requires-clause-first : goal.multiply-requires-clause-first
multiply-requires-clause-first c = rw c.symbol_degrees.ensures (low_table c.args.ranking.now c.args.p.now.terms c.args.p.now.degrees c.requires.first)

pub multiply-requires-clause-second : goal.multiply-requires-clause-second
multiply-requires-clause-second c = rw c.symbol_degrees-2.ensures (low_table c.args.ranking.now c.args.q.now.terms c.args.q.now.degrees c.requires.second)

pub returns-in_err-degrees-clause-refused : goal.returns-in_err-degrees-clause-refused
returns-in_err-degrees-clause-refused c =
    let r = c.args.ranking.now in
    let h = product_of r c.args.p.now.terms c.args.p.now.degrees c.args.q.now.terms c.args.q.now.degrees (merge (ranking_cmp r) ◌+◌ c.symbol_degrees-2.result.now c.symbol_degrees.result.now) c.requires.first c.requires.second c.requires.first_nonzero c.requires.second_nonzero (ap₂ (merge (ranking_cmp r) ◌+◌) c.symbol_degrees-2.ensures c.symbol_degrees.ensures) in
    let y = err_from_is_err_and c.from_residual.result c.from_residual.ensures.1 in
    rw (y.1, y.2) (degrees_refused r c.args.p.now.terms c.args.q.now.terms _ h _ c.in_err-degrees.ensures.refused)

pub returns-then-len-gt-MOST_SYMBOLS-clause-refused : goal.returns-then-len-gt-MOST_SYMBOLS-clause-refused
returns-then-len-gt-MOST_SYMBOLS-clause-refused c =
    let r = c.args.ranking.now in
    let h = product_of r c.args.p.now.terms c.args.p.now.degrees c.args.q.now.terms c.args.q.now.degrees c.in_ok-degrees.degrees.items c.requires.first c.requires.second c.requires.first_nonzero c.requires.second_nonzero (c.in_ok-degrees.ensures.ok ∙ ap₂ (merge (ranking_cmp r) ◌+◌) c.symbol_degrees-2.ensures c.symbol_degrees.ensures) in
    inr (too_many_symbols r c.args.p.now.terms c.args.q.now.terms c.in_ok-degrees.degrees.items h c.in_ok-degrees.ensures.fits (omega (arith, c.len.ensures.value, c.if-len-gt-MOST_SYMBOLS.true)))

pub product_cells-requires-clause-low_first : goal.product_cells-requires-clause-low_first
product_cells-requires-clause-low_first c = rw c.terms.ensures (low_entry c.args.ranking.now c.args.p.now.terms c.requires.first.keepable).exponents

pub product_cells-requires-clause-low_second : goal.product_cells-requires-clause-low_second
product_cells-requires-clause-low_second c = rw c.terms-2.ensures (low_entry c.args.ranking.now c.args.q.now.terms c.requires.second.keepable).exponents

pub product_cells-requires-clause-low : goal.product_cells-requires-clause-low
product_cells-requires-clause-low c =
    let r = c.args.ranking.now in
    let h = product_of r c.args.p.now.terms c.args.p.now.degrees c.args.q.now.terms c.args.q.now.degrees c.in_ok-degrees.degrees.items c.requires.first c.requires.second c.requires.first_nonzero c.requires.second_nonzero (c.in_ok-degrees.ensures.ok ∙ ap₂ (merge (ranking_cmp r) ◌+◌) c.symbol_degrees-2.ensures c.symbol_degrees.ensures) in
    rw (c.terms.ensures, c.terms-2.ensures) (ap has_high_exponent (sym h.degrees_are) ∙ c.in_ok-degrees.ensures.fits)

pub returns-in_err-cells-clause-refused : goal.returns-in_err-cells-clause-refused
returns-in_err-cells-clause-refused c =
    let r = c.args.ranking.now in
    let h = product_of r c.args.p.now.terms c.args.p.now.degrees c.args.q.now.terms c.args.q.now.degrees c.in_ok-degrees.degrees.items c.requires.first c.requires.second c.requires.first_nonzero c.requires.second_nonzero (c.in_ok-degrees.ensures.ok ∙ ap₂ (merge (ranking_cmp r) ◌+◌) c.symbol_degrees-2.ensures c.symbol_degrees.ensures) in
    let y = err_from_is_err_and c.from_residual-in_err-cells.result c.from_residual-in_err-cells.ensures.1 in
    rw (y.1, y.2)
    (cells_refused r c.args.p.now.terms c.args.q.now.terms c.in_ok-degrees.degrees.items h c.in_ok-degrees.ensures.fits (omega (arith, c.len.ensures.value, c.if-len-gt-MOST_SYMBOLS.false)) _ (rw (← c.terms.ensures, ← c.terms-2.ensures) c.in_err-cells.ensures.refused))

pub returns-clause-ok : goal.returns-clause-ok
returns-clause-ok c =
    let r = c.args.ranking.now in
    let h = product_of r c.args.p.now.terms c.args.p.now.degrees c.args.q.now.terms c.args.q.now.degrees c.in_ok-degrees.degrees.items c.requires.first c.requires.second c.requires.first_nonzero c.requires.second_nonzero (c.in_ok-degrees.ensures.ok ∙ ap₂ (merge (ranking_cmp r) ◌+◌) c.symbol_degrees-2.ensures c.symbol_degrees.ensures) in
    product_support r c.args.p.now.terms c.args.q.now.terms c.in_ok-degrees.degrees.items h c.in_ok-cells.cells.items c.in_ok-degrees.ensures.fits (rw (← c.terms.ensures, ← c.terms-2.ensures) c.in_ok-cells.ensures.ok)
