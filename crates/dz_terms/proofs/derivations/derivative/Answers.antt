use Rattle.std.proofs.Common.{◌∙◌, ◌≤◌, ap, sym, arith}
use Rattle.std.specs.List.{list_any}
use Rattle.std.proofs.lemmas.Result.{err_from_is_err_and}
use Rattle.dz_rank.specs.Symbols.{total_order}
use Rattle.dz_monomials.specs.Ranked.{symbol_rate}
use Rattle.dz_monomials.specs.Rows.{is_high_rate, rates_of}
use Rattle.dz_terms.proofs.Answered.{answered}
use Rattle.dz_monomials.proofs.RateTables.{symbols_have_four, order_refused, are_rates, table_rows}
use Rattle.dz_terms.proofs.derivations.derivative.Goals as goal

pub table_rates-requires-clause-four : goal.table_rates-requires-clause-four
table_rates-requires-clause-four c = rw c.symbol_degrees.ensures (symbols_have_four c.args.ranking.now c.args.entry.now.terms c.args.entry.now.degrees c.requires.entry)

pub returns-in_err-rates : goal.returns-in_err-rates
returns-in_err-rates c =
    let y = err_from_is_err_and c.from_residual.result c.from_residual.ensures.1 in
    rw (y.1, y.2)
    (order_refused c.args.ranking.now c.args.entry.now.terms c.args.entry.now.degrees c.requires.entry c.args.i _ (rw (← c.symbol_degrees.ensures) c.in_err-rates.ensures.refused))

pub rows_answer-requires-clause-rates : goal.rows_answer-requires-clause-rates
rows_answer-requires-clause-rates c =
    let n : c.args.ranking.now.signature.independents ≤ 4 = c.signature.ensures.ranking.few_independents in
    rw c.as_slice.ensures.value
    (are_rates c.args.ranking.now c.args.entry.now.terms c.args.entry.now.degrees c.requires.entry c.args.i c.requires.within (omega (arith, n, c.requires.within)) c.in_ok-rates.rates.items
    (c.in_ok-rates.ensures.ok ∙ ap (rates_of (symbol_rate c.args.i)) c.symbol_degrees.ensures)
    (ap (list_any (λ q. is_high_rate total_order (symbol_rate c.args.i q.0))) (sym c.symbol_degrees.ensures) ∙ c.in_ok-rates.ensures.low))

pub returns-in_err-derivative : goal.returns-in_err-derivative
returns-in_err-derivative c =
    let y = err_from_is_err_and c.from_residual-in_err-derivative.result c.from_residual-in_err-derivative.ensures.1 in
    let e = table_rows c.args.ranking.now c.args.entry.now.terms c.args.entry.now.degrees c.requires.entry c.args.i c.as_slice.result.now (c.as_slice.ensures.value ∙ c.in_ok-rates.ensures.ok ∙ ap (rates_of (symbol_rate c.args.i)) c.symbol_degrees.ensures) in
    rw (y.1, y.2, ← e) c.in_err-derivative.ensures

pub returns : goal.returns
returns c =
    answered _ _ _
    (sym (table_rows c.args.ranking.now c.args.entry.now.terms c.args.entry.now.degrees c.requires.entry c.args.i c.as_slice.result.now (c.as_slice.ensures.value ∙ c.in_ok-rates.ensures.ok ∙ ap (rates_of (symbol_rate c.args.i)) c.symbol_degrees.ensures))
    ∙ c.in_ok-derivative.ensures.ok)
    c.in_ok-derivative.ensures.entry
