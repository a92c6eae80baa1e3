use Rattle.std.specs.Prelude.{is_some, not}
use Rattle.std.proofs.Common.{◌∙◌, sym, ap, subst, arith}
use Rattle.dz_rank.specs.Rankings.{ranking_cmp}
use Rattle.dz_rank.specs.declared.symbols.Symbol.TheVariants.{Independent}
use Rattle.dz_monomials.specs.Keeping.{IsTabled}
use Rattle.dz_monomials.specs.Ranked.{symbols_under}
use Rattle.dz_monomials.specs.PowerDivision.{is_divided}
use Rattle.dz_engine.specs.Order.{first_symbol, symbols_of}
use Rattle.dz_engine.proofs.Findings.{symbol_ends, symbol_here, symbol_later, symbols_stand}
use Rattle.dz_engine.proofs.facts.is_undivided.Goals as goal

pub symbols-init : goal.symbols-init
symbols-init c =
    let book = c.args.book.now in
    let f = c.args.q.now.terms in
    let entry = subst (IsTabled book.ranking f) (sym c.symbol_degrees-table.ensures) c.requires in
    ap (first_symbol (λ v. is_divided (ranking_cmp book.ranking) v f)) (symbols_stand book.ranking f c.symbol_degrees-table.result.now entry)

pub returns-then-is_divided : goal.returns-then-is_divided
returns-then-is_divided c =
    let book = c.args.book.now in
    let f = c.args.q.now.terms in
    ap (λ o. not (is_some o)) (symbol_here (λ v. is_divided (ranking_cmp book.ranking) v f) c.symbol_degrees-table.result.now c.symbols.k (first_symbol (λ v. is_divided (ranking_cmp book.ranking) v f) (symbols_of (symbols_under book.ranking) f))
    c.symbols.invariant (Independent 0, 0) c.symbols-test.true (sym (rw c.ranking.ensures at c.is_divided.ensures) ∙ c.if-is_divided.true))

pub symbols-preserved : goal.symbols-preserved
symbols-preserved c =
    let book = c.args.book.now in
    let f = c.args.q.now.terms in
    symbol_later (λ v. is_divided (ranking_cmp book.ranking) v f) c.symbol_degrees-table.result.now c.symbols.k (first_symbol (λ v. is_divided (ranking_cmp book.ranking) v f) (symbols_of (symbols_under book.ranking) f))
    c.symbols.invariant (Independent 0, 0) c.symbols-test.true (sym (rw c.ranking.ensures at c.is_divided.ensures) ∙ c.if-is_divided.false)

pub returns : goal.returns
returns c =
    let book = c.args.book.now in
    let f = c.args.q.now.terms in
    ap (λ o. not (is_some o)) (symbol_ends (λ v. is_divided (ranking_cmp book.ranking) v f) c.symbol_degrees-table.result.now c.symbols.k (first_symbol (λ v. is_divided (ranking_cmp book.ranking) v f) (symbols_of (symbols_under book.ranking) f)) c.symbols.invariant (omega (arith, c.symbols-test.false)))
