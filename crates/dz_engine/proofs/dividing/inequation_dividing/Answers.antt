use Rattle.std.proofs.Common.{◌∙◌, ◌&&◌, sym, ap, subst, arith}
use Rattle.dz_algebra.specs.Polynomial.{symbol_polynomial}
use Rattle.dz_rank.specs.Rankings.{ranking_cmp}
use Rattle.dz_rank.specs.declared.symbols.Symbol.TheVariants.{Independent}
use Rattle.dz_monomials.specs.Keeping.{IsTabled}
use Rattle.dz_monomials.specs.Ranked.{symbols_under}
use Rattle.dz_diff.specs.States.{state_in}
use Rattle.dz_diff.specs.Tests.{is_member}
use Rattle.dz_monomials.specs.PowerDivision.{is_divided}
use Rattle.dz_engine.specs.Finding.{inequation_dividing}
use Rattle.dz_engine.specs.Order.{first_symbol}
use Rattle.dz_engine.proofs.Findings.{symbol_ends, symbol_here, symbol_later, symbols_stand}
use Rattle.dz_engine.proofs.KnownFacts.{no_dividing}
use Rattle.dz_engine.proofs.dividing.inequation_dividing.Goals as goal

pub symbols-init : goal.symbols-init
symbols-init c =
    let book = c.args.book.now in
    let s = state_in book c.args.state.now in
    let f = c.args.entry.now.terms in
    let entry = subst (IsTabled book.ranking f) (sym c.symbol_degrees-table.ensures) c.requires.entry in
    ap (first_symbol (λ v. is_member (symbols_under book.ranking) (symbol_polynomial v) s.inequations && is_divided (ranking_cmp book.ranking) v f)) (symbols_stand book.ranking f c.symbol_degrees-table.result.now entry)

pub returns-then-branch : goal.returns-then-branch
returns-then-branch c =
    let book = c.args.book.now in
    let s = state_in book c.args.state.now in
    let f = c.args.entry.now.terms in
    symbol_here (λ v. is_member (symbols_under book.ranking) (symbol_polynomial v) s.inequations && is_divided (ranking_cmp book.ranking) v f) c.symbol_degrees-table.result.now c.symbols.k (inequation_dividing (symbols_under book.ranking) s f)
    c.symbols.invariant (Independent 0, 0) c.symbols-test.true (sym c.in_ok-divides_as_inequation.ensures ∙ c.if-branch.true)

pub symbols-preserved : goal.symbols-preserved
symbols-preserved c =
    let book = c.args.book.now in
    let s = state_in book c.args.state.now in
    let f = c.args.entry.now.terms in
    symbol_later (λ v. is_member (symbols_under book.ranking) (symbol_polynomial v) s.inequations && is_divided (ranking_cmp book.ranking) v f) c.symbol_degrees-table.result.now c.symbols.k (inequation_dividing (symbols_under book.ranking) s f)
    c.symbols.invariant (Independent 0, 0) c.symbols-test.true (sym c.in_ok-divides_as_inequation.ensures ∙ c.if-branch.false)

pub returns : goal.returns
returns c =
    let book = c.args.book.now in
    let s = state_in book c.args.state.now in
    let f = c.args.entry.now.terms in
    symbol_ends (λ v. is_member (symbols_under book.ranking) (symbol_polynomial v) s.inequations && is_divided (ranking_cmp book.ranking) v f) c.symbol_degrees-table.result.now c.symbols.k (inequation_dividing (symbols_under book.ranking) s f)
    c.symbols.invariant (omega (arith, c.symbols-test.false))

pub returns-then-facts : goal.returns-then-facts
returns-then-facts c = no_dividing c.args.book.now.ranking c.args.entry.now.terms (sym c.requires.facts.undivided_is ∙ c.if-facts.true) (state_in c.args.book.now c.args.state.now)
