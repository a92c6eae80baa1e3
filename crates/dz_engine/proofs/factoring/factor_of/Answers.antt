use Rattle.std.proofs.Common.{◌∙◌, ◌&&◌, not, Bool, sym, ap, subst, arith}
use Rattle.dz_algebra.specs.Polynomial.{Polynomial, symbol_polynomial}
use Rattle.dz_rank.specs.Rankings.{RankingValue, ranking_cmp}
use Rattle.dz_rank.specs.declared.symbols.Symbol.{Symbol}
use Rattle.dz_rank.specs.declared.symbols.Symbol.TheVariants.{Independent}
use Rattle.dz_monomials.specs.Keeping.{IsTabled}
use Rattle.dz_monomials.specs.Ranked.{symbols_under}
use Rattle.dz_diff.specs.State.{State}
use Rattle.dz_diff.specs.States.{state_in}
use Rattle.dz_diff.specs.Tests.{is_member, same}
use Rattle.dz_monomials.specs.PowerDivision.{is_divided}
use Rattle.dz_step.proofs.Searches.{derivatives_stand}
use Rattle.dz_engine.specs.Finding.{factor_of}
use Rattle.dz_engine.specs.Order.{first_symbol}
use Rattle.dz_engine.proofs.Findings.{derivative_ends, derivative_here, derivative_later, derivative_none}
use Rattle.dz_engine.proofs.KnownFacts.{no_factor}
use Rattle.dz_engine.proofs.factoring.factor_of.Goals as goal

-- the test of a factor
abbrev test : RankingValue → State → Polynomial Symbol → Symbol → Bool
test r s f v = is_divided (ranking_cmp r) v f && not (same (symbols_under r) f (symbol_polynomial v)) && not (is_member (symbols_under r) (symbol_polynomial v) s.inequations)

pub symbols-init : goal.symbols-init
symbols-init c =
    let book = c.args.book.now in
    let f = c.args.entry.now.terms in
    let entry = subst (IsTabled book.ranking f) (sym c.symbol_degrees-table.ensures) c.requires.entry in
    ap (first_symbol (test book.ranking (state_in book c.args.state.now) f)) (derivatives_stand book.ranking f c.symbol_degrees-table.result.now entry)

pub returns-in-Independent : goal.returns-in-Independent
returns-in-Independent c =
    let book = c.args.book.now in
    let s = state_in book c.args.state.now in
    let f = c.args.entry.now.terms in
    derivative_none (test book.ranking s f) c.symbol_degrees-table.result.now c.symbols.k (factor_of (symbols_under book.ranking) s f) c.symbols.invariant (Independent 0, 0) c.symbols-test.true c.in-Independent.field-0 c.in-Independent.is

pub returns-then-branch : goal.returns-then-branch
returns-then-branch c =
    let book = c.args.book.now in
    let s = state_in book c.args.state.now in
    let f = c.args.entry.now.terms in
    derivative_here (test book.ranking s f) c.symbol_degrees-table.result.now c.symbols.k (factor_of (symbols_under book.ranking) s f) c.symbols.invariant (Independent 0, 0) c.symbols-test.true c.in_default.not-Independent (sym c.in_ok-is_factor.ensures ∙ c.if-branch.true)

pub symbols-preserved : goal.symbols-preserved
symbols-preserved c =
    let book = c.args.book.now in
    let s = state_in book c.args.state.now in
    let f = c.args.entry.now.terms in
    derivative_later (test book.ranking s f) c.symbol_degrees-table.result.now c.symbols.k (factor_of (symbols_under book.ranking) s f) c.symbols.invariant (Independent 0, 0) c.symbols-test.true c.in_default.not-Independent (sym c.in_ok-is_factor.ensures ∙ c.if-branch.false)

pub returns : goal.returns
returns c =
    let book = c.args.book.now in
    let s = state_in book c.args.state.now in
    let f = c.args.entry.now.terms in
    derivative_ends (test book.ranking s f) c.symbol_degrees-table.result.now c.symbols.k (factor_of (symbols_under book.ranking) s f) c.symbols.invariant (omega (arith, c.symbols-test.false))

pub returns-then-facts : goal.returns-then-facts
returns-then-facts c = no_factor c.args.book.now.ranking c.args.entry.now.terms (sym c.requires.facts.undivided_is ∙ c.if-facts.true) (state_in c.args.book.now c.args.state.now) c.args.entry.now.degrees c.requires.entry
