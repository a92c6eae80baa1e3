use Rattle.std.proofs.Common.{◌≡◌, ◌∙◌, sym, subst, arith, true, false}
use Rattle.std.specs.Prelude.{is_some}
use Rattle.dz_rank.specs.declared.symbols.Symbol.TheVariants.{Independent}
use Rattle.dz_monomials.specs.Keeping.{IsTabled}
use Rattle.dz_diff.specs.Operations.{setting_of}
use Rattle.dz_diff.specs.States.{state_in}
use Rattle.dz_step.specs.FullRun.{next_step}
use Rattle.dz_step.proofs.Searches.{all_symbols, degree_here, four_here, found_symbol, no_derivative, no_symbol, passed_symbol}
use Rattle.dz_step.proofs.searching.next_step_entry.Goals as goal

pub loop-power-init : goal.loop-power-init
loop-power-init c =
    let s = state_in c.args.book.now c.args.state.now in
    record {
      kept = c.requires.table;
      rest = all_symbols c.args.book.now.ranking s c.args.role c.args.f.now.terms c.symbol_degrees-power-items.result.now (subst (IsTabled c.args.book.now.ranking c.args.f.now.terms) (sym c.symbol_degrees-power-items.ensures) c.requires.f);
    }

pub returns-in-Independent-clause-step : goal.returns-in-Independent-clause-step
returns-in-Independent-clause-step c =
    let s = state_in c.args.book.now c.args.state.now in
    let f = c.args.f.now.terms in
    no_derivative c.args.book.now.ranking s c.args.role f c.symbol_degrees-power-items.result.now c.loop-power.power-index (next_step (setting_of c.args.book.now.ranking) s c.args.role f) c.loop-power.invariant.rest c.loop-power-test.true (Independent 0, 0) c.in-Independent.field-0 c.in-Independent.is

pub step_at-requires-clause-four : goal.step_at-requires-clause-four
step_at-requires-clause-four c =
    let entry = subst (IsTabled c.args.book.now.ranking c.args.f.now.terms) (sym c.symbol_degrees-power-items.ensures) c.requires.f in
    four_here c.args.book.now.ranking c.args.f.now.terms c.symbol_degrees-power-items.result.now entry c.loop-power.power-index (Independent 0, 0) c.loop-power-test.true

pub returns-then-is_some-clause-step : goal.returns-then-is_some-clause-step
returns-then-is_some-clause-step c =
    let s = state_in c.args.book.now c.args.state.now in
    let f = c.args.f.now.terms in
    let entry = subst (IsTabled c.args.book.now.ranking f) (sym c.symbol_degrees-power-items.ensures) c.requires.f in
    let same = degree_here c.args.book.now.ranking f c.symbol_degrees-power-items.result.now entry c.loop-power.power-index (Independent 0, 0) c.loop-power-test.true in
    let some : is_some c.in_ok-found.found ≡ true = sym c.is_some.ensures ∙ c.if-is_some.true in
    found_symbol c.args.book.now.ranking s c.args.role f c.symbol_degrees-power-items.result.now c.loop-power.power-index (next_step (setting_of c.args.book.now.ranking) s c.args.role f) c.loop-power.invariant.rest c.loop-power-test.true (Independent 0, 0) c.in_default.not-Independent c.in_ok-found.found (c.in_ok-found.ensures.step f same) some

pub loop-power-preserved : goal.loop-power-preserved
loop-power-preserved c =
    let s = state_in c.args.book.now c.args.state.now in
    let f = c.args.f.now.terms in
    let entry = subst (IsTabled c.args.book.now.ranking f) (sym c.symbol_degrees-power-items.ensures) c.requires.f in
    let same = degree_here c.args.book.now.ranking f c.symbol_degrees-power-items.result.now entry c.loop-power.power-index (Independent 0, 0) c.loop-power-test.true in
    let none : is_some c.in_ok-found.found ≡ false = sym c.is_some.ensures ∙ c.if-is_some.false in
    record {
      kept = c.step_at.ensures.table;
      rest = passed_symbol c.args.book.now.ranking s c.args.role f c.symbol_degrees-power-items.result.now c.loop-power.power-index (next_step (setting_of c.args.book.now.ranking) s c.args.role f) c.loop-power.invariant.rest c.loop-power-test.true (Independent 0, 0) c.in_default.not-Independent c.in_ok-found.found (c.in_ok-found.ensures.step f same) none;
    }

pub returns-clause-step : goal.returns-clause-step
returns-clause-step c =
    let s = state_in c.args.book.now c.args.state.now in
    let f = c.args.f.now.terms in
    no_symbol c.args.book.now.ranking s c.args.role f c.symbol_degrees-power-items.result.now c.loop-power.power-index (next_step (setting_of c.args.book.now.ranking) s c.args.role f) c.loop-power.invariant.rest (omega (arith, c.loop-power-test.false))
