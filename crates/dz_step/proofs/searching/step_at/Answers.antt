use Rattle.std.proofs.Common.{◌≡◌, ◌∙◌, length, ap, sym, arith, true, false}
use Rattle.std.specs.Prelude.{is_some}
use Rattle.dz_diff.specs.Operations.{setting_of}
use Rattle.dz_diff.specs.States.{state_in}
use Rattle.dz_step.specs.FullRun.{step_at}
use Rattle.dz_step.proofs.DivisorTables.{divisors_length, polynomials_length}
use Rattle.dz_step.proofs.Searches.{no_place, found_here, passed_here}
use Rattle.dz_step.proofs.searching.step_at.Goals as goal

pub step_with-requires-clause-inside : goal.step_with-requires-clause-inside
step_with-requires-clause-inside c =
    let l = divisors_length c.args.book.now.ranking (state_in c.args.book.now c.args.state.now) c.args.role c.loop-i.table.items c.loop-i.invariant.kept in
    let n = polynomials_length c.args.book.now c.args.state.now.equations in
    let m : length c.equations-i-end.result.now ≡ length c.args.state.now.equations = ap length c.equations-i-end.ensures.items in
    omega (arith, l, n, m, c.loop-i-test.true)

pub returns-then-is_some-clause-step : goal.returns-then-is_some-clause-step
returns-then-is_some-clause-step c f e =
    let s = state_in c.args.book.now c.args.state.now in
    let n = polynomials_length c.args.book.now c.args.state.now.equations in
    let m : length c.equations-i-end.result.now ≡ length c.args.state.now.equations = ap length c.equations-i-end.ensures.items in
    let some : is_some c.in_ok-found.found ≡ true = sym c.is_some.ensures ∙ c.if-is_some.true in
    found_here c.args.book.now.ranking s c.args.role f c.args.v s.equations c.loop-i.i (step_at (setting_of c.args.book.now.ranking) s c.args.role f c.args.v 1 s.equations) (c.loop-i.invariant.rest f e) (omega (arith, n, m, c.loop-i-test.true)) c.in_ok-found.found (c.in_ok-found.ensures.step f e) some

pub loop-i-preserved : goal.loop-i-preserved
loop-i-preserved c =
    let s = state_in c.args.book.now c.args.state.now in
    let n = polynomials_length c.args.book.now c.args.state.now.equations in
    let m : length c.equations-i-end.result.now ≡ length c.args.state.now.equations = ap length c.equations-i-end.ensures.items in
    let none : is_some c.in_ok-found.found ≡ false = sym c.is_some.ensures ∙ c.if-is_some.false in
    record {
      kept = c.step_with.ensures.table;
      rest = λ f e. passed_here c.args.book.now.ranking s c.args.role f c.args.v s.equations c.loop-i.i (step_at (setting_of c.args.book.now.ranking) s c.args.role f c.args.v 1 s.equations) (c.loop-i.invariant.rest f e) (omega (arith, n, m, c.loop-i-test.true)) c.in_ok-found.found (c.in_ok-found.ensures.step f e) none;
    }

pub returns-clause-step : goal.returns-clause-step
returns-clause-step c f e =
    let s = state_in c.args.book.now c.args.state.now in
    let n = polynomials_length c.args.book.now c.args.state.now.equations in
    let m : length c.equations-i-end.result.now ≡ length c.args.state.now.equations = ap length c.equations-i-end.ensures.items in
    no_place c.args.book.now.ranking s c.args.role f c.args.v s.equations c.loop-i.i (step_at (setting_of c.args.book.now.ranking) s c.args.role f c.args.v 1 s.equations) (c.loop-i.invariant.rest f e) (omega (arith, n, m, c.loop-i-test.false))
