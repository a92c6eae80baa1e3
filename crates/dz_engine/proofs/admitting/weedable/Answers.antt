use Rattle.std.proofs.Common.{◌≡◌, ◌∙◌, length, [], sym, ap, arith}
use Rattle.dz_diff.specs.Operations.{setting_of}
use Rattle.dz_diff.specs.States.{state_in}
use Rattle.dz_step.specs.FullRun.{admits}
use Rattle.dz_step.specs.declared.Role.TheVariants.{Free}
use Rattle.dz_step.proofs.DivisorTables.{divisors_length, polynomials_length}
use Rattle.dz_engine.specs.declared.admitting.Members.TheVariants.{Inequations}
use Rattle.dz_engine.specs.Finding.{role_in}
use Rattle.dz_engine.proofs.Findings.{that_ends, that_here, that_passes}
use Rattle.dz_engine.proofs.admitting.weedable.Goals as goal

pub is_weedable-requires-clause-table : goal.is_weedable-requires-clause-table
is_weedable-requires-clause-table c = c.places.invariant.kept

pub is_weedable-requires-clause-inside : goal.is_weedable-requires-clause-inside
is_weedable-requires-clause-inside c =
    let l = divisors_length c.args.book.now.ranking (state_in c.args.book.now c.args.state.now) Free c.places.table.items c.places.invariant.kept in
    let n = polynomials_length c.args.book.now c.args.state.now.inequations in
    let m : length c.inequations-k-end.result.now ≡ length c.args.state.now.inequations = ap length c.inequations-k-end.ensures.items in
    omega (arith, l, n, m, c.places-test.true)

pub returns-then-branch-clause-found : goal.returns-then-branch-clause-found
returns-then-branch-clause-found c =
    let book = c.args.book.now in
    let g = setting_of book.ranking in
    let s = state_in book c.args.state.now in
    let n = polynomials_length book c.args.state.now.inequations in
    let m : length c.inequations-k-end.result.now ≡ length c.args.state.now.inequations = ap length c.inequations-k-end.ensures.items in
    that_here (λ i p. admits g s (role_in Inequations i) p) s.inequations c.places.k c.places.invariant.rest [] (omega (arith, n, m, c.places-test.true)) (sym c.in_ok-is_weedable.ensures.answer ∙ c.if-branch.true)

pub places-preserved : goal.places-preserved
places-preserved c =
    let book = c.args.book.now in
    let g = setting_of book.ranking in
    let s = state_in book c.args.state.now in
    let n = polynomials_length book c.args.state.now.inequations in
    let m : length c.inequations-k-end.result.now ≡ length c.args.state.now.inequations = ap length c.inequations-k-end.ensures.items in
    record {
      kept = c.is_weedable.ensures.table;
      rest = that_passes (λ i p. admits g s (role_in Inequations i) p) s.inequations c.places.k c.places.invariant.rest [] (omega (arith, n, m, c.places-test.true)) (sym c.in_ok-is_weedable.ensures.answer ∙ c.if-branch.false);
    }

pub returns-clause-found : goal.returns-clause-found
returns-clause-found c =
    let book = c.args.book.now in
    let g = setting_of book.ranking in
    let s = state_in book c.args.state.now in
    let n = polynomials_length book c.args.state.now.inequations in
    let m : length c.inequations-k-end.result.now ≡ length c.args.state.now.inequations = ap length c.inequations-k-end.ensures.items in
    that_ends (λ i p. admits g s (role_in Inequations i) p) s.inequations c.places.k c.places.invariant.rest (omega (arith, n, m, c.places-test.false))
