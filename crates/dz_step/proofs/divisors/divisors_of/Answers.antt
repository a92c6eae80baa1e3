use Rattle.std.proofs.Common.{◌≡◌, ◌<◌, ◌+◌, ◌∙◌, [], slice_index_or, take, length, sym, subst, ap, arith}
use Rattle.dz_diff.specs.States.{polynomials, state_in}
use Rattle.dz_poly.specs.Books.{polynomial}
use Rattle.dz_step.specs.Divisors.{AreKeptOf, IsKeptOf}
use Rattle.dz_step.specs.Step.{usable}
use Rattle.dz_step.proofs.DivisorTables.{kept_more, polynomial_here, polynomials_length}
use Rattle.dz_step.proofs.divisors.divisors_of.Goals as goal

pub loop-p-preserved : goal.loop-p-preserved
loop-p-preserved c =
    let r = c.args.book.now.ranking in
    let hs = usable c.args.role (state_in c.args.book.now c.args.state.now).inequations in
    let ps = c.args.state.now.equations in
    let i = c.loop-p.p-index in
    let es = c.equations-p-items.ensures.items in
    let n = polynomials_length c.args.book.now ps in
    let m : length c.equations-p-items.result.now ≡ length ps = ap length es in
    let l : i < length ps = omega (arith, m, c.loop-p-test.true) in
    let there : c.p-item.result ≡ slice_index_or ps i c.p-item.result = c.p-item.is ∙ ap (λ ps. slice_index_or ps i c.p-item.result) es in
    let here : c.entry.result.now.terms ≡ slice_index_or (polynomials c.args.book.now ps) i [] = c.entry.ensures.value ∙ ap (polynomial c.args.book.now) there ∙ sym (polynomial_here c.args.book.now ps i c.p-item.result l) in
    record {
      counted = ap (λ n. n + 1) c.loop-p.invariant.counted;
      kept = subst (AreKeptOf r hs c.args.role 1 (take (i + 1) (polynomials c.args.book.now ps))) (sym c.in_ok-push.ensures.items)
          (kept_more r hs c.args.role i 1 (c.loop-p.place + 1) (polynomials c.args.book.now ps) c.loop-p.table.items c.unasked.result (omega (arith, n, l)) (ap (λ n. n + 1) c.loop-p.invariant.counted) (subst (λ q. IsKeptOf r hs c.args.role (c.loop-p.place + 1) q c.unasked.result) here (subst (λ r. IsKeptOf r hs c.args.role (c.loop-p.place + 1) c.entry.result.now.terms c.unasked.result) c.ranking.ensures (c.unasked.ensures hs))) c.loop-p.invariant.kept);
    }
