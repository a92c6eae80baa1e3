use Rattle.std.proofs.lemmas.Grind.{common_steps}
use Rattle.std.proofs.Common.{rules, ◌≡◌, ◌≤◌, ◌++◌, true, false, subst, arith, slice_index_or}
use Rattle.dz_monomials.specs.Ranked.{symbols_under}
use Rattle.dz_diff.specs.States.{state_in}
use Rattle.dz_jet.specs.Jets.{independents_of, is_needed}
use Rattle.dz_parametric.specs.Orders.{derivatives_to}
use Rattle.dz_jet.proofs.GivenAnswers.{free_here, not_free_here}
use Rattle.dz_jet.proofs.Needed.{fixed, free, high}
use Rattle.dz_jet.proofs.given.find_not_free.Goals as goal
use Rattle.dz_jet.proofs.given.find_not_free.Goals.{then-total_order-from-via-then-total_order-from, then-total_order-from-via-else-total_order-from+then-not-is_needed}

pub returns-then-total_order-from : goal.returns-then-total_order-from
returns-then-total_order-from c =
    let r = c.args.book.now.ranking in
    let st = state_in c.args.book.now c.args.chain.now in
    let symbols = independents_of r.signature ++ derivatives_to r c.args.order in
    let few : r.signature.independents ≤ 4 = subst (λ x. x.signature.independents ≤ 4) c.ranking.ensures c.signature.ensures.ranking.few_independents in
    let s = slice_index_or c.args.values.now c.loop-i.i c.index-values-i.result in
    elim c.then-total_order-from.branch [
      | then-total_order-from-via-then-total_order-from w ↦ not_free_here r st c.args.values.now symbols c.loop-i.i c.index-values-i.result c.loop-i-test.true c.loop-i.invariant (high r few st c.args.order s.0 (omega (arith, w.if-total_order-from.true, c.total_order.ensures, c.from.ensures)))
      | then-total_order-from-via-else-total_order-from+then-not-is_needed w ↦ not_free_here r st c.args.values.now symbols c.loop-i.i c.index-values-i.result c.loop-i-test.true c.loop-i.invariant (fixed r few st c.args.order s.0 (let e : is_needed (symbols_under r) st s.0 ≡ false = first_of (search rules, grind (arith, common_steps)) in e))
    ]

pub loop-i-preserved : goal.loop-i-preserved
loop-i-preserved c =
    let r = c.args.book.now.ranking in
    let st = state_in c.args.book.now c.args.chain.now in
    let symbols = independents_of r.signature ++ derivatives_to r c.args.order in
    let few : r.signature.independents ≤ 4 = subst (λ x. x.signature.independents ≤ 4) c.ranking.ensures c.signature.ensures.ranking.few_independents in
    let s = slice_index_or c.args.values.now c.loop-i.i c.index-values-i.result in
    free_here r st c.args.values.now symbols c.loop-i.i c.index-values-i.result c.loop-i-test.true c.loop-i.invariant
    (free r few st c.args.order s.0 (c.requires.belong c.loop-i.i c.index-values-i.result c.loop-i-test.true) (omega (arith, c.if-total_order-from.false, c.total_order.ensures, c.from.ensures)) (let e : is_needed (symbols_under r) st s.0 ≡ true = first_of (search rules, grind (arith, common_steps)) in e))
