use Rattle.std.proofs.Common.{rules, ◌≡◌, ◌∙◌, ◌-◌, [], ap, arith}
use Rattle.std.specs.Ordering.{is_lt}
use Rattle.std.proofs.lemmas.Fn.{always_returns_same}
use Rattle.std.proofs.lemmas.List.Sorted.{ranks_by}
use Rattle.std.specs.List.{filter, flat_map, range_with_len}
use Rattle.dz_rank.specs.Rankings.{ranking_cmp}
use Rattle.dz_monomials.proofs.SymbolLaws.{ranking_order}
use Rattle.dz_parametric.specs.Choosing.{is_unled}
use Rattle.dz_parametric.specs.Orders.{derivatives_from}
use Rattle.dz_parametric.proofs.Listings.{listed_more}
use Rattle.dz_parametric.proofs.UnledLists.{unled_sorted}
use Rattle.dz_parametric.proofs.choosing.unled_to.Goals as goal

pub loop-u-preserved : goal.loop-u-preserved
loop-u-preserved c =
    let r = c.args.ranking.now in
    let ls = c.args.leaders.now in
    listed_more (λ v. filter (is_unled ls) (derivatives_from r.signature.independents v [] r.signature.independents c.args.order)) [] c.loop-u.found.items c.add_unled.new.into.items _ c.loop-u.u c.loop-u.invariant c.in_ok-add_unled.ensures
    (ap (λ g. filter (is_unled ls) (derivatives_from g.independents c.loop-u.u [] (g.independents - 0) c.args.order)) c.signature-signature.ensures.value
    ∙ ap (λ q. filter (is_unled ls) (derivatives_from r.signature.independents c.loop-u.u [] q c.args.order)) (let e : r.signature.independents - 0 ≡ r.signature.independents = omega arith in e))

pub returns : goal.returns
returns c =
    let r = c.args.ranking.now in
    let ls = c.args.leaders.now in
    let end : c.loop-u.u ≡ r.signature.dependents = omega (arith, c.loop-u-test.false, c.loop-u.auto.u-end, ap (λ g. g.dependents) c.signature-signature.ensures.value) in
    let all = c.loop-u.invariant ∙ ap (λ k. flat_map (λ v. filter (is_unled ls) (derivatives_from r.signature.independents v [] r.signature.independents c.args.order)) (range_with_len 0 k)) end in
    unled_sorted r c.args.order ls c.loop-u.found.items c.sort_unstable_by.new.self.items all c.sort_unstable_by.ensures.permutation
    (c.sort_unstable_by.ensures.sorted (λ x y. is_lt (ranking_cmp r x y)) (ranks_by (ranking_order r).total (λ x. x)) (always_returns_same _ _ _ (λ a q f' h. search rules)))
