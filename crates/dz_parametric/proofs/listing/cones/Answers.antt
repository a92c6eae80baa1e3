use Rattle.std.proofs.Common.{◌≡◌, ◌≤◌, ◌-◌, ◌∙◌, [], Err, length, map, ap, ap₂, sym, subst, arith}
use Rattle.std.proofs.lemmas.List.{length-map}
use Rattle.std.proofs.lemmas.Result.{err_from_is_err_and}
use Rattle.dz_diff.specs.States.{state_in}
use Rattle.dz_parametric.specs.Cones.{cones_of_exponents, cones_with, operators_of}
use Rattle.dz_parametric.specs.Dividing.{completed, tails}
use Rattle.dz_parametric.specs.Parametric.{leaders_in}
use Rattle.dz_parametric.specs.declared.listing.ConeFault.TheVariants.{TooMany}
use Rattle.dz_parametric.proofs.Listings.{listed_more}
use Rattle.dz_parametric.proofs.Splits.{cones_begun, none_put, not_longer, same_fault}
use Rattle.dz_parametric.proofs.listing.cones.Goals as goal

pub returns-in_err-add_cones-clause-too_many : goal.returns-in_err-add_cones-clause-too_many
returns-in_err-add_cones-clause-too_many c = λ h.
    let r = c.args.book.now.ranking in
    let n = r.signature.independents in
    let u = c.loop-u.u in
    let ls = leaders_in r (state_in c.args.book.now c.args.chain.now) in
    let sig = c.signature-signature.ensures.value ∙ ap (λ x. x.signature) c.ranking.ensures in
    let few : n ≤ 4 = subst (λ x. x.signature.independents ≤ 4) c.ranking.ensures c.signature-signature.ensures.ranking.few_independents in
    let y = err_from_is_err_and c.from_residual-in_err-add_cones.result c.from_residual-in_err-add_cones.ensures.1 in
    let many : c.add_cones.result ≡ Err TooMany = c.in_err-add_cones.was ∙ ap Err (sym y.2 ∙ same_fault c.from_residual-in_err-add_cones.result y.0 TooMany y.1 h) in
    let leads = ap (operators_of u) (c.as_slice.ensures.value ∙ c.in_ok-leaders.ensures) in
    let exponents = ap (map (λ t. t.counts)) c.as_slice-in-loop-u.ensures.value ∙ c.in_ok-operators.ensures ∙ leads in
    let part = ap₂ (λ m ss. map (completed 0 m (none_put u)) (cones_of_exponents (m - 0) ss)) (ap (λ g. g.independents) sig) exponents ∙ cones_begun n u (operators_of u ls) few in
    let same = sym (length-map (cones_of_exponents (c.signature-signature.result.independents - 0) (tails 0 c.as_slice-in-loop-u.result.now)) (completed 0 c.signature-signature.result.independents (none_put u))) ∙ ap length part in
    omega (arith, same, many, c.add_cones.ensures.too_many many, ap length c.loop-u.invariant.listed, not_longer (cones_with n ls) u r.signature.dependents (omega (arith, c.loop-u-test.true, ap (λ g. g.dependents) sig)))

pub loop-u-preserved : goal.loop-u-preserved
loop-u-preserved c =
    let r = c.args.book.now.ranking in
    let n = r.signature.independents in
    let u = c.loop-u.u in
    let ls = leaders_in r (state_in c.args.book.now c.args.chain.now) in
    let sig = c.signature-signature.ensures.value ∙ ap (λ x. x.signature) c.ranking.ensures in
    let few : n ≤ 4 = subst (λ x. x.signature.independents ≤ 4) c.ranking.ensures c.signature-signature.ensures.ranking.few_independents in
    let leads = ap (operators_of u) (c.as_slice.ensures.value ∙ c.in_ok-leaders.ensures) in
    let exponents = ap (map (λ t. t.counts)) c.as_slice-in-loop-u.ensures.value ∙ c.in_ok-operators.ensures ∙ leads in
    let part = ap₂ (λ m ss. map (completed 0 m (none_put u)) (cones_of_exponents (m - 0) ss)) (ap (λ g. g.independents) sig) exponents ∙ cones_begun n u (operators_of u ls) few in
    record {
      listed = listed_more (cones_with n ls) [] c.loop-u.found.items c.add_cones.new.found.items _ u c.loop-u.invariant.listed c.in_ok-add_cones.ensures.added part;
      room = c.in_ok-add_cones.ensures.room;
    }
