use Rattle.std.proofs.Common.{rules, ◌≡◌, ◌<◌, ◌+◌, ◌-◌, ◌∙◌, ◌++◌, true, Err, length, map, ap, ap₂, sym, arith, append-nil}
use Rattle.std.proofs.lemmas.Grind.{common_steps}
use Rattle.std.proofs.lemmas.List.{length-map}
use Rattle.std.proofs.lemmas.Result.{err_from_is_err_and, on_ok_weaker}
use Rattle.dz_parametric.specs.Cones.{cones_of_exponents}
use Rattle.dz_parametric.specs.Dividing.{completed, tails}
use Rattle.dz_parametric.specs.declared.listing.ConeFault.TheVariants.{TooMany}
use Rattle.dz_parametric.proofs.Listings.{listed_more}
use Rattle.dz_parametric.proofs.Splits.{all_listed, fixed_part, most, no_part, none_at_end, one_at_end, too_far, too_far_free, with_exponent}
use Rattle.dz_parametric.proofs.dividing.+add_cones.Goals as goal

pub returns-then-len-eq-MOST_CONES-clause-too_many : goal.returns-then-len-eq-MOST_CONES-clause-too_many
returns-then-len-eq-MOST_CONES-clause-too_many t c = λ h.
    let n = c.args.independents in
    let i = c.args.i in
    let z : length c.args.operators.now ≡ 0 = first_of (search rules, grind (arith, common_steps)) in
    let full : length c.args.found.now.items ≡ 4096 = first_of (search rules, grind (arith, common_steps)) in
    let one = ap length (one_at_end n i c.args.cone c.args.operators.now c.if-i-independents.true z) in
    omega (arith, full, one, length-map (cones_of_exponents (n - i) (tails i c.args.operators.now)) (completed i n c.args.cone))

pub returns-in_ok-push-clause-added : goal.returns-in_ok-push-clause-added
returns-in_ok-push-clause-added t c =
    let z : length c.args.operators.now ≡ 0 = first_of (search rules, grind (arith, common_steps)) in
    c.in_ok-push.ensures.items ∙ ap (λ xs. c.args.found.now.items ++ xs) (sym (one_at_end c.args.independents c.args.i c.args.cone c.args.operators.now c.if-i-independents.true z))

pub returns-else-is_empty-clause-added : goal.returns-else-is_empty-clause-added
returns-else-is_empty-clause-added t c =
    let z : 0 < length c.args.operators.now = first_of (search rules, grind (arith, common_steps)) in
    sym (ap (λ xs. c.args.found.now.items ++ xs) (none_at_end c.args.independents c.args.i c.args.cone c.args.operators.now c.if-i-independents.true z) ∙ append-nil c.args.found.now.items)

pub returns-then-has_identity_from-clause-added : goal.returns-then-has_identity_from-clause-added
returns-then-has_identity_from-clause-added t c =
    let l : c.args.i < c.args.independents = omega (arith, c.requires.within, c.if-i-independents.false) in
    let e = sym c.has_identity_from.ensures ∙ c.if-has_identity_from.true in
    sym (ap (λ xs. c.args.found.now.items ++ xs) (no_part c.args.independents c.args.i c.args.cone c.args.operators.now l e) ∙ append-nil c.args.found.now.items)

pub returns-in_err-add_cones-clause-too_many : goal.returns-in_err-add_cones-clause-too_many
returns-in_err-add_cones-clause-too_many t c = λ h.
    let n = c.args.independents in
    let i = c.args.i in
    let ts = c.args.operators.now in
    let l : i < n = omega (arith, c.requires.within, c.if-i-independents.false) in
    let counts : i < length c.args.cone.operator.counts = let size : length c.args.cone.operator.counts ≡ 4 = first_of (search rules, grind (arith, common_steps)) in omega (arith, l, c.requires.few, size) in
    let frees : i < length c.args.cone.free = let size : length c.args.cone.free ≡ 4 = first_of (search rules, grind (arith, common_steps)) in omega (arith, l, c.requires.few, size) in
    let e = sym c.has_identity_from.ensures ∙ c.if-has_identity_from.false in
    let y = err_from_is_err_and c.from_residual-in_err-add_cones.result c.from_residual-in_err-add_cones.ensures.1 in
    let many : c.add_cones.result ≡ Err TooMany = c.in_err-add_cones.was ∙ ap Err (sym y.2) ∙ sym y.1 ∙ h in
    let part = ap₂ (λ x ys. map (completed (i + 1) n x) (cones_of_exponents (n - (i + 1)) (tails (i + 1) ys))) c.with_direction-part.ensures (c.as_slice.ensures.value ∙ c.in_ok-reached.ensures) in
    let same = sym (length-map (cones_of_exponents (n - (i + 1)) (tails (i + 1) c.as_slice.result.now)) (completed (i + 1) n c.with_direction-part.result)) ∙ ap length part in
    too_far n i c.args.cone ts l counts frees e c.args.found.now.items c.loop-k.found.items c.loop-k.k (omega (arith, c.loop-k-test.true, c.greatest-most.ensures)) c.loop-k.invariant.parts (omega (arith, same, c.add_cones.ensures.too_many many))

pub loop-k-preserved : goal.loop-k-preserved
loop-k-preserved t c =
    let n = c.args.independents in
    let i = c.args.i in
    let part = ap₂ (λ x ys. map (completed (i + 1) n x) (cones_of_exponents (n - (i + 1)) (tails (i + 1) ys))) c.with_direction-part.ensures (c.as_slice.ensures.value ∙ c.in_ok-reached.ensures) in
    record {
      parts = listed_more (fixed_part n i c.args.cone c.args.operators.now) c.args.found.now.items c.loop-k.found.items c.add_cones.new.found.items _ c.loop-k.k c.loop-k.invariant.parts c.in_ok-add_cones.ensures.added part;
      room = c.in_ok-add_cones.ensures.room;
    }

pub returns-clause-added : goal.returns-clause-added
returns-clause-added t c =
    let n = c.args.independents in
    let i = c.args.i in
    let ts = c.args.operators.now in
    let l : i < n = omega (arith, c.requires.within, c.if-i-independents.false) in
    let counts : i < length c.args.cone.operator.counts = let size : length c.args.cone.operator.counts ≡ 4 = first_of (search rules, grind (arith, common_steps)) in omega (arith, l, c.requires.few, size) in
    let frees : i < length c.args.cone.free = let size : length c.args.cone.free ≡ 4 = first_of (search rules, grind (arith, common_steps)) in omega (arith, l, c.requires.few, size) in
    let e = sym c.has_identity_from.ensures ∙ c.if-has_identity_from.false in
    let end : c.loop-k.k ≡ most n i c.args.cone ts = omega (arith, c.loop-k-test.false, c.loop-k.auto.k-end, c.greatest-most.ensures) in
    let last = ap (λ x. map (completed (i + 1) n x) (cones_of_exponents (n - (i + 1)) (tails (i + 1) ts))) (c.with_direction-last.ensures ∙ ap (λ k. with_exponent n i c.args.cone ts k true) c.greatest-most.ensures) in
    on_ok_weaker c.add_cones-2.result (λ added. all_listed n i c.args.cone ts l counts frees e c.args.found.now.items c.loop-k.found.items c.add_cones-2.new.found.items c.loop-k.k end c.loop-k.invariant.parts (added ∙ ap (λ xs. c.loop-k.found.items ++ xs) last)) c.add_cones-2.ensures.added

pub returns-clause-too_many : goal.returns-clause-too_many
returns-clause-too_many t c = λ h.
    let n = c.args.independents in
    let i = c.args.i in
    let ts = c.args.operators.now in
    let l : i < n = omega (arith, c.requires.within, c.if-i-independents.false) in
    let counts : i < length c.args.cone.operator.counts = let size : length c.args.cone.operator.counts ≡ 4 = first_of (search rules, grind (arith, common_steps)) in omega (arith, l, c.requires.few, size) in
    let frees : i < length c.args.cone.free = let size : length c.args.cone.free ≡ 4 = first_of (search rules, grind (arith, common_steps)) in omega (arith, l, c.requires.few, size) in
    let e = sym c.has_identity_from.ensures ∙ c.if-has_identity_from.false in
    let end : c.loop-k.k ≡ most n i c.args.cone ts = omega (arith, c.loop-k-test.false, c.loop-k.auto.k-end, c.greatest-most.ensures) in
    let last = ap (λ x. map (completed (i + 1) n x) (cones_of_exponents (n - (i + 1)) (tails (i + 1) ts))) (c.with_direction-last.ensures ∙ ap (λ k. with_exponent n i c.args.cone ts k true) c.greatest-most.ensures) in
    let same = sym (length-map (cones_of_exponents (n - (i + 1)) (tails (i + 1) ts)) (completed (i + 1) n c.with_direction-last.result)) ∙ ap length last in
    too_far_free n i c.args.cone ts l counts frees e c.args.found.now.items c.loop-k.found.items c.loop-k.k end c.loop-k.invariant.parts (omega (arith, same, c.add_cones-2.ensures.too_many h))
