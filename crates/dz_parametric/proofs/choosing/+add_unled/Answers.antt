use Rattle.std.specs.List.{filter, flat_map, range_with_len}
use Rattle.std.proofs.Common.{rules, ◌≡◌, ◌<◌, ◌∙◌, ◌++◌, ◌+◌, ◌-◌, ◌∷◌, [], take, drop, length, ap, refl, sym, subst, arith, append-nil}
use Rattle.std.proofs.lemmas.Grind.{common_steps}
use Rattle.dz_rank.specs.Symbols.{HasFourExponents}
use Rattle.dz_rank.specs.declared.symbols.Symbol.TheVariants.{Derivative}
use Rattle.dz_parametric.specs.Choosing.{is_unled}
use Rattle.dz_parametric.specs.Orders.{derivatives_from}
use Rattle.dz_parametric.proofs.Chosen.{from_indices, led_false, unled_true}
use Rattle.dz_parametric.proofs.OrderLists.{Zeros}
use Rattle.dz_parametric.proofs.Listings.{all_next, listed_more, take_set_more, zeros_behind_set}
use Rattle.dz_parametric.proofs.UnledLists.{flat_filtered, last_unled, none_unled}
use Rattle.dz_parametric.proofs.choosing.+add_unled.Goals as goal

pub returns-then-is_led : goal.returns-then-is_led
returns-then-is_led t c =
    let ls = c.args.leaders.now in
    let ks = c.args.operator.counts in
    let size : length ks ≡ 4 = first_of (search rules, grind (arith, common_steps)) in
    sym (append-nil c.args.into.now.items)
    ∙ ap (λ xs. c.args.into.now.items ++ xs)
    (sym (none_unled ls c.args.independents c.args.dependent c.args.most c.requires.few c.args.i ks size c.requires.within c.requires.zeros (led_false ls (Derivative c.args.dependent c.args.operator) size c.if-is_led.ensures)))

pub returns-then-i-independents : goal.returns-then-i-independents
returns-then-i-independents t c =
    let ls = c.args.leaders.now in
    let n = c.args.independents in
    let u = c.args.dependent in
    let ks = c.args.operator.counts in
    let size : length ks ≡ 4 = first_of (search rules, grind (arith, common_steps)) in
    c.in_ok-push.ensures.items
    ∙ ap (λ xs. c.args.into.now.items ++ xs)
    (subst (λ i. Derivative u (record { counts = ks }) ∷ [] ≡ filter (is_unled ls) (derivatives_from n u (take i ks) (n - i) c.args.most)) (sym c.if-i-independents.true)
    (last_unled ls n u c.args.most c.requires.few ks size (subst (λ i. Zeros (drop i ks)) c.if-i-independents.true c.requires.zeros)
    (unled_true ls (Derivative u c.args.operator) (from_indices HasFourExponents ls c.requires.leaders) size refl c.if-is_led.ensures)))

pub add_unled-requires : goal.add_unled-requires
add_unled-requires t c =
    let d = c.decreases in
    let l : c.args.i < c.args.independents = omega (arith, c.requires.within, c.if-i-independents.false) in
    (omega arith, (c.requires.leaders, (omega arith, (c.requires.few, zeros_behind_set c.args.i c.args.operator.counts c.loop-k.k c.requires.zeros))))

pub loop-k-preserved : goal.loop-k-preserved
loop-k-preserved t c =
    let ls = c.args.leaders.now in
    let n = c.args.independents in
    let ks = c.args.operator.counts in
    let size : length ks ≡ 4 = first_of (search rules, grind (arith, common_steps)) in
    let l : c.args.i < length ks = omega (arith, c.requires.within, c.requires.few, c.if-i-independents.false, size) in
    listed_more (λ j. filter (is_unled ls) (derivatives_from n c.args.dependent (take c.args.i ks ++ j ∷ []) (n - (c.args.i + 1)) (c.args.most - j))) c.args.into.now.items c.loop-k.into.items c.add_unled.new.into.items _ c.loop-k.k c.loop-k.invariant c.in_ok-add_unled.ensures
    (ap (λ front. filter (is_unled ls) (derivatives_from n c.args.dependent front (n - (c.args.i + 1)) (c.args.most - c.loop-k.k))) (take_set_more c.args.i ks c.loop-k.k l))

pub returns-in_ok-add_unled : goal.returns-in_ok-add_unled
returns-in_ok-add_unled t c =
    let ls = c.args.leaders.now in
    let n = c.args.independents in
    let ks = c.args.operator.counts in
    let size : length ks ≡ 4 = first_of (search rules, grind (arith, common_steps)) in
    let l : c.args.i < length ks = omega (arith, c.requires.within, c.requires.few, c.if-i-independents.false, size) in
    let e : c.loop-k.k ≡ c.args.most = omega arith in
    listed_more (λ j. filter (is_unled ls) (derivatives_from n c.args.dependent (take c.args.i ks ++ j ∷ []) (n - (c.args.i + 1)) (c.args.most - j))) c.args.into.now.items c.loop-k.into.items c.add_unled.new.into.items _ c.loop-k.k c.loop-k.invariant c.in_ok-add_unled.ensures
    (ap (λ front. filter (is_unled ls) (derivatives_from n c.args.dependent front (n - (c.args.i + 1)) (c.args.most - c.loop-k.k))) (take_set_more c.args.i ks c.loop-k.k l))
    ∙ ap (λ zs. c.args.into.now.items ++ zs)
    (ap (λ k. flat_map (λ j. filter (is_unled ls) (derivatives_from n c.args.dependent (take c.args.i ks ++ j ∷ []) (n - (c.args.i + 1)) (c.args.most - j))) (range_with_len 0 (k + 1))) e
    ∙ flat_filtered (is_unled ls) (λ j. derivatives_from n c.args.dependent (take c.args.i ks ++ j ∷ []) (n - (c.args.i + 1)) (c.args.most - j)) (range_with_len 0 (c.args.most + 1))
    ∙ ap (filter (is_unled ls)) (all_next n c.args.dependent (take c.args.i ks) c.args.i c.args.most (omega (arith, c.requires.within, c.if-i-independents.false))))
