use Rattle.std.proofs.Common.{◌≡◌, ◌≤◌, ◌∙◌, All, ap₂, sym, subst}
use Rattle.std.specs.List.{Contains, filter}
use Rattle.std.proofs.lemmas.Result.{IfOk-weaker}
use Rattle.dz_rank.specs.Rankings.{ranking_cmp}
use Rattle.dz_rank.specs.Symbols.{HasFourExponents}
use Rattle.dz_rank.specs.declared.symbols.Symbol.{Symbol}
use Rattle.dz_diff.specs.States.{state_in}
use Rattle.dz_parametric.specs.Choosing.{is_unled, parametric_to}
use Rattle.dz_parametric.specs.Orders.{IsRising, derivatives_to}
use Rattle.dz_parametric.specs.Parametric.{IsParametricTo, leaders_in}
use Rattle.dz_parametric.proofs.Chosen.{all_chosen, all_indices, chosen_parametric, chosen_rise}
use Rattle.dz_parametric.proofs.ConeLaws.{belong_four, leaders_stand}
use Rattle.dz_parametric.proofs.choosing.parametric.Goals as goal

pub unled_to-requires : goal.unled_to-requires
unled_to-requires c =
    let r = c.args.book.now.ranking in
    let ls = leaders_in r (state_in c.args.book.now c.args.chain.now) in
    let are = c.as_slice.ensures.value ∙ c.in_ok-leaders.ensures in
    subst (All HasFourExponents) (sym are) (all_indices HasFourExponents ls (belong_four r ls (leaders_stand c.args.book.now c.opened.ensures c.args.chain.now c.requires.stands)))

pub returns-clause-rising : goal.returns-clause-rising
returns-clause-rising c =
    let r = c.args.book.now.ranking in
    let ls = leaders_in r (state_in c.args.book.now c.args.chain.now) in
    let few : r.signature.independents ≤ 4 = subst (λ x. x.signature.independents ≤ 4) c.ranking.ensures c.signature.ensures.ranking.few_independents in
    let four = belong_four r ls (leaders_stand c.args.book.now c.opened.ensures c.args.chain.now c.requires.stands) in
    let listed = ap₂ (λ ks s. filter (is_unled ks) (derivatives_to s c.args.order)) (c.as_slice.ensures.value ∙ c.in_ok-leaders.ensures) c.ranking-2.ensures in
    IfOk-weaker c.unled_to.result _ (λ ws. IsRising (ranking_cmp r) ws.items) (λ ws is. subst (IsRising (ranking_cmp r)) (sym (is ∙ listed)) (chosen_rise r few c.args.order ls four)) c.unled_to.ensures

pub returns-clause-only : goal.returns-clause-only
returns-clause-only c =
    let r = c.args.book.now.ranking in
    let ls = leaders_in r (state_in c.args.book.now c.args.chain.now) in
    let few : r.signature.independents ≤ 4 = subst (λ x. x.signature.independents ≤ 4) c.ranking.ensures c.signature.ensures.ranking.few_independents in
    let four = belong_four r ls (leaders_stand c.args.book.now c.opened.ensures c.args.chain.now c.requires.stands) in
    let listed = ap₂ (λ ks s. filter (is_unled ks) (derivatives_to s c.args.order)) (c.as_slice.ensures.value ∙ c.in_ok-leaders.ensures) c.ranking-2.ensures in
    IfOk-weaker c.unled_to.result _ (λ ws. All (IsParametricTo r ls c.args.order) ws.items) (λ ws is. subst (All (IsParametricTo r ls c.args.order)) (sym (is ∙ listed)) (chosen_parametric r few c.args.order ls four)) c.unled_to.ensures

pub returns-clause-all : goal.returns-clause-all
returns-clause-all c =
    let r = c.args.book.now.ranking in
    let ls = leaders_in r (state_in c.args.book.now c.args.chain.now) in
    let few : r.signature.independents ≤ 4 = subst (λ x. x.signature.independents ≤ 4) c.ranking.ensures c.signature.ensures.ranking.few_independents in
    let four = belong_four r ls (leaders_stand c.args.book.now c.opened.ensures c.args.chain.now c.requires.stands) in
    let listed = ap₂ (λ ks s. filter (is_unled ks) (derivatives_to s c.args.order)) (c.as_slice.ensures.value ∙ c.in_ok-leaders.ensures) c.ranking-2.ensures in
    IfOk-weaker c.unled_to.result _ (λ ws. (w : Symbol) → IsParametricTo r ls c.args.order w → Contains ws.items w) (λ ws is. λ w p. subst (λ xs. Contains xs w) (sym (is ∙ listed)) (all_chosen r few c.args.order ls four w p)) c.unled_to.ensures

pub returns-clause-listed : goal.returns-clause-listed
returns-clause-listed c =
    let r = c.args.book.now.ranking in
    let ls = leaders_in r (state_in c.args.book.now c.args.chain.now) in
    let listed = ap₂ (λ ks s. filter (is_unled ks) (derivatives_to s c.args.order)) (c.as_slice.ensures.value ∙ c.in_ok-leaders.ensures) c.ranking-2.ensures in
    IfOk-weaker c.unled_to.result _ (λ ws. ws.items ≡ parametric_to r (state_in c.args.book.now c.args.chain.now) c.args.order) (λ ws is. is ∙ listed) c.unled_to.ensures
