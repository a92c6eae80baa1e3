use Rattle.std.proofs.Common.{◌≤◌, refl, subst, arith}
use Rattle.dz_rank.specs.Rankings.{RankingValue}
use Rattle.dz_diff.specs.States.{state_in}
use Rattle.dz_engine.proofs.NamedLines.{state_over}
use Rattle.dz_engine.proofs.Turns.{after_facts, turned, weight_low}
use Rattle.dz_engine.proofs.decomposing.turn.Goals as goal

pub push_states-requires-clause-facts : goal.push_states-requires-clause-facts
push_states-requires-clause-facts c =
    let book = c.args.book.now in
    let few : book.ranking.signature.independents ≤ 4 = subst (λ (r : RankingValue). r.signature.independents ≤ 4) c.ranking.ensures c.signature.ensures.ranking.few_independents in
    after_facts book few c.args.budget c.args.progress.now (state_in book c.args.state.now) (state_over book c.opened.ensures c.args.state.now c.requires.stands c.requires.facts) c.requires.within c.work.new.book c.in_ok-worked.ensures.kept c.in_ok-worked.worked c.in_ok-worked.ensures.done

pub overflow_add-progress : goal.overflow_add-progress
overflow_add-progress c =
    let book = c.args.book.now in
    let few : book.ranking.signature.independents ≤ 4 = subst (λ (r : RankingValue). r.signature.independents ≤ 4) c.ranking.ensures c.signature.ensures.ranking.few_independents in
    let low = weight_low book few c.args.budget c.args.progress.now (state_in book c.args.state.now) (state_over book c.opened.ensures c.args.state.now c.requires.stands c.requires.facts) c.requires.within c.work.new.book c.in_ok-worked.ensures.kept c.in_ok-worked.worked c.in_ok-worked.ensures.done in
    omega (arith, low, c.requires.most)

pub returns-clause-turn : goal.returns-clause-turn
returns-clause-turn c =
    let book = c.args.book.now in
    let few : book.ranking.signature.independents ≤ 4 = subst (λ (r : RankingValue). r.signature.independents ≤ 4) c.ranking.ensures c.signature.ensures.ranking.few_independents in
    turned book few c.args.budget c.args.progress.now (state_in book c.args.state.now) (state_over book c.opened.ensures c.args.state.now c.requires.stands c.requires.facts) c.requires.within c.work.new.book c.in_ok-worked.ensures.kept c.in_ok-worked.worked c.in_ok-worked.ensures.done
    _ refl c.in_ok-append.ensures.items c.in_ok-push_states.ensures.pushed
