use Rattle.std.proofs.Common.{◌≡◌, ◌≤◌, subst}
use Rattle.dz_rank.specs.Rankings.{RankingValue}
use Rattle.dz_move.specs.TreeLines.{action_of}
use Rattle.dz_move.proofs.ReachedStates.{drafts_facts}
use Rattle.dz_move.proofs.performing.performed_next.Goals as goal

pub settled-requires-clause-facts : goal.settled-requires-clause-facts
settled-requires-clause-facts c =
    let book = c.args.book.now in
    let ranked : c.ranking.result.now ≡ book.ranking = c.ranking.ensures in
    let few : book.ranking.signature.independents ≤ 4 = subst (λ (r : RankingValue). r.signature.independents ≤ 4) ranked c.signature.ensures.ranking.few_independents in
    drafts_facts book c.drafted_next.new.book c.in_ok-drafted.ensures.kept few c.opened.ensures c.args.state.now c.requires.stands c.requires.facts (action_of c.args.next.now) c.in_ok-drafted.drafted c.in_ok-drafted.ensures.ok
