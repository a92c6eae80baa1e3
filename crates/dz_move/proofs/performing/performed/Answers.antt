use Rattle.std.proofs.Common.{◌≡◌, ◌≤◌, subst}
use Rattle.dz_rank.specs.Rankings.{RankingValue}
use Rattle.dz_move.specs.TreeLines.{line_of}
use Rattle.dz_move.proofs.ReachedStates.{acts, drafts_facts}
use Rattle.dz_move.proofs.performing.performed.Goals as goal

pub settled-requires-clause-stand : goal.settled-requires-clause-stand
settled-requires-clause-stand c =
    let a = acts (line_of c.args.line.now) c.requires.act in
    (c.in_ok-drafted.ensures.ok a.0 a.1).stand

pub settled-requires-clause-facts : goal.settled-requires-clause-facts
settled-requires-clause-facts c =
    let book = c.args.book.now in
    let a = acts (line_of c.args.line.now) c.requires.act in
    let ranked : c.ranking.result.now ≡ book.ranking = c.ranking.ensures in
    let few : book.ranking.signature.independents ≤ 4 = subst (λ (r : RankingValue). r.signature.independents ≤ 4) ranked c.signature.ensures.ranking.few_independents in
    drafts_facts book c.drafted.new.book c.in_ok-drafted.ensures.kept few c.opened.ensures c.args.state.now c.requires.stands c.requires.facts a.0 c.in_ok-drafted.drafted (c.in_ok-drafted.ensures.ok a.0 a.1)
