use Rattle.std.proofs.Common.{◌≤◌, subst}
use Rattle.dz_rank.specs.Rankings.{RankingValue}
use Rattle.dz_poly.specs.Books.{polynomial}
use Rattle.dz_diff.specs.States.{state_in}
use Rattle.dz_ask.proofs.HeldOperators.{answer_derives, answer_stops}
use Rattle.dz_ask.proofs.HeldPreparations.{answer_holds, answer_partial, book_over, list_over}
use Rattle.dz_ask.proofs.preparing.prepare.Goals as goal

pub returns-in-Ok-clause-holds : goal.returns-in-Ok-clause-holds
returns-in-Ok-clause-holds c =
    let book = c.args.book.now in
    answer_holds book.ranking (state_in book c.args.chain.now) (polynomial book c.args.f) (list_over book c.args.chain.now.equations c.opened.ensures c.requires.stands.equations_live) (book_over book c.args.f c.opened.ensures c.requires.f) c.args.budget c.prepared.new.book c.in-Ok.answer c.in-Ok.ensures.answer

pub returns-in-Ok-clause-partial : goal.returns-in-Ok-clause-partial
returns-in-Ok-clause-partial c =
    let book = c.args.book.now in
    answer_partial book.ranking (state_in book c.args.chain.now) (polynomial book c.args.f) (list_over book c.args.chain.now.equations c.opened.ensures c.requires.stands.equations_live) (book_over book c.args.f c.opened.ensures c.requires.f) c.args.budget c.prepared.new.book c.in-Ok.answer c.in-Ok.ensures.answer

pub returns-in-Ok-clause-derives : goal.returns-in-Ok-clause-derives
returns-in-Ok-clause-derives c =
    let book = c.args.book.now in
    let few : book.ranking.signature.independents ≤ 4 = subst (λ (r : RankingValue). r.signature.independents ≤ 4) c.ranking.ensures c.signature.ensures.ranking.few_independents in
    answer_derives book.ranking few (state_in book c.args.chain.now) (polynomial book c.args.f) (list_over book c.args.chain.now.equations c.opened.ensures c.requires.stands.equations_live) (book_over book c.args.f c.opened.ensures c.requires.f) c.args.budget c.prepared.new.book c.in-Ok.answer c.in-Ok.ensures.answer

pub returns-in-Ok-clause-attempt : goal.returns-in-Ok-clause-attempt
returns-in-Ok-clause-attempt c =
    let book = c.args.book.now in
    let few : book.ranking.signature.independents ≤ 4 = subst (λ (r : RankingValue). r.signature.independents ≤ 4) c.ranking.ensures c.signature.ensures.ranking.few_independents in
    answer_stops book.ranking few (state_in book c.args.chain.now) (polynomial book c.args.f) (list_over book c.args.chain.now.equations c.opened.ensures c.requires.stands.equations_live) (book_over book c.args.f c.opened.ensures c.requires.f) c.args.budget c.prepared.new.book c.in-Ok.answer c.in-Ok.ensures.answer
