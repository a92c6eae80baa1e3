use Rattle.std.proofs.Common.{◌≤◌, subst}
use Rattle.std.proofs.lemmas.Result.{err_from_is_err_and}
use Rattle.dz_rank.specs.Rankings.{RankingValue}
use Rattle.dz_poly.specs.Books.{polynomial}
use Rattle.dz_diff.specs.Operations.{setting_of}
use Rattle.dz_diff.specs.States.{state_in}
use Rattle.dz_step.specs.declared.Role.TheVariants.{Free}
use Rattle.dz_step.proofs.CourseSteps.{attempt_derives, ended_derives}
use Rattle.dz_ask.proofs.HeldPreparations.{book_over, list_over}
use Rattle.dz_ask.proofs.NormalEnds.{ended_normal}
use Rattle.dz_ask.proofs.normal.normal_form.Goals as goal

pub returns-in_err-run-clause-attempt : goal.returns-in_err-run-clause-attempt
returns-in_err-run-clause-attempt c =
    let book = c.args.book.now in
    let few : book.ranking.signature.independents ≤ 4 = subst (λ (r : RankingValue). r.signature.independents ≤ 4) c.ranking.ensures c.signature.ensures.ranking.few_independents in
    let y = err_from_is_err_and c.from_residual.result c.from_residual.ensures.1 in
    rw (y.1, y.2)
    (attempt_derives book.ranking few (state_in book c.args.chain.now) Free c.args.budget (polynomial book c.args.f) (list_over book c.args.chain.now.equations c.opened.ensures c.requires.stands.equations_live) (book_over book c.args.f c.opened.ensures c.requires.f) _ c.in_err-run.ensures.stopped)

pub returns-clause-derives : goal.returns-clause-derives
returns-clause-derives c =
    let book = c.args.book.now in
    let few : book.ranking.signature.independents ≤ 4 = subst (λ (r : RankingValue). r.signature.independents ≤ 4) c.ranking.ensures c.signature.ensures.ranking.few_independents in
    ended_derives book.ranking few (state_in book c.args.chain.now) Free c.args.budget (polynomial book c.args.f) (list_over book c.args.chain.now.equations c.opened.ensures c.requires.stands.equations_live) (book_over book c.args.f c.opened.ensures c.requires.f) _ _ c.in_ok-run.ensures.ended

pub returns-clause-normal : goal.returns-clause-normal
returns-clause-normal c =
    let book = c.args.book.now in
    ended_normal (setting_of book.ranking) (state_in book c.args.chain.now) c.args.budget (polynomial book c.args.f) _ _ c.in_ok-run.ensures.ended
