use Rattle.std.proofs.Common.{◌≡◌, ◌∙◌, ap}
use Rattle.dz_diff.specs.States.{polynomials}
use Rattle.dz_rank.specs.Rankings.{RankingValue}
use Rattle.dz_syntax.specs.Systems.{tree_of}
use Rattle.dz_move.proofs.MemberLists.{if_ok}
use Rattle.dz_move.specs.Root.{System}
use Rattle.dz_move.specs.Systems.{system_in}
use Rattle.dz_run.specs.Answer.{answer_of, with_questions}
use Rattle.dz_run.specs.Asked.{asked}
use Rattle.dz_run.specs.System.{questions_answer, ranking_of, system_answer}
use Rattle.dz_run.proofs.AskedAnswers.{asked_is, system_on, system_told}
use Rattle.dz_run.proofs.Lists.{all_given}
use Rattle.dz_run.proofs.asking.asked_told.Goals as goal

pub questions_told-requires-clause-system : goal.questions_told-requires-clause-system
questions_told-requires-clause-system c =
    let given = system_told c.system_of.new.book c.in-Ok.system (system_answer (tree_of c.args.text.now)) c.in-Ok.ensures.system in
    (system_on c.system_of.new.book c.questions_of.new.book c.in-Ok-questions_of.ensures.kept c.in-Ok.system given.0).0

pub returns-in-Ok-questions_of : goal.returns-in-Ok-questions_of
returns-in-Ok-questions_of c =
    let text = tree_of c.args.text.now in
    let first = c.system_of.new.book in
    let second = c.questions_of.new.book in
    let given = system_told first c.in-Ok.system (system_answer text) c.in-Ok.ensures.system in
    let on = system_on first second c.in-Ok-questions_of.ensures.kept c.in-Ok.system given.0 in
    let asked_are = all_given (λ ps. ps.items) second c.in-Ok-questions_of.questions (questions_answer text) c.in-Ok-questions_of.ensures.questions in
    let ranking : second.ranking ≡ ranking_of text = c.in-Ok-questions_of.ensures.kept.ranking ∙ c.in-Ok.ensures.kept.ranking ∙ c.requires.ranking in
    if_ok (λ told. answer_of told ≡ asked c.args.what second.ranking text.names c.args.budget (system_in second c.in-Ok.system) (polynomials second c.deref.result.now))
    (λ told. answer_of told ≡ with_questions text (asked c.args.what (ranking_of text) text.names c.args.budget)) c.questions_told.result
    (λ told e. e
    ∙ ap (λ (r : RankingValue). asked c.args.what r text.names c.args.budget (system_in second c.in-Ok.system) (polynomials second c.deref.result.now)) ranking
    ∙ ap (λ (s : System). asked c.args.what (ranking_of text) text.names c.args.budget s (polynomials second c.deref.result.now)) on.1
    ∙ asked_is c.args.what text c.args.budget (system_in first c.in-Ok.system) (polynomials second c.deref.result.now) given.1 (rw c.deref.ensures.value asked_are.1))
    c.questions_told.ensures
