use Rattle.std.proofs.Common.{◌≡◌, ◌∙◌, ap, sym}
use Rattle.dz_rank.specs.Rankings.{RankingValue}
use Rattle.dz_move.specs.Systems.{system_in}
use Rattle.dz_run.specs.Asked.{report_ending}
use Rattle.dz_run.specs.declared.ending.Ending.TheVariants.{Done}
use Rattle.dz_run.proofs.AskedAnswers.{questions_are}
use Rattle.dz_run.proofs.asking.questions_told.Goals.{in-Done, in_default}
use Rattle.dz_run.proofs.asking.questions_told.Goals as goal

pub returns : goal.returns
returns c =
    let done : c.in_ok-worked.worked.ending ≡ Done = elim c.match-matches.branch [ in-Done w ↦ w.in-Done.is | in_default w ↦ absurd (let a = w.matches-is in let b = c.if-not-matches.false in cc) ] in
    c.printed-2.ensures ∙ questions_are c.args.book.now c.worked_system.new.book c.in_ok-worked.ensures.kept c.args.what c.args.names.now c.args.budget (system_in c.args.book.now c.args.system.now)
    c.args.questions.now c.requires.questions c.in_ok-worked.worked.document.items c.in_ok-worked.worked.ending c.in_ok-worked.ensures.answer done
    c.deref.result.now (rw c.deref.ensures.value c.in_ok-worked.ensures.chains)
    c.write_report.new.into.items c.in_ok-end.ensures.written c.report_ending.result (c.report_ending.ensures ∙ ap report_ending c.in_ok-end.ensures.ending)

pub write_report-requires-clause-asked : goal.write_report-requires-clause-asked
write_report-requires-clause-asked c =
    (rw c.deref.ensures.value c.in_ok-worked.ensures.stand, c.requires.signature ∙ ap (λ (r : RankingValue). r.signature) (sym c.in_ok-worked.ensures.kept.ranking))
