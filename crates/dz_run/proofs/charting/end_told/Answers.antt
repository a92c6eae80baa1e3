use Rattle.std.proofs.Common.{◌≡◌, ◌∙◌, ◌++◌, ap, sym, List, ℕ}
use Rattle.dz_series.specs.SeriesEnds.{ending_of}
use Rattle.dz_series.specs.SeriesReports.{refused}
use Rattle.dz_move.proofs.MemberLists.{if_ok}
use Rattle.dz_run.specs.Answer.{answer_of, continued, point_text, printed}
use Rattle.dz_run.specs.Charted.{report_answer}
use Rattle.dz_run.specs.declared.ending.Ending.TheVariants.{Done, Point}
use Rattle.dz_run.proofs.ChartAnswers.{refused_is}
use Rattle.dz_run.proofs.charting.end_told.Goals as goal

pub returns-in-Refused : goal.returns-in-Refused
returns-in-Refused c = λ document report.
    if_ok (λ told. answer_of told ≡ record { output = c.args.text.items; ending = Point; point = point_text c.deref.result.now })
    (λ told. c.args.text.items ≡ document ++ report.printed → ending_of c.args.end ≡ report.ending → answer_of told ≡ continued (printed document Done) (report_answer report)) c.point_told.result
    (λ told e text end. e ∙ refused_is document c.args.text.items c.deref.result.now report text (ap (λ (words : List ℕ). refused words) c.deref.ensures.value ∙ ap ending_of (sym c.in-Refused.is) ∙ end))
    c.point_told.ensures
