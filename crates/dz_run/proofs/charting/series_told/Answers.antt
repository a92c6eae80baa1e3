use Rattle.std.proofs.Common.{◌≡◌, ◌++◌}
use Rattle.dz_diff.specs.States.{state_in}
use Rattle.dz_series.specs.SeriesEnds.{ending_of}
use Rattle.dz_series.specs.SeriesReports.{series_report}
use Rattle.dz_move.proofs.MemberLists.{if_ok}
use Rattle.dz_run.specs.Answer.{answer_of, continued, printed}
use Rattle.dz_run.specs.Charted.{chart_answer, report_answer}
use Rattle.dz_run.specs.declared.charting.Chart.TheVariants.{Series}
use Rattle.dz_run.specs.declared.ending.Ending.TheVariants.{Done}
use Rattle.dz_run.proofs.charting.series_told.Goals as goal

pub returns : goal.returns
returns c =
    let book = c.args.book.now in
    let q = c.args.request in
    let document = c.args.document.items in
    let report = series_report book.ranking c.args.names.now q.chain (state_in book c.args.chain.now) c.args.values.now q.order in
    if_ok (λ told. c.write_series_report.new.into.items ≡ document ++ report.printed → ending_of c.in_ok-end.end ≡ report.ending → answer_of told ≡ continued (printed document Done) (report_answer report))
    (λ told. answer_of told ≡ continued (printed document Done) (chart_answer Series book.ranking c.args.names.now q.chain c.args.values.now q.order (state_in book c.args.chain.now)))
    c.end_told.result
    (λ told e. e c.in_ok-end.ensures.printed c.in_ok-end.ensures.ending)
    (c.end_told.ensures document report)
