use Rattle.std.proofs.Common.{◌≡◌, ◌∙◌, IfOk, sym, ap, subst}
use Rattle.dz_diff.specs.States.{state_in}
use Rattle.dz_series.specs.Series.{series_answer}
use Rattle.dz_series.specs.SeriesEnds.{report_of}
use Rattle.dz_series.specs.SeriesReports.{SeriesReport, lines_report}
use Rattle.dz_series.proofs.ReportAnswers.{report_of_fault, report_of_jet, unless_memory}
use Rattle.dz_series.proofs.reporting.make_report.Goals as goal

pub returns-in-Ok-clause-report : goal.returns-in-Ok-clause-report
returns-in-Ok-clause-report c =
    let names = c.args.names.now in
    let jet = c.in-Ok.jet in
    subst (λ (x : SeriesReport). IfOk c.jet_report.result (λ r. report_of r ≡ x))
    (ap (λ g. lines_report names c.args.number jet.order (series_answer names g jet.values)) c.requires.signature
    ∙ sym (report_of_jet c.args.book.now.ranking names c.args.number (state_in c.args.book.now c.args.chain.now) c.args.values.now c.args.order c.jet.result jet c.in-Ok.is c.jet.ensures.not_orderly c.in-Ok.ensures.values c.in-Ok.ensures.order))
    c.jet_report.ensures

pub returns-in-Err-clause-report : goal.returns-in-Err-clause-report
returns-in-Err-clause-report c =
    unless_memory c.fault_report.result report_of c.in-Err.fault _ _ c.fault_report.ensures.report c.fault_report.ensures.memory
    (λ told. sym (report_of_fault c.args.book.now.ranking c.args.names.now c.args.number (state_in c.args.book.now c.args.chain.now) c.args.values.now c.args.order c.jet.result c.in-Err.fault c.in-Err.is told c.jet.ensures.not_orderly c.in-Err.ensures.fault))
