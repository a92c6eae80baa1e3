use Rattle.std.proofs.Common.{◌++◌, ◌∙◌, [], ◌∷◌, map, ap, sym}
use Rattle.std.specs.Prelude.{codes}
use Rattle.dz_diff.specs.Operations.{setting_of}
use Rattle.dz_diff.specs.States.{polynomials, state_in}
use Rattle.dz_cert.specs.Documents.{ended_lines}
use Rattle.dz_cert.proofs.WrittenLines.{more_written}
use Rattle.dz_report.specs.Asked.{answer_report}
use Rattle.dz_report.specs.Reports.{Report, by_questions}
use Rattle.dz_report.proofs.AskedReports.{report_of_answers}
use Rattle.dz_report.proofs.reports.write_report.Goals as goal

pub returns-clause-written : goal.returns-clause-written
returns-clause-written c =
    let book = c.args.book.now in
    let names = c.args.asked.now.names.now in
    let chains = map (λ s. state_in book s) c.args.asked.now.chains.now in
    let questions = polynomials book c.args.questions.now in
    let all = by_questions names (answer_report c.args.what (setting_of book.ranking) names c.args.asked.now.budget chains) questions in
    more_written all.lines (codes "end" ∷ []) c.args.into.now.items c.push_answers.new.into.items c.extend_from_slice.new.self.items c.in_ok-end.ensures.reported.text c.in_ok-extend_from_slice.ensures.items
    ∙ ap (λ (r : Report). c.args.into.now.items ++ ended_lines r.lines) (sym (report_of_answers c.args.what (setting_of book.ranking) names c.args.asked.now.budget questions chains))

pub returns-clause-ending : goal.returns-clause-ending
returns-clause-ending c =
    let book = c.args.book.now in
    c.in_ok-end.ensures.reported.ending
    ∙ ap (λ (r : Report). r.ending) (sym (report_of_answers c.args.what (setting_of book.ranking) c.args.asked.now.names.now c.args.asked.now.budget (polynomials book c.args.questions.now) (map (λ s. state_in book s) c.args.asked.now.chains.now)))
