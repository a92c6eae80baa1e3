use Rattle.dz_ask.specs.Attempts.{prepared_in}
use Rattle.dz_report.specs.Preparations.{prepared_lines}
use Rattle.dz_report.proofs.PreparedReports.{attempt_reported}
use Rattle.dz_report.proofs.Reported.{reported_lines}
use Rattle.dz_report.proofs.preparing.push_partial.Goals as goal

pub returns : goal.returns
returns c = λ g s course is.
    attempt_reported g s c.args.names.now c.args.book.now course c.args.attempt.now c.args.into.now.items c.push_identity.new.into.items c.push_stop.new.into.items c.in_ok-end.end
    (reported_lines c.args.into.now.items c.push_identity.new.into.items (prepared_lines c.args.names.now (prepared_in c.args.book.now c.args.attempt.now.partial)) c.in_ok-push_identity.ensures)
    c.in_ok-end.ensures.named c.in_ok-end.ensures.reported is
