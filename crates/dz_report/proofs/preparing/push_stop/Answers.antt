use Rattle.std.proofs.Common.{◌++◌, ◌∙◌, [], ◌∷◌, List, map, ap, subst}
use Rattle.std.specs.Prelude.{codes}
use Rattle.dz_ask.specs.Attempts.{power_in}
use Rattle.dz_ask.specs.declared.preparing.Power.{Power}
use Rattle.dz_step.specs.declared.Step.{Step}
use Rattle.dz_cert.specs.LineTexts.{behind_blanks, step_text}
use Rattle.dz_report.specs.Preparations.{product_words}
use Rattle.dz_report.specs.Writing.{IsReported, stop_report}
use Rattle.dz_report.proofs.PreparedReports.{one_step, place_written}
use Rattle.dz_report.proofs.Reported.{stop_reported}
use Rattle.dz_report.proofs.preparing.push_stop.Goals as goal

pub returns-clause-reported : goal.returns-clause-reported
returns-clause-reported c = λ st named.
    let names = c.args.names.now in
    let a = c.args.attempt.now in
    let ws = product_words names (map power_in a.product.items) in
    let own = c.in_ok-stopped.stopped.step in
    let placed = place_written ws (step_text names own) c.write_why.new.into.items c.push_product.new.into.items c.extend_from_slice.new.self.items c.write_step.new.into.items
    (c.in_ok-push_product.ensures ∙ ap (λ (ps : List Power). c.write_why.new.into.items ++ behind_blanks (product_words names (map power_in ps))) c.deref.ensures.value)
    c.in_ok-extend_from_slice.ensures.items c.in_ok-write_step.ensures in
    subst (λ (s : Step). IsReported c.args.into.now.items c.extend_from_slice-2.new.self.items c.in_ok-stopped.stopped.end (stop_report a.stop (ws ++ codes "by" ∷ step_text names s ∷ [])))
    (one_step a.stop own st c.in_ok-stopped.ensures.step named)
    (stop_reported a.stop (ws ++ codes "by" ∷ step_text names own ∷ []) c.args.into.now.items c.write_why.new.into.items c.write_step.new.into.items c.extend_from_slice-2.new.self.items c.in_ok-stopped.stopped.end
    c.in_ok-stopped.ensures.text placed c.in_ok-extend_from_slice-2.ensures.items c.in_ok-stopped.ensures.end)
