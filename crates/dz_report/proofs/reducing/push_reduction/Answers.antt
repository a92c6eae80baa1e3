use Rattle.std.proofs.Common.{map}
use Rattle.std.proofs.lemmas.Bool.{MatchBool-at_true, MatchBool-at_false}
use Rattle.dz_poly.specs.Books.{polynomial}
use Rattle.dz_diff.specs.Operations.{setting_of}
use Rattle.dz_diff.specs.States.{state_in}
use Rattle.dz_step.specs.FullRun.{full_run}
use Rattle.dz_step.specs.declared.Role.TheVariants.{Free}
use Rattle.dz_report.specs.Reductions.{all_run_to_zero, question_report, run_report}
use Rattle.dz_report.specs.Reports.{by_chains}
use Rattle.dz_report.proofs.RunReports.{question_reported, question_stopped}
use Rattle.dz_report.proofs.reducing.push_reduction.Goals as goal

pub returns-then-stops-clause-reported : goal.returns-then-stops-clause-reported
unfolding question_report
returns-then-stops-clause-reported c =
    let book = c.args.book.now in
    let all = map (λ s. state_in book s) c.args.asked.now.chains.now in
    question_stopped c.args.into.now.items c.push_runs.new.into.items c.in_ok-runs.runs (by_chains (λ s. run_report c.args.asked.now.names.now (full_run (setting_of book.ranking) s Free c.args.asked.now.budget (polynomial book c.args.f))) all)
    (all_run_to_zero (setting_of book.ranking) c.args.asked.now.budget (polynomial book c.args.f) all) c.in_ok-runs.ensures.reduced (MatchBool-at_true _ _ c.if-stops.true c.stops.ensures)

pub returns-clause-reported : goal.returns-clause-reported
unfolding question_report
returns-clause-reported c =
    let book = c.args.book.now in
    let all = map (λ s. state_in book s) c.args.asked.now.chains.now in
    question_reported c.args.into.now.items c.push_runs.new.into.items c.push_vanishing.new.into.items c.in_ok-runs.runs (by_chains (λ s. run_report c.args.asked.now.names.now (full_run (setting_of book.ranking) s Free c.args.asked.now.budget (polynomial book c.args.f))) all)
    (all_run_to_zero (setting_of book.ranking) c.args.asked.now.budget (polynomial book c.args.f) all) c.in_ok-runs.ensures.reduced (MatchBool-at_false _ _ c.if-stops.false c.stops.ensures) c.in_ok-push_vanishing.ensures
