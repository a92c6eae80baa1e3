use Rattle.std.proofs.Common.{◌+◌, ◌∙◌, ℕ, [], ◌∷◌, map, refl, sym, subst}
use Rattle.std.specs.Prelude.{codes}
use Rattle.std.proofs.lemmas.Bool.{MatchBool-at_true, MatchBool-at_false}
use Rattle.std.proofs.lemmas.Option.{slice_get_read}
use Rattle.dz_poly.specs.Books.{BookValue, polynomial}
use Rattle.dz_diff.specs.Operations.{setting_of}
use Rattle.dz_diff.specs.State.{State}
use Rattle.dz_diff.specs.States.{StandsIn, state_in}
use Rattle.dz_step.specs.FullRun.{full_run}
use Rattle.dz_step.specs.declared.Role.TheVariants.{Free}
use Rattle.dz_cert.specs.Documents.{numbered}
use Rattle.dz_report.specs.Reductions.{all_run_to_zero, run_report, runs_to_zero}
use Rattle.dz_report.specs.Reports.{Report, ◌then◌, by_chains, told}
use Rattle.dz_report.specs.Writing.{IsReduced, IsReported}
use Rattle.dz_report.specs.declared.ending.ReportEnd.{ReportEnd}
use Rattle.dz_report.proofs.Reported.{goes_on_end, goes_on_more, goes_on_stop}
use Rattle.dz_report.proofs.RunReports.{no_more, stop_reduced, zero_more}
use Rattle.dz_report.proofs.reducing.push_runs.Goals as goal

pub push_numbered_run-requires-clause-chain : goal.push_numbered_run-requires-clause-chain
push_numbered_run-requires-clause-chain c =
    subst (λ b. StandsIn b c.index-chains-k.result) (sym c.chains.invariant.same)
    (subst (StandsIn c.args.book.now) (sym c.index-chains-k.is) (c.requires.asked.0 c.chains.k c.index-chains-k.result c.chains-test.true))

pub returns-then-stops-clause-reduced : goal.returns-then-stops-clause-reduced
returns-then-stops-clause-reduced c =
    let report : BookValue → ℕ → State → Report = λ book k s. told (numbered (codes "chain") k ∷ []) then run_report c.args.asked.now.names.now (full_run (setting_of book.ranking) s Free c.args.asked.now.budget (polynomial book c.args.f)) in
    let book = c.args.book.now in
    let chain = c.index-chains-k.result in
    let here = slice_get_read c.args.asked.now.chains.now _ c.chains.k chain refl c.chains-test.true c.index-chains-k.is in
    let is = subst (λ (b : BookValue). IsReduced c.chains.into.items c.push_numbered_run.new.into.items c.in_ok-run.run' (report b (c.chains.k + 1) (state_in b chain)) (runs_to_zero (setting_of b.ranking) c.args.asked.now.budget (polynomial b c.args.f) (state_in b chain)))
    c.chains.invariant.same c.in_ok-run.ensures.reduced in
    let stops = MatchBool-at_true _ _ c.if-stops.true c.stops.ensures in
    let all = map (λ s. state_in book s) c.args.asked.now.chains.now in
    stop_reduced c.args.into.now.items c.push_numbered_run.new.into.items c.in_ok-run.run'.end c.in_ok-run.run'.zero (all_run_to_zero (setting_of book.ranking) c.args.asked.now.budget (polynomial book c.args.f) all)
    (by_chains (λ s. run_report c.args.asked.now.names.now (full_run (setting_of book.ranking) s Free c.args.asked.now.budget (polynomial book c.args.f))) all)
    (goes_on_stop (report book) (λ s. state_in book s) c.args.asked.now.chains.now c.chains.k chain c.args.into.now.items c.chains.into.items c.push_numbered_run.new.into.items c.in_ok-run.run'.end here is.reported stops c.chains.invariant.goes_on) stops

pub chains-preserved : goal.chains-preserved
chains-preserved c =
    let report : BookValue → ℕ → State → Report = λ book k s. told (numbered (codes "chain") k ∷ []) then run_report c.args.asked.now.names.now (full_run (setting_of book.ranking) s Free c.args.asked.now.budget (polynomial book c.args.f)) in
    let book = c.args.book.now in
    let chain = c.index-chains-k.result in
    let here = slice_get_read c.args.asked.now.chains.now _ c.chains.k chain refl c.chains-test.true c.index-chains-k.is in
    let is = subst (λ (b : BookValue). IsReduced c.chains.into.items c.push_numbered_run.new.into.items c.in_ok-run.run' (report b (c.chains.k + 1) (state_in b chain)) (runs_to_zero (setting_of b.ranking) c.args.asked.now.budget (polynomial b c.args.f) (state_in b chain)))
    c.chains.invariant.same c.in_ok-run.ensures.reduced in
    let done = MatchBool-at_false _ _ c.if-stops.false c.stops.ensures in
    record {
      same = c.in_ok-run.ensures.book ∙ c.chains.invariant.same;
      goes_on = goes_on_more (report book) (λ s. state_in book s) c.args.asked.now.chains.now c.chains.k chain c.args.into.now.items c.chains.into.items c.push_numbered_run.new.into.items here
          (subst (λ (end : ReportEnd). IsReported c.chains.into.items c.push_numbered_run.new.into.items end (report book (c.chains.k + 1) (state_in book chain))) done is.reported) c.chains.invariant.goes_on;
      zero = zero_more (runs_to_zero (setting_of book.ranking) c.args.asked.now.budget (polynomial book c.args.f)) (λ s. state_in book s) c.args.asked.now.chains.now c.chains.k chain c.chains.zero c.in_ok-run.run'.zero _ here (is.zero done) c.chains.invariant.zero;
    }

pub returns-clause-reduced : goal.returns-clause-reduced
returns-clause-reduced c =
    let report : BookValue → ℕ → State → Report = λ book k s. told (numbered (codes "chain") k ∷ []) then run_report c.args.asked.now.names.now (full_run (setting_of book.ranking) s Free c.args.asked.now.budget (polynomial book c.args.f)) in
    let book = c.args.book.now in
    record {
      reported = goes_on_end (report book) (λ s. state_in book s) c.args.asked.now.chains.now c.chains.k c.args.into.now.items c.chains.into.items c.chains-test.false c.chains.invariant.goes_on;
      zero = λ e. no_more (runs_to_zero (setting_of book.ranking) c.args.asked.now.budget (polynomial book c.args.f)) (λ s. state_in book s) c.args.asked.now.chains.now c.chains.k c.chains.zero _ c.chains-test.false c.chains.invariant.zero;
    }
