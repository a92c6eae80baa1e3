use Rattle.std.proofs.Common.{◌+◌, ◌∙◌, ℕ, [], ◌∷◌, refl, sym, subst}
use Rattle.std.specs.Prelude.{codes}
use Rattle.std.proofs.lemmas.Bool.{MatchBool-at_true, MatchBool-at_false}
use Rattle.std.proofs.lemmas.Option.{slice_get_read}
use Rattle.dz_poly.specs.Books.{BookValue, polynomial}
use Rattle.dz_diff.specs.Operations.{setting_of}
use Rattle.dz_diff.specs.State.{State}
use Rattle.dz_diff.specs.States.{StandsIn, state_in}
use Rattle.dz_ask.specs.Turns.{preparation}
use Rattle.dz_cert.specs.Documents.{numbered}
use Rattle.dz_report.specs.Preparations.{prepared_report, turns_report}
use Rattle.dz_report.specs.Reports.{Report, ◌then◌, told}
use Rattle.dz_report.specs.Writing.{IsReported}
use Rattle.dz_report.specs.declared.ending.ReportEnd.{ReportEnd}
use Rattle.dz_report.proofs.Reported.{goes_on_end, goes_on_more, goes_on_stop}
use Rattle.dz_report.proofs.preparing.push_preparation.Goals as goal

pub push_preparation_by-requires-clause-chain : goal.push_preparation_by-requires-clause-chain
push_preparation_by-requires-clause-chain c =
    subst (λ b. StandsIn b c.index-chains-k.result) (sym c.chains.invariant.same)
    (subst (StandsIn c.args.book.now) (sym c.index-chains-k.is) (c.requires.asked.0 c.chains.k c.index-chains-k.result c.chains-test.true))

pub returns-then-stops-clause-reported : goal.returns-then-stops-clause-reported
unfolding prepared_report
returns-then-stops-clause-reported c =
    let report : BookValue → ℕ → State → Report = λ book k s. told (numbered (codes "chain") k ∷ []) then turns_report (setting_of book.ranking) s c.args.asked.now.names.now (preparation (setting_of book.ranking) s c.args.asked.now.budget (polynomial book c.args.f)) in
    let book = c.args.book.now in
    let chain = c.index-chains-k.result in
    let here = slice_get_read c.args.asked.now.chains.now _ c.chains.k chain refl c.chains-test.true c.index-chains-k.is in
    let is = subst (λ (b : BookValue). IsReported c.chains.into.items c.push_preparation_by.new.into.items c.in_ok-end.end (report b (c.chains.k + 1) (state_in b chain))) c.chains.invariant.same c.in_ok-end.ensures.reported in
    let stops = MatchBool-at_true _ _ c.if-stops.true c.stops.ensures in
    goes_on_stop (report book) (λ s. state_in book s) c.args.asked.now.chains.now c.chains.k chain c.args.into.now.items c.chains.into.items c.push_preparation_by.new.into.items c.in_ok-end.end here is stops c.chains.invariant.goes_on

pub chains-preserved : goal.chains-preserved
chains-preserved c =
    let report : BookValue → ℕ → State → Report = λ book k s. told (numbered (codes "chain") k ∷ []) then turns_report (setting_of book.ranking) s c.args.asked.now.names.now (preparation (setting_of book.ranking) s c.args.asked.now.budget (polynomial book c.args.f)) in
    let book = c.args.book.now in
    let chain = c.index-chains-k.result in
    let here = slice_get_read c.args.asked.now.chains.now _ c.chains.k chain refl c.chains-test.true c.index-chains-k.is in
    let is = subst (λ (b : BookValue). IsReported c.chains.into.items c.push_preparation_by.new.into.items c.in_ok-end.end (report b (c.chains.k + 1) (state_in b chain))) c.chains.invariant.same c.in_ok-end.ensures.reported in
    let done = MatchBool-at_false _ _ c.if-stops.false c.stops.ensures in
    record {
      same = c.in_ok-end.ensures.book ∙ c.chains.invariant.same;
      goes_on = goes_on_more (report book) (λ s. state_in book s) c.args.asked.now.chains.now c.chains.k chain c.args.into.now.items c.chains.into.items c.push_preparation_by.new.into.items here
          (subst (λ (end : ReportEnd). IsReported c.chains.into.items c.push_preparation_by.new.into.items end (report book (c.chains.k + 1) (state_in book chain))) done is) c.chains.invariant.goes_on;
    }

pub returns-clause-reported : goal.returns-clause-reported
unfolding prepared_report
returns-clause-reported c =
    let book = c.args.book.now in
    let report : ℕ → State → Report = λ k s. told (numbered (codes "chain") k ∷ []) then turns_report (setting_of book.ranking) s c.args.asked.now.names.now (preparation (setting_of book.ranking) s c.args.asked.now.budget (polynomial book c.args.f)) in
    goes_on_end report (λ s. state_in book s) c.args.asked.now.chains.now c.chains.k c.args.into.now.items c.chains.into.items c.chains-test.false c.chains.invariant.goes_on
