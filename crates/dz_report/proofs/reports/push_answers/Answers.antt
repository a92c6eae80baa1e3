use Rattle.std.proofs.Common.{◌+◌, ◌∙◌, ℕ, [], ◌∷◌, map, refl, sym, subst}
use Rattle.std.proofs.lemmas.Bool.{MatchBool-at_true, MatchBool-at_false}
use Rattle.std.proofs.lemmas.Option.{slice_get_read}
use Rattle.dz_algebra.specs.Polynomial.{Polynomial}
use Rattle.dz_rank.specs.declared.symbols.Symbol.{Symbol}
use Rattle.dz_poly.specs.Books.{BookValue, polynomial}
use Rattle.dz_diff.specs.Operations.{setting_of}
use Rattle.dz_diff.specs.States.{state_in}
use Rattle.dz_report.specs.Asked.{CanBeAsked, answer_report}
use Rattle.dz_report.specs.Reports.{Report, ◌then◌, question_line, told}
use Rattle.dz_report.specs.Writing.{IsReported}
use Rattle.dz_report.specs.declared.ending.ReportEnd.{ReportEnd}
use Rattle.dz_report.proofs.Reported.{goes_on_end, goes_on_more, goes_on_stop}
use Rattle.dz_report.proofs.reports.push_answers.Goals as goal

pub push_numbered_answer-requires-clause-asked : goal.push_numbered_answer-requires-clause-asked
push_numbered_answer-requires-clause-asked c = subst (λ b. CanBeAsked b c.args.asked.now.names.now c.args.asked.now.chains.now) (sym c.questions.invariant.same) c.requires.asked

pub returns-then-stops-clause-reported : goal.returns-then-stops-clause-reported
returns-then-stops-clause-reported c =
    let report : BookValue → ℕ → Polynomial Symbol → Report = λ book k f. told (question_line c.args.asked.now.names.now k f ∷ []) then answer_report c.args.what (setting_of book.ranking) c.args.asked.now.names.now c.args.asked.now.budget (map (λ s. state_in book s) c.args.asked.now.chains.now) f in
    let f = c.index-questions-k.result in
    let here = slice_get_read c.args.questions.now _ c.questions.k f refl c.questions-test.true c.index-questions-k.is in
    let is = subst (λ (b : BookValue). IsReported c.questions.into.items c.push_numbered_answer.new.into.items c.in_ok-end.end (report b (c.questions.k + 1) (polynomial b f))) c.questions.invariant.same c.in_ok-end.ensures.reported in
    let stops = MatchBool-at_true _ _ c.if-stops.true c.stops.ensures in
    goes_on_stop (report c.args.book.now) (λ p. polynomial c.args.book.now p) c.args.questions.now c.questions.k f c.args.into.now.items c.questions.into.items c.push_numbered_answer.new.into.items c.in_ok-end.end here is stops c.questions.invariant.goes_on

pub questions-preserved : goal.questions-preserved
questions-preserved c =
    let report : BookValue → ℕ → Polynomial Symbol → Report = λ book k f. told (question_line c.args.asked.now.names.now k f ∷ []) then answer_report c.args.what (setting_of book.ranking) c.args.asked.now.names.now c.args.asked.now.budget (map (λ s. state_in book s) c.args.asked.now.chains.now) f in
    let f = c.index-questions-k.result in
    let here = slice_get_read c.args.questions.now _ c.questions.k f refl c.questions-test.true c.index-questions-k.is in
    let done = MatchBool-at_false _ _ c.if-stops.false c.stops.ensures in
    let is = subst (λ (end : ReportEnd). IsReported c.questions.into.items c.push_numbered_answer.new.into.items end (report c.args.book.now (c.questions.k + 1) (polynomial c.args.book.now f))) done
    (subst (λ (b : BookValue). IsReported c.questions.into.items c.push_numbered_answer.new.into.items c.in_ok-end.end (report b (c.questions.k + 1) (polynomial b f))) c.questions.invariant.same c.in_ok-end.ensures.reported) in
    record {
      same = c.in_ok-end.ensures.book ∙ c.questions.invariant.same;
      goes_on = goes_on_more (report c.args.book.now) (λ p. polynomial c.args.book.now p) c.args.questions.now c.questions.k f c.args.into.now.items c.questions.into.items c.push_numbered_answer.new.into.items here is c.questions.invariant.goes_on;
    }

pub returns-clause-reported : goal.returns-clause-reported
returns-clause-reported c =
    let book = c.args.book.now in
    let report : ℕ → Polynomial Symbol → Report = λ k f. told (question_line c.args.asked.now.names.now k f ∷ []) then answer_report c.args.what (setting_of book.ranking) c.args.asked.now.names.now c.args.asked.now.budget (map (λ s. state_in book s) c.args.asked.now.chains.now) f in
    goes_on_end report (λ p. polynomial book p) c.args.questions.now c.questions.k c.args.into.now.items c.questions.into.items c.questions-test.false c.questions.invariant.goes_on
