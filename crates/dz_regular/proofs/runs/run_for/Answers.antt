use Rattle.std.proofs.Common.{◌≡◌, ◌+◌, ◌∙◌, length, refl, sym, ap}
use Rattle.std.proofs.lemmas.List.{length-map}
use Rattle.dz_poly.specs.Books.{polynomial}
use Rattle.dz_monomials.specs.Ranked.{symbols_under}
use Rattle.dz_diff.specs.States.{polynomials}
use Rattle.dz_regular.specs.Rows.{inequation_row}
use Rattle.dz_regular.specs.Runs.{ended, at_work, in_hand, regularity_run}
use Rattle.dz_regular.specs.Working.{pair_in, row_in, stage_in}
use Rattle.dz_regular.specs.declared.runs.WorkingRun.{WorkingRun}
use Rattle.dz_regular.proofs.RunSteps.{begins}
use Rattle.dz_regular.proofs.runs.run_for.Goals as goal

pub returns-in-Ended-clause-outcome : goal.returns-in-Ended-clause-outcome
returns-in-Ended-clause-outcome c =
    let book = c.args.book.now in
    let g = symbols_under book.ranking in
    let es = polynomials book c.args.equations.now in
    let h = polynomial book c.args.h in
    let w : WorkingRun = record { run = c.new.result; next = length c.args.equations.now + 1; left = c.args.budget } in
    let next : length c.args.equations.now + 1 ≡ length es + 1 = ap (λ n. n + 1) (sym (length-map c.args.equations.now _)) in
    let stage : ended (row_in c.in-Ended.row) ≡ in_hand g es (record { number = 0; components = inequation_row es h }) = ap stage_in (sym c.in-Ended.is) ∙ c.in_ok-row-2.ensures.stage ∙ ap (in_hand g es) c.in_ok-row.ensures.row in
    (begins book.ranking es c.args.budget h w (ended (row_in c.in-Ended.row)) refl next c.new.ensures.items stage).3

pub returns-in-AtWork-clause-outcome : goal.returns-in-AtWork-clause-outcome
returns-in-AtWork-clause-outcome c =
    let book = c.args.book.now in
    let g = symbols_under book.ranking in
    let es = polynomials book c.args.equations.now in
    let h = polynomial book c.args.h in
    let w : WorkingRun = record { run = c.new.result; next = length c.args.equations.now + 1; left = c.args.budget } in
    let next : length c.args.equations.now + 1 ≡ length es + 1 = ap (λ n. n + 1) (sym (length-map c.args.equations.now _)) in
    let stage : at_work (pair_in c.in-AtWork.pair) ≡ in_hand g es (record { number = 0; components = inequation_row es h }) = ap stage_in (sym c.in-AtWork.is) ∙ c.in_ok-row-2.ensures.stage ∙ ap (in_hand g es) c.in_ok-row.ensures.row in
    c.run_on.ensures.outcome c.args.budget (regularity_run g es c.args.budget h) (begins book.ranking es c.args.budget h w (at_work (pair_in c.in-AtWork.pair)) refl next c.new.ensures.items stage)
