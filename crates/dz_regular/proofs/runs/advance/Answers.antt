use Rattle.std.proofs.Common.{◌≡◌, ◌+◌, ◌++◌, ◌∙◌, [], ◌∷◌, Ok, refl, ap}
use Rattle.dz_monomials.specs.Ranked.{symbols_under}
use Rattle.dz_diff.specs.States.{polynomials}
use Rattle.dz_regular.specs.Combining.{terms_in_all}
use Rattle.dz_regular.specs.Runs.{next_combine, next_row}
use Rattle.dz_regular.specs.Working.{pair_in, polynomials_of, row_in, stage_in}
use Rattle.dz_regular.specs.declared.runs.WorkingRun.{WorkingRun}
use Rattle.dz_regular.proofs.RunSteps.{moves_on}
use Rattle.dz_regular.proofs.runs.advance.Goals as goal

pub returns-clause-advance : goal.returns-clause-advance
returns-clause-advance c = λ budget course at.
    let r = c.args.book.now.ranking in
    let es = polynomials c.args.book.now c.args.equations.now in
    let w = c.args.run.now in
    let row = polynomials_of c.in-Ok.components.items in
    let made : next_row (symbols_under r) (pair_in c.args.pair) ≡ Ok row = rw c.as_slice-2.ensures.value at (rw c.as_slice.ensures.value at (rw c.ranking.ensures at c.in-Ok.ensures.ok)) in
    let left : c.in-Some.left + 1 + terms_in_all row ≡ w.left = rw c.as_slice-3.ensures.value at c.in-Some.ensures.within in
    let v : WorkingRun = record { run = c.push.new.self; next = w.next + 1; left = c.in-Some.left } in
    let pushed : c.push.new.self.items ≡ w.run.items ++ next_combine (pair_in c.args.pair) ∷ [] = c.in-Ok-push.ensures.items ∙ ap (λ x. w.run.items ++ x ∷ []) c.next_combine-combine.ensures in
    moves_on r es budget course w c.args.pair at row made v (stage_in c.in-Ok-after.stage) left refl pushed (c.in-Ok-after.ensures.stage (row_in c.args.pair.first))
