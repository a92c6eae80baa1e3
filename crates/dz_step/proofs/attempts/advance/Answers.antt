use Rattle.std.proofs.Common.{◌≡◌, ◌++◌, ◌∷◌, ◌+◌, [], ap, length, rules, arith}
use Rattle.std.proofs.lemmas.Grind.{common_steps}
use Rattle.dz_diff.specs.States.{state_in}
use Rattle.dz_step.specs.declared.attempts.Progress.{Progress}
use Rattle.dz_step.proofs.Advances.{cut_short, moved}
use Rattle.dz_step.proofs.attempts.advance.Goals as goal

pub returns-then-is_err-clause-advance : goal.returns-then-is_err-clause-advance
returns-then-is_err-clause-advance c =
    let e : c.take_step.new.progress ≡ c.args.progress.now = first_of (search rules, grind (arith, common_steps)) in
    λ budget f at. cut_short c.args.book.now.ranking (state_in c.args.book.now c.args.state.now) c.args.role budget f c.args.progress.now at c.take_step.new.progress.run (ap (λ (p : Progress). p.run) e)

pub returns-else-is_err-clause-advance : goal.returns-else-is_err-clause-advance
returns-else-is_err-clause-advance c =
    let run : c.take_step.new.progress.run ≡ c.args.progress.now.run ++ c.in-Taken.step ∷ [] = first_of (search rules, grind (arith, common_steps)) in
    let rest : c.take_step.new.progress.rest ≡ c.in-Taken.next = first_of (search rules, grind (arith, common_steps)) in
    let left : c.take_step.new.progress.left + 1 + length c.in-Taken.next.terms ≡ c.args.progress.now.left = first_of (search rules, grind (arith, common_steps)) in
    λ budget f at.
    moved c.args.book.now.ranking (state_in c.args.book.now c.args.state.now) c.args.role budget f c.args.progress.now at c.in-Taken.step c.in-Taken.next c.take_step.new.progress c.in-Taken.ensures.turn run rest left
