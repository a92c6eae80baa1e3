use Rattle.dz_diff.specs.States.{state_in}
use Rattle.dz_step.proofs.Advances.{begins}
use Rattle.dz_step.proofs.attempts.run_with.Goals as goal

pub returns-in-Ok-clause-finished : goal.returns-in-Ok-clause-finished
returns-in-Ok-clause-finished c = λ f e.
    c.in-Ok.ensures.ok c.args.budget f (begins c.args.book.now.ranking (state_in c.args.book.now c.args.state.now) c.args.role c.args.budget f c.args.start c.new.result e c.new.ensures)

pub returns-in-Err-clause-stopped : goal.returns-in-Err-clause-stopped
returns-in-Err-clause-stopped c = λ f e.
    c.in-Err.ensures.stopped c.args.budget f (begins c.args.book.now.ranking (state_in c.args.book.now c.args.state.now) c.args.role c.args.budget f c.args.start c.new.result e c.new.ensures)
