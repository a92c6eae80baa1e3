use Rattle.std.proofs.Common.{◌∙◌, sym, ap, Some}
use Rattle.dz_algebra.specs.Polynomial.{Polynomial}
use Rattle.dz_rank.specs.declared.symbols.Symbol.{Symbol}
use Rattle.dz_poly.specs.Books.{polynomial}
use Rattle.dz_diff.specs.States.{state_in}
use Rattle.dz_step.specs.Attempts.{ended}
use Rattle.dz_step.proofs.Advances.{no_steps}
use Rattle.dz_poly.proofs.Books.{means_polynomial}
use Rattle.dz_step.proofs.attempts.reduce_fully.Goals as goal

pub returns-in_default-clause-stopped : goal.returns-in_default-clause-stopped
returns-in_default-clause-stopped c =
    no_steps c.args.book.now.ranking (state_in c.args.book.now c.args.state.now) c.args.role c.args.budget (polynomial c.args.book.now c.args.f) c.no_memory.result.run c.no_memory.result.stop c.no_memory.ensures.run c.no_memory.ensures.stop

pub returns-in-Ok-keep-clause-ended : goal.returns-in-Ok-keep-clause-ended
returns-in-Ok-keep-clause-ended c =
    ap ended (c.in_ok-run.ensures.finished (polynomial c.args.book.now c.args.f) c.in-Ok.ensures.terms)
    ∙ ap (λ (q : Polynomial Symbol). Some (c.in_ok-run.field-0.run, q)) (sym (means_polynomial c.keep.new.self c.in-Ok-keep.end c.in_ok-run.field-0.end.terms c.in-Ok-keep.ensures.ok))
