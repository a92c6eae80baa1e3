use Rattle.dz_rank.specs.Symbols.{IsOperatorOf}
use Rattle.dz_step.specs.declared.Step.{Step}
use Rattle.dz_cert.specs.LineTexts.{step_text}
use Rattle.dz_cert.proofs.WrittenSteps.{all_of_at, steps_more}
use Rattle.dz_cert.proofs.line_writing.write_steps.Goals as goal

pub write_step-requires : goal.write_step-requires
write_step-requires c = all_of_at (λ (s : Step). IsOperatorOf c.args.names.now.independents s.operator) c.args.run.now c.steps.k c.get.result c.get.ensures c.requires

pub steps-preserved : goal.steps-preserved
steps-preserved c = steps_more (λ s. step_text c.args.names.now s) c.steps.into.items c.write_step.new.into.items c.args.run.now c.steps.k c.get.result _ c.get.ensures c.in_ok-write_step.ensures c.steps.invariant
