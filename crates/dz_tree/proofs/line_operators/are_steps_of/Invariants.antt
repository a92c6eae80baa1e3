use Rattle.std.proofs.Common.{◌↔◌, drop}
use Rattle.dz_step.specs.StepOperators.{DeriveAlong}
use Rattle.dz_tree.proofs.line_operators.are_steps_of.Given as goal

abbrev pub invariant-steps : goal.invariant-steps
invariant-steps l = DeriveAlong l.independents (drop l.k l.run) ↔ DeriveAlong l.independents l.run
