-- Why a line of a tree does not hold.
use Rattle.std.specs.Prelude.{ℕ}
use Rattle.dz_algebra.specs.Size.{Refusal, wide, large}
use Rattle.dz_step.specs.Step.{Stop, refused, no_step}
use Rattle.dz_move.specs.declared.Rule.{Rule}
use Rattle.dz_move.specs.declared.Rule.TheVariants as rules

-- an operation is refused or a state passes a limit, or another rule fails
pub data Fault : Type 0 where
  refusal : Refusal → Fault
  rule : Rule → Fault

-- the fault of a step that has no result
abbrev pub fault_of : Stop → Fault
fault_of (refused r) = refusal r
fault_of no_step = rule rules.Step

-- the fault of a run, with the number of the step
abbrev pub run_fault : ℕ × Stop → ℕ × Fault
run_fault e = (e.0, fault_of e.1)

-- the rule that a refusal breaks
abbrev pub rule_of_refusal : Refusal → Rule
rule_of_refusal wide = rules.Wide
rule_of_refusal (large limit) = rules.Large

-- the rule that a fault breaks
abbrev pub rule_of : Fault → Rule
rule_of (refusal r) = rule_of_refusal r
rule_of (rule r) = r
