-- Why an entry does not hold, as calls tell it.
use Rattle.std.specs.Prelude.{◌≡◌, ◌⊎◌, ℕ, Option, Some, None, Result, Ok, Err}
use Rattle.dz_move.specs.declared.Rule.{Rule as TreeRule}
use Rattle.dz_move.specs.declared.Rule.TheVariants as rules
use Rattle.dz_move.specs.declared.fault.MoveFault.{MoveFault}
use Rattle.dz_move.specs.declared.fault.MoveFault.TheVariants as moves
use Rattle.dz_tree.specs.declared.entry_fault.EntryFault.{EntryFault}
use Rattle.dz_tree.specs.declared.entry_fault.EntryFault.TheVariants.{Memory, Rule}

-- the rule by which an answer is none, with the number of its line, as the fault of a call
abbrev pub rule_in : {A : Type 0} → Result A (ℕ × TreeRule) → Option EntryFault
rule_in (Ok x) = None
rule_in (Err e) = Some (Rule e.0 e.1)

-- a fault is the one that the definition answers; want of memory may come instead
abbrev pub IsEntryFault : {A : Type 0} → EntryFault → Result A (ℕ × TreeRule) → Type 0
IsEntryFault fault answer = (fault ≡ Memory) ⊎ (rule_in answer ≡ Some fault)

-- the rule by which an answer is none, if it is
abbrev pub broken_rule : {A : Type 0} → Result A (ℕ × TreeRule) → Option TreeRule
broken_rule (Ok x) = None
broken_rule (Err e) = Some e.1

-- why an action does not hold, as the fault of a line
abbrev pub entry_fault : ℕ → MoveFault → EntryFault
entry_fault line moves.Memory = Memory
entry_fault line moves.Wide = Rule line rules.Wide
entry_fault line (moves.Large limit) = Rule line rules.Large
entry_fault line (moves.NotPermitted r) = Rule line r
