use Rattle.std.proofs.Common.{sym, subst, arith}
use Rattle.dz_diff.specs.Operations.{setting_of}
use Rattle.dz_algebra.specs.Outcome.{told_as}
use Rattle.dz_diff.specs.States.{state_in}
use Rattle.dz_tree.specs.Entering.{IsEntryFault}
use Rattle.dz_move.specs.declared.Rule.TheVariants as rules
use Rattle.dz_move.specs.Moves.{perform}
use Rattle.dz_move.specs.TreeLines.{line_of}
use Rattle.dz_check.specs.Walk.{told_at_line}
use Rattle.dz_check.proofs.Entries.{act_stopped, act_fault, act_heavy, act_leaves, line_broken}
use Rattle.dz_move.proofs.ReachedStates.{acts}
use Rattle.dz_check.proofs.entering.acted.Goals as goal

pub returns-in-Err-clause-refused : goal.returns-in-Err-clause-refused
returns-in-Err-clause-refused c =
    let book = c.args.book.now in
    let s = state_in book c.args.state.now in
    let a = acts (line_of c.args.line.now) c.requires.act in
    let answer = told_as told_at_line (perform (setting_of book.ranking) s a.0) in
    λ es. act_fault (setting_of book.ranking) c.args.budget c.args.weight s (line_of c.args.line.now) a.0 a.1 es c.fault_at.result
    (subst (λ fault. IsEntryFault fault answer) (sym c.fault_at.ensures) (act_stopped c.in-Err.stop (perform (setting_of book.ranking) s a.0) (c.in-Err.ensures.refused a.0 a.1)))

pub returns-then-saturating_add-budget-clause-refused : goal.returns-then-saturating_add-budget-clause-refused
returns-then-saturating_add-budget-clause-refused c =
    let book = c.args.book.now in
    let s = state_in book c.args.state.now in
    let a = acts (line_of c.args.line.now) c.requires.act in
    λ es. line_broken c.at_line.result rules.Weight _ c.at_line.ensures
    (act_heavy (setting_of book.ranking) c.args.budget c.args.weight s (line_of c.args.line.now) a.0 a.1 es c.performed.new.book c.in-Ok.performed (c.in-Ok.ensures.ok a.0 a.1) c.ranges.budget.fits (omega (arith, c.saturating_add.ensures, c.if-saturating_add-budget.true)))

pub returns-clause-ok : goal.returns-clause-ok
returns-clause-ok c =
    let book = c.args.book.now in
    let s = state_in book c.args.state.now in
    let a = acts (line_of c.args.line.now) c.requires.act in
    λ es. act_leaves (setting_of book.ranking) c.args.budget c.args.weight s (line_of c.args.line.now) a.0 a.1 es c.performed.new.book c.in-Ok.performed (c.in-Ok.ensures.ok a.0 a.1) c.ranges.budget.fits (omega (arith, c.saturating_add.ensures, c.if-saturating_add-budget.false))
    c.in-Ok.ensures.facts
