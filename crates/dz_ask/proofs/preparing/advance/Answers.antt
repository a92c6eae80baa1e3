use Rattle.std.proofs.Common.{Some, subst}
use Rattle.dz_diff.specs.Operations.{setting_of}
use Rattle.dz_diff.specs.States.{state_in}
use Rattle.dz_ask.specs.Working.{IsNextTurn}
use Rattle.dz_ask.specs.declared.preparing.Working.{Working}
use Rattle.dz_ask.proofs.Advances.{halts, moves}
use Rattle.dz_ask.proofs.preparing.advance.Goals as goal

pub made-requires-clause-next : goal.made-requires-clause-next
made-requires-clause-next c =
    let r = c.args.book.now.ranking in
    let s = state_in c.args.book.now c.args.chain.now in
    subst (λ l. IsNextTurn (setting_of r) s l (Some (c.in-Some.index, c.in-Some.step))) c.deref.ensures.value (subst (IsNextTurn (setting_of r) s c.deref.result.now) c.in-Some.is c.in-Ok.ensures.turn)

pub returns-in-Err-clause-advance : goal.returns-in-Err-clause-advance
returns-in-Err-clause-advance c = λ budget f at.
    let r = c.args.book.now.ranking in
    let s = state_in c.args.book.now c.args.chain.now in
    let n : IsNextTurn (setting_of r) s c.args.working.now.terms.items (Some (c.in-Some.index, c.in-Some.step)) = subst (λ l. IsNextTurn (setting_of r) s l (Some (c.in-Some.index, c.in-Some.step))) c.deref.ensures.value (subst (IsNextTurn (setting_of r) s c.deref.result.now) c.in-Some.is c.in-Ok.ensures.turn) in
    halts r s budget f c.args.working.now at c.in-Some.index n.0 c.in-Some.step n.1 n.2 n.3 c.in-Err.stop (c.in-Err.ensures.stopped n.0 n.2)

pub returns-in_default-push_factor-clause-working : goal.returns-in_default-push_factor-clause-working
returns-in_default-push_factor-clause-working c = record {
  factors = c.push_factor.ensures.entries c.args.book.now.ranking c.in-Ok-made.ensures.factor c.requires.working.factors;
  terms = c.requires.working.terms;
}

pub returns-in-Ok-push_factor-clause-working : goal.returns-in-Ok-push_factor-clause-working
returns-in-Ok-push_factor-clause-working c = record {
  factors = c.push_factor.ensures.entries c.args.book.now.ranking c.in-Ok-made.ensures.factor c.requires.working.factors;
  terms = c.in-Ok-made.ensures.entries;
}

pub returns-in-Ok-push_factor-clause-advance : goal.returns-in-Ok-push_factor-clause-advance
returns-in-Ok-push_factor-clause-advance c = λ budget f at.
    let r = c.args.book.now.ranking in
    let s = state_in c.args.book.now c.args.chain.now in
    let n : IsNextTurn (setting_of r) s c.args.working.now.terms.items (Some (c.in-Some.index, c.in-Some.step)) = subst (λ l. IsNextTurn (setting_of r) s l (Some (c.in-Some.index, c.in-Some.step))) c.deref.ensures.value (subst (IsNextTurn (setting_of r) s c.deref.result.now) c.in-Some.is c.in-Ok.ensures.turn) in
    let v : Working = record { factors = c.push_factor.new.factors; terms = c.in-Ok-made.after.terms; left = c.in-Ok-made.left } in
    moves r s budget f c.args.working.now at c.in-Some.index n.0 c.in-Some.step n.1 n.2 n.3 v c.in-Ok-made.after.factor.terms (c.in-Ok-made.ensures.ok n.0 n.2) (c.in-Ok-push_factor.ensures.pushed r) c.in-Ok-made.ensures.left
