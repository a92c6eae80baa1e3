use Rattle.std.proofs.Common.{Option, subst}
use Rattle.std.specs.Prelude.{reverse}
use Rattle.dz_diff.specs.States.{StateValue}
use Rattle.dz_check.specs.Collecting.{CollectsOn}
use Rattle.dz_check.proofs.TakenChains.{one_here, stands_itself, stands_marked}
use Rattle.dz_check.proofs.taking.take_any.Goals as goal

pub returns-in_default-clause-stack : goal.returns-in_default-clause-stack
returns-in_default-clause-stack c = stands_itself c.args.book.now (reverse c.args.stack.now.items)

pub returns-in_default-clause-collects : goal.returns-in_default-clause-collects
returns-in_default-clause-collects c = λ base g whole lines h.
    subst (λ (o : Option StateValue). CollectsOn base g whole c.args.book.now (reverse c.args.stack.now.items) c.args.taken.now.items o lines) c.in_default.is h

pub returns-clause-stack : goal.returns-clause-stack
returns-clause-stack c = stands_marked c.args.book.now (reverse c.args.stack.now.items) (reverse c.take_chain.new.stack.items) c.in_ok-take_chain.ensures.stack

pub returns-clause-collects : goal.returns-clause-collects
returns-clause-collects c = λ base g whole lines h.
    let stack = reverse c.args.stack.now.items in
    one_here base g whole c.args.book.now stack (reverse c.take_chain.new.stack.items) c.args.taken.now.items c.take_chain.new.taken.items lines c.in-Some.state c.in_ok-take_chain.ensures.stack c.in_ok-take_chain.ensures.taken
    (subst (λ (o : Option StateValue). CollectsOn base g whole c.args.book.now stack c.args.taken.now.items o lines) c.in-Some.is h)
