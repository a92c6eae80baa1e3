use Rattle.std.proofs.Common.{rules, ◌≡◌, ◌∙◌, arith, length, sym}
use Rattle.std.proofs.lemmas.Grind.{common_steps}
use Rattle.dz_jet.proofs.FirstLeading.{improper_quotient, no_quotient, proper_quotient}
use Rattle.dz_jet.proofs.leading.leads.Goals as goal

pub returns-in_err-operator : goal.returns-in_err-operator
returns-in_err-operator c =
    c.from_residual-in_err-operator.ensures
    ∙ no_quotient c.args.book.now c.opened.ensures c.args.p c.requires.lives c.args.w c.in_ok-leader.field-0 c.requires.four (sym c.leader.ensures ∙ c.in_ok-leader.was) c.in_err-operator.ensures

pub returns-then-is_proper : goal.returns-then-is_proper
returns-then-is_proper c =
    let size : length c.in_ok-operator.operator.counts ≡ 4 = first_of (search rules, grind (arith, common_steps)) in
    proper_quotient c.args.book.now c.opened.ensures c.args.p c.requires.lives c.args.w c.in_ok-leader.field-0 c.requires.four (sym c.leader.ensures ∙ c.in_ok-leader.was) c.in_ok-operator.operator size c.in_ok-operator.ensures (sym c.is_proper.ensures ∙ c.if-is_proper.true)

pub returns-else-is_proper : goal.returns-else-is_proper
returns-else-is_proper c =
    let size : length c.in_ok-operator.operator.counts ≡ 4 = first_of (search rules, grind (arith, common_steps)) in
    improper_quotient c.args.book.now c.opened.ensures c.args.p c.requires.lives c.args.w c.in_ok-leader.field-0 c.requires.four (sym c.leader.ensures ∙ c.in_ok-leader.was) c.in_ok-operator.operator size c.in_ok-operator.ensures (sym c.is_proper.ensures ∙ c.if-is_proper.false)
