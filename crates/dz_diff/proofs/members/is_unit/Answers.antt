use Rattle.std.proofs.Common.{◌≡◌, ◌==◌, ◌∙◌, ap, arith, length, not, rules, sym}
use Rattle.std.proofs.lemmas.Grind.{common_steps}
use Rattle.dz_diff.proofs.MemberTests.{led_no_unit, unled_unit}
use Rattle.dz_diff.proofs.members.is_unit.Goals as goal

pub returns-in-Some : goal.returns-in-Some
returns-in-Some c r h = led_no_unit r c.args.entry.now.terms _ (sym (c.leader_of.ensures r h) ∙ c.in-Some.is)

pub returns-in-None : goal.returns-in-None
returns-in-None c r h =
    let e : c.is_zero.result ≡ (length c.args.entry.now.terms == 0) = first_of (search rules, grind (arith, common_steps)) in
    ap not e ∙ unled_unit r c.args.entry.now.terms (sym (c.leader_of.ensures r h) ∙ c.in-None.is)
