use Rattle.std.proofs.Common.{rules, ◌≡◌, ◌∙◌, length, ap, sym, arith}
use Rattle.std.proofs.lemmas.Grind.{common_steps}
use Rattle.dz_step.specs.Multiples.{is_proper_one}
use Rattle.dz_step.proofs.DivisorTables.{quotient_found, quotient_missing}
use Rattle.dz_step.proofs.multiples.is_above.Goals as goal

pub returns-in_default : goal.returns-in_default
returns-in_default c = ap is_proper_one (sym (quotient_missing c.args.v c.args.lead c.requires.derivative c.requires.leader c.in_default.ensures))

pub returns : goal.returns
returns c =
    let four : length c.in-Some.operator.counts ≡ 4 = first_of (search rules, grind (arith, common_steps)) in
    c.takes_derivation.ensures ∙ ap is_proper_one (sym (quotient_found c.args.v c.args.lead c.in-Some.operator four c.requires.leader c.in-Some.ensures))
