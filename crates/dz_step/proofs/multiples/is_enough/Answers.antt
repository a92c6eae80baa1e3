use Rattle.std.proofs.Common.{rules, ◌≡◌, ◌∙◌, length, ap, sym, arith}
use Rattle.std.specs.Prelude.{nat_le}
use Rattle.std.proofs.lemmas.Grind.{common_steps}
use Rattle.dz_step.specs.Multiples.{is_enough_by}
use Rattle.dz_step.proofs.DivisorTables.{quotient_missing}
use Rattle.dz_step.proofs.MultipleTables.{enough_found}
use Rattle.dz_step.proofs.multiples.is_enough.Goals as goal

pub returns-in_default : goal.returns-in_default
returns-in_default c g q e = ap (is_enough_by g c.args.lead q c.args.d) (sym (quotient_missing c.args.v c.args.lead c.requires.derivative c.requires.leader c.in_default.ensures))

pub returns-then-takes_derivation : goal.returns-then-takes_derivation
returns-then-takes_derivation c g q e =
    let four : length c.in-Some.operator.counts ≡ 4 = first_of (search rules, grind (arith, common_steps)) in
    sym (enough_found g c.args.v c.args.lead q c.args.d c.in-Some.operator four c.requires.leader c.in-Some.ensures _ (sym c.if-takes_derivation.true ∙ c.takes_derivation.ensures))

pub returns : goal.returns
returns c g q e =
    let four : length c.in-Some.operator.counts ≡ 4 = first_of (search rules, grind (arith, common_steps)) in
    ap (λ n. nat_le n c.args.d) e ∙ sym (enough_found g c.args.v c.args.lead q c.args.d c.in-Some.operator four c.requires.leader c.in-Some.ensures _ (sym c.if-takes_derivation.false ∙ c.takes_derivation.ensures))
