use Rattle.std.proofs.Common.{◌≡◌, ◌==◌, false, length, refl, rules, arith}
use Rattle.std.proofs.lemmas.Grind.{common_steps}
use Rattle.std.proofs.lemmas.Result.{err_from_is_err_and}
use Rattle.dz_monomials.proofs.Multiplying.{order_refused, not_empty}
use Rattle.dz_poly.proofs.Makings.{stopped}
use Rattle.dz_poly.proofs.arithmetic.mul_term.Goals as goal

pub returns-in_err-factor : goal.returns-in_err-factor
returns-in_err-factor c =
    let n : false ≡ (length c.entry.result.now.terms == 0) = first_of (search rules, grind (arith, common_steps)) in
    let y = err_from_is_err_and c.from_residual.result c.from_residual.ensures.1 in
    rw (y.1, y.2, ← c.entry.ensures.value)
    (stopped _ _ _ _ refl (order_refused c.args.book.now.ranking c.args.c c.args.s c.args.k c.entry.result.now.terms c.entry.ensures.entry.keepable (not_empty c.entry.result.now.terms n) _ c.in_err-factor.ensures.refused))
