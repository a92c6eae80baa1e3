use Rattle.std.proofs.Common.{◌≡◌, rules, arith, subst, unsigned_abs}
use Rattle.std.proofs.lemmas.Grind.{common_steps}
use Rattle.std.specs.Int.{IsGcd}
use Rattle.dz_monomials.proofs.Contents.{one_more}
use Rattle.dz_terms.proofs.dividing.content_of.Goals as goal

pub loop-i-preserved : goal.loop-i-preserved
loop-i-preserved c =
    let n : c.unsigned_abs.result ≡ unsigned_abs c.index-terms-terms.result.1 = first_of (search rules, grind (arith, common_steps)) in
    one_more c.loop-i.i c.loop-i.all c.common_divisor-all.result c.args.terms.now c.index-terms-terms.result c.index-terms-terms.result c.loop-i-test.true c.loop-i.invariant c.index-terms-terms.is (subst (λ a. IsGcd a c.loop-i.all c.common_divisor-all.result) n c.common_divisor-all.ensures)
