use Rattle.std.proofs.Common.{◌≡◌, ◌==◌, ◌∙◌, false, length, pos, ap, sym, rules, arith}
use Rattle.std.proofs.lemmas.Grind.{common_steps}
use Rattle.dz_algebra.specs.Norm.{divided}
use Rattle.dz_monomials.proofs.Divisibility.{divided_one, divisor_in_range, quotient_entry}
use Rattle.dz_monomials.proofs.Multiplying.{not_empty}
use Rattle.dz_terms.proofs.dividing.quotient_by.Goals as goal

pub returns-then-k-eq1-clause-terms : goal.returns-then-k-eq1-clause-terms
returns-then-k-eq1-clause-terms c = sym (ap (λ k. divided (pos k) c.args.entry.terms) c.if-k-eq1.true ∙ divided_one c.args.entry.terms)

pub divided-requires-clause-in_range : goal.divided-requires-clause-in_range
divided-requires-clause-in_range c =
    let n : false ≡ (length c.args.entry.terms == 0) = first_of (search rules, grind (arith, common_steps)) in
    divisor_in_range c.requires.entry.0 c.args.entry.terms c.args.k c.requires.entry.1.keepable (not_empty c.args.entry.terms n) c.requires.divides

pub returns-clause-entry : goal.returns-clause-entry
returns-clause-entry c = λ r h. quotient_entry r c.args.entry.terms c.args.entry.degrees c.args.k c.divided.result.terms c.divided.result.degrees h c.requires.divides c.divided.ensures.terms c.divided.ensures.degrees
