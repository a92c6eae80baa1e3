use Rattle.std.proofs.Common.{◌≡◌, ◌==◌, ◌∙◌, false, length, pos, ap, rules, arith}
use Rattle.std.proofs.lemmas.Grind.{common_steps}
use Rattle.dz_algebra.specs.Norm.{content, signed_content}
use Rattle.dz_monomials.specs.Signs.{signed}
use Rattle.dz_monomials.proofs.Divisibility.{content_positive_in_range, norm_entry, norm_value, nothing_is_normal}
use Rattle.dz_monomials.proofs.Multiplying.{not_empty}
use Rattle.dz_terms.proofs.dividing.into_norm.Goals as goal

pub returns-then-is_zero-clause-terms : goal.returns-then-is_zero-clause-terms
returns-then-is_zero-clause-terms c =
    let n : length c.args.entry.terms ≡ 0 = first_of (search rules, grind (arith, common_steps)) in
    nothing_is_normal c.args.entry.terms n

pub divided-requires-clause-positive : goal.divided-requires-clause-positive
divided-requires-clause-positive c =
    let n : false ≡ (length c.args.entry.terms == 0) = first_of (search rules, grind (arith, common_steps)) in
    let e : c.content_of-content.result ≡ content c.args.entry.terms = c.content_of-content.ensures ∙ ap content c.terms-2.ensures in
    rw e (content_positive_in_range c.requires.0 c.args.entry.terms c.requires.1.keepable (not_empty c.args.entry.terms n)).0

pub divided-requires-clause-in_range : goal.divided-requires-clause-in_range
divided-requires-clause-in_range c =
    let n : false ≡ (length c.args.entry.terms == 0) = first_of (search rules, grind (arith, common_steps)) in
    let e : c.content_of-content.result ≡ content c.args.entry.terms = c.content_of-content.ensures ∙ ap content c.terms-2.ensures in
    rw e (content_positive_in_range c.requires.0 c.args.entry.terms c.requires.1.keepable (not_empty c.args.entry.terms n)).1

pub returns-clause-terms : goal.returns-clause-terms
returns-clause-terms c =
    let e : c.content_of-content.result ≡ content c.args.entry.terms = c.content_of-content.ensures ∙ ap content c.terms-2.ensures in
    let s : signed c.first_sign-sign.result (pos c.content_of-content.result) ≡ signed_content c.args.entry.terms = ap (λ g. signed c.first_sign-sign.result (pos g)) e ∙ rw c.terms.ensures at c.first_sign-sign.ensures in
    norm_value (signed c.first_sign-sign.result (pos c.content_of-content.result)) c.args.entry.terms c.divided.result.terms s c.divided.ensures.terms

pub returns-clause-entry : goal.returns-clause-entry
returns-clause-entry c =
    let e : c.content_of-content.result ≡ content c.args.entry.terms = c.content_of-content.ensures ∙ ap content c.terms-2.ensures in
    let s : signed c.first_sign-sign.result (pos c.content_of-content.result) ≡ signed_content c.args.entry.terms = ap (λ g. signed c.first_sign-sign.result (pos g)) e ∙ rw c.terms.ensures at c.first_sign-sign.ensures in
    λ r h. norm_entry r c.args.entry.terms c.args.entry.degrees (signed c.first_sign-sign.result (pos c.content_of-content.result)) c.divided.result.terms c.divided.result.degrees h s c.divided.ensures.terms c.divided.ensures.degrees
