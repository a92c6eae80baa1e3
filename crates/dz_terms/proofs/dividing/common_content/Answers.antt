use Rattle.std.proofs.Common.{◌∙◌, ap, ap₂}
use Rattle.dz_algebra.specs.Norm.{content, gcd}
use Rattle.dz_monomials.proofs.Contents.{divisor_is}
use Rattle.dz_terms.proofs.dividing.common_content.Goals as goal

pub returns : goal.returns
returns c = divisor_is _ _ _ c.common_divisor.ensures ∙ ap₂ gcd (c.content_of.ensures ∙ ap content c.terms.ensures) (c.content_of-2.ensures ∙ ap content c.terms-2.ensures)
