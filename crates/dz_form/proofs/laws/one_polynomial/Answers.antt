use Rattle.dz_form.proofs.PolynomialTexts.{polynomial_text-injective}
use Rattle.dz_form.proofs.laws.one_polynomial.Goals as goal

pub returns : goal.returns
returns c = polynomial_text-injective
