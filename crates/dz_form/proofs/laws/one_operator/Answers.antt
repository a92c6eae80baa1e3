use Rattle.dz_form.proofs.TextsDiffer.{operator_text-injective}
use Rattle.dz_form.proofs.laws.one_operator.Goals as goal

pub returns : goal.returns
returns c = operator_text-injective
