use Rattle.dz_form.proofs.TextsDiffer.{symbol_text-injective}
use Rattle.dz_form.proofs.laws.one_symbol.Goals as goal

pub returns : goal.returns
returns c = symbol_text-injective
