use Rattle.dz_syntax.proofs.NameTokens.{no_names_is}
use Rattle.dz_syntax.proofs.names.Names.new.Goals as goal

pub invariant_of-result : goal.invariant_of-result
invariant_of-result c = rw c.new.ensures.empty no_names_is
