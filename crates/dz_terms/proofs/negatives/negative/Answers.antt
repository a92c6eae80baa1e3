use Rattle.std.proofs.Common.{subst, sym}
use Rattle.dz_terms.specs.Entries.{IsEntry}
use Rattle.dz_monomials.proofs.Negated.{negated_entry}
use Rattle.dz_terms.proofs.negatives.negative.Goals as goal

pub returns-clause-entry : goal.returns-clause-entry
returns-clause-entry c r h = negated_entry r _ _ _ c.negate.ensures (subst (IsEntry r) (sym c.entry.view_is) h)
