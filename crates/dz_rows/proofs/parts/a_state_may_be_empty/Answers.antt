use Rattle.dz_diff.proofs.KeptStates.{no_members}
use Rattle.dz_rows.proofs.parts.a_state_may_be_empty.Goals as goal

pub new-state-requires-clause-facts : goal.new-state-requires-clause-facts
new-state-requires-clause-facts g c = no_members c.in_ok-book.book c.new.result.items c.new-2.result.items c.new.ensures.items c.new-2.ensures.items
