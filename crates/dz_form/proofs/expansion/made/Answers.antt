use Rattle.dz_form.proofs.expansion.made.Goals as goal

pub returns-in-Negate-clause-made : goal.returns-in-Negate-clause-made
returns-in-Negate-clause-made c = rw c.in-Negate.is (c.negate_latest.ensures.made c.args.ranking.now)

pub returns-in-Negate-clause-entry : goal.returns-in-Negate-clause-entry
returns-in-Negate-clause-entry c = c.negate_latest.ensures.entry c.args.ranking.now c.requires.entries

pub returns-in-Negate-clause-entries : goal.returns-in-Negate-clause-entries
returns-in-Negate-clause-entries c = c.negate_latest.ensures.entries c.args.ranking.now c.requires.entries
