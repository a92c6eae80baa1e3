use Rattle.dz_form.proofs.expansion.subtract_latest.Goals as goal

pub returns-in_err-difference-clause-entries : goal.returns-in_err-difference-clause-entries
returns-in_err-difference-clause-entries c = c.take_latest-first.ensures.entries c.args.ranking.now (c.take_latest-second.ensures.entries c.args.ranking.now c.requires.entries)

pub returns-clause-entries : goal.returns-clause-entries
returns-clause-entries c = c.take_latest-first.ensures.entries c.args.ranking.now (c.take_latest-second.ensures.entries c.args.ranking.now c.requires.entries)
