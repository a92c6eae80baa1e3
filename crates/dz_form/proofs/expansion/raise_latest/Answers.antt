use Rattle.dz_form.proofs.expansion.raise_latest.Goals as goal

pub returns-clause-entries : goal.returns-clause-entries
returns-clause-entries c = c.take_latest-base.ensures.entries c.args.ranking.now c.requires.entries
