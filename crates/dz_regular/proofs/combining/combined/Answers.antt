use Rattle.dz_regular.proofs.combining.combined.Goals as goal

pub primitive_row-requires : goal.primitive_row-requires
primitive_row-requires c = λ k d h. (c.args.ranking.now, c.in_ok-zs.ensures.entries k d h)

pub returns-clause-entries : goal.returns-clause-entries
returns-clause-entries c = c.in_ok-row.ensures.entries c.args.ranking.now c.in_ok-zs.ensures.entries
