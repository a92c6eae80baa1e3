use Rattle.dz_pair.proofs.LeaderOperators.{first_operator, second_operator}
use Rattle.dz_pair.proofs.deltas.operators_of.Goals as goal

pub returns-clause-first : goal.returns-clause-first
returns-clause-first c =
    let d = c.in-Derivative-Derivative in
    first_operator c.args.l c.args.m d.dependent-0 d.dependent-1 d.s d.t c.missing.result d.is-0 d.is-1 c.missing.ensures.first

pub returns-clause-second : goal.returns-clause-second
returns-clause-second c =
    let d = c.in-Derivative-Derivative in
    second_operator c.args.l c.args.m d.dependent-0 d.dependent-1 d.s d.t c.missing-2.result d.is-0 d.is-1 c.requires c.missing-2.ensures.second
