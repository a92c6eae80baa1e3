use Rattle.std.proofs.Common.{◌∙◌, sym, arith}
use Rattle.dz_monomials.proofs.RowPieces.{begins, passed}
use Rattle.dz_monomials.proofs.rows.place_in.Goals as goal

pub returns-in-Equal-clause-found : goal.returns-in-Equal-clause-found
returns-in-Equal-clause-found c = (omega arith, begins c.args.ranking.now c.args.symbol c.args.powers.now c.loop-i.i _ (omega arith) (sym c.in-Equal.ensures))

pub returns-in-Greater-clause-missing : goal.returns-in-Greater-clause-missing
returns-in-Greater-clause-missing c = sym c.loop-i.invariant.rest ∙ passed c.args.ranking.now c.args.symbol c.args.powers.now c.loop-i.i _ (omega arith) (sym c.in-Greater.ensures) c.loop-i.invariant.falls
