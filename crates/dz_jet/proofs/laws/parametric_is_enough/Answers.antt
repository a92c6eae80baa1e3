use Rattle.dz_diff.specs.States.{state_in}
use Rattle.dz_jet.proofs.InitialData.{initial_data_enough}
use Rattle.dz_jet.proofs.laws.parametric_is_enough.Goals as goal

pub returns : goal.returns
returns c = λ evidence chain known initial. initial_data_enough c.args.book.now.ranking (state_in c.args.book.now c.args.chain.now) evidence chain known c.args.order initial
