use Rattle.dz_form.proofs.OperatorsRead.{when_found, when_none}
use Rattle.dz_form.proofs.read.read_operator.Goals as goal

pub returns-clause-found : goal.returns-clause-found
returns-clause-found c = when_found c.args.names.now c.args.text.now c.operator.result c.opened.ensures c.operator.ensures

pub returns-clause-none : goal.returns-clause-none
returns-clause-none c = when_none c.args.names.now c.args.text.now c.operator.result c.opened.ensures c.operator.ensures
