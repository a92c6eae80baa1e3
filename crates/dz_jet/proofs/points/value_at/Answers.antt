use Rattle.dz_poly.specs.Books.{polynomial}
use Rattle.dz_monomials.specs.Ranked.{symbols_under}
use Rattle.dz_jet.specs.declared.faults.JetFault.TheVariants as faults
use Rattle.dz_jet.specs.Jets.{value_in}
use Rattle.dz_jet.proofs.PointSteps.{value_none, value_some}
use Rattle.dz_jet.proofs.points.value_at.Goals as goal

pub returns-in-Some : goal.returns-in-Some
returns-in-Some c = value_some (faults.Wide c.args.at) (value_in (symbols_under c.args.book.now.ranking) c.args.values.now) (polynomial c.args.book.now c.args.p) c.evaluate.result c.in-Some.value c.evaluate.ensures c.in-Some.is

pub returns-in-None : goal.returns-in-None
returns-in-None c = value_none (faults.Wide c.args.at) (value_in (symbols_under c.args.book.now.ranking) c.args.values.now) (polynomial c.args.book.now c.args.p) c.evaluate.result c.evaluate.ensures c.in-None.is
