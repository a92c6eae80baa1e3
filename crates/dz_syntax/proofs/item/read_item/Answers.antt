use Rattle.std.proofs.Common.{subst}
use Rattle.dz_syntax.specs.Items.{Answers}
use Rattle.dz_syntax.proofs.Readings.{is_found, item_again, item_is_expression}
use Rattle.dz_syntax.proofs.item.read_item.Goals as goal

pub returns-clause-found : goal.returns-clause-found
returns-clause-found c = is_found c.args.names.now c.args.bytes.now c.placed_item.result c.placed_item.ensures

pub returns-clause-only : goal.returns-clause-only
returns-clause-only c = λ o is. subst (λ r. Answers (λ v. v) c.placed_item.result r) (item_again c.args.names.now c.args.bytes.now o is) c.placed_item.ensures

pub returns-clause-expression : goal.returns-clause-expression
returns-clause-expression c = item_is_expression c.args.names.now c.args.bytes.now c.placed_item.result c.placed_item.ensures
