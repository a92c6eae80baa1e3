use Rattle.std.proofs.Common.{subst}
use Rattle.dz_syntax.specs.Items.{Answers}
use Rattle.dz_syntax.specs.Systems.{tree_of}
use Rattle.dz_syntax.proofs.Ranked.{have_ranking, have_signature}
use Rattle.dz_syntax.proofs.SystemExpressions.{have_expressions}
use Rattle.dz_syntax.proofs.SystemFunctions.{have_functions}
use Rattle.dz_syntax.proofs.SystemValues.{have_values}
use Rattle.dz_syntax.proofs.SystemReadings.{is_found_system, system_again}
use Rattle.dz_syntax.proofs.system.read_system.Goals as goal

pub returns-clause-found : goal.returns-clause-found
returns-clause-found c = is_found_system c.args.form c.args.bytes.now c.placed_system.result c.placed_system.ensures

pub returns-clause-only : goal.returns-clause-only
returns-clause-only c = λ tree is. subst (λ r. Answers (λ t. tree_of t) c.placed_system.result r) (system_again c.args.form c.args.bytes.now tree is) c.placed_system.ensures

pub returns-clause-expressions : goal.returns-clause-expressions
returns-clause-expressions c = have_expressions c.args.form c.args.bytes.now c.placed_system.result c.placed_system.ensures

pub returns-clause-values : goal.returns-clause-values
returns-clause-values c = have_values c.args.form c.args.bytes.now c.placed_system.result c.placed_system.ensures

pub returns-clause-functions : goal.returns-clause-functions
returns-clause-functions c = have_functions c.args.form c.args.bytes.now c.placed_system.result c.placed_system.ensures

pub returns-clause-ranking : goal.returns-clause-ranking
returns-clause-ranking c = have_ranking c.args.form c.args.bytes.now c.placed_system.result c.placed_system.ensures

pub returns-clause-signature : goal.returns-clause-signature
returns-clause-signature c = have_signature c.args.form c.args.bytes.now c.placed_system.result c.placed_system.ensures
