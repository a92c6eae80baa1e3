use Rattle.std.specs.Prelude.{All}
use Rattle.std.proofs.Common.{sym, subst}
use Rattle.dz_diff.specs.States.{StandsIn}
use Rattle.dz_ask_cases.proofs.asking.answer_all.Goals as goal

pub answer-requires-clause-chains : goal.answer-requires-clause-chains
answer-requires-clause-chains c = subst (λ b. All (λ s. StandsIn b s) c.args.chains.now) (sym c.questions.invariant) c.requires.chains
