use Rattle.std.proofs.Common.{sym, subst}
use Rattle.dz_diff.specs.States.{StandsIn}
use Rattle.dz_ask_cases.proofs.answering.tell_by_chains.Goals as goal

pub tell_by_chain-requires-clause-chain : goal.tell_by_chain-requires-clause-chain
tell_by_chain-requires-clause-chain c =
    subst (λ b. StandsIn b c.index-chains-k.result) (sym c.chains.invariant)
    (subst (StandsIn c.args.book.now) (sym c.index-chains-k.is) (c.requires.chains c.chains.k c.index-chains-k.result c.chains-test.true))
