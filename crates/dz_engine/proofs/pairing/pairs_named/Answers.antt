use Rattle.std.proofs.Common.{subst, arith}
use Rattle.dz_monomials.specs.Ranked.{symbols_under}
use Rattle.dz_diff.specs.Operations.{setting_of}
use Rattle.dz_diff.specs.States.{state_in}
use Rattle.dz_move.proofs.MemberLists.{if_ok}
use Rattle.dz_engine.specs.Naming.{IsOnward}
use Rattle.dz_engine.proofs.PairWays.{chain_onward, next_pair, pair_at}
use Rattle.dz_engine.proofs.pairing.pairs_named.Goals as goal

pub one_pair-requires-clause-pair : goal.one_pair-requires-clause-pair
one_pair-requires-clause-pair c =
    pair_at (symbols_under c.args.book.now.ranking) (state_in c.args.book.now c.args.state.now) c.pairs.k c.in_ok-found.found.items c.index.result.now c.in_ok-found.ensures (omega (arith, c.pairs-test.true, c.len-k-end.ensures)) c.index.ensures

pub returns-in-Some-clause-named : goal.returns-in-Some-clause-named
returns-in-Some-clause-named c =
    let book = c.args.book.now in
    let s = state_in book c.args.state.now in
    let h = next_pair (setting_of book.ranking) c.args.budget c.args.weight s c.pairs.so_far.lines.items c.pairs.so_far.spent c.pairs.k c.in_ok-found.found.items c.index.result.now c.in_ok-found.ensures (omega (arith, c.pairs-test.true, c.len-k-end.ensures)) c.index.ensures c.pairs.invariant.4 in
    subst (IsOnward (setting_of book.ranking) c.args.budget c.args.weight s _ _ _) c.in-Some.is (c.in_ok-named.ensures.onward c.args.weight _ h)

pub returns-clause-named : goal.returns-clause-named
returns-clause-named c =
    let book = c.args.book.now in
    let s = state_in book c.args.state.now in
    if_ok _ _ c.headed.result (λ x f _.
    chain_onward (setting_of book.ranking) c.args.budget c.args.weight s c.pairs.so_far.lines.items c.pairs.so_far.spent c.pairs.k c.in_ok-found.found.items x c.in_ok-found.ensures (omega (arith, c.pairs-test.false, c.len-k-end.ensures)) c.pairs.invariant.4 (f (setting_of book.ranking) c.args.budget c.args.weight s)) c.headed.ensures.named
