use Rattle.std.proofs.Common.{refl, subst}
use Rattle.dz_diff.specs.Operations.{setting_of}
use Rattle.dz_diff.specs.States.{state_in}
use Rattle.dz_engine.specs.Naming.{IsPairCourse}
use Rattle.dz_engine.proofs.PairWays.{grown_onward, same_lines, zero_onward}
use Rattle.dz_engine.proofs.pairing.one_pair.Goals as goal

pub returns-in_ok-push-in-Zero-clause-onward : goal.returns-in_ok-push-in-Zero-clause-onward
returns-in_ok-push-in-Zero-clause-onward c = λ weight ps h.
    let g = setting_of c.args.book.now.ranking in
    let s = state_in c.args.book.now c.args.state.now in
    let w = c.args.so_far.now.spent in
    let k = subst (IsPairCourse g c.args.budget w s (c.args.first, c.args.second)) c.in-Zero.is (c.in_ok-run.ensures.course c.args.budget w c.requires.within refl) in
    same_lines g c.args.budget weight s _ c.push.new.self.items _ ps c.in_ok-push-in-Zero.ensures.items (zero_onward g c.args.budget weight w s c.args.so_far.now.lines.items c.args.first c.args.second ps h c.in-Zero.run' c.in-Zero.cost k)

pub returns-in-Grown-clause-onward : goal.returns-in-Grown-clause-onward
returns-in-Grown-clause-onward c = λ weight ps h holds.
    let g = setting_of c.args.book.now.ranking in
    let s = state_in c.args.book.now c.args.state.now in
    let w = c.args.so_far.now.spent in
    let k = subst (IsPairCourse g c.args.budget w s (c.args.first, c.args.second)) c.in-Grown.is (c.in_ok-run.ensures.course c.args.budget w c.requires.within refl) in
    (grown_onward g c.args.budget weight w s c.args.so_far.now.lines.items c.args.first c.args.second ps h c.in-Grown.run' c.in-Grown.end k holds, tt, k.known)

pub returns-in_ok-spent-in-Spent-clause-entry : goal.returns-in_ok-spent-in-Spent-clause-entry
returns-in_ok-spent-in-Spent-clause-entry c = c.in_ok-spent-in-Spent.ensures.entry c.args.book.now.ranking

pub returns-in_ok-wide-in-Wide-clause-entry : goal.returns-in_ok-wide-in-Wide-clause-entry
returns-in_ok-wide-in-Wide-clause-entry c = c.in_ok-wide-in-Wide.ensures.entry c.args.book.now.ranking

pub returns-in_ok-large-in-Large-clause-entry : goal.returns-in_ok-large-in-Large-clause-entry
returns-in_ok-large-in-Large-clause-entry c = c.in_ok-large-in-Large.ensures.entry c.args.book.now.ranking
