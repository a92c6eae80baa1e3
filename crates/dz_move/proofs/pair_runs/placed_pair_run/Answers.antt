use Rattle.std.proofs.Common.{◌∙◌, sym, subst}
use Rattle.std.proofs.lemmas.Bool.{lt-ltb}
use Rattle.dz_diff.specs.Operations.{setting_of}
use Rattle.dz_diff.specs.States.{state_in}
use Rattle.dz_move.specs.declared.Rule.TheVariants as rules
use Rattle.dz_move.specs.Actions.{IsActionStop}
use Rattle.dz_move.specs.Parts.{IsPairRun}
use Rattle.dz_move.proofs.MemberLists.{if_err, if_ok}
use Rattle.dz_move.proofs.Outcomes.{broken_stop, living_at, not_less, nothing_at, pair_no_first, pair_no_pair, pair_no_second, pair_not_less, pair_ran, polynomial_at}
use Rattle.dz_move.proofs.pair_runs.placed_pair_run.Goals as goal

pub returns-then-first-second-clause-refused : goal.returns-then-first-second-clause-refused
returns-then-first-second-clause-refused c =
    let book = c.args.book.now in
    broken_stop _ 0 rules.Place _ c.broken.ensures (pair_not_less (setting_of book.ranking) (state_in book c.args.state.now) c.args.first c.args.second c.args.run.now (not_less c.args.first c.args.second c.if-first-second.true))

pub returns-in_default-clause-refused : goal.returns-in_default-clause-refused
returns-in_default-clause-refused c =
    let book = c.args.book.now in
    broken_stop _ 0 rules.Place _ c.broken-in_default.ensures (pair_no_first (setting_of book.ranking) (state_in book c.args.state.now) c.args.first c.args.second c.args.run.now (lt-ltb c.args.first c.args.second c.if-first-second.false)
    (nothing_at book c.args.state.now.equations _ c.args.first _ c.equations.ensures.items c.member_at.ensures c.in_default.is))

pub returns-in_default-member_at-clause-refused : goal.returns-in_default-member_at-clause-refused
returns-in_default-member_at-clause-refused c =
    let book = c.args.book.now in
    broken_stop _ 0 rules.Place _ c.broken-in_default-member_at.ensures (pair_no_second (setting_of book.ranking) (state_in book c.args.state.now) c.args.first c.args.second c.args.run.now (lt-ltb c.args.first c.args.second c.if-first-second.false)
    _ (polynomial_at book c.args.state.now.equations _ c.args.first _ c.equations.ensures.items c.member_at.ensures c.in-Some.p c.in-Some.is)
    (nothing_at book c.args.state.now.equations _ c.args.second _ c.equations-2.ensures.items c.member_at-2.ensures c.in_default-member_at.is))

pub is_pair-requires-clause-first : goal.is_pair-requires-clause-first
is_pair-requires-clause-first c = living_at c.args.book.now c.args.state.now.equations _ c.args.first _ c.equations.ensures.items c.member_at.ensures c.in-Some.p c.requires.equations_live c.in-Some.is

pub is_pair-requires-clause-second : goal.is_pair-requires-clause-second
is_pair-requires-clause-second c = living_at c.args.book.now c.args.state.now.equations _ c.args.second _ c.equations-2.ensures.items c.member_at-2.ensures c.in-Some-member_at.q c.requires.equations_live c.in-Some-member_at.is

pub returns-then-not-is_pair-clause-refused : goal.returns-then-not-is_pair-clause-refused
returns-then-not-is_pair-clause-refused c =
    let book = c.args.book.now in
    broken_stop _ 0 rules.Pair _ c.broken-then-not-is_pair.ensures (pair_no_pair (setting_of book.ranking) (state_in book c.args.state.now) c.args.first c.args.second c.args.run.now (lt-ltb c.args.first c.args.second c.if-first-second.false)
    _ (polynomial_at book c.args.state.now.equations _ c.args.first _ c.equations.ensures.items c.member_at.ensures c.in-Some.p c.in-Some.is)
    _ (polynomial_at book c.args.state.now.equations _ c.args.second _ c.equations-2.ensures.items c.member_at-2.ensures c.in-Some-member_at.q c.in-Some-member_at.is)
    (sym c.is_pair.ensures ∙ c.if-not-is_pair.true))

pub returns-clause-ok : goal.returns-clause-ok
returns-clause-ok c =
    let book = c.args.book.now in
    let s = state_in book c.args.state.now in
    if_ok _ _ c.pair_run.result (λ x h. subst (IsPairRun x) (sym (pair_ran (setting_of book.ranking) s c.args.first c.args.second c.args.run.now (lt-ltb c.args.first c.args.second c.if-first-second.false)
    _ (polynomial_at book c.args.state.now.equations _ c.args.first _ c.equations.ensures.items c.member_at.ensures c.in-Some.p c.in-Some.is)
    _ (polynomial_at book c.args.state.now.equations _ c.args.second _ c.equations-2.ensures.items c.member_at-2.ensures c.in-Some-member_at.q c.in-Some-member_at.is)
    (sym c.is_pair.ensures ∙ c.if-not-is_pair.false))) h) c.pair_run.ensures.ok

pub returns-clause-refused : goal.returns-clause-refused
returns-clause-refused c =
    let book = c.args.book.now in
    let s = state_in book c.args.state.now in
    if_err _ _ c.pair_run.result (λ stop h. subst (IsActionStop stop) (sym (pair_ran (setting_of book.ranking) s c.args.first c.args.second c.args.run.now (lt-ltb c.args.first c.args.second c.if-first-second.false)
    _ (polynomial_at book c.args.state.now.equations _ c.args.first _ c.equations.ensures.items c.member_at.ensures c.in-Some.p c.in-Some.is)
    _ (polynomial_at book c.args.state.now.equations _ c.args.second _ c.equations-2.ensures.items c.member_at-2.ensures c.in-Some-member_at.q c.in-Some-member_at.is)
    (sym c.is_pair.ensures ∙ c.if-not-is_pair.false))) h) c.pair_run.ensures.refused
