use Rattle.std.proofs.Common.{◌+◌, ◌∙◌, sym, ap, arith}
use Rattle.std.proofs.lemmas.Bool.{lt-ltb}
use Rattle.dz_diff.specs.Operations.{setting_of}
use Rattle.dz_diff.specs.States.{state_in}
use Rattle.dz_step.specs.declared.replaying.RunEnd.{RunEnd}
use Rattle.dz_move.proofs.OpenWeights.{no_first_weight, no_pair_weight, no_second_weight, not_less_weight, refused_weight, run_weight, stopped_not_ok}
use Rattle.dz_move.proofs.Outcomes.{living_at, not_less, nothing_at, polynomial_at}
use Rattle.dz_move.proofs.pair_runs.open_weight.Goals as goal

pub returns-then-first-second : goal.returns-then-first-second
returns-then-first-second c = not_less_weight (setting_of c.args.book.now.ranking) (state_in c.args.book.now c.args.state.now) c.args.first c.args.second c.args.run.now (not_less c.args.first c.args.second c.if-first-second.true)

pub returns-in_default : goal.returns-in_default
returns-in_default c =
    let book = c.args.book.now in
    no_first_weight (setting_of book.ranking) (state_in book c.args.state.now) c.args.first c.args.second c.args.run.now (nothing_at book c.args.state.now.equations _ c.args.first _ c.equations.ensures.items c.member_at.ensures c.in_default.is)

pub returns-in_default-member_at : goal.returns-in_default-member_at
returns-in_default-member_at c =
    let book = c.args.book.now in
    no_second_weight (setting_of book.ranking) (state_in book c.args.state.now) c.args.first c.args.second c.args.run.now _ (polynomial_at book c.args.state.now.equations _ c.args.first _ c.equations.ensures.items c.member_at.ensures c.in-Some.p c.in-Some.is)
    (nothing_at book c.args.state.now.equations _ c.args.second _ c.equations-2.ensures.items c.member_at-2.ensures c.in_default-member_at.is)

pub is_pair-requires-clause-first : goal.is_pair-requires-clause-first
is_pair-requires-clause-first c = living_at c.args.book.now c.args.state.now.equations _ c.args.first _ c.equations.ensures.items c.member_at.ensures c.in-Some.p c.requires.equations_live c.in-Some.is

pub is_pair-requires-clause-second : goal.is_pair-requires-clause-second
is_pair-requires-clause-second c = living_at c.args.book.now c.args.state.now.equations _ c.args.second _ c.equations-2.ensures.items c.member_at-2.ensures c.in-Some-member_at.q c.requires.equations_live c.in-Some-member_at.is

pub returns-then-not-is_pair : goal.returns-then-not-is_pair
returns-then-not-is_pair c =
    let book = c.args.book.now in
    no_pair_weight (setting_of book.ranking) (state_in book c.args.state.now) c.args.first c.args.second c.args.run.now
    _ (polynomial_at book c.args.state.now.equations _ c.args.first _ c.equations.ensures.items c.member_at.ensures c.in-Some.p c.in-Some.is)
    _ (polynomial_at book c.args.state.now.equations _ c.args.second _ c.equations-2.ensures.items c.member_at-2.ensures c.in-Some-member_at.q c.in-Some-member_at.is)
    (sym c.is_pair.ensures ∙ c.if-not-is_pair.true)

pub returns-in-Ok : goal.returns-in-Ok
returns-in-Ok c =
    let book = c.args.book.now in
    let h = c.in-Ok.ensures.ok in (
      1 + c.in-Ok.field-0.terms + h.count,
      run_weight (setting_of book.ranking) (state_in book c.args.state.now) c.args.first c.args.second c.args.run.now
          _ (polynomial_at book c.args.state.now.equations _ c.args.first _ c.equations.ensures.items c.member_at.ensures c.in-Some.p c.in-Some.is)
          _ (polynomial_at book c.args.state.now.equations _ c.args.second _ c.equations-2.ensures.items c.member_at-2.ensures c.in-Some-member_at.q c.in-Some-member_at.is)
          (lt-ltb c.args.first c.args.second c.if-first-second.false) (sym c.is_pair.ensures ∙ c.if-not-is_pair.false) _ h.is,
      (let a = h.counted in let b = ap (λ (r : RunEnd). r.count) c.in-Ok.run-is in omega (arith, a, b, c.in-Ok.terms-is, c.saturating_add.ensures, c.saturating_add-in-Ok.ensures)),
    )

pub returns-in_default-fault : goal.returns-in_default-fault
returns-in_default-fault c =
    let book = c.args.book.now in
    refused_weight (setting_of book.ranking) (state_in book c.args.state.now) c.args.first c.args.second c.args.run.now
    _ (polynomial_at book c.args.state.now.equations _ c.args.first _ c.equations.ensures.items c.member_at.ensures c.in-Some.p c.in-Some.is)
    _ (polynomial_at book c.args.state.now.equations _ c.args.second _ c.equations-2.ensures.items c.member_at-2.ensures c.in-Some-member_at.q c.in-Some-member_at.is)
    (lt-ltb c.args.first c.args.second c.if-first-second.false) (sym c.is_pair.ensures ∙ c.if-not-is_pair.false)
    (stopped_not_ok c.in-Err.stop _ c.in-Err.ensures.refused c.in_default-fault.not-Memory)
