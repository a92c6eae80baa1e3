use Rattle.std.proofs.Common.{◌≡◌, ◌≤◌, ◌+◌, ◌∙◌, sym, subst, arith}
use Rattle.dz_poly.specs.Books.{polynomial}
use Rattle.dz_rank.specs.Rankings.{RankingValue}
use Rattle.dz_monomials.specs.Ranked.{symbols_under}
use Rattle.dz_diff.specs.Operations.{setting_of}
use Rattle.dz_diff.specs.States.{state_in}
use Rattle.dz_diff.proofs.MemberTests.{zero_by_length}
use Rattle.dz_algebra.specs.Outcome.{numbered}
use Rattle.dz_move.specs.Lines.{Evidence}
use Rattle.dz_tree.specs.Chain.{evidence_weight}
use Rattle.dz_tree.specs.Entering.{IsEntryFault}
use Rattle.dz_move.proofs.Outcomes.{living_at, nothing_at, polynomial_at}
use Rattle.dz_tree.proofs.RunWeights.{coherent_weight, not_coherent, not_empty, pair_at, run_below, run_stopped}
use Rattle.dz_tree.proofs.evidence.run_weight.Goals as goal

pub unreachable-requires : goal.unreachable-requires
unreachable-requires c =
    let book = c.args.book.now in
    not_empty c.args.first _ _ c.requires.pair.first_is (nothing_at book c.args.state.now.equations _ c.args.first _ c.equations.ensures.items c.member_at.ensures c.in_default.is)

pub unreachable-requires-in_default-member_at : goal.unreachable-requires-in_default-member_at
unreachable-requires-in_default-member_at c =
    let book = c.args.book.now in
    not_empty c.args.second _ _ c.requires.pair.second_is (nothing_at book c.args.state.now.equations _ c.args.second _ c.equations-2.ensures.items c.member_at-2.ensures c.in_default-member_at.is)

pub pair_run-requires-clause-first : goal.pair_run-requires-clause-first
pair_run-requires-clause-first c = living_at c.args.book.now c.args.state.now.equations _ c.args.first _ c.equations.ensures.items c.member_at.ensures c.in-Some.p c.requires.stands.equations_live c.in-Some.is

pub pair_run-requires-clause-second : goal.pair_run-requires-clause-second
pair_run-requires-clause-second c = living_at c.args.book.now c.args.state.now.equations _ c.args.second _ c.equations-2.ensures.items c.member_at-2.ensures c.in-Some-member_at.q c.requires.stands.equations_live c.in-Some-member_at.is

pub pair_run-requires-clause-pair : goal.pair_run-requires-clause-pair
pair_run-requires-clause-pair c =
    let book = c.args.book.now in
    let e : Evidence = record { first = c.args.first; second = c.args.second; steps = c.args.run.now } in
    let a = polynomial_at book c.args.state.now.equations _ c.args.first _ c.equations.ensures.items c.member_at.ensures c.in-Some.p c.in-Some.is in
    let b = polynomial_at book c.args.state.now.equations _ c.args.second _ c.equations-2.ensures.items c.member_at-2.ensures c.in-Some-member_at.q c.in-Some-member_at.is in
    pair_at (symbols_under book.ranking) (state_in book c.args.state.now).equations e c.requires.pair (polynomial book c.in-Some.p) (polynomial book c.in-Some-member_at.q) a b

pub returns-then-not-is_zero-clause-refused : goal.returns-then-not-is_zero-clause-refused
returns-then-not-is_zero-clause-refused c =
    let book = c.args.book.now in
    let e : Evidence = record { first = c.args.first; second = c.args.second; steps = c.args.run.now } in
    let a = polynomial_at book c.args.state.now.equations _ c.args.first _ c.equations.ensures.items c.member_at.ensures c.in-Some.p c.in-Some.is in
    let b = polynomial_at book c.args.state.now.equations _ c.args.second _ c.equations-2.ensures.items c.member_at-2.ensures c.in-Some-member_at.q c.in-Some-member_at.is in
    let h = c.in-Ok.ensures.ok in
    not_coherent (setting_of book.ranking) (state_in book c.args.state.now) e (polynomial book c.in-Some.p) (polynomial book c.in-Some-member_at.q) a b _ h.is c.args.line
    (sym (zero_by_length c.in-Ok.field-0.run.end.terms) ∙ sym c.is_zero.ensures ∙ c.if-not-is_zero.true)

pub returns-else-not-is_zero-clause-ok : goal.returns-else-not-is_zero-clause-ok
returns-else-not-is_zero-clause-ok c =
    let book = c.args.book.now in
    let e : Evidence = record { first = c.args.first; second = c.args.second; steps = c.args.run.now } in
    let a = polynomial_at book c.args.state.now.equations _ c.args.first _ c.equations.ensures.items c.member_at.ensures c.in-Some.p c.in-Some.is in
    let b = polynomial_at book c.args.state.now.equations _ c.args.second _ c.equations-2.ensures.items c.member_at-2.ensures c.in-Some-member_at.q c.in-Some-member_at.is in
    let one = pair_at (symbols_under book.ranking) (state_in book c.args.state.now).equations e c.requires.pair (polynomial book c.in-Some.p) (polynomial book c.in-Some-member_at.q) a b in
    let ranked : c.ranking.result.now ≡ book.ranking = c.ranking.ensures in
    let few : book.ranking.signature.independents ≤ 4 = subst (λ (r : RankingValue). r.signature.independents ≤ 4) ranked c.signature.ensures.ranking.few_independents in
    let h = c.in-Ok.ensures.ok in
    let counted = h.counted in (
      1 + c.in-Ok.field-0.terms + h.count,
      coherent_weight (setting_of book.ranking) (state_in book c.args.state.now) e (polynomial book c.in-Some.p) (polynomial book c.in-Some-member_at.q) a b _ h.is
          (sym (zero_by_length c.in-Ok.field-0.run.end.terms) ∙ sym c.is_zero.ensures ∙ c.if-not-is_zero.false)
          (run_below book few c.opened.ensures c.args.state.now c.requires.stands e (polynomial book c.in-Some.p) (polynomial book c.in-Some-member_at.q) a b one c.requires.operators _ h.is),
      omega (arith, counted, c.saturating_add.ensures, c.saturating_add-in-Ok.ensures),
    )

pub returns-in-Err-clause-refused : goal.returns-in-Err-clause-refused
returns-in-Err-clause-refused c =
    let book = c.args.book.now in
    let e : Evidence = record { first = c.args.first; second = c.args.second; steps = c.args.run.now } in
    let a = polynomial_at book c.args.state.now.equations _ c.args.first _ c.equations.ensures.items c.member_at.ensures c.in-Some.p c.in-Some.is in
    let b = polynomial_at book c.args.state.now.equations _ c.args.second _ c.equations-2.ensures.items c.member_at-2.ensures c.in-Some-member_at.q c.in-Some-member_at.is in
    subst (λ f. IsEntryFault f (numbered c.args.line (evidence_weight (setting_of book.ranking) (state_in book c.args.state.now) e))) (sym c.fault_at.ensures)
    (run_stopped (setting_of book.ranking) (state_in book c.args.state.now) e (polynomial book c.in-Some.p) (polynomial book c.in-Some-member_at.q) a b c.args.line c.in-Err.stop c.in-Err.ensures.refused)
