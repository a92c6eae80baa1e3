use Rattle.std.proofs.Common.{◌≡◌, ◌+◌, ◌∙◌, ◌++◌, [], ◌∷◌, ℕ, suc, List, length, ap, ap₂, sym, subst, arith}
use Rattle.std.proofs.lemmas.Result.{err_from_is_err_and}
use Rattle.dz_monomials.specs.Ranked.{symbols_under}
use Rattle.dz_diff.specs.Operations.{setting_of}
use Rattle.dz_algebra.specs.Polynomial.{Polynomial}
use Rattle.dz_rank.specs.declared.symbols.Symbol.{Symbol}
use Rattle.dz_monomials.specs.Stops.{IsStop}
use Rattle.dz_diff.specs.State.{State}
use Rattle.dz_move.proofs.NewNorms.{norm_ground}
use Rattle.dz_diff.specs.States.{state_in}
use Rattle.dz_algebra.specs.Parts.{leader}
use Rattle.dz_step.specs.Step.{multiplier_answer}
use Rattle.dz_move.specs.declared.Rule.TheVariants as rules
use Rattle.dz_move.specs.Moves.{settled, forked}
use Rattle.dz_move.specs.Parts.{is_new}
use Rattle.dz_move.proofs.Outcomes.{appended_are, appended_live, broken_stop, living_at, names_are, names_live, nothing_at, polynomial_at, split_ground, split_nowhere, split_not_new, split_on_new, split_refused, state_is}
use Rattle.dz_move.proofs.forks.split.Goals as goal

pub returns-in_default-clause-refused : goal.returns-in_default-clause-refused
returns-in_default-clause-refused c =
    let book = c.args.book.now in
    broken_stop _ 0 rules.Place _ c.broken.ensures (split_nowhere (setting_of book.ranking) (state_in book c.args.state.now) c.args.place c.args.which (nothing_at book c.args.state.now.equations _ c.args.place _ c.equations.ensures.items c.member_at.ensures c.in_default.is))

pub entry-requires : goal.entry-requires
entry-requires c = living_at c.args.book.now c.args.state.now.equations _ c.args.place _ c.equations.ensures.items c.member_at.ensures c.in-Some.p c.requires.stands.equations_live c.in-Some.is

pub returns-in_default-leader_of-clause-refused : goal.returns-in_default-leader_of-clause-refused
returns-in_default-leader_of-clause-refused c =
    let book = c.args.book.now in
    let there = polynomial_at book c.args.state.now.equations _ c.args.place _ c.equations.ensures.items c.member_at.ensures c.in-Some.p c.in-Some.is in
    broken_stop _ 0 rules.Fork _ c.broken-in_default-leader_of.ensures (split_ground (setting_of book.ranking) (state_in book c.args.state.now) c.args.place c.args.which _ there
    (ap (leader (symbols_under book.ranking)) (sym c.entry.ensures.value) ∙ sym (c.leader_of.ensures book.ranking c.entry.ensures.entry) ∙ c.in_default-leader_of.is))

pub returns-in_err-multiplier-clause-refused : goal.returns-in_err-multiplier-clause-refused
returns-in_err-multiplier-clause-refused c =
    let book = c.args.book.now in
    let there = polynomial_at book c.args.state.now.equations _ c.args.place _ c.equations.ensures.items c.member_at.ensures c.in-Some.p c.in-Some.is in
    let y = err_from_is_err_and c.from_residual.result c.from_residual.ensures.1 in
    rw (y.1, y.2)
    (split_refused (setting_of book.ranking) (state_in book c.args.state.now) c.args.place c.args.which _ there c.in-Some-leader_of.lead
    (ap (leader (symbols_under book.ranking)) (sym c.entry.ensures.value) ∙ sym (c.leader_of.ensures book.ranking c.entry.ensures.entry) ∙ c.in-Some-leader_of.is) _
    (subst (λ (p : Polynomial Symbol). IsStop c.in_err-multiplier.field-0.0 (multiplier_answer (symbols_under book.ranking) c.args.which c.in-Some-leader_of.lead p)) c.entry-2.ensures.value
    (subst (λ r. IsStop c.in_err-multiplier.field-0.0 (multiplier_answer (symbols_under r) c.args.which c.in-Some-leader_of.lead c.entry-2.result.now.terms)) c.ranking.ensures c.in_err-multiplier.ensures)))

pub returns-then-not-is_new-clause-refused : goal.returns-then-not-is_new-clause-refused
returns-then-not-is_new-clause-refused c =
    let book = c.args.book.now in
    let there = polynomial_at book c.args.state.now.equations _ c.args.place _ c.equations.ensures.items c.member_at.ensures c.in-Some.p c.in-Some.is in
    let m = c.in_ok-multiplier.multiplier.terms in
    broken_stop _ 0 rules.Fork _ c.broken-then-not-is_new.ensures
    (split_not_new (setting_of book.ranking) (state_in book c.args.state.now) c.args.place c.args.which _ there c.in-Some-leader_of.lead
    (ap (leader (symbols_under book.ranking)) (sym c.entry.ensures.value) ∙ sym (c.leader_of.ensures book.ranking c.entry.ensures.entry) ∙ c.in-Some-leader_of.is) m
    (ap₂ (λ r p. multiplier_answer (symbols_under r) c.args.which c.in-Some-leader_of.lead p) (sym c.ranking.ensures) (sym c.entry-2.ensures.value) ∙ c.in_ok-multiplier.ensures.ok)
    (norm_ground book.ranking m) (ap (is_new (symbols_under book.ranking) (state_in book c.args.state.now)) (sym c.into_norm-norm.ensures.terms) ∙ sym c.is_new.ensures ∙ c.if-not-is_new.true))

pub returns-clause-ok : goal.returns-clause-ok
returns-clause-ok c =
    let book = c.args.book.now in
    let new = c.keep.new.self in
    let s = state_in book c.args.state.now in
    let there = polynomial_at book c.args.state.now.equations _ c.args.place _ c.equations.ensures.items c.member_at.ensures c.in-Some.p c.in-Some.is in
    let m = c.in_ok-multiplier.multiplier.terms in
    let h = c.into_norm-norm.result.terms in
    let keeps = c.in_ok-norm.ensures.kept in
    let p = c.in_ok-norm.norm in
    let stands = c.requires.stands in
    let es = c.in_ok-names.ensures ∙ c.equations-2.ensures.items in
    let hs = c.in_ok-appended.ensures ∙ ap (λ (ps : List ℕ). ps ++ p ∷ []) c.inequations.ensures.items in
    let es2 = c.in_ok-appended-2.ensures ∙ ap (λ (ps : List ℕ). ps ++ p ∷ []) c.equations-3.ensures.items in
    let hs2 = c.in_ok-names-2.ensures ∙ c.inequations-2.ensures.items in
    let n1 : c.splits.result + 1 ≡ suc c.args.state.now.splits = omega (arith, c.splits.ensures) in
    let n2 : c.splits-2.result + 1 ≡ suc c.args.state.now.splits = omega (arith, c.splits-2.ensures) in
    let first = state_is new c.in_ok-names.field-0.items c.in_ok-appended.field-0.items s.equations (s.inequations ++ h ∷ []) (c.splits.result + 1) (suc c.args.state.now.splits)
    (names_are book new keeps c.args.state.now.equations c.in_ok-names.field-0.items stands.equations_live es)
    (appended_are book new keeps c.args.state.now.inequations c.in_ok-appended.field-0.items p h stands.inequations_live c.in_ok-norm.ensures.ok hs) n1 in
    let second = state_is new c.in_ok-appended-2.field-0.items c.in_ok-names-2.field-0.items (s.equations ++ h ∷ []) s.inequations (c.splits-2.result + 1) (suc c.args.state.now.splits)
    (appended_are book new keeps c.args.state.now.equations c.in_ok-appended-2.field-0.items p h stands.equations_live c.in_ok-norm.ensures.ok es2)
    (names_are book new keeps c.args.state.now.inequations c.in_ok-names-2.field-0.items stands.inequations_live hs2) n2 in
    record {
      weight = 1 + length h;
      is = split_on_new (setting_of book.ranking) s c.args.place c.args.which _ there c.in-Some-leader_of.lead
          (ap (leader (symbols_under book.ranking)) (sym c.entry.ensures.value) ∙ sym (c.leader_of.ensures book.ranking c.entry.ensures.entry) ∙ c.in-Some-leader_of.is) m
          (ap₂ (λ r p. multiplier_answer (symbols_under r) c.args.which c.in-Some-leader_of.lead p) (sym c.ranking.ensures) (sym c.entry-2.ensures.value) ∙ c.in_ok-multiplier.ensures.ok)
          (norm_ground book.ranking m) (ap (is_new (symbols_under book.ranking) s) (sym c.into_norm-norm.ensures.terms) ∙ sym c.is_new.ensures ∙ c.if-not-is_new.false)
          ∙ ap (λ (h : Polynomial Symbol). settled 0 (forked s s.equations (s.inequations ++ h ∷ []) ∷ forked s (s.equations ++ h ∷ []) s.inequations ∷ []) (1 + length h)) (sym c.into_norm-norm.ensures.terms)
          ∙ ap₂ (λ (t u : State). settled 0 (t ∷ u ∷ []) (1 + length h)) (sym first) (sym second);
      weighs = omega (arith, c.term_count.ensures, c.saturating_add-weight.ensures);
      stand = (
        record { equations_live = names_live book new keeps c.args.state.now.equations c.in_ok-names.field-0.items stands.equations_live es; inequations_live = appended_live book new keeps c.args.state.now.inequations c.in_ok-appended.field-0.items p h stands.inequations_live c.in_ok-norm.ensures.ok hs },
        record { equations_live = appended_live book new keeps c.args.state.now.equations c.in_ok-appended-2.field-0.items p h stands.equations_live c.in_ok-norm.ensures.ok es2; inequations_live = names_live book new keeps c.args.state.now.inequations c.in_ok-names-2.field-0.items stands.inequations_live hs2 },
      );
    }
