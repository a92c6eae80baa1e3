use Rattle.std.proofs.Common.{◌+◌, ◌∙◌, ◌++◌, [], ◌∷◌, ℕ, List, length, ap, ap₂, sym, arith}
use Rattle.dz_diff.specs.Operations.{setting_of}
use Rattle.dz_diff.specs.State.{State}
use Rattle.dz_diff.specs.States.{polynomials, state_in}
use Rattle.dz_move.specs.declared.fault.MoveFault.TheVariants.{NotPermitted}
use Rattle.dz_move.specs.declared.Rule.TheVariants as rules
use Rattle.dz_move.specs.Moves.{settled}
use Rattle.dz_move.proofs.Outcomes.{appended_are, appended_live, broken_stop, grown_added, grown_not_added, names_are, names_live, state_is}
use Rattle.dz_move.proofs.moves.grown_to.Goals as goal

pub returns-then-not-may_be_added-clause-refused : goal.returns-then-not-may_be_added-clause-refused
returns-then-not-may_be_added-clause-refused c =
    let book = c.args.book.now in
    let h = c.requires.ran in
    broken_stop _ (length c.args.run.now) rules.End _ (c.broken.ensures ∙ ap (λ (n : ℕ). record { steps = n; fault = NotPermitted rules.End }) c.len.ensures)
    (grown_not_added (setting_of book.ranking) (state_in book c.args.state.now) c.args.first c.args.second c.args.run.now (record { terms = c.args.ran.terms; ran = record { end = c.args.ran.run.end.terms; count = h.count } }) h.is (sym c.may_be_added.ensures ∙ c.if-not-may_be_added.true))

pub returns-clause-ok : goal.returns-clause-ok
returns-clause-ok c =
    let book = c.args.book.now in
    let new = c.keep.new.self in
    let s = state_in book c.args.state.now in
    let h = c.requires.ran in
    let end = c.args.ran.run.end.terms in
    let keeps = c.in_ok-end.ensures.kept in
    let es = c.in_ok-appended.ensures ∙ ap (λ (ps : List ℕ). ps ++ c.in_ok-end.end ∷ []) c.equations.ensures.items in
    let hs = c.in_ok-names.ensures ∙ c.inequations.ensures.items in
    let state = state_is new c.in_ok-appended.field-0.items c.in_ok-names.field-0.items (polynomials book c.args.state.now.equations ++ end ∷ []) (polynomials book c.args.state.now.inequations) c.splits.result c.args.state.now.splits
    (appended_are book new keeps c.args.state.now.equations c.in_ok-appended.field-0.items c.in_ok-end.end end c.requires.stands.equations_live c.in_ok-end.ensures.ok es)
    (names_are book new keeps c.args.state.now.inequations c.in_ok-names.field-0.items c.requires.stands.inequations_live hs) c.splits.ensures in
    record {
      weight = 1 + c.args.ran.terms + h.count;
      is = grown_added (setting_of book.ranking) s c.args.first c.args.second c.args.run.now (record { terms = c.args.ran.terms; ran = record { end = end; count = h.count } }) h.is (sym c.may_be_added.ensures ∙ c.if-not-may_be_added.false)
          ∙ ap₂ (λ (k : ℕ) (t : State). settled k (t ∷ []) (1 + c.args.ran.terms + h.count)) (sym c.len-2.ensures) (sym state);
      weighs = let a = h.counted in omega (arith, a, c.saturating_add.ensures, c.saturating_add-2.ensures);
      stand = record {
        equations_live = appended_live book new keeps c.args.state.now.equations c.in_ok-appended.field-0.items c.in_ok-end.end end c.requires.stands.equations_live c.in_ok-end.ensures.ok es;
        inequations_live = names_live book new keeps c.args.state.now.inequations c.in_ok-names.field-0.items c.requires.stands.inequations_live hs;
      };
    }
