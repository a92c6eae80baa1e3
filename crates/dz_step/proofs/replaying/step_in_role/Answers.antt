use Rattle.std.proofs.Common.{◌≡◌, ◌∙◌, Some, ap, inr, sym, true}
use Rattle.dz_algebra.specs.Parts.{leader}
use Rattle.dz_diff.specs.Operations.{setting_of}
use Rattle.dz_diff.specs.State.{at_place}
use Rattle.dz_diff.specs.States.{state_in}
use Rattle.dz_step.specs.StepStops.{stop_of}
use Rattle.dz_step.specs.Step.{is_divisor, is_permitted, multiplier_answer, permitted_if, usable, step_in, step_answer}
use Rattle.dz_step.proofs.BookPlaces.{none_at, some_at, lives_at}
use Rattle.dz_step.proofs.RunEnds.{no_equation, no_leader, no_permission, has_permission}
use Rattle.dz_step.proofs.replaying.step_in_role.Goals as goal

pub returns-in_default-clause-refused : goal.returns-in_default-clause-refused
returns-in_default-clause-refused c =
    let book = c.args.book.now in
    let g = setting_of book.ranking in
    let s = state_in book c.args.state.now in
    let divisor : is_divisor c.args.role c.args.step.place ≡ true = sym c.lets_divide.ensures ∙ c.if-not-lets_divide.false in
    inr (ap stop_of (no_equation g s c.args.role c.args.f.now.terms c.args.step divisor (none_at book c.args.state.now.equations c.args.step.place (sym c.equation_at.ensures ∙ c.in_default.is))))

pub entry-q-requires : goal.entry-q-requires
entry-q-requires c = lives_at c.args.book.now c.args.state.now.equations c.args.step.place c.in-Some.p c.requires.stands.equations_live (sym c.equation_at.ensures ∙ c.in-Some.is)

pub returns-in_default-leader_of-clause-refused : goal.returns-in_default-leader_of-clause-refused
returns-in_default-leader_of-clause-refused c =
    let book = c.args.book.now in
    let g = setting_of book.ranking in
    let s = state_in book c.args.state.now in
    let divisor : is_divisor c.args.role c.args.step.place ≡ true = sym c.lets_divide.ensures ∙ c.if-not-lets_divide.false in
    let q = c.entry-q.result.now.terms in
    let there : at_place c.args.step.place s.equations ≡ Some q = some_at book c.args.state.now.equations c.args.step.place c.in-Some.p (sym c.equation_at.ensures ∙ c.in-Some.is) ∙ ap Some (sym c.entry-q.ensures.value) in
    inr (ap stop_of (no_leader g s c.args.role c.args.f.now.terms c.args.step divisor q there (sym (c.leader_of.ensures book.ranking c.entry-q.ensures.entry) ∙ c.in_default-leader_of.is)))

pub returns-then-not-branch-clause-refused : goal.returns-then-not-branch-clause-refused
returns-then-not-branch-clause-refused c =
    let book = c.args.book.now in
    let g = setting_of book.ranking in
    let s = state_in book c.args.state.now in
    let divisor : is_divisor c.args.role c.args.step.place ≡ true = sym c.lets_divide.ensures ∙ c.if-not-lets_divide.false in
    let q = c.entry-q.result.now.terms in
    let there : at_place c.args.step.place s.equations ≡ Some q = some_at book c.args.state.now.equations c.args.step.place c.in-Some.p (sym c.equation_at.ensures ∙ c.in-Some.is) ∙ ap Some (sym c.entry-q.ensures.value) in
    let l = c.in-Some-leader_of.lead in
    let leads : leader g.symbols q ≡ Some l = sym (c.leader_of.ensures book.ranking c.entry-q.ensures.entry) ∙ c.in-Some-leader_of.is in
    let permission : c.in_ok-is_granted.field-0 ≡ is_permitted g s c.args.role q l c.args.step.operator = c.in_ok-is_granted.ensures ∙ ap (λ w. permitted_if g.symbols (usable c.args.role s.inequations) (multiplier_answer g.symbols w l q)) c.which_of.ensures in
    inr (ap stop_of (no_permission g s c.args.role c.args.f.now.terms c.args.step divisor q there l leads (sym permission ∙ c.if-not-branch.true)))

pub returns-clause-ok : goal.returns-clause-ok
returns-clause-ok c =
    let book = c.args.book.now in
    let g = setting_of book.ranking in
    let s = state_in book c.args.state.now in
    let divisor : is_divisor c.args.role c.args.step.place ≡ true = sym c.lets_divide.ensures ∙ c.if-not-lets_divide.false in
    let q = c.entry-q.result.now.terms in
    let there : at_place c.args.step.place s.equations ≡ Some q = some_at book c.args.state.now.equations c.args.step.place c.in-Some.p (sym c.equation_at.ensures ∙ c.in-Some.is) ∙ ap Some (sym c.entry-q.ensures.value) in
    let l = c.in-Some-leader_of.lead in
    let leads : leader g.symbols q ≡ Some l = sym (c.leader_of.ensures book.ranking c.entry-q.ensures.entry) ∙ c.in-Some-leader_of.is in
    let permission : c.in_ok-is_granted.field-0 ≡ is_permitted g s c.args.role q l c.args.step.operator = c.in_ok-is_granted.ensures ∙ ap (λ w. permitted_if g.symbols (usable c.args.role s.inequations) (multiplier_answer g.symbols w l q)) c.which_of.ensures in
    let whole : step_in g s c.args.role c.args.f.now.terms c.args.step ≡ step_answer g c.args.f.now.terms q c.args.step.operator =
    has_permission g s c.args.role c.args.f.now.terms c.args.step divisor q there l leads (sym permission ∙ c.if-not-branch.false) in
    rw (whole, ← c.ranking.ensures) c.step_entry.ensures.ok

pub returns-clause-refused : goal.returns-clause-refused
returns-clause-refused c =
    let book = c.args.book.now in
    let g = setting_of book.ranking in
    let s = state_in book c.args.state.now in
    let divisor : is_divisor c.args.role c.args.step.place ≡ true = sym c.lets_divide.ensures ∙ c.if-not-lets_divide.false in
    let q = c.entry-q.result.now.terms in
    let there : at_place c.args.step.place s.equations ≡ Some q = some_at book c.args.state.now.equations c.args.step.place c.in-Some.p (sym c.equation_at.ensures ∙ c.in-Some.is) ∙ ap Some (sym c.entry-q.ensures.value) in
    let l = c.in-Some-leader_of.lead in
    let leads : leader g.symbols q ≡ Some l = sym (c.leader_of.ensures book.ranking c.entry-q.ensures.entry) ∙ c.in-Some-leader_of.is in
    let permission : c.in_ok-is_granted.field-0 ≡ is_permitted g s c.args.role q l c.args.step.operator = c.in_ok-is_granted.ensures ∙ ap (λ w. permitted_if g.symbols (usable c.args.role s.inequations) (multiplier_answer g.symbols w l q)) c.which_of.ensures in
    let whole : step_in g s c.args.role c.args.f.now.terms c.args.step ≡ step_answer g c.args.f.now.terms q c.args.step.operator =
    has_permission g s c.args.role c.args.f.now.terms c.args.step divisor q there l leads (sym permission ∙ c.if-not-branch.false) in
    rw (whole, ← c.ranking.ensures) c.step_entry.ensures.refused
