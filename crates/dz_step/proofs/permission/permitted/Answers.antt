use Rattle.std.proofs.Common.{◌≡◌, ◌∙◌, ap, sym, subst}
use Rattle.std.specs.Prelude.{IfOk}
use Rattle.dz_diff.specs.Operations.{setting_of}
use Rattle.dz_diff.specs.States.{state_in}
use Rattle.dz_step.specs.Permission.{is_permitted_at}
use Rattle.dz_step.specs.Step.{is_permitted, multiplier_answer, permitted_if, usable}
use Rattle.dz_step.proofs.BookPlaces.{lives_at, permitted_nowhere, permitted_unled, permitted_led}
use Rattle.dz_step.proofs.permission.permitted.Goals as goal

pub returns-in_default : goal.returns-in_default
returns-in_default c = permitted_nowhere c.args.book.now c.args.state.now c.args.role c.args.j c.args.operator (sym c.equation_at.ensures ∙ c.in_default.is)

pub entry-q-requires : goal.entry-q-requires
entry-q-requires c = lives_at c.args.book.now c.args.state.now.equations c.args.j c.in-Some.p c.requires.equations_live (sym c.equation_at.ensures ∙ c.in-Some.is)

pub returns-in_default-leader_of : goal.returns-in_default-leader_of
returns-in_default-leader_of c =
    permitted_unled c.args.book.now c.args.state.now c.args.role c.args.j c.args.operator c.in-Some.p c.entry-q.result.now.terms (sym c.equation_at.ensures ∙ c.in-Some.is) c.entry-q.ensures.value
    (sym (c.leader_of.ensures c.args.book.now.ranking c.entry-q.ensures.entry) ∙ c.in_default-leader_of.is)

pub returns : goal.returns
returns c =
    let g = setting_of c.args.book.now.ranking in
    let s = state_in c.args.book.now c.args.state.now in
    let q = c.entry-q.result.now.terms in
    let l = c.in-Some-leader_of.lead in
    let whole : is_permitted g s c.args.role q l c.args.operator ≡ is_permitted_at g s c.args.role c.args.j c.args.operator =
    permitted_led c.args.book.now c.args.state.now c.args.role c.args.j c.args.operator c.in-Some.p q (sym c.equation_at.ensures ∙ c.in-Some.is) c.entry-q.ensures.value l
    (sym (c.leader_of.ensures c.args.book.now.ranking c.entry-q.ensures.entry) ∙ c.in-Some-leader_of.is) in
    let which : permitted_if g.symbols (usable c.args.role s.inequations) (multiplier_answer g.symbols c.which_of.result l q) ≡ is_permitted_at g s c.args.role c.args.j c.args.operator =
    ap (λ w. permitted_if g.symbols (usable c.args.role s.inequations) (multiplier_answer g.symbols w l q)) c.which_of.ensures ∙ whole in
    subst (λ b. IfOk c.is_granted.result (λ a. a ≡ b)) which c.is_granted.ensures
