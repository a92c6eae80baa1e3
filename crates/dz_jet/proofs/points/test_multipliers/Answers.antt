use Rattle.std.proofs.Common.{◌≡◌, ◌∙◌, false, sym, subst, pos, inr}
use Rattle.std.proofs.lemmas.Result.{err_from_is_err_and}
use Rattle.dz_algebra.specs.Parts.{is_ground}
use Rattle.dz_algebra.specs.Size.{separant_answer}
use Rattle.dz_poly.specs.Books.{Gives, polynomial}
use Rattle.dz_poly.proofs.Books.{kept_polynomial}
use Rattle.dz_monomials.specs.Ranked.{symbols_under}
use Rattle.dz_diff.proofs.Leading.{led_not_ground}
use Rattle.dz_jet.specs.Jets.{value_in}
use Rattle.dz_jet.proofs.FoldSteps.{made_whole}
use Rattle.dz_jet.proofs.MultiplierSteps.{err_same, initial_tested, ok_same, separant_answered, separant_gives}
use Rattle.dz_jet.proofs.PointSteps.{initial_stops, no_leader, separant_stops}
use Rattle.dz_jet.proofs.points.test_multipliers.Goals as goal

pub returns-in_default-clause-value : goal.returns-in_default-clause-value
returns-in_default-clause-value c =
    no_leader (value_in (symbols_under c.args.book.now.ranking) c.args.values.now) (symbols_under c.args.book.now.ranking) c.args.place (polynomial c.args.book.now c.args.p) c.new.result (sym c.leader.ensures ∙ c.in_default.is) (made_whole c.new.result (pos 1) c.new.ensures.fraction c.new.ensures.value)

pub initial-requires-clause-led : goal.initial-requires-clause-led
initial-requires-clause-led c = led_not_ground c.args.book.now.ranking (polynomial c.args.book.now c.args.p) c.in-Some.lead (sym c.leader.ensures ∙ c.in-Some.is)

pub returns-in_err-test_part-clause-fault : goal.returns-in_err-test_part-clause-fault
returns-in_err-test_part-clause-fault c =
    let b = c.args.book.now in
    let led = sym c.leader.ensures ∙ c.in-Some.is in
    let p = err_from_is_err_and c.from_residual.result c.from_residual.ensures.1 in
    rw (p.1, p.2) (inr (initial_stops (value_in (symbols_under b.ranking) c.args.values.now) (symbols_under b.ranking) c.args.place (polynomial b c.args.p) c.in-Some.lead led c.in_err-test_part.field-0.0
    (sym c.in_err-test_part.was ∙ initial_tested b c.initial.new.book c.in-Ok.ensures.kept c.args.values.now c.args.place c.args.p c.in-Some.lead led c.in-Ok.initial c.test_part.result c.in-Ok.ensures.value c.test_part.ensures)))

pub separant-requires-clause-led : goal.separant-requires-clause-led
separant-requires-clause-led c =
    let b = c.args.book.now in
    subst (λ q. is_ground (symbols_under c.initial.new.book.ranking) q ≡ false) (sym (kept_polynomial b c.initial.new.book c.args.p c.in-Ok.ensures.kept c.requires.lives))
    (subst (λ r. is_ground (symbols_under r) (polynomial b c.args.p) ≡ false) (sym c.in-Ok.ensures.kept.ranking) (led_not_ground b.ranking (polynomial b c.args.p) c.in-Some.lead (sym c.leader.ensures ∙ c.in-Some.is)))

pub returns-in-Ok-separant-clause-value : goal.returns-in-Ok-separant-clause-value
returns-in-Ok-separant-clause-value c =
    let b = c.args.book.now in
    let led = sym c.leader.ensures ∙ c.in-Some.is in
    let passes = sym c.in_ok-test_part.was ∙ initial_tested b c.initial.new.book c.in-Ok.ensures.kept c.args.values.now c.args.place c.args.p c.in-Some.lead led c.in-Ok.initial c.test_part.result c.in-Ok.ensures.value c.test_part.ensures in
    let gives = separant_gives b c.initial.new.book c.separant.new.book c.args.p c.in-Some.lead c.requires.lives c.in-Ok.ensures.kept led c.separant.result c.separant.ensures.separant in
    ok_same _ c.test_part-in-Ok-separant.result (separant_answered b c.initial.new.book c.in-Ok.ensures.kept c.args.values.now c.args.place c.args.p c.in-Some.lead led c.separant.new.book c.in-Ok-separant.ensures.kept c.in_ok-test_part.field-0 passes c.in-Ok-separant.separant c.test_part-in-Ok-separant.result
    (subst (λ x. Gives c.separant.new.book x (separant_answer (symbols_under b.ranking) c.in-Some.lead (polynomial b c.args.p))) c.in-Ok-separant.is gives) c.test_part-in-Ok-separant.ensures)

pub returns-in-Ok-separant-clause-fault : goal.returns-in-Ok-separant-clause-fault
returns-in-Ok-separant-clause-fault c =
    let b = c.args.book.now in
    let led = sym c.leader.ensures ∙ c.in-Some.is in
    let passes = sym c.in_ok-test_part.was ∙ initial_tested b c.initial.new.book c.in-Ok.ensures.kept c.args.values.now c.args.place c.args.p c.in-Some.lead led c.in-Ok.initial c.test_part.result c.in-Ok.ensures.value c.test_part.ensures in
    let gives = separant_gives b c.initial.new.book c.separant.new.book c.args.p c.in-Some.lead c.requires.lives c.in-Ok.ensures.kept led c.separant.result c.separant.ensures.separant in
    err_same _ c.test_part-in-Ok-separant.result (separant_answered b c.initial.new.book c.in-Ok.ensures.kept c.args.values.now c.args.place c.args.p c.in-Some.lead led c.separant.new.book c.in-Ok-separant.ensures.kept c.in_ok-test_part.field-0 passes c.in-Ok-separant.separant c.test_part-in-Ok-separant.result
    (subst (λ x. Gives c.separant.new.book x (separant_answer (symbols_under b.ranking) c.in-Some.lead (polynomial b c.args.p))) c.in-Ok-separant.is gives) c.test_part-in-Ok-separant.ensures)

pub returns-in-Err-clause-fault : goal.returns-in-Err-clause-fault
returns-in-Err-clause-fault c =
    let b = c.args.book.now in
    let led = sym c.leader.ensures ∙ c.in-Some.is in
    let passes = sym c.in_ok-test_part.was ∙ initial_tested b c.initial.new.book c.in-Ok.ensures.kept c.args.values.now c.args.place c.args.p c.in-Some.lead led c.in-Ok.initial c.test_part.result c.in-Ok.ensures.value c.test_part.ensures in
    let gives = separant_gives b c.initial.new.book c.separant.new.book c.args.p c.in-Some.lead c.requires.lives c.in-Ok.ensures.kept led c.separant.result c.separant.ensures.separant in
    separant_stops (value_in (symbols_under b.ranking) c.args.values.now) (symbols_under b.ranking) c.args.place (polynomial b c.args.p) c.in-Some.lead led c.in_ok-test_part.field-0 passes c.separant_fault.result
    (c.separant_fault.ensures (separant_answer (symbols_under b.ranking) c.in-Some.lead (polynomial b c.args.p)) (subst (λ x. Gives c.separant.new.book x (separant_answer (symbols_under b.ranking) c.in-Some.lead (polynomial b c.args.p))) c.in-Err.is gives))
