use Rattle.std.proofs.Common.{◌∙◌, ◌-◌, sym, ap, arith, false, true}
use Rattle.dz_diff.specs.Operations.{setting_of}
use Rattle.dz_diff.specs.States.{state_in}
use Rattle.dz_step.specs.declared.Role.TheVariants.{Free}
use Rattle.dz_step.specs.FullRun.{full_run}
use Rattle.dz_step.proofs.FullRuns.{full_run_low}
use Rattle.dz_engine.proofs.Findings.{empty_tested}
use Rattle.dz_engine.proofs.PairWays.{grown_course, stop_course, zero_course}
use Rattle.dz_engine.proofs.pairing.delta_course.Goals as goal

pub overflow_add-result-in-Ok : goal.overflow_add-result-in-Ok
overflow_add-result-in-Ok c =
    let g = setting_of c.args.book.now.ranking in
    let s = state_in c.args.book.now c.args.state.now in
    let d = c.args.delta.terms in
    let low = full_run_low g s Free (c.args.left - 1 - c.term_count-terms.result) d c.in-Ok.field-0.run c.in-Ok.field-0.end.terms c.in-Ok.field-0.count (c.in-Ok.ensures.finished d c.into_norm.ensures.terms) in
    omega (arith, low, c.if-terms-left.false, c.ranges.left)

pub returns-else-not-is_zero-clause-course : goal.returns-else-not-is_zero-clause-course
returns-else-not-is_zero-clause-course c = λ budget w i j low left_is delta_is pair.
    let g = setting_of c.args.book.now.ranking in
    let s = state_in c.args.book.now c.args.state.now in
    let d = c.args.delta.terms in
    zero_course g budget w s i j d low delta_is c.args.left left_is (omega (arith, c.if-terms-left.false, c.term_count-terms.ensures)) c.in-Ok.field-0.run c.in-Ok.field-0.end.terms c.in-Ok.field-0.count _
    (ap (λ n. full_run g s Free (c.args.left - 1 - n) d) (sym c.term_count-terms.ensures) ∙ c.in-Ok.ensures.finished d c.into_norm.ensures.terms)
    (sym (empty_tested c.in-Ok.field-0.end.terms true c.if-not-is_zero.ensures)) (omega (arith, c.term_count-terms.ensures))

pub returns-in_ok-halt-in-Err-clause-course : goal.returns-in_ok-halt-in-Err-clause-course
returns-in_ok-halt-in-Err-clause-course c = λ budget w i j low left_is delta_is pair.
    let g = setting_of c.args.book.now.ranking in
    let s = state_in c.args.book.now c.args.state.now in
    let d = c.args.delta.terms in
    let course = full_run g s Free (c.args.left - 1 - c.term_count-terms.result) d in
    stop_course g budget w s i j d low delta_is c.args.left left_is (omega (arith, c.if-terms-left.false, c.term_count-terms.ensures)) course
    (ap (λ n. full_run g s Free (c.args.left - 1 - n) d) (sym c.term_count-terms.ensures)) c.pair_halt.result
    (c.pair_halt.ensures.stop course (c.in_ok-halt-in-Err.ensures course (c.in-Err.ensures.stopped d c.into_norm.ensures.terms)))

pub returns-then-not-is_zero-clause-course : goal.returns-then-not-is_zero-clause-course
returns-then-not-is_zero-clause-course c = λ budget w i j low left_is delta_is pair.
    let g = setting_of c.args.book.now.ranking in
    let s = state_in c.args.book.now c.args.state.now in
    let d = c.args.delta.terms in
    let end = c.in-Ok.field-0.end in
    let count = full_run_low g s Free (c.args.left - 1 - c.term_count-terms.result) d c.in-Ok.field-0.run end.terms c.in-Ok.field-0.count (c.in-Ok.ensures.finished d c.into_norm.ensures.terms) in
    grown_course g budget w s i j d low delta_is c.args.left left_is (omega (arith, c.if-terms-left.false, c.term_count-terms.ensures)) pair c.in-Ok.field-0.run (record { terms = c.term_count-terms.result; run = record { end = end; count = c.in-Ok.field-0.count } }) c.term_count-terms.ensures (omega (arith, count, c.ranges.left))
    (ap (λ n. full_run g s Free (c.args.left - 1 - n) d) (sym c.term_count-terms.ensures) ∙ c.in-Ok.ensures.finished d c.into_norm.ensures.terms)
    (sym (empty_tested end.terms false c.if-not-is_zero.ensures))

pub returns-in_ok-halt-in-Err-clause-entry : goal.returns-in_ok-halt-in-Err-clause-entry
returns-in_ok-halt-in-Err-clause-entry c = c.pair_halt.ensures.entry c.args.book.now.ranking
