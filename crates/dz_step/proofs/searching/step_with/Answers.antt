use Rattle.std.proofs.Common.{rules, ◌≡◌, ◌<◌, ◌∙◌, suc, length, slice_index_or, [], ◌+◌, Some, arith, ap, sym, subst}
use Rattle.std.proofs.lemmas.Grind.{common_steps}
use Rattle.dz_diff.specs.States.{state_in}
use Rattle.dz_poly.specs.Books.{Lives, polynomial}
use Rattle.dz_step.specs.Divisors.{IsDivisorOf, is_multiplier}
use Rattle.dz_step.specs.Step.{multiplier_of, usable}
use Rattle.dz_step.proofs.DivisorTables.{divisors_length, nothing_here, divisor_here, divisor_put, no_divisor, no_operator, degree_low, not_granted, step_found, polynomial_here, polynomials_length, lives_here}
use Rattle.dz_step.proofs.searching.step_with.Goals as goal

pub returns-in_default-clause-step : goal.returns-in_default-clause-step
returns-in_default-clause-step c f e =
    let r = c.args.book.now.ranking in
    let s = state_in c.args.book.now c.args.state.now in
    no_divisor r s c.args.role f c.args.v (suc c.args.i) (slice_index_or s.equations c.args.i []) (nothing_here r s c.args.role c.args.table.now.items c.requires.table c.args.i c.index.result.now c.requires.inside c.index.ensures c.in_default.not-Some)

pub returns-in_default-quotient-clause-step : goal.returns-in_default-quotient-clause-step
returns-in_default-quotient-clause-step c f e =
    let r = c.args.book.now.ranking in
    let s = state_in c.args.book.now c.args.state.now in
    let h = divisor_here r s c.args.role c.args.table.now.items c.requires.table c.args.i c.index.result.now c.requires.inside c.index.ensures c.in-Some.divisor c.in-Some.is in
    no_operator r s c.args.role f c.args.v (suc c.args.i) (slice_index_or s.equations c.args.i []) c.in-Some.divisor h.1 c.requires.four (c.in_default-quotient.ensures)

pub returns-then-d-least_degree-clause-step : goal.returns-then-d-least_degree-clause-step
returns-then-d-least_degree-clause-step c f e =
    let r = c.args.book.now.ranking in
    let s = state_in c.args.book.now c.args.state.now in
    let h = divisor_here r s c.args.role c.args.table.now.items c.requires.table c.args.i c.index.result.now c.requires.inside c.index.ensures c.in-Some.divisor c.in-Some.is in
    let four : length c.in-Some-quotient.operator.counts ≡ 4 = first_of (search rules, grind (arith, common_steps)) in
    degree_low r s c.args.role f c.args.v (suc c.args.i) (slice_index_or s.equations c.args.i []) c.in-Some.divisor h.1 c.in-Some-quotient.operator four c.in-Some-quotient.ensures
    c.args.d c.least_degree.result e (c.least_degree.ensures r (usable c.args.role s.inequations) (slice_index_or s.equations c.args.i []) h.1) c.if-d-least_degree.true

pub bounds-equations-i : goal.bounds-equations-i
bounds-equations-i c =
    let r = c.args.book.now.ranking in
    let s = state_in c.args.book.now c.args.state.now in
    let l = divisors_length r s c.args.role c.args.table.now.items c.requires.table in
    let n = polynomials_length c.args.book.now c.args.state.now.equations in
    let m : length c.equations.result.now ≡ length c.args.state.now.equations = ap length c.equations.ensures.items in
    omega (arith, l, n, m, c.requires.inside)

pub entry-q-requires : goal.entry-q-requires
entry-q-requires c =
    let r = c.args.book.now.ranking in
    let s = state_in c.args.book.now c.args.state.now in
    let l = divisors_length r s c.args.role c.args.table.now.items c.requires.table in
    let n = polynomials_length c.args.book.now c.args.state.now.equations in
    let inside : c.args.i < length c.args.state.now.equations = omega (arith, l, n, c.requires.inside) in
    let there : c.index-equations-i.result ≡ slice_index_or c.args.state.now.equations c.args.i c.index-equations-i.result = c.index-equations-i.is ∙ ap (λ ps. slice_index_or ps c.args.i c.index-equations-i.result) c.equations.ensures.items in
    subst (Lives c.args.book.now) (sym there) (lives_here c.args.book.now c.args.state.now.equations c.args.i c.index-equations-i.result inside c.requires.stands.equations_live)

pub offset_bounds-equations-i : goal.offset_bounds-equations-i
offset_bounds-equations-i c =
    let l = divisors_length c.args.book.now.ranking (state_in c.args.book.now c.args.state.now) c.args.role c.args.table.now.items c.requires.table in
    let n = polynomials_length c.args.book.now c.args.state.now.equations in
    let m : length c.equations.result.now ≡ length c.args.state.now.equations = ap length c.equations.ensures.items in
    omega (arith, l, n, m, c.requires.inside, c.equations.type_inv.1)

pub overflow_cast-result : goal.overflow_cast-result
overflow_cast-result c =
    let l = divisors_length c.args.book.now.ranking (state_in c.args.book.now c.args.state.now) c.args.role c.args.table.now.items c.requires.table in
    let n = polynomials_length c.args.book.now c.args.state.now.equations in
    let m : length c.equations.result.now ≡ length c.args.state.now.equations = ap length c.equations.ensures.items in
    omega (arith, l, n, m, c.requires.inside, c.equations.ensures.few)

pub answered-requires-clause-divisor : goal.answered-requires-clause-divisor
answered-requires-clause-divisor c =
    let r = c.args.book.now.ranking in
    let s = state_in c.args.book.now c.args.state.now in
    let h = divisor_here r s c.args.role c.args.table.now.items c.requires.table c.args.i c.index.result.now c.requires.inside c.index.ensures c.in-Some.divisor c.in-Some.is in
    let l = divisors_length r s c.args.role c.args.table.now.items c.requires.table in
    let n = polynomials_length c.args.book.now c.args.state.now.equations in
    let inside : c.args.i < length c.args.state.now.equations = omega (arith, l, n, c.requires.inside) in
    let there : c.index-equations-i.result ≡ slice_index_or c.args.state.now.equations c.args.i c.index-equations-i.result = c.index-equations-i.is ∙ ap (λ ps. slice_index_or ps c.args.i c.index-equations-i.result) c.equations.ensures.items in
    let here : c.entry-q.result.now.terms ≡ slice_index_or s.equations c.args.i [] = c.entry-q.ensures.value ∙ ap (polynomial c.args.book.now) there ∙ sym (polynomial_here c.args.book.now c.args.state.now.equations c.args.i c.index-equations-i.result inside) in
    subst (λ q. IsDivisorOf r (usable c.args.role s.inequations) q c.in-Some.divisor) (sym here) h.1

pub returns-then-not-granted-clause-table : goal.returns-then-not-granted-clause-table
returns-then-not-granted-clause-table c =
    let r = c.args.book.now.ranking in
    let s = state_in c.args.book.now c.args.state.now in
    let l = divisors_length r s c.args.role c.args.table.now.items c.requires.table in
    let n = polynomials_length c.args.book.now c.args.state.now.equations in
    let inside : c.args.i < length c.args.state.now.equations = omega (arith, l, n, c.requires.inside) in
    let there : c.index-equations-i.result ≡ slice_index_or c.args.state.now.equations c.args.i c.index-equations-i.result = c.index-equations-i.is ∙ ap (λ ps. slice_index_or ps c.args.i c.index-equations-i.result) c.equations.ensures.items in
    let here : c.entry-q.result.now.terms ≡ slice_index_or s.equations c.args.i [] = c.entry-q.ensures.value ∙ ap (polynomial c.args.book.now) there ∙ sym (polynomial_here c.args.book.now c.args.state.now.equations c.args.i c.index-equations-i.result inside) in
    divisor_put r s c.args.role c.args.table.now.items c.requires.table c.args.i c.index.result.now c.requires.inside c.index.ensures c.in-Some.divisor c.in-Some.is c.in_ok-granted.divisor
    (subst (λ q. IsDivisorOf r (usable c.args.role s.inequations) q c.in_ok-granted.divisor) here c.in_ok-granted.ensures.divisor)

pub returns-clause-table : goal.returns-clause-table
returns-clause-table c =
    let r = c.args.book.now.ranking in
    let s = state_in c.args.book.now c.args.state.now in
    let l = divisors_length r s c.args.role c.args.table.now.items c.requires.table in
    let n = polynomials_length c.args.book.now c.args.state.now.equations in
    let inside : c.args.i < length c.args.state.now.equations = omega (arith, l, n, c.requires.inside) in
    let there : c.index-equations-i.result ≡ slice_index_or c.args.state.now.equations c.args.i c.index-equations-i.result = c.index-equations-i.is ∙ ap (λ ps. slice_index_or ps c.args.i c.index-equations-i.result) c.equations.ensures.items in
    let here : c.entry-q.result.now.terms ≡ slice_index_or s.equations c.args.i [] = c.entry-q.ensures.value ∙ ap (polynomial c.args.book.now) there ∙ sym (polynomial_here c.args.book.now c.args.state.now.equations c.args.i c.index-equations-i.result inside) in
    divisor_put r s c.args.role c.args.table.now.items c.requires.table c.args.i c.index.result.now c.requires.inside c.index.ensures c.in-Some.divisor c.in-Some.is c.in_ok-granted.divisor
    (subst (λ q. IsDivisorOf r (usable c.args.role s.inequations) q c.in_ok-granted.divisor) here c.in_ok-granted.ensures.divisor)

pub returns-then-not-granted-clause-step : goal.returns-then-not-granted-clause-step
returns-then-not-granted-clause-step c f e =
    let r = c.args.book.now.ranking in
    let s = state_in c.args.book.now c.args.state.now in
    let l = divisors_length r s c.args.role c.args.table.now.items c.requires.table in
    let n = polynomials_length c.args.book.now c.args.state.now.equations in
    let inside : c.args.i < length c.args.state.now.equations = omega (arith, l, n, c.requires.inside) in
    let there : c.index-equations-i.result ≡ slice_index_or c.args.state.now.equations c.args.i c.index-equations-i.result = c.index-equations-i.is ∙ ap (λ ps. slice_index_or ps c.args.i c.index-equations-i.result) c.equations.ensures.items in
    let here : c.entry-q.result.now.terms ≡ slice_index_or s.equations c.args.i [] = c.entry-q.ensures.value ∙ ap (polynomial c.args.book.now) there ∙ sym (polynomial_here c.args.book.now c.args.state.now.equations c.args.i c.index-equations-i.result inside) in
    let h = divisor_here r s c.args.role c.args.table.now.items c.requires.table c.args.i c.index.result.now c.requires.inside c.index.ensures c.in-Some.divisor c.in-Some.is in
    let four : length c.in-Some-quotient.operator.counts ≡ 4 = first_of (search rules, grind (arith, common_steps)) in
    let answer : c.in_ok-granted.granted ≡ is_multiplier r (usable c.args.role s.inequations) (multiplier_of c.in-Some-quotient.operator) c.in-Some.divisor.lead (slice_index_or s.equations c.args.i []) =
    c.in_ok-granted.ensures.answer ∙ ap (λ w. is_multiplier r (usable c.args.role s.inequations) w c.in-Some.divisor.lead c.entry-q.result.now.terms) c.which_of-which.ensures ∙ ap (is_multiplier r (usable c.args.role s.inequations) (multiplier_of c.in-Some-quotient.operator) c.in-Some.divisor.lead) here in
    not_granted r s c.args.role f c.args.v (suc c.args.i) (slice_index_or s.equations c.args.i []) c.in-Some.divisor h.1 c.in-Some-quotient.operator four c.in-Some-quotient.ensures c.in_ok-granted.granted answer c.if-not-granted.true

pub returns-clause-step : goal.returns-clause-step
returns-clause-step c f e =
    let r = c.args.book.now.ranking in
    let s = state_in c.args.book.now c.args.state.now in
    let l = divisors_length r s c.args.role c.args.table.now.items c.requires.table in
    let n = polynomials_length c.args.book.now c.args.state.now.equations in
    let inside : c.args.i < length c.args.state.now.equations = omega (arith, l, n, c.requires.inside) in
    let there : c.index-equations-i.result ≡ slice_index_or c.args.state.now.equations c.args.i c.index-equations-i.result = c.index-equations-i.is ∙ ap (λ ps. slice_index_or ps c.args.i c.index-equations-i.result) c.equations.ensures.items in
    let here : c.entry-q.result.now.terms ≡ slice_index_or s.equations c.args.i [] = c.entry-q.ensures.value ∙ ap (polynomial c.args.book.now) there ∙ sym (polynomial_here c.args.book.now c.args.state.now.equations c.args.i c.index-equations-i.result inside) in
    let h = divisor_here r s c.args.role c.args.table.now.items c.requires.table c.args.i c.index.result.now c.requires.inside c.index.ensures c.in-Some.divisor c.in-Some.is in
    let four : length c.in-Some-quotient.operator.counts ≡ 4 = first_of (search rules, grind (arith, common_steps)) in
    let answer : c.in_ok-granted.granted ≡ is_multiplier r (usable c.args.role s.inequations) (multiplier_of c.in-Some-quotient.operator) c.in-Some.divisor.lead (slice_index_or s.equations c.args.i []) =
    c.in_ok-granted.ensures.answer ∙ ap (λ w. is_multiplier r (usable c.args.role s.inequations) w c.in-Some.divisor.lead c.entry-q.result.now.terms) c.which_of-which.ensures ∙ ap (is_multiplier r (usable c.args.role s.inequations) (multiplier_of c.in-Some-quotient.operator) c.in-Some.divisor.lead) here in
    ap (λ n. Some (record { place = n; operator = c.in-Some-quotient.operator })) (let p : c.args.i + 1 ≡ suc c.args.i = omega arith in p)
    ∙ step_found r s c.args.role f c.args.v (suc c.args.i) (slice_index_or s.equations c.args.i []) c.in-Some.divisor h.1 c.in-Some-quotient.operator four c.in-Some-quotient.ensures
    c.args.d c.least_degree.result c.in_ok-granted.granted h.0 e (c.least_degree.ensures r (usable c.args.role s.inequations) (slice_index_or s.equations c.args.i []) h.1) c.if-d-least_degree.false answer c.if-not-granted.false
