use Rattle.std.proofs.Common.{rules, ◌≤◌, ◌∙◌, length, Ok, ap, sym, subst}
use Rattle.std.proofs.lemmas.Result.{err_from_is_err_and}
use Rattle.dz_rank.specs.Rankings.{RankingValue}
use Rattle.dz_jet.proofs.JetCalls.{begun_here, cut_here, equations_pass, equations_stop, front_fits, given_passes, given_stops, independents_are, inequations_pass, inequations_stop, listed, multipliers_pass, multipliers_stop, rest_belongs, separants_here, symbols_fit, values_here, values_stop}
use Rattle.dz_jet.proofs.making.jet_in_book.Goals as goal

pub returns-in_err-known-clause-fault : goal.returns-in_err-known-clause-fault
returns-in_err-known-clause-fault c =
    let all = c.as_slice.ensures.value ∙ listed c.args.book.now c.args.chain.now c.args.order c.ranking.ensures c.jet_order-order.ensures c.in_ok-symbols.ensures in
    let p = err_from_is_err_and c.from_residual-in_err-known.result c.from_residual-in_err-known.ensures.1 in
    rw (p.1, p.2) (given_stops c.args.book.now c.args.chain.now c.args.values.now c.args.order all c.in_err-known.field-0.0 c.in_err-known.ensures.fault)

pub returns-in_err-test_equations-clause-fault : goal.returns-in_err-test_equations-clause-fault
returns-in_err-test_equations-clause-fault c =
    let all = c.as_slice.ensures.value ∙ listed c.args.book.now c.args.chain.now c.args.order c.ranking.ensures c.jet_order-order.ensures c.in_ok-symbols.ensures in
    let given = given_passes c.args.book.now c.args.chain.now c.args.values.now c.args.order all c.in_ok-known.ensures.table c.in_ok-known.ensures.same c.in_ok-known.ensures.given in
    let p = err_from_is_err_and c.from_residual-in_err-test_equations.result c.from_residual-in_err-test_equations.ensures.1 in
    rw (p.1, p.2) (equations_stop given c.as_slice-2.ensures.value c.equations.ensures.items c.in_err-test_equations.field-0.0 (sym c.in_err-test_equations.was ∙ c.test_equations.ensures))

pub returns-in_err-separants-clause-fault : goal.returns-in_err-separants-clause-fault
returns-in_err-separants-clause-fault c =
    let all = c.as_slice.ensures.value ∙ listed c.args.book.now c.args.chain.now c.args.order c.ranking.ensures c.jet_order-order.ensures c.in_ok-symbols.ensures in
    let given = given_passes c.args.book.now c.args.chain.now c.args.values.now c.args.order all c.in_ok-known.ensures.table c.in_ok-known.ensures.same c.in_ok-known.ensures.given in
    let tested = equations_pass given c.as_slice-2.ensures.value c.equations.ensures.items (sym c.in_ok-test_equations.was ∙ c.test_equations.ensures) in
    let p = err_from_is_err_and c.from_residual-in_err-separants.result c.from_residual-in_err-separants.ensures.1 in
    rw (p.1, p.2) (multipliers_stop tested c.as_slice-3.ensures.value c.equations-2.ensures.items c.in_err-separants.field-0.0 c.in_err-separants.ensures.fault)

pub returns-in_err-test_inequations-clause-fault : goal.returns-in_err-test_inequations-clause-fault
returns-in_err-test_inequations-clause-fault c =
    let all = c.as_slice.ensures.value ∙ listed c.args.book.now c.args.chain.now c.args.order c.ranking.ensures c.jet_order-order.ensures c.in_ok-symbols.ensures in
    let given = given_passes c.args.book.now c.args.chain.now c.args.values.now c.args.order all c.in_ok-known.ensures.table c.in_ok-known.ensures.same c.in_ok-known.ensures.given in
    let tested = equations_pass given c.as_slice-2.ensures.value c.equations.ensures.items (sym c.in_ok-test_equations.was ∙ c.test_equations.ensures) in
    let multiplied = multipliers_pass tested c.as_slice-3.ensures.value c.equations-2.ensures.items c.in_ok-separants.ensures.values in
    let p = err_from_is_err_and c.from_residual-in_err-test_inequations.result c.from_residual-in_err-test_inequations.ensures.1 in
    rw (p.1, p.2) (inequations_stop multiplied c.in_ok-separants.ensures.kept c.requires.stands c.as_slice-4.ensures.value c.inequations.ensures.items c.in_err-test_inequations.field-0.0 (sym c.in_err-test_inequations.was ∙ c.test_inequations.ensures))

pub slice_bounds-from_slice-end : goal.slice_bounds-from_slice-end
slice_bounds-from_slice-end c =
    let e = independents_are c.signature-independents.ensures.value (c.ranking-2.ensures ∙ c.in_ok-separants.ensures.kept.ranking) in
    let h : c.signature-independents.result.independents ≤ length c.deref.result.now = front_fits c.args.book.now.ranking c.in_ok-known.known.items c.deref.result.now c.signature-independents.result.independents c.in_ok-known.ensures.table e c.deref.ensures.value in
    search rules

pub slice_bounds-add_values-count : goal.slice_bounds-add_values-count
slice_bounds-add_values-count c =
    let e = independents_are c.signature-independents.ensures.value (c.ranking-2.ensures ∙ c.in_ok-separants.ensures.kept.ranking) in
    let all = c.deref-2.ensures.value ∙ listed c.args.book.now c.args.chain.now c.args.order c.ranking.ensures c.jet_order-order.ensures c.in_ok-symbols.ensures in
    symbols_fit c.args.book.now c.args.chain.now c.args.order c.deref-2.result.now c.signature-independents.result.independents e all

pub slice_bounds-add_values-start : goal.slice_bounds-add_values-start
slice_bounds-add_values-start c =
    let e = independents_are c.signature-independents.ensures.value (c.ranking-2.ensures ∙ c.in_ok-separants.ensures.kept.ranking) in
    let all = c.deref-2.ensures.value ∙ listed c.args.book.now c.args.chain.now c.args.order c.ranking.ensures c.jet_order-order.ensures c.in_ok-symbols.ensures in
    let h : c.signature-independents.result.independents ≤ length c.deref-2.result.now = symbols_fit c.args.book.now c.args.chain.now c.args.order c.deref-2.result.now c.signature-independents.result.independents e all in
    search rules

pub add_values-requires-clause-separants : goal.add_values-requires-clause-separants
add_values-requires-clause-separants c =
    let all = c.as_slice.ensures.value ∙ listed c.args.book.now c.args.chain.now c.args.order c.ranking.ensures c.jet_order-order.ensures c.in_ok-symbols.ensures in
    let given = given_passes c.args.book.now c.args.chain.now c.args.values.now c.args.order all c.in_ok-known.ensures.table c.in_ok-known.ensures.same c.in_ok-known.ensures.given in
    let tested = equations_pass given c.as_slice-2.ensures.value c.equations.ensures.items (sym c.in_ok-test_equations.was ∙ c.test_equations.ensures) in
    let multiplied = multipliers_pass tested c.as_slice-3.ensures.value c.equations-2.ensures.items c.in_ok-separants.ensures.values in
    separants_here multiplied c.in_ok-separants.ensures.kept c.requires.stands c.as_slice-5.ensures.value c.as_slice-6.ensures.value

pub add_values-requires-clause-begun : goal.add_values-requires-clause-begun
add_values-requires-clause-begun c =
    let kept = c.in_ok-separants.ensures.kept in
    let all = listed c.args.book.now c.args.chain.now c.args.order c.ranking.ensures c.jet_order-order.ensures c.in_ok-symbols.ensures in
    let given = given_passes c.args.book.now c.args.chain.now c.args.values.now c.args.order (c.as_slice.ensures.value ∙ all) c.in_ok-known.ensures.table c.in_ok-known.ensures.same c.in_ok-known.ensures.given in
    let e = independents_are c.signature-independents.ensures.value (c.ranking-2.ensures ∙ kept.ranking) in
    let cut = cut_here c.args.book.now c.args.chain.now c.args.order c.in_ok-known.known.items c.in_ok-jet.jet.items c.deref.result.now c.deref-2.result.now c.signature-independents.result.independents e c.in_ok-jet.ensures.items c.deref.ensures.value (c.deref-2.ensures.value ∙ all) in
    begun_here given cut kept (subst (λ (q : RankingValue). q.signature.independents ≤ 4) (c.ranking-2.ensures ∙ kept.ranking) c.signature-independents.ensures.ranking.few_independents)

pub add_values-requires-clause-belong : goal.add_values-requires-clause-belong
add_values-requires-clause-belong c =
    let kept = c.in_ok-separants.ensures.kept in
    let all = listed c.args.book.now c.args.chain.now c.args.order c.ranking.ensures c.jet_order-order.ensures c.in_ok-symbols.ensures in
    let e = independents_are c.signature-independents.ensures.value (c.ranking-2.ensures ∙ kept.ranking) in
    let cut = cut_here c.args.book.now c.args.chain.now c.args.order c.in_ok-known.known.items c.in_ok-jet.jet.items c.deref.result.now c.deref-2.result.now c.signature-independents.result.independents e c.in_ok-jet.ensures.items c.deref.ensures.value (c.deref-2.ensures.value ∙ all) in
    rest_belongs c.args.book.now c.args.chain.now c.args.order c.test_all_multipliers.new.book kept (subst (λ (q : RankingValue). q.signature.independents ≤ 4) (c.ranking-2.ensures ∙ kept.ranking) c.signature-independents.ensures.ranking.few_independents) cut

pub returns-in_err-add_values-clause-fault : goal.returns-in_err-add_values-clause-fault
returns-in_err-add_values-clause-fault c =
    let all = listed c.args.book.now c.args.chain.now c.args.order c.ranking.ensures c.jet_order-order.ensures c.in_ok-symbols.ensures in
    let given = given_passes c.args.book.now c.args.chain.now c.args.values.now c.args.order (c.as_slice.ensures.value ∙ all) c.in_ok-known.ensures.table c.in_ok-known.ensures.same c.in_ok-known.ensures.given in
    let tested = equations_pass given c.as_slice-2.ensures.value c.equations.ensures.items (sym c.in_ok-test_equations.was ∙ c.test_equations.ensures) in
    let multiplied = multipliers_pass tested c.as_slice-3.ensures.value c.equations-2.ensures.items c.in_ok-separants.ensures.values in
    let passed = inequations_pass multiplied c.in_ok-separants.ensures.kept c.requires.stands c.as_slice-4.ensures.value c.inequations.ensures.items (sym c.in_ok-test_inequations.was ∙ c.test_inequations.ensures) in
    let e = independents_are c.signature-independents.ensures.value (c.ranking-2.ensures ∙ c.in_ok-separants.ensures.kept.ranking) in
    let cut = cut_here c.args.book.now c.args.chain.now c.args.order c.in_ok-known.known.items c.in_ok-jet.jet.items c.deref.result.now c.deref-2.result.now c.signature-independents.result.independents e c.in_ok-jet.ensures.items c.deref.ensures.value (c.deref-2.ensures.value ∙ all) in
    let p = err_from_is_err_and c.from_residual-in_err-add_values.result c.from_residual-in_err-add_values.ensures.1 in
    rw (p.1, p.2) (values_stop passed cut c.in_ok-separants.ensures.kept c.requires.stands c.as_slice-5.ensures.value c.in_err-add_values.field-0.0 c.in_err-add_values.ensures.fault)

pub returns-clause-jet : goal.returns-clause-jet
returns-clause-jet c =
    let all = listed c.args.book.now c.args.chain.now c.args.order c.ranking.ensures c.jet_order-order.ensures c.in_ok-symbols.ensures in
    let given = given_passes c.args.book.now c.args.chain.now c.args.values.now c.args.order (c.as_slice.ensures.value ∙ all) c.in_ok-known.ensures.table c.in_ok-known.ensures.same c.in_ok-known.ensures.given in
    let tested = equations_pass given c.as_slice-2.ensures.value c.equations.ensures.items (sym c.in_ok-test_equations.was ∙ c.test_equations.ensures) in
    let multiplied = multipliers_pass tested c.as_slice-3.ensures.value c.equations-2.ensures.items c.in_ok-separants.ensures.values in
    let passed = inequations_pass multiplied c.in_ok-separants.ensures.kept c.requires.stands c.as_slice-4.ensures.value c.inequations.ensures.items (sym c.in_ok-test_inequations.was ∙ c.test_inequations.ensures) in
    let e = independents_are c.signature-independents.ensures.value (c.ranking-2.ensures ∙ c.in_ok-separants.ensures.kept.ranking) in
    let cut = cut_here c.args.book.now c.args.chain.now c.args.order c.in_ok-known.known.items c.in_ok-jet.jet.items c.deref.result.now c.deref-2.result.now c.signature-independents.result.independents e c.in_ok-jet.ensures.items c.deref.ensures.value (c.deref-2.ensures.value ∙ all) in
    record {
      values = values_here passed cut c.in_ok-separants.ensures.kept c.requires.stands c.as_slice-5.ensures.value c.add_values.new.values.items c.in_ok-add_values.ensures.values ∙ ap (λ j. Ok j.values) (sym c.new.ensures);
      order = ap (λ j. j.order) c.new.ensures ∙ c.jet_order-order.ensures;
    }
