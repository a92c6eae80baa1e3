use Rattle.std.specs.List.{filter}
use Rattle.std.proofs.Common.{◌≡◌, ◌≤◌, ◌∙◌, All, map, ap, sym, subst}
use Rattle.std.proofs.lemmas.Result.{err_from_is_err_and}
use Rattle.dz_rank.specs.Symbols.{HasFourExponents}
use Rattle.dz_rank.specs.declared.symbols.Symbol.{Symbol}
use Rattle.dz_monomials.specs.Ranked.{symbols_under}
use Rattle.dz_diff.specs.States.{state_in}
use Rattle.dz_jet.specs.Jets.{Values, given_to, is_needed, value_in}
use Rattle.dz_parametric.specs.Orders.{derivatives_to}
use Rattle.dz_jet.specs.Tables.{HaveOneValue, IsTable, first_not_free}
use Rattle.dz_jet.proofs.Found.{one_value_sorted, same_given}
use Rattle.dz_jet.proofs.GivenAnswers.{all_given, derivatives_proper, derivatives_rise, distinct_one, missing_fault, not_free_fault, symbols_have_four}
use Rattle.dz_jet.proofs.GivenTables.{needed_same, needed_table}
use Rattle.dz_jet.proofs.JetLists.{value_of_given}
use Rattle.dz_jet.proofs.given.given_table.Goals as goal

pub needed_values-requires-clause-single : goal.needed_values-requires-clause-single
needed_values-requires-clause-single c = subst HaveOneValue (sym c.as_slice.ensures.value) (one_value_sorted c.args.values.now c.in_ok-sorted.sorted.items (distinct_one c.args.values.now c.requires.distinct) c.in_ok-sorted.ensures.permutation)

pub needed_values-requires-clause-four : goal.needed_values-requires-clause-four
needed_values-requires-clause-four c =
    let r = c.args.book.now.ranking in
    let few : r.signature.independents ≤ 4 = subst (λ x. x.signature.independents ≤ 4) c.ranking.ensures c.signature.ensures.ranking.few_independents in
    subst (All HasFourExponents) (sym c.requires.symbols) (symbols_have_four r few c.args.order)

pub returns-in_err-needed-clause-fault : goal.returns-in_err-needed-clause-fault
returns-in_err-needed-clause-fault c =
    let r = c.args.book.now.ranking in
    let few : r.signature.independents ≤ 4 = subst (λ x. x.signature.independents ≤ 4) c.ranking.ensures c.signature.ensures.ranking.few_independents in
    let st = state_in c.args.book.now c.args.chain.now in
    let known = c.args.values.now in
    let sorted = c.as_slice.result.now in
    let one = distinct_one known c.requires.distinct in
    let same : (s : Symbol) → given_to (symbols_under r) sorted s ≡ given_to (symbols_under r) known s = λ s. ap (λ (xs : Values). given_to (symbols_under r) xs s) c.as_slice.ensures.value ∙ same_given r known c.in_ok-sorted.sorted.items one c.in_ok-sorted.ensures.permutation s in
    let p = err_from_is_err_and c.from_residual-in_err-needed.result c.from_residual-in_err-needed.ensures.1 in
    rw (p.1, p.2) (missing_fault r st known c.args.symbols.now sorted same c.in_err-needed.field-0.0 c.in_err-needed.ensures.fault)

pub returns-in-Some-clause-fault : goal.returns-in-Some-clause-fault
returns-in-Some-clause-fault c =
    let r = c.args.book.now.ranking in
    let few : r.signature.independents ≤ 4 = subst (λ x. x.signature.independents ≤ 4) c.ranking.ensures c.signature.ensures.ranking.few_independents in
    let st = state_in c.args.book.now c.args.chain.now in
    let known = c.args.values.now in
    let sorted = c.as_slice.result.now in
    let one = distinct_one known c.requires.distinct in
    let same : (s : Symbol) → given_to (symbols_under r) sorted s ≡ given_to (symbols_under r) known s = λ s. ap (λ (xs : Values). given_to (symbols_under r) xs s) c.as_slice.ensures.value ∙ same_given r known c.in_ok-sorted.sorted.items one c.in_ok-sorted.ensures.permutation s in
    not_free_fault r st known c.args.symbols.now sorted same c.in_ok-needed.ensures.all c.in-Some.s (ap (first_not_free r st known) c.requires.symbols ∙ sym c.find_not_free.ensures ∙ c.in-Some.is)

pub returns-clause-table : goal.returns-clause-table
returns-clause-table c =
    let r = c.args.book.now.ranking in
    let few : r.signature.independents ≤ 4 = subst (λ x. x.signature.independents ≤ 4) c.ranking.ensures c.signature.ensures.ranking.few_independents in
    let st = state_in c.args.book.now c.args.chain.now in
    let known = c.args.values.now in
    let sorted = c.as_slice.result.now in
    let one = distinct_one known c.requires.distinct in
    let same : (s : Symbol) → given_to (symbols_under r) sorted s ≡ given_to (symbols_under r) known s = λ s. ap (λ (xs : Values). given_to (symbols_under r) xs s) c.as_slice.ensures.value ∙ same_given r known c.in_ok-sorted.sorted.items one c.in_ok-sorted.ensures.permutation s in
    subst (IsTable r) (sym (c.in_ok-needed.ensures.values ∙ ap (λ ss. map (λ s. (s, value_in (symbols_under r) sorted s)) (filter (is_needed (symbols_under r) st) ss)) c.requires.symbols))
    (needed_table r st (value_in (symbols_under r) sorted) (derivatives_to r c.args.order) (derivatives_rise r few c.args.order) (derivatives_proper r few c.args.order))

pub returns-clause-same : goal.returns-clause-same
returns-clause-same c =
    let r = c.args.book.now.ranking in
    let few : r.signature.independents ≤ 4 = subst (λ x. x.signature.independents ≤ 4) c.ranking.ensures c.signature.ensures.ranking.few_independents in
    let st = state_in c.args.book.now c.args.chain.now in
    let known = c.args.values.now in
    let sorted = c.as_slice.result.now in
    let one = distinct_one known c.requires.distinct in
    let same : (s : Symbol) → given_to (symbols_under r) sorted s ≡ given_to (symbols_under r) known s = λ s. ap (λ (xs : Values). given_to (symbols_under r) xs s) c.as_slice.ensures.value ∙ same_given r known c.in_ok-sorted.sorted.items one c.in_ok-sorted.ensures.permutation s in
    let are = c.in_ok-needed.ensures.values ∙ ap (λ ss. map (λ s. (s, value_in (symbols_under r) sorted s)) (filter (is_needed (symbols_under r) st) ss)) c.requires.symbols in
    let free = sym c.find_not_free.ensures ∙ c.in-None.is in
    λ s. ap (λ (xs : Values). value_in (symbols_under r) xs s) are
    ∙ needed_same r st (value_in (symbols_under r) sorted) (derivatives_to r c.args.order) (derivatives_rise r few c.args.order) (derivatives_proper r few c.args.order) known (λ v. value_of_given (same v)) free s

pub returns-clause-given : goal.returns-clause-given
returns-clause-given c =
    let r = c.args.book.now.ranking in
    let few : r.signature.independents ≤ 4 = subst (λ x. x.signature.independents ≤ 4) c.ranking.ensures c.signature.ensures.ranking.few_independents in
    let st = state_in c.args.book.now c.args.chain.now in
    let known = c.args.values.now in
    let sorted = c.as_slice.result.now in
    let one = distinct_one known c.requires.distinct in
    let same : (s : Symbol) → given_to (symbols_under r) sorted s ≡ given_to (symbols_under r) known s = λ s. ap (λ (xs : Values). given_to (symbols_under r) xs s) c.as_slice.ensures.value ∙ same_given r known c.in_ok-sorted.sorted.items one c.in_ok-sorted.ensures.permutation s in
    all_given r st known c.args.symbols.now sorted same c.in_ok-needed.ensures.all (ap (first_not_free r st known) c.requires.symbols ∙ sym c.find_not_free.ensures ∙ c.in-None.is)
