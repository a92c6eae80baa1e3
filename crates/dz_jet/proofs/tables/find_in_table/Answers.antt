use Rattle.std.proofs.Common.{rules, ◌-◌, ◌∙◌, ◌≤◌, drop, length, take, subst, sym, ap, arith}
use Rattle.dz_monomials.specs.Ranked.{symbols_under}
use Rattle.dz_jet.specs.Jets.{given_to}
use Rattle.dz_jet.specs.Tables.{AreSorted, HaveOneValue}
use Rattle.dz_jet.proofs.TableLists.{behind_single, behind_sorted, derivative_is, given_behind_independents, independent_given, no_independent, table_length}
use Rattle.dz_jet.proofs.tables.find_in_table.Goals as goal

pub bounds-values-i : goal.bounds-values-i
bounds-values-i c = omega (arith, table_length c.args.ranking.now c.args.values.now c.requires, ap (λ g. g.independents) c.signature-independents.ensures.value, c.if-i-independents.true)

pub bounds-values-i-in-Independent : goal.bounds-values-i-in-Independent
bounds-values-i-in-Independent c = omega (arith, table_length c.args.ranking.now c.args.values.now c.requires, ap (λ g. g.independents) c.signature-independents.ensures.value, c.if-i-independents.true)

pub slice_bounds-find_value-count : goal.slice_bounds-find_value-count
slice_bounds-find_value-count c = omega (arith, table_length c.args.ranking.now c.args.values.now c.requires, ap (λ g. g.independents) c.signature-independents.ensures.value)

pub slice_bounds-find_value-start : goal.slice_bounds-find_value-start
slice_bounds-find_value-start c =
    let h : c.signature-independents.result.independents ≤ length c.args.values.now = omega (arith, table_length c.args.ranking.now c.args.values.now c.requires, ap (λ g. g.independents) c.signature-independents.ensures.value) in
    search rules

pub find_value-requires-clause-sorted : goal.find_value-requires-clause-sorted
find_value-requires-clause-sorted c =
    subst (λ n. AreSorted c.args.ranking.now (take (length c.args.values.now - n) (drop n c.args.values.now))) (sym (ap (λ g. g.independents) c.signature-independents.ensures.value)) (behind_sorted c.args.ranking.now c.args.values.now c.requires)

pub find_value-requires-clause-single : goal.find_value-requires-clause-single
find_value-requires-clause-single c =
    subst (λ n. HaveOneValue (take (length c.args.values.now - n) (drop n c.args.values.now))) (sym (ap (λ g. g.independents) c.signature-independents.ensures.value)) (behind_single c.args.ranking.now c.args.values.now c.requires)

pub returns-in-Independent : goal.returns-in-Independent
returns-in-Independent c =
    independent_given c.args.ranking.now c.args.values.now c.requires c.in-Independent.i c.index-values-i.result (omega (arith, ap (λ g. g.independents) c.signature-independents.ensures.value, c.if-i-independents.true))
    ∙ ap (given_to (symbols_under c.args.ranking.now) c.args.values.now) (sym c.in-Independent.is)

pub returns-in-Independent-2 : goal.returns-in-Independent-2
returns-in-Independent-2 c =
    no_independent c.args.ranking.now c.args.values.now c.requires c.in-Independent.i (omega (arith, ap (λ g. g.independents) c.signature-independents.ensures.value, c.if-i-independents.false))
    ∙ ap (given_to (symbols_under c.args.ranking.now) c.args.values.now) (sym c.in-Independent.is)

pub returns-in_default : goal.returns-in_default
returns-in_default c =
    let e = ap (λ g. g.independents) c.signature-independents.ensures.value in
    c.find_value.ensures
    ∙ ap (λ n. given_to (symbols_under c.args.ranking.now) (take (length c.args.values.now - n) (drop n c.args.values.now)) c.args.s) e
    ∙ given_behind_independents c.args.ranking.now c.args.values.now c.requires c.args.s (derivative_is c.args.ranking.now c.args.s c.in_default.not-Independent)
