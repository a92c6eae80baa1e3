use Rattle.std.proofs.Common.{◌∙◌, ap, sym, subst}
use Rattle.std.specs.Prelude.{slice_index_or}
use Rattle.std.specs.List.{list_any}
use Rattle.dz_rank.specs.declared.symbols.Symbol.TheVariants.{Independent}
use Rattle.dz_monomials.specs.Keeping.{IsTabled}
use Rattle.dz_monomials.specs.Ranked.{symbols_under}
use Rattle.dz_diff.specs.Operators.{quotient}
use Rattle.dz_step.specs.Multiples.{is_enough_by, is_reducible_at}
use Rattle.dz_step.proofs.MultipleTables.{no_more, one_fails, one_passes}
use Rattle.dz_step.proofs.Searches.{degree_here, derivatives_stand, four_here}
use Rattle.dz_step.proofs.multiples.has_enough.Goals as goal

pub powers-init : goal.powers-init
powers-init c q e =
    let r = c.args.ranking.now in
    let f = c.args.f.now.terms in
    ap (list_any (is_reducible_at (symbols_under r) f q c.args.lead)) (sym (derivatives_stand r f c.symbol_degrees-table.result.now (subst (IsTabled r f) (sym c.symbol_degrees-table.ensures) c.requires.f)))

pub returns-in-Independent : goal.returns-in-Independent
returns-in-Independent c q e = no_more (is_reducible_at (symbols_under c.args.ranking.now) c.args.f.now.terms q c.args.lead) c.symbol_degrees-table.result.now c.powers.k _ (c.powers.invariant q e) (Independent 0, 0) c.powers-test.true c.in-Independent.field-0 c.in-Independent.is

pub is_enough-requires-clause-derivative : goal.is_enough-requires-clause-derivative
is_enough-requires-clause-derivative c =
    let r = c.args.ranking.now in
    let f = c.args.f.now.terms in
    four_here r f c.symbol_degrees-table.result.now (subst (IsTabled r f) (sym c.symbol_degrees-table.ensures) c.requires.f) c.powers.k (Independent 0, 0) c.powers-test.true

pub returns-then-is_enough : goal.returns-then-is_enough
returns-then-is_enough c q e =
    let r = c.args.ranking.now in
    let f = c.args.f.now.terms in
    let g = symbols_under r in
    let same = degree_here r f c.symbol_degrees-table.result.now (subst (IsTabled r f) (sym c.symbol_degrees-table.ensures) c.requires.f) c.powers.k (Independent 0, 0) c.powers-test.true in
    one_passes (is_reducible_at g f q c.args.lead) c.symbol_degrees-table.result.now c.powers.k _ (c.powers.invariant q e) (Independent 0, 0) c.powers-test.true c.in_default.not-Independent
    (ap (λ d. is_enough_by g c.args.lead q d (quotient (slice_index_or c.symbol_degrees-table.result.now c.powers.k (Independent 0, 0)).0 c.args.lead)) (sym same) ∙ sym (c.is_enough.ensures g q e) ∙ c.if-is_enough.true)

pub powers-preserved : goal.powers-preserved
powers-preserved c q e =
    let r = c.args.ranking.now in
    let f = c.args.f.now.terms in
    let g = symbols_under r in
    let same = degree_here r f c.symbol_degrees-table.result.now (subst (IsTabled r f) (sym c.symbol_degrees-table.ensures) c.requires.f) c.powers.k (Independent 0, 0) c.powers-test.true in
    one_fails (is_reducible_at g f q c.args.lead) c.symbol_degrees-table.result.now c.powers.k _ (c.powers.invariant q e) (Independent 0, 0) c.powers-test.true c.in_default.not-Independent
    (ap (λ d. is_enough_by g c.args.lead q d (quotient (slice_index_or c.symbol_degrees-table.result.now c.powers.k (Independent 0, 0)).0 c.args.lead)) (sym same) ∙ sym (c.is_enough.ensures g q e) ∙ c.if-is_enough.false)
