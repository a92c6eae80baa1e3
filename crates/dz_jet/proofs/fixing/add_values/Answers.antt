use Rattle.std.proofs.Common.{◌∙◌, ◌+◌, ◌++◌, ◌∷◌, [], All, List, ℕ, drop, slice_index_or, Ok, ap, sym, subst}
use Rattle.std.proofs.lemmas.Result.{err_from_is_err_and}
use Rattle.dz_poly.proofs.Books.{kept_trans, lives_on}
use Rattle.dz_rank.specs.Symbols.{BelongsTo}
use Rattle.dz_rank.specs.declared.symbols.Symbol.{Symbol}
use Rattle.dz_rank.specs.declared.symbols.Symbol.TheVariants.{Independent}
use Rattle.dz_monomials.specs.Ranked.{symbols_under}
use Rattle.dz_diff.specs.Operations.{setting_of}
use Rattle.dz_diff.specs.States.{LiveAll, polynomials, state_in}
use Rattle.dz_step.proofs.Searches.{drop_here}
use Rattle.dz_diff.proofs.KeptStates.{kept_polynomials}
use Rattle.dz_jet.specs.Fixing.{AreSeparants}
use Rattle.dz_jet.specs.Jets.{Values, value_in, with_values}
use Rattle.dz_jet.specs.Making.{IsMade}
use Rattle.dz_jet.specs.Stops.{IsFault}
use Rattle.dz_jet.specs.Tables.{IsBegun, IsTable}
use Rattle.dz_jet.proofs.FixingSteps.{begun_more, begun_table, symbol_passes, symbol_stops, value_later}
use Rattle.dz_jet.proofs.fixing.add_values.Goals as goal

pub next_value-requires-clause-live : goal.next_value-requires-clause-live
next_value-requires-clause-live c =
    let b = c.args.book.now in
    let now = c.loop-k.book in
    let kept = c.loop-k.invariant.kept in
    let ps = c.args.chain.now.equations in
    subst (LiveAll now) (sym c.equations-equations.ensures.items) (λ i d l. lives_on b now (slice_index_or ps i d) kept (c.requires.stands.equations_live i d l))

pub next_value-requires-clause-known : goal.next_value-requires-clause-known
next_value-requires-clause-known c = subst (λ r. IsTable r c.args.known.now) (sym c.loop-k.invariant.kept.ranking) c.requires.known

pub next_value-requires-clause-separants : goal.next_value-requires-clause-separants
next_value-requires-clause-separants c =
    let b = c.args.book.now in
    let now = c.loop-k.book in
    let kept = c.loop-k.invariant.kept in
    let ps = c.args.chain.now.equations in
    let es_are = ap (λ (xs : List ℕ). polynomials now xs) c.equations-equations.ensures.items ∙ kept_polynomials b now kept ps c.requires.stands.equations_live in
    subst (λ es. AreSeparants (symbols_under now.ranking) (value_in (symbols_under now.ranking) c.args.known.now) es c.args.separants.now) (sym es_are)
    (subst (λ r. AreSeparants (symbols_under r) (value_in (symbols_under r) c.args.known.now) (polynomials b ps) c.args.separants.now) (sym kept.ranking) c.requires.separants)

pub next_value-requires-clause-table : goal.next_value-requires-clause-table
next_value-requires-clause-table c =
    let b = c.args.book.now in
    let now = c.loop-k.book in
    let kept = c.loop-k.invariant.kept in
    let ps = c.args.chain.now.equations in
    subst (IsTable now.ranking) (sym c.as_slice.ensures.value) (subst (λ r. IsTable r c.loop-k.values.items) (sym kept.ranking) (begun_table b.ranking c.loop-k.values.items (drop c.loop-k.k c.args.symbols.now) c.loop-k.invariant.begun))

pub next_value-requires-clause-made : goal.next_value-requires-clause-made
next_value-requires-clause-made c = subst (λ ps. All (IsMade c.loop-k.book ps) c.loop-k.made.items) (sym c.equations-equations.ensures.items) c.loop-k.invariant.made

pub next_value-requires-clause-belongs : goal.next_value-requires-clause-belongs
next_value-requires-clause-belongs c =
    subst (λ r. BelongsTo r.signature (slice_index_or c.args.symbols.now c.loop-k.k (Independent 0))) (sym c.loop-k.invariant.kept.ranking) (c.requires.belong c.loop-k.k (Independent 0) c.loop-k-test.true)

pub returns-in_err-value-clause-fault : goal.returns-in_err-value-clause-fault
returns-in_err-value-clause-fault c =
    let b = c.args.book.now in
    let same = value_later b c.loop-k.book c.loop-k.invariant.kept c.args.known.now c.args.chain.now.equations c.requires.stands.equations_live (slice_index_or c.args.symbols.now c.loop-k.k (Independent 0)) c.as_slice.result.now c.loop-k.values.items c.equations-equations.result.now c.as_slice.ensures.value c.equations-equations.ensures.items in
    let p = err_from_is_err_and c.from_residual.result c.from_residual.ensures.1 in
    rw (p.1, p.2) (symbol_stops (setting_of b.ranking) (state_in b c.args.chain.now) (value_in (symbols_under b.ranking) c.args.known.now) c.args.symbols.now c.loop-k.k (Independent 0) c.loop-k.values.items _ c.loop-k.invariant.rest c.loop-k-test.true c.in_err-value.field-0.0 (subst (IsFault c.in_err-value.field-0.0) same c.in_err-value.ensures.fault))

pub loop-k-preserved : goal.loop-k-preserved
loop-k-preserved c =
    let b = c.args.book.now in
    let r = b.ranking in
    let at = value_in (symbols_under r) c.args.known.now in
    let k = c.loop-k.k in
    let d : Symbol = slice_index_or c.args.symbols.now k (Independent 0) in
    let items = c.loop-k.values.items in
    let same = value_later b c.loop-k.book c.loop-k.invariant.kept c.args.known.now c.args.chain.now.equations c.requires.stands.equations_live d c.as_slice.result.now items c.equations-equations.result.now c.as_slice.ensures.value c.equations-equations.ensures.items in
    let new = c.next_value.new.book in
    let v = c.in_ok-value.value in
    let rest = drop (k + 1) c.args.symbols.now in
    let first = subst (IsBegun r items) (drop_here k c.args.symbols.now (Independent 0) c.loop-k-test.true) c.loop-k.invariant.begun in
    let one = sym same ∙ c.in_ok-value.ensures.value ∙ ap (λ (xs : Values). Ok (xs ++ (d, v) ∷ [])) c.as_slice.ensures.value in
    record {
      kept = kept_trans b c.loop-k.book new c.loop-k.invariant.kept c.next_value.ensures.kept;
      begun = subst (λ xs. IsBegun r xs rest) (sym c.in_ok-push.ensures.items) (begun_more r items d v rest first);
      made = subst (λ qs. All (IsMade new qs) c.next_value.new.made.items) c.equations-equations.ensures.items c.in_ok-value.ensures.made;
      rest = ap (λ (xs : Values). with_values (setting_of r) (state_in b c.args.chain.now) at xs rest) c.in_ok-push.ensures.items ∙ symbol_passes (setting_of r) (state_in b c.args.chain.now) at c.args.symbols.now k (Independent 0) items _ c.loop-k.invariant.rest c.loop-k-test.true (items ++ (d, v) ∷ []) one;
    }
