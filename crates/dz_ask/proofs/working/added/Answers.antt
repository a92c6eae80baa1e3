use Rattle.std.specs.Prelude.{slice_set}
use Rattle.std.proofs.lemmas.Grind.{common_steps}
use Rattle.std.specs.declared.cmp.Ordering.TheVariants.{Equal}
use Rattle.dz_algebra.specs.Size.{sum_answer}
use Rattle.dz_ask.specs.Products.{product_cmp}
use Rattle.std.proofs.Common.{rules, ◌≡◌, ◌<◌, ◌≤◌, ◌∙◌, Ok, length, slice_index_or, arith, ap, sym, subst}
use Rattle.dz_monomials.specs.Ranked.{symbols_under}
use Rattle.dz_ask.specs.Turns.{added}
use Rattle.dz_ask.specs.Working.{AreEntries, terms_in}
use Rattle.dz_ask.proofs.AddedTerms.{terms_set, entries_inserted, entries_set, added_here}
use Rattle.dz_ask.proofs.TermPasses.{entries_more}
use Rattle.dz_ask.proofs.working.added.Goals as goal

pub returns-in-Less-clause-entries : goal.returns-in-Less-clause-entries
returns-in-Less-clause-entries c =
    let r = c.args.ranking.now in
    let low : c.loop-i.i ≤ length c.loop-i.terms.items = (let e = ap (λ v. length v.items) c.loop-i.invariant.same in omega (arith, c.loop-i-test.true, c.len-i-end.ensures, e)) in
    subst (AreEntries r) (sym c.in_ok-insert-in-Less.ensures.items)
    (entries_inserted r c.loop-i.terms.items c.loop-i.i c.in_ok-first-in-Less.first low (subst (λ v. AreEntries r v.items) (sym c.loop-i.invariant.same) c.requires.terms) c.in_ok-first-in-Less.ensures.entry)

pub returns-clause-entries : goal.returns-clause-entries
returns-clause-entries c =
    let r = c.args.ranking.now in
    subst (AreEntries r) (sym c.in_ok-push.ensures.items)
    (entries_more r c.loop-i.terms.items c.in_ok-last.last (subst (λ v. AreEntries r v.items) (sym c.loop-i.invariant.same) c.requires.terms) c.in_ok-last.ensures.entry)

pub returns-in-Equal-clause-entries : goal.returns-in-Equal-clause-entries
returns-in-Equal-clause-entries c =
    let r = c.args.ranking.now in
    let low : c.loop-i.i < length c.loop-i.terms.items = (let e = ap (λ v. length v.items) c.loop-i.invariant.same in omega (arith, c.loop-i-test.true, c.len-i-end.ensures, e)) in
    entries_set r c.loop-i.terms.items c.loop-i.i _ low (subst (λ v. AreEntries r v.items) (sym c.loop-i.invariant.same) c.requires.terms) c.in_ok-here-in-Equal.ensures.entry

pub returns-in-Equal-clause-ok : goal.returns-in-Equal-clause-ok
returns-in-Equal-clause-ok c =
    let r = c.args.ranking.now in
    let ts = c.args.terms.items in
    let t = c.index_mut.result.now in
    let same : c.loop-i.terms.items ≡ ts = ap (λ v. v.items) c.loop-i.invariant.same in
    let low : c.loop-i.i < length ts = omega (arith, c.loop-i-test.true, c.len-i-end.ensures) in
    let there : t ≡ slice_index_or ts c.loop-i.i t = c.index_mut.ensures.value ∙ ap (λ l. slice_index_or l c.loop-i.i t) same in
    let order : product_cmp c.args.product.items t.product.items ≡ Equal = first_of (search rules, grind (arith, common_steps)) in
    let sum : sum_answer (symbols_under r) t.coefficient.terms c.args.shift.now.terms ≡ Ok c.in_ok-here-in-Equal.here.terms = first_of (search rules, grind (arith, common_steps)) in
    added_here r c.args.product.items c.args.shift.now.terms ts (added (symbols_under r) c.args.product.items c.args.shift.now.terms (terms_in ts)) c.loop-i.i c.loop-i.invariant.so_far t low there c.in_ok-here-in-Equal.here.terms order sum
    ∙ ap Ok (sym (ap (λ l. terms_in (slice_set l c.loop-i.i (record { product = t.product; coefficient = c.in_ok-here-in-Equal.here }))) same ∙ terms_set ts c.loop-i.i (record { product = t.product; coefficient = c.in_ok-here-in-Equal.here }) low))
