use Rattle.std.proofs.lemmas.Grind.{common_steps}
use Rattle.std.proofs.Common.{rules, arith, ◌≡◌, ◌∙◌, ◌++◌, ◌+◌, ◌∷◌, Ok, drop, take, sym, ap, subst}
use Rattle.std.proofs.lemmas.List.{map-append}
use Rattle.std.proofs.lemmas.Result.{err_from_is_err_and}
use Rattle.dz_monomials.specs.Ranked.{symbols_under}
use Rattle.dz_monomials.specs.Stops.{IsStop}
use Rattle.dz_diff.specs.Operations.{setting_of}
use Rattle.dz_diff.specs.States.{state_in}
use Rattle.dz_step.specs.Reductions.{reduction_in}
use Rattle.dz_step.specs.Step.{Reduction}
use Rattle.dz_ask.specs.Products.{raised_product}
use Rattle.dz_ask.specs.Turns.{added, multiplied}
use Rattle.dz_ask.specs.Working.{AreEntries, terms_in}
use Rattle.dz_ask.proofs.ListPasses.{take_rest}
use Rattle.dz_ask.proofs.TermPasses.{entries_joined}
use Rattle.dz_ask.proofs.TurnedTerms.{behind_refused, product_refused, terms_refused, turned_ok}
use Rattle.dz_ask.proofs.turns.turned.Goals as goal

pub returns-in_err-behind-clause-refused : goal.returns-in_err-behind-clause-refused
returns-in_err-behind-clause-refused c =
    let b = c.args.book.now in
    let ts = c.args.terms.now in
    let i = c.args.i in
    let x : Reduction = reduction_in c.in_ok-factor.field-0 in
    let before : multiplied (symbols_under b.ranking) x.factor (terms_in (take i ts)) ≡ Ok (terms_in c.in_ok-before.before.items) = rw c.ranking.ensures at c.in_ok-before.ensures.ok in
    let behind : IsStop c.in_err-behind.field-0.0 (multiplied (symbols_under b.ranking) x.factor (terms_in (drop (i + 1) ts))) = subst (λ l. IsStop c.in_err-behind.field-0.0 (multiplied (symbols_under b.ranking) x.factor (terms_in l))) (take_rest ts (i + 1)) (rw c.ranking-2.ensures at c.in_err-behind.ensures.refused) in
    let y = err_from_is_err_and c.from_residual-in_err-behind.result c.from_residual-in_err-behind.ensures.1 in
    rw (y.1, y.2) (behind_refused (setting_of b.ranking) (state_in b c.args.chain.now) ts i c.requires.inside c.index-terms-i.result c.index-terms-i.is c.args.step x c.in_ok-factor.ensures.ok (terms_in c.in_ok-before.before.items) before _ behind)

pub returns-in_err-product-clause-refused : goal.returns-in_err-product-clause-refused
returns-in_err-product-clause-refused c =
    let b = c.args.book.now in
    let ts = c.args.terms.now in
    let i = c.args.i in
    let x : Reduction = reduction_in c.in_ok-factor.field-0 in
    let before : multiplied (symbols_under b.ranking) x.factor (terms_in (take i ts)) ≡ Ok (terms_in c.in_ok-before.before.items) = rw c.ranking.ensures at c.in_ok-before.ensures.ok in
    let behind : multiplied (symbols_under b.ranking) x.factor (terms_in (drop (i + 1) ts)) ≡ Ok (terms_in c.in_ok-behind.behind.items) = ap (λ l. multiplied (symbols_under b.ranking) x.factor (terms_in l)) (sym (take_rest ts (i + 1))) ∙ (rw c.ranking-2.ensures at c.in_ok-behind.ensures.ok) in
    let y = err_from_is_err_and c.from_residual-in_err-product.result c.from_residual-in_err-product.ensures.1 in
    rw (y.1, y.2) (product_refused (setting_of b.ranking) (state_in b c.args.chain.now) ts i c.requires.inside c.index-terms-i.result c.index-terms-i.is c.args.step x c.in_ok-factor.ensures.ok (terms_in c.in_ok-before.before.items) before (terms_in c.in_ok-behind.behind.items) behind _ (rw c.as_slice.ensures.value at c.in_err-product.ensures.refused))

pub returns-in_err-terms-clause-refused : goal.returns-in_err-terms-clause-refused
returns-in_err-terms-clause-refused c =
    let b = c.args.book.now in
    let ts = c.args.terms.now in
    let i = c.args.i in
    let here = c.index-terms-i.result in
    let x : Reduction = reduction_in c.in_ok-factor.field-0 in
    let before : multiplied (symbols_under b.ranking) x.factor (terms_in (take i ts)) ≡ Ok (terms_in c.in_ok-before.before.items) = rw c.ranking.ensures at c.in_ok-before.ensures.ok in
    let behind : multiplied (symbols_under b.ranking) x.factor (terms_in (drop (i + 1) ts)) ≡ Ok (terms_in c.in_ok-behind.behind.items) = ap (λ l. multiplied (symbols_under b.ranking) x.factor (terms_in l)) (sym (take_rest ts (i + 1))) ∙ (rw c.ranking-2.ensures at c.in_ok-behind.ensures.ok) in
    let product : raised_product c.args.step here.product.items ≡ Ok c.in_ok-product.product.items = ap (raised_product c.args.step) (sym c.as_slice.ensures.value) ∙ c.in_ok-product.ensures.ok in
    let copied : c.in_ok-copied_product.field-0.items ≡ here.product.items = first_of (search rules, grind (arith, common_steps)) in
    let all : terms_in c.in_ok-all.all.items ≡ terms_in c.in_ok-before.before.items ++ (here.product.items, x.rest) ∷ terms_in c.in_ok-behind.behind.items =
    ap terms_in c.in_ok-all.ensures ∙ map-append _ c.in_ok-before.before.items _ ∙ ap (λ m. terms_in c.in_ok-before.before.items ++ (m, x.rest) ∷ terms_in c.in_ok-behind.behind.items) copied in
    let refused : IsStop c.in_err-terms.field-0.0 (added (symbols_under b.ranking) c.in_ok-product.product.items x.shift (terms_in c.in_ok-before.before.items ++ (here.product.items, x.rest) ∷ terms_in c.in_ok-behind.behind.items)) = subst (λ l. IsStop c.in_err-terms.field-0.0 (added (symbols_under b.ranking) c.in_ok-product.product.items x.shift l)) all (rw c.ranking-3.ensures at c.in_err-terms.ensures.refused) in
    let y = err_from_is_err_and c.from_residual-in_err-terms.result c.from_residual-in_err-terms.ensures.1 in
    rw (y.1, y.2) (terms_refused (setting_of b.ranking) (state_in b c.args.chain.now) ts i c.requires.inside here c.index-terms-i.is c.args.step x c.in_ok-factor.ensures.ok (terms_in c.in_ok-before.before.items) before (terms_in c.in_ok-behind.behind.items) behind c.in_ok-product.product.items product _ refused)

pub returns-clause-ok : goal.returns-clause-ok
returns-clause-ok c =
    let b = c.args.book.now in
    let ts = c.args.terms.now in
    let i = c.args.i in
    let here = c.index-terms-i.result in
    let x : Reduction = reduction_in c.in_ok-factor.field-0 in
    let before : multiplied (symbols_under b.ranking) x.factor (terms_in (take i ts)) ≡ Ok (terms_in c.in_ok-before.before.items) = rw c.ranking.ensures at c.in_ok-before.ensures.ok in
    let behind : multiplied (symbols_under b.ranking) x.factor (terms_in (drop (i + 1) ts)) ≡ Ok (terms_in c.in_ok-behind.behind.items) = ap (λ l. multiplied (symbols_under b.ranking) x.factor (terms_in l)) (sym (take_rest ts (i + 1))) ∙ (rw c.ranking-2.ensures at c.in_ok-behind.ensures.ok) in
    let product : raised_product c.args.step here.product.items ≡ Ok c.in_ok-product.product.items = ap (raised_product c.args.step) (sym c.as_slice.ensures.value) ∙ c.in_ok-product.ensures.ok in
    let copied : c.in_ok-copied_product.field-0.items ≡ here.product.items = first_of (search rules, grind (arith, common_steps)) in
    let all : terms_in c.in_ok-all.all.items ≡ terms_in c.in_ok-before.before.items ++ (here.product.items, x.rest) ∷ terms_in c.in_ok-behind.behind.items =
    ap terms_in c.in_ok-all.ensures ∙ map-append _ c.in_ok-before.before.items _ ∙ ap (λ m. terms_in c.in_ok-before.before.items ++ (m, x.rest) ∷ terms_in c.in_ok-behind.behind.items) copied in
    let sum : added (symbols_under b.ranking) c.in_ok-product.product.items x.shift (terms_in c.in_ok-before.before.items ++ (here.product.items, x.rest) ∷ terms_in c.in_ok-behind.behind.items) ≡ Ok (terms_in c.in_ok-terms.terms.items) = ap (added (symbols_under b.ranking) c.in_ok-product.product.items x.shift) (sym all) ∙ (rw c.ranking-3.ensures at c.in_ok-terms.ensures.ok) in
    turned_ok (setting_of b.ranking) (state_in b c.args.chain.now) ts i c.requires.inside here c.index-terms-i.is c.args.step x c.in_ok-factor.ensures.ok (terms_in c.in_ok-before.before.items) before (terms_in c.in_ok-behind.behind.items) behind c.in_ok-product.product.items product (terms_in c.in_ok-terms.terms.items) (terms_in c.leave_out_zeros.new.terms.items) sum c.leave_out_zeros.ensures.terms

pub added-requires-clause-terms : goal.added-requires-clause-terms
added-requires-clause-terms c =
    let r = c.args.book.now.ranking in
    let before : AreEntries r c.in_ok-before.before.items = rw c.ranking.ensures at c.in_ok-before.ensures.entries in
    let behind : AreEntries r c.in_ok-behind.behind.items = rw c.ranking-2.ensures at c.in_ok-behind.ensures.entries in
    subst (λ r. AreEntries r c.in_ok-all.all.items) (sym c.ranking-3.ensures)
    (subst (AreEntries r) (sym c.in_ok-all.ensures) (entries_joined r c.in_ok-before.before.items _ c.in_ok-behind.behind.items before c.in_ok-factor.ensures.entries.rest behind))

pub returns-clause-entries : goal.returns-clause-entries
returns-clause-entries c =
    let r = c.args.book.now.ranking in
    c.leave_out_zeros.ensures.entries r (rw c.ranking-3.ensures at c.in_ok-terms.ensures.entries)
