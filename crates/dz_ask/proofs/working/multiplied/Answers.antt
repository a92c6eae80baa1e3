use Rattle.std.proofs.Common.{◌≡◌, ◌∙◌, ◌++◌, ◌+◌, [], ◌∷◌, drop, ap, sym, subst}
use Rattle.std.proofs.lemmas.List.{map-append}
use Rattle.std.proofs.lemmas.Result.{err_from_is_err_and}
use Rattle.dz_monomials.specs.Ranked.{symbols_under}
use Rattle.dz_ask.specs.Turns.{multiplied}
use Rattle.dz_ask.specs.Working.{AreEntries, terms_in}
use Rattle.dz_ask.proofs.TermPasses.{prepended, entries_more, multiplied_more, multiplied_refused}
use Rattle.dz_ask.proofs.working.multiplied.Goals as goal

pub returns-in_err-term-clause-refused : goal.returns-in_err-term-clause-refused
returns-in_err-term-clause-refused c =
    let r = c.args.ranking.now in
    let a = c.args.by.now.terms in
    let y = err_from_is_err_and c.from_residual-in_err-term.result c.from_residual-in_err-term.ensures.1 in
    rw (y.1, y.2) (multiplied_refused r a c.args.terms.now (multiplied (symbols_under r) a (terms_in c.args.terms.now)) c.loop-term.term-index c.term-item.result c.loop-term-test.true c.term-item.is (terms_in c.loop-term.all.items) c.loop-term.invariant.so_far _ c.in_err-term.ensures.refused)

pub loop-term-preserved : goal.loop-term-preserved
loop-term-preserved c =
    let r = c.args.ranking.now in
    let a = c.args.by.now.terms in
    let new = c.in_ok-term.term in
    let more = multiplied_more r a c.args.terms.now (multiplied (symbols_under r) a (terms_in c.args.terms.now)) c.loop-term.term-index c.term-item.result c.loop-term-test.true c.term-item.is (terms_in c.loop-term.all.items) c.loop-term.invariant.so_far new.coefficient.terms c.in_ok-term.ensures.ok in
    let pushed : terms_in c.push.new.self.items ≡ terms_in c.loop-term.all.items ++ (c.term-item.result.product.items, new.coefficient.terms) ∷ [] =
    ap terms_in c.in_ok-push.ensures.items ∙ map-append _ c.loop-term.all.items _ ∙ ap (λ m. terms_in c.loop-term.all.items ++ (m, new.coefficient.terms) ∷ []) c.in_ok-term.ensures.product in
    record {
      so_far = more ∙ ap (λ us. prepended us (multiplied (symbols_under r) a (terms_in (drop (c.loop-term.term-index + 1) c.args.terms.now)))) (sym pushed);
      entries = subst (AreEntries r) (sym c.in_ok-push.ensures.items) (entries_more r c.loop-term.all.items new c.loop-term.invariant.entries c.in_ok-term.ensures.entry);
    }
