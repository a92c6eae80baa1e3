use Rattle.std.proofs.Common.{◌≡◌, ◌∙◌, ◌++◌, [], ◌∷◌, pos, ap, ap₂, sym, subst}
use Rattle.std.proofs.lemmas.List.{map-append}
use Rattle.std.proofs.lemmas.List.Elements.{All-push}
use Rattle.dz_algebra.specs.Norm.{divided}
use Rattle.dz_terms.specs.Entries.{IsEntry}
use Rattle.dz_regular.specs.Working.{AreEntries, polynomials_of}
use Rattle.dz_regular.proofs.RowPasses.{divided_more, divides_there, entry_there, one_longer, some_entry_there}
use Rattle.dz_regular.proofs.combining.divided_all.Goals as goal

pub quotient_by-requires-clause-entry : goal.quotient_by-requires-clause-entry
quotient_by-requires-clause-entry c = some_entry_there c.args.entries.now c.loop-entry.entry-index c.entry-item.result c.requires.entries c.loop-entry-test.true c.entry-item.is c.in_ok-copy.copy c.in_ok-copy.ensures.terms c.in_ok-copy.ensures.degrees

pub quotient_by-requires-clause-divides : goal.quotient_by-requires-clause-divides
quotient_by-requires-clause-divides c = divides_there c.args.k c.args.entries.now c.loop-entry.entry-index c.entry-item.result c.requires.divides c.loop-entry-test.true c.entry-item.is c.in_ok-copy.copy c.in_ok-copy.ensures.terms

pub loop-entry-preserved : goal.loop-entry-preserved
loop-entry-preserved c =
    let x = c.quotient_by.result in
    let pushed : polynomials_of c.push.new.self.items ≡ polynomials_of c.loop-entry.all.items ++ x.terms ∷ [] = ap polynomials_of c.in_ok-push.ensures.items ∙ map-append _ c.loop-entry.all.items _ in
    record {
      so_far = pushed ∙ ap₂ (λ l p. l ++ p ∷ []) c.loop-entry.invariant.so_far (c.quotient_by.ensures.terms ∙ ap (divided (pos c.args.k)) c.in_ok-copy.ensures.terms)
          ∙ sym (divided_more c.args.k c.args.entries.now c.loop-entry.entry-index c.entry-item.result c.loop-entry-test.true c.entry-item.is);
      entries = λ r h. subst (AreEntries r) (sym c.in_ok-push.ensures.items)
          (All-push (IsEntry r) c.loop-entry.all.items x (c.loop-entry.invariant.entries r h)
          (c.quotient_by.ensures.entry r (entry_there r c.args.entries.now c.loop-entry.entry-index c.entry-item.result h c.loop-entry-test.true c.entry-item.is c.in_ok-copy.copy c.in_ok-copy.ensures.terms c.in_ok-copy.ensures.degrees)));
      count = one_longer c.loop-entry.all.items c.push.new.self.items x c.loop-entry.entry-index c.in_ok-push.ensures.items c.loop-entry.invariant.count;
    }
