use Rattle.std.proofs.Common.{◌∙◌, ◌++◌, [], ◌∷◌, ap, ap₂, sym, subst}
use Rattle.std.proofs.lemmas.List.{map-append}
use Rattle.std.proofs.lemmas.List.Elements.{All-push}
use Rattle.dz_terms.specs.Entries.{IsEntry}
use Rattle.dz_regular.specs.Working.{AreEntries, polynomials_of}
use Rattle.dz_regular.proofs.RowPasses.{one_longer, zeros_more}
use Rattle.dz_regular.proofs.rows.zeros.Goals as goal

pub loop-preserved : goal.loop-preserved
loop-preserved c =
    let z = c.in_ok-zero.zero in
    record {
      so_far = ap polynomials_of c.in_ok-push.ensures.items ∙ map-append _ c.loop.all.items _ ∙ ap₂ (λ l p. l ++ p ∷ []) c.loop.invariant.so_far c.in_ok-zero.ensures.terms ∙ zeros_more c.loop.counter;
      count = one_longer c.loop.all.items c.push.new.self.items z c.loop.counter c.in_ok-push.ensures.items c.loop.invariant.count;
      entries = λ r. subst (AreEntries r) (sym c.in_ok-push.ensures.items) (All-push (IsEntry r) c.loop.all.items z (c.loop.invariant.entries r) (c.in_ok-zero.ensures.entry r));
    }
