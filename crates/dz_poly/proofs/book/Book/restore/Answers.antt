use Rattle.std.proofs.Common.{refl}
use Rattle.std.proofs.lemmas.List.{take-map}
use Rattle.std.proofs.lemmas.List.Elements.{All-take}
use Rattle.dz_terms.specs.Entries.{IsEntry}
use Rattle.dz_poly.proofs.book.Book.restore.Goals as goal

pub invariant_of-self : goal.invariant_of-self
invariant_of-self c = rw c.truncate.ensures.items (All-take (λ e. IsEntry c.self.inside.ranking e) c.mark.inside.count _ c.self.invariant)

pub returns : goal.returns
returns c = rw (← c.self.view_is, ← c.mark.view_is, c.truncate.ensures.items, take-map) refl
