use Rattle.std.proofs.Common.{subst, sym}
use Rattle.std.proofs.lemmas.List.{map-append}
use Rattle.std.proofs.lemmas.List.Elements.{All-push}
use Rattle.dz_terms.specs.Entries.{IsEntry}
use Rattle.dz_poly.proofs.Books.{IsKept-append}
use Rattle.dz_poly.proofs.book.Book.keep.Goals as goal

pub invariant_of-self-2 : goal.invariant_of-self-2
invariant_of-self-2 c = rw c.in_ok-push.ensures.items (All-push (λ e. IsEntry c.self.inside.ranking e) c.self.inside.entries.items c.args.entry c.self.invariant (subst (λ b. IsEntry b.ranking c.args.entry) (sym c.self.view_is) c.requires))

pub returns-clause-kept : goal.returns-clause-kept
returns-clause-kept c =
    rw (← c.self.view_is, c.in_ok-push.ensures.items, map-append) (IsKept-append _ _ _)
