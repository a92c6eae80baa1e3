use Rattle.std.specs.Prelude.{drop}
use Rattle.std.proofs.Common.{◌∙◌, ◌+◌, ap, subst, sym, take}
use Rattle.dz_engine.specs.Facts.{AreKnown, names_of}
use Rattle.dz_engine.proofs.RenewedFacts.{known_without, names_front}
use Rattle.dz_engine.proofs.facts.drop_gone.Goals as goal

pub returns-then-ne-clause-names : goal.returns-then-ne-clause-names
returns-then-ne-clause-names c =
    ap (λ fs. take c.args.k (names_of fs)) c.remove.ensures.by_index.2 ∙ names_front c.args.k c.args.facts.now.items (drop (c.args.k + 1) c.args.facts.now.items) c.requires.inside

pub returns-then-ne-clause-known : goal.returns-then-ne-clause-known
returns-then-ne-clause-known c = λ book h. subst (AreKnown book) (sym c.remove.ensures.by_index.2) (known_without book c.args.k c.args.facts.now.items h)
