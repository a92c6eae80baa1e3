use Rattle.std.proofs.Common.{◌<◌, ◌∙◌, ◌++◌, ◌∷◌, [], length, take, ap, subst, sym, arith}
use Rattle.std.proofs.lemmas.Bool.{eqb-true}
use Rattle.dz_engine.specs.declared.facts.Facts.{Facts}
use Rattle.dz_engine.specs.Facts.{AreKnown, names_of}
use Rattle.dz_engine.proofs.RenewedFacts.{known_push, known_set, names_here, names_set}
use Rattle.dz_engine.proofs.facts.renew_at.Goals as goal

pub returns-then-k-len-clause-known : goal.returns-then-k-len-clause-known
returns-then-k-len-clause-known c =
    subst (AreKnown c.args.book.now) (sym c.in_ok-push.ensures.items) (known_push c.args.book.now c.args.facts.now.items c.in_ok-found_out.field-0 c.in_ok-found_out.ensures.known c.requires.known)

pub returns-then-eq-clause-names : goal.returns-then-eq-clause-names
returns-then-eq-clause-names c =
    let fs = c.args.facts.now.items in
    let l : c.args.k < length fs = omega (arith, c.requires.inside, c.if-k-len.false, c.len.ensures) in
    names_here c.args.k fs c.index.result.now l ∙ ap (λ p. take c.args.k (names_of fs) ++ p ∷ []) (sym (ap (λ (f : Facts). f.poly) c.index.ensures) ∙ eqb-true _ _ (sym c.if-eq.ensures))

pub returns-clause-known : goal.returns-clause-known
returns-clause-known c = known_set c.args.book.now c.args.k c.args.facts.now.items c.in_ok-facts.field-0 c.in_ok-facts.ensures.known c.requires.known

pub returns-clause-names : goal.returns-clause-names
returns-clause-names c =
    let fs = c.args.facts.now.items in
    let l : c.args.k < length fs = omega (arith, c.requires.inside, c.if-k-len.false, c.len.ensures) in
    names_set c.args.k fs c.in_ok-facts.field-0 l ∙ ap (λ p. take c.args.k (names_of fs) ++ p ∷ []) c.in_ok-facts.ensures.name
