-- What is found out of a state is right for the state on top of the stack, when that is taken up.
use Rattle.std.specs.Prelude.{is_none}
use Rattle.std.proofs.Common.{◌≡◌, ◌∙◌, ◌++◌, ℕ, true, List, [], ◌∷◌, length, take, refl, sym, ap, subst, Option, Some, None}
use Rattle.std.proofs.lemmas.List.Elements.{All-nil}
use Rattle.dz_algebra.specs.Polynomial.{Polynomial}
use Rattle.dz_poly.specs.Books.{BookValue}
use Rattle.dz_rank.specs.declared.symbols.Symbol.{Symbol}
use Rattle.dz_move.specs.declared.drafts.Reached.{Reached}
use Rattle.dz_check.specs.Pending.{PendingValue, cut}
use Rattle.dz_engine.specs.declared.decomposing.Pending.{Pending}
use Rattle.dz_engine.specs.declared.facts.Facts.{Facts}
use Rattle.dz_engine.specs.Facts.{AreKnown, IsKnown}
use Rattle.dz_engine.specs.Turning.{AreKnownBelow, AreKnownOnTop, IsTopAfter, IsTopNew, IsTopOf, pending_value, stacked}
use Rattle.dz_engine.proofs.Turns.{stacked-append}

-- a state that was put on top is on top
pub new_top : (book : BookValue) (old new : List Pending) (p : Pending) → new ≡ old ++ p ∷ [] → (pending_value p).mark ≡ length book.polynomials → IsTopNew book new
new_top book old new p e m = subst (IsTopOf book) (sym (ap stacked e ∙ stacked-append old p)) m

whole : (ps : List (Polynomial Symbol)) → take (length ps) ps ≡ ps
whole [] = refl
whole (p ∷ ps) = ap (λ qs. p ∷ qs) (whole ps)

-- a book up to its last polynomial
whole_book : (book : BookValue) (n : ℕ) → n ≡ length book.polynomials → cut n book ≡ book
whole_book book n e = ap (λ n. cut n book) e ∙ ap (λ ps. record { ranking = book.ranking; polynomials = ps }) (whole book.polynomials)

known_top : (book : BookValue) (qs : List PendingValue) (fs : List Facts) → IsTopOf book qs → AreKnown book fs → AreKnownBelow book qs fs
known_top book [] fs t h = absurd t
known_top book (p ∷ ps) fs t h = subst (λ b. AreKnown b fs) (sym (whole_book book p.mark t)) h

nothing_known : (book : BookValue) (qs : List PendingValue) (fs : List Facts) → fs ≡ [] → AreKnownBelow book qs fs
nothing_known book [] fs e = tt
nothing_known book (p ∷ ps) fs e = subst (AreKnown (cut p.mark book)) (sym e) (All-nil (IsKnown (cut p.mark book)))

-- after an entry what is known is right for the state on top, and nothing is known where the entry leaves no state
pub known_after : (book : BookValue) (after : Option Reached) (ps : List Pending) (fs : List Facts) → (is_none after ≡ true → fs ≡ []) → AreKnown book fs → IsTopAfter book after ps → AreKnownOnTop book ps fs
known_after book None ps fs e h t = nothing_known book (stacked ps) fs (e refl)
known_after book (Some reached) ps fs e h t = known_top book (stacked ps) fs t h

-- what is known at first
pub known_at_first : (book : BookValue) (ps : List Pending) (fs : List Facts) → fs ≡ [] → AreKnownOnTop book ps fs
known_at_first book ps fs e = nothing_known book (stacked ps) fs e

-- the state on top is taken up
pub known_taken : (book : BookValue) (old rest : List Pending) (p : Pending) (fs : List Facts) → old ≡ rest ++ p ∷ [] → AreKnownOnTop book old fs → AreKnown (cut (pending_value p).mark book) fs
known_taken book old rest p fs e h = subst (λ qs. AreKnownBelow book qs fs) (ap stacked e ∙ stacked-append rest p) h
