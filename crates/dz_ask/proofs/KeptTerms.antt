-- Polynomials and terms that are put into a book, one after the other.
use Rattle.std.specs.Prelude.{slice_index_or}
use Rattle.std.proofs.Common.{◌≡◌, ◌<◌, ◌+◌, ◌∙◌, ◌++◌, ℕ, List, [], ◌∷◌, length, map, take, refl, sym, ap, ap₂, subst}
use Rattle.std.proofs.lemmas.List.{map-append}
use Rattle.std.proofs.lemmas.List.Elements.{All-append, All-cons, All-nil}
use Rattle.dz_algebra.specs.Polynomial.{Polynomial}
use Rattle.dz_rank.specs.declared.symbols.Symbol.{Symbol}
use Rattle.dz_terms.specs.Entries.{EntryValue}
use Rattle.dz_poly.specs.Books.{BookValue, IsKept, Lives, Means, polynomial}
use Rattle.dz_poly.proofs.Books.{kept_polynomial, lives_on, means_lives, means_polynomial}
use Rattle.dz_diff.proofs.KeptStates.{kept_polynomials, live_on}
use Rattle.dz_diff.proofs.Places.{all-append}
use Rattle.dz_diff.specs.States.{LiveAll, polynomials}
use Rattle.dz_rank.specs.Rankings.{RankingValue}
use Rattle.dz_diff.specs.Operations.{setting_of}
use Rattle.dz_diff.specs.State.{State}
use Rattle.dz_step.specs.declared.attempts.AttemptStop.{AttemptStop}
use Rattle.dz_step.specs.declared.attempts.AttemptStop.TheVariants.{Memory, Wide, Large, Spent}
use Rattle.dz_ask.specs.Attempts.{IsStopOf, IsStoppedIn, LiveTerms, LivesPreparation, Names, power_in, prepared_in, term_in}
use Rattle.dz_ask.specs.Preparation.{Prepared, Term}
use Rattle.dz_ask.specs.Progress.{IsHalt, IsTurnStop, polynomials_of, working_in}
use Rattle.dz_ask.specs.Turns.{next_turn, preparation}
use Rattle.dz_ask.specs.Working.{terms_in, turn_by}
use Rattle.dz_ask.specs.declared.preparing.PrepareAttempt.{PrepareAttempt}
use Rattle.dz_ask.specs.declared.preparing.PreparedTerm.{PreparedTerm}
use Rattle.dz_ask.specs.declared.preparing.TurnStop.{TurnStop}
use Rattle.dz_ask.specs.declared.preparing.Working.{Working}
use Rattle.dz_ask.specs.declared.working.WorkingTerm.{WorkingTerm}
use Rattle.dz_ask.proofs.ListPasses.{taken_more}
use Rattle.dz_ask.proofs.TurnedTerms.{same_there}

module _ (old new : BookValue) (kept : IsKept old new) where
  -- ---- polynomials
  pub live_more : (ps all : List ℕ) (p : ℕ) (q : Polynomial Symbol) → LiveAll old ps → Means new p q → all ≡ ps ++ p ∷ [] → LiveAll new all
  live_more ps all p q live m e = subst (LiveAll new) (sym e) (All-append (λ p. Lives new p) ps (p ∷ []) (live_on old new kept ps live) (All-cons (λ p. Lives new p) p [] (means_lives new p q m) (All-nil (λ p. Lives new p))))

  pub polynomials_more : (es : List EntryValue) (i : ℕ) (e : EntryValue) → i < length es → e ≡ slice_index_or es i e → (ps all : List ℕ) (p : ℕ) → LiveAll old ps → Means new p e.terms → all ≡ ps ++ p ∷ []
      → polynomials old ps ≡ polynomials_of (take i es) → polynomials new all ≡ polynomials_of (take (i + 1) es)
  polynomials_more es i e h there ps all p live m f so_far =
      ap (polynomials new) f ∙ map-append (λ p. polynomial new p) ps (p ∷ []) ∙ ap₂ (λ a b. a ++ b ∷ []) (kept_polynomials old new kept ps live ∙ so_far) (means_polynomial new p e.terms m)
      ∙ sym (ap polynomials_of (taken_more es i e h there) ∙ map-append (λ (e : EntryValue). e.terms) (take i es) (e ∷ []))

  -- ---- terms
  pub live_terms_on : (ts : List PreparedTerm) → LiveTerms old ts → LiveTerms new ts
  live_terms_on [] h = tt
  live_terms_on (t ∷ ts) h = (lives_on old new t.coefficient kept h.0, live_terms_on ts h.1)

  -- terms that were there before are the same
  kept_terms_same : (ts : List PreparedTerm) → LiveTerms old ts → map (term_in new) ts ≡ map (term_in old) ts
  kept_terms_same [] h = refl
  kept_terms_same (t ∷ ts) h = ap₂ (λ (q : Polynomial Symbol) (us : List Term). (map power_in t.product.items, q) ∷ us) (kept_polynomial old new t.coefficient kept h.0) (kept_terms_same ts h.1)

  pub live_terms_more : (ts all : List PreparedTerm) (t : PreparedTerm) → LiveTerms old ts → Lives new t.coefficient → all ≡ ts ++ t ∷ [] → LiveTerms new all
  live_terms_more ts all t h k e = subst (LiveTerms new) (sym e) (all-append (λ (t : PreparedTerm). Lives new t.coefficient) ts (t ∷ []) (live_terms_on ts h) (k, tt))

  pub terms_more : (ws : List WorkingTerm) (i : ℕ) (w : WorkingTerm) → i < length ws → w ≡ slice_index_or ws i w → (ts all : List PreparedTerm) (t : PreparedTerm) → LiveTerms old ts → term_in new t ≡ (w.product.items, w.coefficient.terms) → all ≡ ts ++ t ∷ []
      → map (term_in old) ts ≡ terms_in (take i ws) → map (term_in new) all ≡ terms_in (take (i + 1) ws)
  terms_more ws i w h there ts all t live m f so_far =
      ap (map (term_in new)) f ∙ map-append (term_in new) ts (t ∷ []) ∙ ap₂ (λ (a : List Term) (b : Term). a ++ b ∷ []) (kept_terms_same ts live ∙ so_far) m
      ∙ sym (ap terms_in (taken_more ws i w h there) ∙ map-append _ (take i ws) (w ∷ []))

-- ---- attempts
-- a stop that is no want of memory stops at the next turn
pub halt_stop : (r : RankingValue) (s : State) (budget : ℕ) (f : Polynomial Symbol) (w : Working) (stop : TurnStop) (k : AttemptStop) → (k ≡ Memory → ⊥) → IsHalt r s budget f w stop k → IsTurnStop r s budget f w stop
halt_stop r s budget f w stop Memory n h = absurd (n refl)
halt_stop r s budget f w stop (Wide st) n h = h
halt_stop r s budget f w stop (Large limit st) n h = h
halt_stop r s budget f w stop (Spent st) n h = h

-- and with the polynomials in a book it is an attempt
pub stopped_in : (r : RankingValue) (s : State) (budget : ℕ) (f : Polynomial Symbol) (w : Working) (stop : TurnStop) (k : IsTurnStop r s budget f w stop) (book : BookValue) (a : PrepareAttempt)
    → LivesPreparation book a.partial → prepared_in book a.partial ≡ working_in w → (t : WorkingTerm) → t ≡ slice_index_or w.terms.items stop.index t → map power_in a.product.items ≡ t.product.items → a.stop ≡ stop.stop
    → IsStoppedIn (setting_of r) s book (preparation (setting_of r) s budget f) a
stopped_in r s budget f w stop k book a live e t there p es = record {
  live = live;
  turn = turn_by w.terms.items stop.index k.term k.step;
  next = ap (λ (x : Prepared). next_turn (setting_of r) s x.terms) e ∙ k.next;
  product = p ∙ ap (λ (t : WorkingTerm). t.product.items) (same_there w.terms.items stop.index t k.term k.inside there k.is_there);
  names = subst (λ x. Names x k.step) (sym es) k.names;
  stops = subst (λ x. IsStopOf (preparation (setting_of r) s budget f) x a.stop) (sym e) (subst (IsStopOf (preparation (setting_of r) s budget f) (working_in w)) (sym es) k.stops);
}
