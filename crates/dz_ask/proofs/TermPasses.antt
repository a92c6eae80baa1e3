-- The terms of a preparation, one after the other.
use Rattle.std.specs.Prelude.{slice_index_or, filter, All, not}
use Rattle.std.proofs.lemmas.List.Elements.{All-append, All-cons, All-head, All-nil, All-tail}
use Rattle.std.proofs.Common.{◌≡◌, ◌<◌, ◌≤◌, ◌+◌, ◌∙◌, ◌++◌, ℕ, Bool, true, false, cond, List, [], ◌∷◌, length, drop, refl, sym, ap, subst, Ok, Err, Result}
use Rattle.std.proofs.lemmas.List.{append_assoc, append-nil}
use Rattle.dz_algebra.specs.Polynomial.{Polynomial}
use Rattle.dz_algebra.specs.Size.{Refusal, product_answer}
use Rattle.dz_rank.specs.Rankings.{RankingValue}
use Rattle.dz_rank.specs.declared.symbols.Symbol.{Symbol}
use Rattle.dz_monomials.specs.Ranked.{symbols_under}
use Rattle.dz_monomials.specs.Stops.{IsStop}
use Rattle.dz_monomials.specs.declared.PolyStop.{PolyStop}
use Rattle.dz_algebra.specs.Outcome.{◌>>=◌}
use Rattle.dz_diff.specs.Tests.{is_zero}
use Rattle.dz_step.proofs.StepParts.{stop_first}
use Rattle.dz_ask.specs.Preparation.{Term}
use Rattle.dz_ask.specs.Turns.{coefficient_terms, multiplied, nonzero_terms}
use Rattle.dz_terms.specs.Entries.{IsEntry}
use Rattle.dz_ask.specs.Working.{AreEntries, terms_in}
use Rattle.dz_ask.specs.declared.working.WorkingTerm.{WorkingTerm}
use Rattle.dz_ask.proofs.ListPasses.{all_dropped, dropped}

-- an answer with terms before those that it has
abbrev pub prepended : List Term → Result (List Term) Refusal → Result (List Term) Refusal
prepended us x = x >>= (λ vs. Ok (us ++ vs))

-- no terms before an answer
pub prepended-nil : (x : Result (List Term) Refusal) → prepended [] x ≡ x
prepended-nil (Ok vs) = refl
prepended-nil (Err e) = refl

-- a term may pass from an answer to those before it
pub prepended-cons : (us : List Term) (t : Term) (x : Result (List Term) Refusal) → prepended us (x >>= (λ vs. Ok (t ∷ vs))) ≡ prepended (us ++ t ∷ []) x
prepended-cons us t (Ok vs) = ap Ok (sym (append_assoc us (t ∷ []) vs))
prepended-cons us t (Err e) = refl

-- ---- multiplying
module _ (r : RankingValue) (a : Polynomial Symbol) (ts : List WorkingTerm) (whole : Result (List Term) Refusal) (i : ℕ) (t : WorkingTerm) (h : i < length ts) (e : t ≡ slice_index_or ts i t) (us : List Term)
    (so_far : whole ≡ prepended us (multiplied (symbols_under r) a (terms_in (drop i ts)))) where
  -- what is left begins with this term
  here : whole ≡ prepended us (multiplied (symbols_under r) a (terms_in (t ∷ drop (i + 1) ts)))
  here = so_far ∙ ap (λ l. prepended us (multiplied (symbols_under r) a (terms_in l))) (dropped ts i t h e)

  pub multiplied_more : (c : Polynomial Symbol) → product_answer (symbols_under r) a t.coefficient.terms ≡ Ok c → whole ≡ prepended (us ++ (t.product.items, c) ∷ []) (multiplied (symbols_under r) a (terms_in (drop (i + 1) ts)))
  multiplied_more c f =
      here ∙ ap (λ (x : Result (Polynomial Symbol) Refusal). prepended us (x >>= (λ c. multiplied (symbols_under r) a (terms_in (drop (i + 1) ts)) >>= (λ vs. Ok ((t.product.items, c) ∷ vs))))) f
      ∙ prepended-cons us (t.product.items, c) (multiplied (symbols_under r) a (terms_in (drop (i + 1) ts)))

  pub multiplied_refused : (stop : PolyStop) → IsStop stop (product_answer (symbols_under r) a t.coefficient.terms) → IsStop stop whole
  multiplied_refused stop f = subst (IsStop stop) (sym here) (stop_first stop (multiplied (symbols_under r) a (terms_in (t ∷ drop (i + 1) ts))) _ (stop_first stop (product_answer (symbols_under r) a t.coefficient.terms) _ f))

-- where no term is left, all are multiplied
pub multiplied_all : (r : RankingValue) (a : Polynomial Symbol) (ts : List WorkingTerm) (whole : Result (List Term) Refusal) (i : ℕ) → length ts ≤ i → (us : List Term)
    → whole ≡ prepended us (multiplied (symbols_under r) a (terms_in (drop i ts))) → whole ≡ Ok us
multiplied_all r a ts whole i h us e = e ∙ ap (λ l. prepended us (multiplied (symbols_under r) a (terms_in l))) (all_dropped ts i h) ∙ ap Ok (append-nil us)

-- one more entry
pub entries_more : (r : RankingValue) (ts : List WorkingTerm) (t : WorkingTerm) → AreEntries r ts → IsEntry r t.coefficient → AreEntries r (ts ++ t ∷ [])
entries_more r ts t h k = All-append (λ (t : WorkingTerm). IsEntry r t.coefficient) ts (t ∷ []) h (All-cons (λ (t : WorkingTerm). IsEntry r t.coefficient) t [] k (All-nil (λ (t : WorkingTerm). IsEntry r t.coefficient)))

-- entries before and behind one
pub entries_joined : (r : RankingValue) (ts : List WorkingTerm) (t : WorkingTerm) (us : List WorkingTerm) → AreEntries r ts → IsEntry r t.coefficient → AreEntries r us → AreEntries r (ts ++ t ∷ us)
entries_joined r ts t us h k j =
    All-append (λ (t : WorkingTerm). IsEntry r t.coefficient) ts (t ∷ us) h (All-cons (λ (t : WorkingTerm). IsEntry r t.coefficient) t us k j)

-- ---- counting
-- what is left of a budget, where terms are still to be counted
pub counted_first : (ts : List WorkingTerm) (i : ℕ) (t : WorkingTerm) → i < length ts → t ≡ slice_index_or ts i t → coefficient_terms (terms_in (drop i ts)) ≡ length t.coefficient.terms + coefficient_terms (terms_in (drop (i + 1) ts))
counted_first ts i t h e = ap (λ l. coefficient_terms (terms_in l)) (dropped ts i t h e)

-- ---- leaving out
-- a term is kept where it has a coefficient
abbrev pub has_coefficient : WorkingTerm → Bool
has_coefficient t = not (is_zero t.coefficient.terms)

-- what is kept are the terms that are not zero
pub nonzero_kept : (ts : List WorkingTerm) → terms_in (filter has_coefficient ts) ≡ nonzero_terms (terms_in ts)
nonzero_kept [] = refl
nonzero_kept (t ∷ ts) = by_test (is_zero t.coefficient.terms) (nonzero_kept ts)
  where
    by_test : (b : Bool) → terms_in (filter has_coefficient ts) ≡ nonzero_terms (terms_in ts)
        → terms_in (cond (not b) (t ∷ filter has_coefficient ts) (filter has_coefficient ts)) ≡ cond b (nonzero_terms (terms_in ts)) ((t.product.items, t.coefficient.terms) ∷ nonzero_terms (terms_in ts))
    by_test true h = h
    by_test false h = ap (λ l. (t.product.items, t.coefficient.terms) ∷ l) h

-- what holds of each holds of those that are kept
pub all_filtered : {A : Type 0} (P : A → Type 0) (test : A → Bool) (xs : List A) → All P xs → All P (filter test xs)
all_filtered P test [] h = h
all_filtered {A} P test (x ∷ xs) h = by_test (test x) (all_filtered P test xs (All-tail P x xs h))
  where
    by_test : (b : Bool) → All P (filter test xs) → All P (cond b (x ∷ filter test xs) (filter test xs))
    by_test true k = All-cons P x (filter test xs) (All-head P x xs h) k
    by_test false k = k
