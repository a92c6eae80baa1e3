-- What is found out of the equations of a state, place by place, and what it tells.
use Rattle.std.specs.Prelude.{OnErr, OnOk, is_some, not, slice_index_or}
use Rattle.std.proofs.Common.{◌≡◌, ◌<◌, ◌∙◌, ◌&&◌, ◌||◌, ℕ, zero, suc, Bool, true, false, cond, List, [], ◌∷◌, length, map, refl, sym, ap, ap₂, subst, arith, Option, Some, None, Result, Ok, Err}
use Rattle.dz_algebra.specs.Monomial.{Monomial}
use Rattle.dz_algebra.specs.Parts.{is_ground, leader}
use Rattle.dz_algebra.specs.Polynomial.{Polynomial, symbol_polynomial}
use Rattle.dz_algebra.specs.Size.{Refusal}
use Rattle.dz_algebra.specs.Symbols.{Symbols}
use Rattle.dz_rank.specs.Rankings.{RankingValue, ranking_cmp}
use Rattle.dz_rank.specs.declared.symbols.Symbol.{Symbol}
use Rattle.dz_rank.specs.declared.symbols.Symbol.TheVariants.{Independent, Derivative}
use Rattle.dz_terms.specs.Entries.{IsEntry}
use Rattle.dz_monomials.specs.Keeping.{IsTabled}
use Rattle.dz_monomials.specs.Ranked.{symbols_under}
use Rattle.dz_poly.specs.Books.{BookValue, IsKept, Lives, polynomial}
use Rattle.dz_poly.proofs.Books.{kept_polynomial}
use Rattle.dz_diff.specs.Operations.{setting_of}
use Rattle.dz_diff.specs.State.{State}
use Rattle.dz_diff.specs.States.{polynomials}
use Rattle.dz_diff.specs.Tests.{Polynomials, is_member, same}
use Rattle.dz_step.specs.declared.Which.{Which}
use Rattle.dz_step.specs.declared.Which.TheVariants.{Initial, Separant}
use Rattle.dz_monomials.specs.PowerDivision.{is_divided}
use Rattle.dz_step.specs.FullRun.{derivatives_of, or_else}
use Rattle.dz_step.specs.Step.{multiplier_answer, permitted_if}
use Rattle.dz_step.proofs.DivisorTables.{polynomial_here}
use Rattle.dz_step.proofs.Searches.{derivatives_in, derivatives_stand, front}
use Rattle.dz_pair.specs.Pair.{delta_answer}
use Rattle.dz_engine.specs.declared.facts.Delta.{Delta}
use Rattle.dz_engine.specs.declared.facts.Facts.{Facts}
use Rattle.dz_engine.specs.declared.facts.Multiplier.{Multiplier}
use Rattle.dz_engine.specs.Facts.{AreFactsOf, AreKnown, IsAnswer, IsDelta, IsKnown, is_undivided, names_of}
use Rattle.dz_engine.specs.Finding.{factor_of, inequation_dividing, to_split, to_split_on}
use Rattle.dz_engine.specs.Order.{first_symbol, symbols_of}
use Rattle.dz_engine.proofs.Findings.{led_not_ground, symbols_stand, unled_ground}

-- ---- lists
-- a Delta-polynomial stays one where the book keeps its polynomials
delta_stays : (old new : BookValue) → IsKept old new → (p : ℕ) → Lives old p → (d : Delta) → IsDelta old p d → IsDelta new p d
delta_stays old new k p l d h = record {
  lives = omega (arith, k.later, h.lives);
  is = subst (λ r. delta_answer (setting_of r) (polynomial new p) (polynomial new d.other) ≡ Ok d.entry.terms) (sym k.ranking)
      (subst (λ q. delta_answer (setting_of old.ranking) q (polynomial new d.other) ≡ Ok d.entry.terms) (sym (kept_polynomial old new p k l))
      (subst (λ q. delta_answer (setting_of old.ranking) (polynomial old p) q ≡ Ok d.entry.terms) (sym (kept_polynomial old new d.other k h.lives)) h.is));
  entry = subst (λ r. IsEntry r d.entry) (sym k.ranking) h.entry;
}

-- what is known stays so where the book keeps its polynomials
pub known_stays : (old new : BookValue) → IsKept old new → (f : Facts) → IsKnown old f → IsKnown new f
known_stays old new k f h = record {
  lives = omega (arith, k.later, h.lives);
  facts = subst (λ r. AreFactsOf r (polynomial new f.poly) f) (sym k.ranking) (subst (λ q. AreFactsOf old.ranking q f) (sym (kept_polynomial old new f.poly k h.lives)) h.facts);
  deltas = λ i d l. delta_stays old new k f.poly h.lives (slice_index_or f.deltas.items i d) (h.deltas i d l);
}

pub all_stay : (old new : BookValue) → IsKept old new → (fs : List Facts) → AreKnown old fs → AreKnown new fs
all_stay old new k fs h i d l = known_stays old new k (slice_index_or fs i d) (h i d l)

-- after a call that keeps them, or refuses and leaves the book as it was
pub known_by : {A E : Type 0} (old new : BookValue) (answer : Result A E) → OnOk answer (IsKept old new) → OnErr answer (new ≡ old) → (fs : List Facts) → AreKnown old fs → AreKnown new fs
known_by old new (Ok x) k r fs h = all_stay old new k fs h
known_by old new (Err e) k r fs h = subst (λ b. AreKnown b fs) (sym r) h

-- where a call succeeds it is so
pub on_ok : {A E : Type 0} (P : Type 0) (answer : Result A E) → P → OnOk answer P
on_ok P (Ok x) h = h
on_ok P (Err e) h = tt

-- the name at a place
pub name_at : (fs : List Facts) (k x : ℕ) (d : Facts) → k < length fs → slice_index_or (names_of fs) k x ≡ (slice_index_or fs k d).poly
name_at [] k x d l = absurd (omega arith)
name_at (f ∷ fs) zero x d l = refl
name_at (f ∷ fs) (suc k) x d l = name_at fs k x d (omega arith)

pub names_length : (fs : List Facts) → length (names_of fs) ≡ length fs
names_length [] = refl
names_length (f ∷ fs) = ap suc (names_length fs)

-- what is known of the polynomial at a place
pub known_at : (book : BookValue) (ps : List ℕ) (fs : List Facts) (k : ℕ) (d : Facts) → AreKnown book fs → names_of fs ≡ ps → k < length fs → AreFactsOf book.ranking (slice_index_or (polynomials book ps) k []) (slice_index_or fs k d)
known_at book ps fs k d h e l =
    let inside : k < length ps = omega (arith, l, names_length fs, ap length e) in
    let here : slice_index_or (polynomials book ps) k [] ≡ polynomial book (slice_index_or fs k d).poly = polynomial_here book ps k 0 inside ∙ ap (λ qs. polynomial book (slice_index_or qs k 0)) (sym e) ∙ ap (polynomial book) (name_at fs k 0 d l) in
    subst (λ q. AreFactsOf book.ranking q (slice_index_or fs k d)) (sym here) (h k d l).facts

-- ---- undivided polynomials
-- a test that nothing passes where another passes nothing
none_of : (a b : Symbol → Bool) → ((v : Symbol) → a v ≡ false → b v ≡ false) → (vs : List Symbol) → is_some (first_symbol a vs) ≡ false → first_symbol b vs ≡ None
none_of a b f [] e = refl
none_of a b f (v ∷ vs) e = by_test (a v) refl e (none_of a b f vs)
  where
    by_test : (t : Bool) → a v ≡ t → is_some (cond t (Some v) (first_symbol a vs)) ≡ false → (is_some (first_symbol a vs) ≡ false → first_symbol b vs ≡ None) → first_symbol b (v ∷ vs) ≡ None
    by_test true k e ih = cc
    by_test false k e ih = ap (λ t. cond t (Some v) (first_symbol b vs)) (f v k) ∙ ih e

none_front : (a : Symbol → Bool) (vs : List Symbol) → is_some (first_symbol a vs) ≡ false → is_some (first_symbol a (front vs)) ≡ false
none_front a [] e = refl
none_front a (Independent j ∷ vs) e = refl
none_front a (Derivative u t ∷ vs) e = by_test (a (Derivative u t)) e (none_front a vs)
  where
    by_test : (b : Bool) → is_some (cond b (Some (Derivative u t)) (first_symbol a vs)) ≡ false → (is_some (first_symbol a vs) ≡ false → is_some (first_symbol a (front vs)) ≡ false) → is_some (cond b (Some (Derivative u t)) (first_symbol a (front vs))) ≡ false
    by_test true e ih = cc
    by_test false e ih = ih e

not_false : (b : Bool) → not b ≡ true → b ≡ false
not_false true e = cc
not_false false e = refl

module _ (r : RankingValue) (q : Polynomial Symbol) (u : is_undivided (symbols_under r) q ≡ true) where
  -- no inequation divides it
  pub no_dividing : (s : State) → None ≡ inequation_dividing (symbols_under r) s q
  no_dividing s = sym (none_of (λ v. is_divided (ranking_cmp r) v q) (λ v. is_member (symbols_under r) (symbol_polynomial v) s.inequations && is_divided (ranking_cmp r) v q) (λ v e. by_parts (is_member (symbols_under r) (symbol_polynomial v) s.inequations) (is_divided (ranking_cmp r) v q) e) (symbols_of (symbols_under r) q) (not_false _ u))
    where
      by_parts : (a b : Bool) → b ≡ false → (a && b) ≡ false
      by_parts true b e = e
      by_parts false b e = refl

  -- and nothing can be factored out
  pub no_factor : (s : State) (table : Monomial Symbol) → IsTabled r q table → None ≡ factor_of (symbols_under r) s q
  no_factor s table h =
      sym (none_of (λ v. is_divided (ranking_cmp r) v q) (λ v. is_divided (ranking_cmp r) v q && not (same (symbols_under r) q (symbol_polynomial v)) && not (is_member (symbols_under r) (symbol_polynomial v) s.inequations))
      (λ v e. ap (λ b. b && not (same (symbols_under r) q (symbol_polynomial v)) && not (is_member (symbols_under r) (symbol_polynomial v) s.inequations)) e)
      (derivatives_of (symbols_under r) q) (subst (λ vs. is_some (first_symbol (λ v. is_divided (ranking_cmp r) v q) vs) ≡ false) (sym (derivatives_stand r q table h)) none))
    where
      none : is_some (first_symbol (λ v. is_divided (ranking_cmp r) v q) (derivatives_in table)) ≡ false
      none = none_front (λ v. is_divided (ranking_cmp r) v q) (map (λ p. p.0) table) (subst (λ vs. is_some (first_symbol (λ v. is_divided (ranking_cmp r) v q) vs) ≡ false) (symbols_stand r q table h) (not_false _ u))

-- ---- what a multiplier tells
module _ (r : RankingValue) where
  -- one that does not fit is permitted by none
  pub none_granted : (hs : Polynomials) (answer : Result (Polynomial Symbol) Refusal) → IsAnswer r answer None → false ≡ permitted_if (symbols_under r) hs answer
  none_granted hs (Ok m) h = absurd h
  none_granted hs (Err refusal) h = refl

  -- one that fits is permitted where it is a unit or its norm is among the inequations
  pub some_granted : (hs : Polynomials) (answer : Result (Polynomial Symbol) Refusal) (x : Multiplier) (b : Bool) → IsAnswer r answer (Some x) → b ≡ (x.is_unit || is_member (symbols_under r) x.norm.terms hs) → b ≡ permitted_if (symbols_under r) hs answer
  some_granted hs (Ok m) x b h e = e ∙ ap₂ (λ u q. u || is_member (symbols_under r) q hs) h.unit_is h.norm_is
  some_granted hs (Err refusal) x b h e = absurd h

  -- a state is split on one that does not fit, which is an open end
  pub none_split : (s : State) (which : Which) (answer : Result (Polynomial Symbol) Refusal) → IsAnswer r answer None → Some None ≡ to_split_on (symbols_under r) s which answer
  none_split s which (Ok m) h = absurd h
  none_split s which (Err refusal) h = refl

  -- and on one that fits unless it is ground or its norm is a member
  pub some_split : (s : State) (which : Which) (answer : Result (Polynomial Symbol) Refusal) (x : Multiplier) (b : Bool) → IsAnswer r answer (Some x)
      → b ≡ (x.is_ground || is_member (symbols_under r) x.norm.terms s.equations || is_member (symbols_under r) x.norm.terms s.inequations) → cond b None (Some (Some which)) ≡ to_split_on (symbols_under r) s which answer
  some_split s which (Ok m) x b h e = ap (λ b. cond b None (Some (Some which))) (e ∙ ap₂ (λ u q. u || is_member (symbols_under r) q s.equations || is_member (symbols_under r) q s.inequations) h.ground_is h.norm_is)
  some_split s which (Err refusal) x b h e = absurd h

-- a multiplier is ground where it has no leader
pub ground_tested : (r : RankingValue) (p : Polynomial Symbol) (o : Option Symbol) (b : Bool) → o ≡ leader (symbols_under r) p → is_some o ≡ not b → b ≡ is_ground (symbols_under r) p
ground_tested r p None true e f = sym (unled_ground r p None e refl)
ground_tested r p None false e f = cc
ground_tested r p (Some l) true e f = cc
ground_tested r p (Some l) false e f = sym (led_not_ground r p (Some l) e refl)

-- ---- the multiplier of a split
module _ (g : Symbols Symbol) (s : State) (p : Polynomial Symbol) (l : Symbol) (e : leader g p ≡ Some l) (o : Option (Option Which)) (f : o ≡ to_split_on g s Initial (multiplier_answer g Initial l p)) where
  abbrev splits : Option Symbol → Option (Option Which)
  splits o = elim o as (λ _. Option (Option Which)) [ None ↦ None | Some l ↦ or_else (to_split_on g s Initial (multiplier_answer g Initial l p)) (to_split_on g s Separant (multiplier_answer g Separant l p)) ]

  both : or_else o (to_split_on g s Separant (multiplier_answer g Separant l p)) ≡ to_split g s p
  both = ap (λ o. or_else o (to_split_on g s Separant (multiplier_answer g Separant l p))) f ∙ sym (ap splits e)

  -- the initial
  pub split_first : is_some o ≡ true → o ≡ to_split g s p
  split_first h = sym (by_option o h) ∙ both
    where
      by_option : (o : Option (Option Which)) → is_some o ≡ true → or_else o (to_split_on g s Separant (multiplier_answer g Separant l p)) ≡ o
      by_option None h = cc
      by_option (Some x) h = refl

  -- or else the separant
  pub split_second : is_some o ≡ false → (o' : Option (Option Which)) → o' ≡ to_split_on g s Separant (multiplier_answer g Separant l p) → o' ≡ to_split g s p
  split_second h o' k = k ∙ sym (by_option o h) ∙ both
    where
      by_option : (o : Option (Option Which)) → is_some o ≡ false → or_else o (to_split_on g s Separant (multiplier_answer g Separant l p)) ≡ to_split_on g s Separant (multiplier_answer g Separant l p)
      by_option None h = refl
      by_option (Some x) h = cc
