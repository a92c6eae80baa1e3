-- What the tests of the given values answer, from a sorted copy of them.
use Rattle.std.specs.List.{filter, find}
use Rattle.std.proofs.Common.{◌≡◌, ◌⊎◌, inl, inr, ◌<◌, ◌≤◌, ◌+◌, ◌∙◌, ℕ, zero, suc, Bool, true, false, not, cond, List, [], ◌∷◌, All, drop, length, slice_index_or, Option, Some, None, Ok, refl, sym, ap, arith}
use Rattle.dz_int.specs.Fractions.{Fraction}
use Rattle.dz_rank.specs.Rankings.{RankingValue, ranking_cmp}
use Rattle.dz_rank.specs.Symbols.{BelongsTo, HasFourExponents, is_derivative}
use Rattle.dz_rank.specs.declared.symbols.Symbol.{Symbol}
use Rattle.dz_monomials.specs.Ranked.{symbols_under}
use Rattle.dz_monomials.proofs.SymbolLaws.{ranking_order}
use Rattle.dz_monomials.specs.Lists.{AllOf}
use Rattle.dz_algebra.specs.Outcome.{◌>>=◌}
use Rattle.dz_diff.specs.State.{State}
use Rattle.dz_step.proofs.Searches.{drop_here}
use Rattle.dz_jet.specs.declared.faults.JetFault.{JetFault}
use Rattle.dz_jet.specs.declared.faults.JetFault.TheVariants as faults
use Rattle.dz_syntax.specs.Systems.{AreDistinct}
use Rattle.dz_jet.specs.Jets.{Values, given_to, is_among, is_needed, test_given, unless}
use Rattle.dz_parametric.specs.Orders.{derivatives_to}
use Rattle.dz_jet.specs.Stops.{IsFault}
use Rattle.dz_jet.specs.Tables.{HaveOneValue, first_missing, first_not_free}
use Rattle.dz_parametric.specs.Orders.{IsRising}
use Rattle.dz_jet.proofs.FoldSteps.{any_default}
use Rattle.dz_jet.proofs.JetSymbols.{all_listed, jet_symbols}
use Rattle.dz_parametric.proofs.OrderLists.{IsListed, all_derivatives, rises}
use Rattle.dz_jet.proofs.PairSteps.{four}
use Rattle.dz_parametric.proofs.SortedSymbols.{ordered_rises}

-- distinct symbols have one value each
pub distinct_one : (known : Values) → AreDistinct known → HaveOneValue known
distinct_one known apart s v w a b = by_places (split a.0 b.0)
  where
    split : (i j : ℕ) → ((i < j) ⊎ (j < i)) ⊎ (i ≡ j)
    split zero zero = inr refl
    split zero (suc j) = inl (inl (omega arith))
    split (suc i) zero = inl (inr (omega arith))
    split (suc i) (suc j) = elim (split i j) [ inl (inl e) ↦ inl (inl (omega arith)) | inl (inr e) ↦ inl (inr (omega arith)) | inr e ↦ inr (ap suc e) ]

    never : (i j : ℕ) (x y : Fraction) → i < j → j < length known → slice_index_or known i (s, x) ≡ (s, x) → slice_index_or known j (s, y) ≡ (s, y) → ⊥
    never i j x y l k e f = apart i j (s, x) l k (ap (λ p. p.0) e ∙ sym (ap (λ p. p.0) (any_default known j (s, x) (s, y) k ∙ f)))

    by_places : ((a.0 < b.0) ⊎ (b.0 < a.0)) ⊎ (a.0 ≡ b.0) → v ≡ w
    by_places (inl (inl l)) = absurd (never a.0 b.0 v w l b.1 a.2 b.2)
    by_places (inl (inr l)) = absurd (never b.0 a.0 w v l a.1 b.2 a.2)
    by_places (inr e) = ap (λ p. p.1) (sym a.2 ∙ ap (λ i. slice_index_or known i (s, v)) e ∙ any_default known b.0 (s, v) (s, w) b.1 ∙ b.2)

-- ---- the derivatives up to an order
module _ (r : RankingValue) (few : r.signature.independents ≤ 4) (m : ℕ) where
  each_one : (P : Symbol → Type 0) (xs : List Symbol) → AllOf P xs → All P xs
  each_one P [] h i d l = absurd (omega arith)
  each_one P (x ∷ xs) h zero d l = h.0
  each_one P (x ∷ xs) h (suc i) d l = each_one P xs h.1 i d (omega arith)

  more_of : (P Q : Symbol → Type 0) (xs : List Symbol) → ((s : Symbol) → P s → Q s) → AllOf P xs → AllOf Q xs
  more_of P Q [] f h = tt
  more_of P Q (x ∷ xs) f h = (f x h.0, more_of P Q xs f h.1)

  pub symbols_have_four : All HasFourExponents (jet_symbols r few m)
  symbols_have_four = each_one HasFourExponents (jet_symbols r few m) (more_of (IsListed r few m) HasFourExponents (jet_symbols r few m) (λ s h. four r s h.belongs) (all_listed r few m))

  pub derivatives_belong : All (BelongsTo r.signature) (derivatives_to r m)
  derivatives_belong = each_one (BelongsTo r.signature) (derivatives_to r m) (more_of (λ s. IsListed r few m s × (is_derivative s ≡ true)) (BelongsTo r.signature) (derivatives_to r m) (λ s h. h.0.belongs) (all_derivatives r few m))

  pub derivatives_proper : AllOf (λ s. is_derivative s ≡ true) (derivatives_to r m)
  derivatives_proper = more_of (λ s. IsListed r few m s × (is_derivative s ≡ true)) (λ s. is_derivative s ≡ true) (derivatives_to r m) (λ s h. h.1) (all_derivatives r few m)

  pub derivatives_rise : IsRising (ranking_cmp r) (derivatives_to r m)
  derivatives_rise = ordered_rises (ranking_order r) (derivatives_to r m) derivatives_proper (rises r few m)

-- ---- answers
module _ (r : RankingValue) (st : State) (known : Values) (symbols : List Symbol) where
  abbrev needed : List Symbol
  needed = filter (is_needed (symbols_under r) st) symbols

  module _ (sorted : Values) (same : (s : Symbol) → given_to (symbols_under r) sorted s ≡ given_to (symbols_under r) known s) where
    missing_same : first_missing r st sorted symbols ≡ first_missing r st known symbols
    missing_same = ap (λ (f : Symbol → Option Fraction). find (λ v. not (elim (f v) as (λ _. Bool) [ None ↦ false | Some x ↦ true ])) needed) (λ i s. same s i)

    pub given_answer : first_missing r st sorted symbols ≡ None → test_given (symbols_under r) known needed ≡ unless faults.NotFree (first_not_free r st known symbols)
    given_answer none = ap (λ o. unless faults.Missing o >>= (λ _. unless faults.NotFree (first_not_free r st known symbols))) (sym missing_same ∙ none)

    pub all_given : first_missing r st sorted symbols ≡ None → first_not_free r st known symbols ≡ None → test_given (symbols_under r) known needed ≡ Ok tt
    all_given none free = given_answer none ∙ ap (unless faults.NotFree) free

    pub not_free_fault : first_missing r st sorted symbols ≡ None → (s : Symbol) → first_not_free r st known symbols ≡ Some s → IsFault (faults.NotFree s) (test_given (symbols_under r) known needed)
    not_free_fault none s e = inr (given_answer none ∙ ap (unless faults.NotFree) e)

    pub missing_fault : (e : JetFault) → IsFault e (unless faults.Missing (first_missing r st sorted symbols)) → IsFault e (test_given (symbols_under r) known needed)
    missing_fault e (inl h) = inl h
    missing_fault e (inr h) = inr (ap (λ x. x >>= (λ _. unless faults.NotFree (first_not_free r st known symbols))) (sym (ap (unless faults.Missing) missing_same) ∙ h))

  -- ---- the search for a value that is not needed
  module _ (i : ℕ) (d : Symbol × Fraction) (inside : i < length known) (rest : first_not_free r st (drop i known) symbols ≡ first_not_free r st known symbols) where
    abbrev here : Bool → Option Symbol
    here b = cond (not b) (Some (slice_index_or known i d).0) (first_not_free r st (drop (i + 1) known) symbols)

    split : first_not_free r st (drop i known) symbols ≡ here (is_among (symbols_under r) needed (slice_index_or known i d).0)
    split = ap (λ xs. first_not_free r st xs symbols) (drop_here i known d inside)

    pub not_free_here : is_among (symbols_under r) needed (slice_index_or known i d).0 ≡ false → Some (slice_index_or known i d).0 ≡ first_not_free r st known symbols
    not_free_here e = sym (sym rest ∙ split ∙ ap here e)

    pub free_here : is_among (symbols_under r) needed (slice_index_or known i d).0 ≡ true → first_not_free r st (drop (i + 1) known) symbols ≡ first_not_free r st known symbols
    free_here e = sym (split ∙ ap here e) ∙ rest
