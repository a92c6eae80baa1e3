-- Members of filtered lists.
use Rattle.std.specs.List.{filter, find}
use Rattle.std.proofs.Common.{◌≡◌, inl, inr, ◌∙◌, suc, Bool, true, false, not, ◌||◌, cond, All, List, [], ◌∷◌, Some, None, sym, refl, ap, subst, arith}
use Rattle.dz_rank.specs.Rankings.{RankingValue}
use Rattle.dz_rank.specs.declared.symbols.Symbol.{Symbol}
use Rattle.dz_monomials.specs.Ranked.{symbols_under}
use Rattle.dz_diff.specs.Tests.{same_symbol}
use Rattle.dz_algebra.proofs.Outcomes.{either}
use Rattle.dz_jet.specs.Jets.{is_among}
use Rattle.dz_jet.proofs.JetLists.{itself_same, same_is}
use Rattle.dz_parametric.proofs.Members.{In}

pub in_filter : {A : Type 0} (test : A → Bool) (xs : List A) (x : A) → In x (filter test xs) → In x xs
in_filter test [] x h = absurd h
in_filter test (y ∷ xs) x h = by_test (test y) h (λ k. in_filter test xs x k)
  where
    by_test : (b : Bool) → In x (cond b (y ∷ filter test xs) (filter test xs)) → (In x (filter test xs) → In x xs) → In x (y ∷ xs)
    by_test true (inl e) f = inl e
    by_test true (inr k) f = inr (f k)
    by_test false k f = inr (f k)

pub among_in : (r : RankingValue) (ts : List Symbol) (s : Symbol) → is_among (symbols_under r) ts s ≡ true → In s ts
among_in r [] s e = cc
among_in r (t ∷ ts) s e = elim (either (same_symbol (symbols_under r) t s) (is_among (symbols_under r) ts s) e) [ inl h ↦ inl (same_is r t s h) | inr h ↦ inr (among_in r ts s h) ]

pub in_filtered : {A : Type 0} (test : A → Bool) (xs : List A) (x : A) → In x xs → test x ≡ true → In x (filter test xs)
in_filtered test [] x h t = absurd h
in_filtered {A} test (y ∷ xs) x h t = by_test (test y) refl h (λ k. in_filtered test xs x k t)
  where
    by_test : (b : Bool) → test y ≡ b → In x (y ∷ xs) → (In x xs → In x (filter test xs)) → In x (cond b (y ∷ filter test xs) (filter test xs))
    by_test true e (inl k) f = inl k
    by_test true e (inr k) f = inr (f k)
    by_test false e (inl k) f = absurd (let g : true ≡ false = sym t ∙ ap test (sym k) ∙ e in cc)
    by_test false e (inr k) f = f k

pub filtered_passes : {A : Type 0} (test : A → Bool) (xs : List A) (x : A) → In x (filter test xs) → test x ≡ true
filtered_passes test [] x h = absurd h
filtered_passes {A} test (y ∷ xs) x h = by_test (test y) refl h (λ k. filtered_passes test xs x k)
  where
    by_test : (b : Bool) → test y ≡ b → In x (cond b (y ∷ filter test xs) (filter test xs)) → (In x (filter test xs) → test x ≡ true) → test x ≡ true
    by_test true e (inl k) f = ap test (sym k) ∙ e
    by_test true e (inr k) f = f k
    by_test false e k f = f k

-- where no member fails a test, each passes it
pub none_fails : (test : Symbol → Bool) (xs : List Symbol) → find (λ s. not (test s)) xs ≡ None → (s : Symbol) → In s xs → test s ≡ true
none_fails test [] h s k = absurd k
none_fails test (x ∷ xs) h s k = by_test (test x) refl h k (λ h k. none_fails test xs h s k)
  where
    by_test : (b : Bool) → test x ≡ b → cond (not b) (Some x) (find (λ s. not (test s)) xs) ≡ None → In s (x ∷ xs) → (find (λ s. not (test s)) xs ≡ None → In s xs → test s ≡ true) → test s ≡ true
    by_test true e h (inl k) f = ap test (sym k) ∙ e
    by_test true e h (inr k) f = f h k
    by_test false e h k f = cc

module _ (r : RankingValue) where
  pub in_among : (ts : List Symbol) (s : Symbol) → In s ts → is_among (symbols_under r) ts s ≡ true
  in_among [] s h = absurd h
  in_among (t ∷ ts) s (inl e) = ap (λ b. b || is_among (symbols_under r) ts s) (ap (λ u. same_symbol (symbols_under r) u s) e ∙ itself_same r s)
  in_among (t ∷ ts) s (inr h) = either_true (same_symbol (symbols_under r) t s) (in_among ts s h)
    where
      either_true : (b : Bool) → is_among (symbols_under r) ts s ≡ true → (b || is_among (symbols_under r) ts s) ≡ true
      either_true true e = refl
      either_true false e = e

-- a member that is found has what all have
pub found_is : {A : Type 0} (P : A → Type 0) (test : A → Bool) (xs : List A) (x : A) → All P xs → find test xs ≡ Some x → P x
found_is P test [] x h e = absurd cc
found_is P test (y ∷ xs) x h e = by_test (test y) e (λ f. found_is P test xs x (λ i d l. h (suc i) d (omega arith)) f)
  where
    by_test : (b : Bool) → cond b (Some y) (find test xs) ≡ Some x → (find test xs ≡ Some x → P x) → P x
    by_test true e more = let same : y ≡ x = cc in subst P same (h 0 y (omega arith))
    by_test false e more = more e
