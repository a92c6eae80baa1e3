-- Values of symbols in lists that grow.
use Rattle.std.proofs.Common.{◌≡◌, ◌⊎◌, inl, inr, ◌∙◌, Bool, true, false, cond, IsTrue, List, [], ◌∷◌, ◌++◌, map, pos, Option, Some, None, refl, sym, ap}
use Rattle.std.proofs.lemmas.Cmp.{tied_itself}
use Rattle.dz_int.specs.Fractions.{Fraction}
use Rattle.dz_rank.specs.Rankings.{RankingValue, ranking_cmp}
use Rattle.dz_rank.specs.declared.symbols.Symbol.{Symbol}
use Rattle.dz_monomials.specs.Ranked.{symbols_under}
use Rattle.dz_monomials.proofs.SymbolLaws.{ranking_order}
use Rattle.dz_monomials.specs.Lists.{AllOf}
use Rattle.dz_diff.specs.Tests.{is_equal, same_symbol}
use Rattle.dz_diff.proofs.SameTests.{equal_is}
use Rattle.dz_jet.specs.Fractions.{whole, is_reduced}
use Rattle.dz_jet.specs.Jets.{Values, given_to, value_in, is_given}
use Rattle.dz_jet.proofs.FractionLaws.{passes_lowest, whole_is}
use Rattle.dz_parametric.proofs.Members.{In}

module _ (r : RankingValue) where
  pub itself_same : (s : Symbol) → same_symbol (symbols_under r) s s ≡ true
  itself_same s = ap is_equal (tied_itself (ranking_order r).total s)

  pub same_is : (s t : Symbol) → same_symbol (symbols_under r) s t ≡ true → s ≡ t
  same_is s t e = (ranking_order r).same s t (equal_is (ranking_cmp r s t) e)

  -- the symbols of a list
  abbrev pub keys : Values → List Symbol
  keys xs = map (λ p. p.0) xs

  -- all values are reduced
  abbrev pub AreReduced : Values → Type 0
  AreReduced xs = AllOf (λ p. IsTrue (is_reduced p.1)) xs

  -- a value that is given before stays
  pub given_before : (xs ys : Values) (s : Symbol) (v : Fraction) → given_to (symbols_under r) xs s ≡ Some v → given_to (symbols_under r) (xs ++ ys) s ≡ Some v
  given_before [] ys s v e = cc
  given_before (p ∷ xs) ys s v e = by_test (same_symbol (symbols_under r) p.0 s) e (λ f. given_before xs ys s v f)
    where
      by_test : (b : Bool) → cond b (Some p.1) (given_to (symbols_under r) xs s) ≡ Some v → (given_to (symbols_under r) xs s ≡ Some v → given_to (symbols_under r) (xs ++ ys) s ≡ Some v) → cond b (Some p.1) (given_to (symbols_under r) (xs ++ ys) s) ≡ Some v
      by_test true e f = e
      by_test false e f = f e

  -- and one that is not given before comes from behind
  pub given_behind : (xs ys : Values) (s : Symbol) → given_to (symbols_under r) xs s ≡ None → given_to (symbols_under r) (xs ++ ys) s ≡ given_to (symbols_under r) ys s
  given_behind [] ys s e = refl
  given_behind (p ∷ xs) ys s e = by_test (same_symbol (symbols_under r) p.0 s) e (λ f. given_behind xs ys s f)
    where
      by_test : (b : Bool) → cond b (Some p.1) (given_to (symbols_under r) xs s) ≡ None → (given_to (symbols_under r) xs s ≡ None → given_to (symbols_under r) (xs ++ ys) s ≡ given_to (symbols_under r) ys s) → cond b (Some p.1) (given_to (symbols_under r) (xs ++ ys) s) ≡ given_to (symbols_under r) ys s
      by_test true e f = cc
      by_test false e f = f e

  -- the symbols of a list have values in it, and no others
  pub key_given : (xs : Values) (s : Symbol) → In s (keys xs) → (v : Fraction) × (given_to (symbols_under r) xs s ≡ Some v)
  key_given [] s h = absurd h
  key_given (p ∷ xs) s h = by_test (same_symbol (symbols_under r) p.0 s) refl h (λ k. key_given xs s k)
    where
      by_test : (b : Bool) → same_symbol (symbols_under r) p.0 s ≡ b → In s (p.0 ∷ keys xs) → (In s (keys xs) → (v : Fraction) × (given_to (symbols_under r) xs s ≡ Some v)) → (v : Fraction) × (cond b (Some p.1) (given_to (symbols_under r) xs s) ≡ Some v)
      by_test true e h f = (p.1, refl)
      by_test false e (inl k) f = let t : same_symbol (symbols_under r) p.0 s ≡ true = ap (same_symbol (symbols_under r) p.0) (sym k) ∙ itself_same p.0 in cc
      by_test false e (inr k) f = f k

  pub given_key : (xs : Values) (s : Symbol) (v : Fraction) → given_to (symbols_under r) xs s ≡ Some v → In s (keys xs)
  given_key [] s v e = cc
  given_key (p ∷ xs) s v e = by_test (same_symbol (symbols_under r) p.0 s) refl e (λ f. given_key xs s v f)
    where
      by_test : (b : Bool) → same_symbol (symbols_under r) p.0 s ≡ b → cond b (Some p.1) (given_to (symbols_under r) xs s) ≡ Some v → (given_to (symbols_under r) xs s ≡ Some v → In s (keys xs)) → In s (p.0 ∷ keys xs)
      by_test true e f k = inl (same_is p.0 s e)
      by_test false e f k = inr (k f)

  -- the value where there is one, and where there is none
  value_some : (xs : Values) (s : Symbol) (v : Fraction) → given_to (symbols_under r) xs s ≡ Some v → value_in (symbols_under r) xs s ≡ v
  value_some xs s v e = ap (λ (o : Option Fraction). elim o as (λ _. Fraction) [ None ↦ whole (pos 0) | Some v ↦ v ]) e

  -- values stay
  pub value_kept : (xs ys : Values) (s : Symbol) → In s (keys xs) → value_in (symbols_under r) (xs ++ ys) s ≡ value_in (symbols_under r) xs s
  value_kept xs ys s h = let k = key_given xs s h in value_some (xs ++ ys) s k.0 (given_before xs ys s k.0 k.1) ∙ sym (value_some xs s k.0 k.1)

  pub value_behind : (xs ys : Values) (s : Symbol) → given_to (symbols_under r) xs s ≡ None → value_in (symbols_under r) (xs ++ ys) s ≡ value_in (symbols_under r) ys s
  value_behind xs ys s e = ap (λ (o : Option Fraction). elim o as (λ _. Fraction) [ None ↦ whole (pos 0) | Some v ↦ v ]) (given_behind xs ys s e)

  -- the value that comes last
  pub value_last : (xs : Values) (w : Symbol) (v : Fraction) → given_to (symbols_under r) xs w ≡ None → value_in (symbols_under r) (xs ++ (w, v) ∷ []) w ≡ v
  value_last xs w v e = value_behind xs ((w, v) ∷ []) w e ∙ value_some ((w, v) ∷ []) w v (ap (λ b. cond b (Some v) None) (itself_same w))

  -- a symbol is one of a list, or has no value in it
  pub key_or_none : (xs : Values) (s : Symbol) → (given_to (symbols_under r) xs s ≡ None) ⊎ In s (keys xs)
  key_or_none xs s = by_answer (given_to (symbols_under r) xs s) refl
    where
      by_answer : (o : Option Fraction) → given_to (symbols_under r) xs s ≡ o → (given_to (symbols_under r) xs s ≡ None) ⊎ In s (keys xs)
      by_answer None e = inl e
      by_answer (Some v) e = inr (given_key xs s v e)

  pub given_is_key : (xs : Values) (s : Symbol) → is_given (symbols_under r) xs s ≡ true → In s (keys xs)
  given_is_key xs s h = by_answer (given_to (symbols_under r) xs s) refl h
    where
      by_answer : (o : Option Fraction) → given_to (symbols_under r) xs s ≡ o → (elim o as (λ _. Bool) [ None ↦ false | Some v ↦ true ]) ≡ true → In s (keys xs)
      by_answer None e h = cc
      by_answer (Some v) e h = given_key xs s v e

  pub key_is_given : (xs : Values) (s : Symbol) → In s (keys xs) → is_given (symbols_under r) xs s ≡ true
  key_is_given xs s h = ap (λ (o : Option Fraction). elim o as (λ _. Bool) [ None ↦ false | Some v ↦ true ]) (key_given xs s h).1

  -- values are reduced
  pub value_reduced : (xs : Values) (s : Symbol) → AreReduced xs → IsTrue (is_reduced (value_in (symbols_under r) xs s))
  value_reduced [] s h = passes_lowest (whole (pos 0)) (whole_is (pos 0)).lowest
  value_reduced (p ∷ xs) s h = by_test (same_symbol (symbols_under r) p.0 s) (value_reduced xs s h.1)
    where
      by_test : (b : Bool) → IsTrue (is_reduced (value_in (symbols_under r) xs s)) → IsTrue (is_reduced (elim (cond b (Some p.1) (given_to (symbols_under r) xs s)) as (λ _. Fraction) [ None ↦ whole (pos 0) | Some v ↦ v ]))
      by_test true k = h.0
      by_test false k = k

-- equal answers are equal values
pub value_of_given : {o p : Option Fraction} → o ≡ p → (elim o as (λ _. Fraction) [ None ↦ whole (pos 0) | Some v ↦ v ]) ≡ (elim p as (λ _. Fraction) [ None ↦ whole (pos 0) | Some v ↦ v ])
value_of_given e = ap (λ (o : Option Fraction). elim o as (λ _. Fraction) [ None ↦ whole (pos 0) | Some v ↦ v ]) e
