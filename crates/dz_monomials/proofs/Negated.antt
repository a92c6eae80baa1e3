-- The signs of all coefficients, changed in place.
use Rattle.std.proofs.Common.{◌≡◌, ◌<◌, ◌≤◌, ◌∙◌, ap, ap₂, subst, ℕ, zero, suc, ◌+◌, List, [], ◌∷◌, ◌++◌, length, take, drop, map, ℤ, pos, neg_ℤ, unsigned_abs, max, arith, refl, add-one}
use Rattle.std.specs.Prelude.{All, slice_index_or, slice_set}
use Rattle.std.proofs.lemmas.Int.{ints}
use Rattle.std.proofs.lemmas.List.Elements.{All-head, All-tail, All-cons}
use Rattle.std.specs.declared.cmp.Ordering.{Ordering}
use Rattle.dz_algebra.specs.Amount.{greatest}
use Rattle.dz_algebra.specs.Gather.{onto}
use Rattle.dz_algebra.specs.Monomial.{Monomial, monomial_cmp}
use Rattle.dz_algebra.specs.Order.{IsAbove}
use Rattle.dz_algebra.specs.Polynomial.{Polynomial, IsPolynomial, PolynomialIn, negated}
use Rattle.dz_algebra.specs.Size.{limit_of}
use Rattle.dz_rank.specs.Rankings.{RankingValue, ranking_cmp}
use Rattle.dz_rank.specs.declared.symbols.Symbol.{Symbol}
use Rattle.dz_monomials.specs.Degrees.{degrees}
use Rattle.dz_monomials.specs.Keeping.{IsTabled, IsKeepable}
use Rattle.dz_monomials.specs.Ranked.{symbols_under}

-- at its beginning no sign is changed
pub none_negated : {M : Type 0} (p : List (M × ℤ)) → p ≡ negated (take 0 p) ++ drop 0 p
none_negated p = refl

-- with one more sign changed
pub one_negated : {M : Type 0} (i : ℕ) (p now : List (M × ℤ)) (t d : M × ℤ) → i < length p → now ≡ negated (take i p) ++ drop i p → t ≡ ((slice_index_or now i d).0, neg_ℤ (slice_index_or now i d).1)
    → slice_set now i t ≡ negated (take (i + 1) p) ++ drop (i + 1) p
one_negated {M} i p now t d l e f = rw add-one (at i p now l e f)
  where
    at : (i : ℕ) (p now : List (M × ℤ)) → i < length p → now ≡ negated (take i p) ++ drop i p → t ≡ ((slice_index_or now i d).0, neg_ℤ (slice_index_or now i d).1)
        → slice_set now i t ≡ negated (take (suc i) p) ++ drop (suc i) p
    at i [] now l e f = absurd (omega arith)
    at zero (u ∷ p) now l e f = ap (λ xs. slice_set xs 0 t) e ∙ ap (λ x. x ∷ p) (f ∙ ap (λ xs. ((slice_index_or xs 0 d).0, neg_ℤ (slice_index_or xs 0 d).1)) e)
    at (suc i) (u ∷ p) [] l e f = absurd (nothing e)
      where
        nothing : {X : Type 0} {x : X} {xs : List X} → [] ≡ x ∷ xs → ⊥
        nothing e = cc
    at (suc i) (u ∷ p) (v ∷ now) l e f =
        let first : v ≡ (u.0, neg_ℤ u.1) = cc in
        let rest : now ≡ negated (take i p) ++ drop i p = cc in
        ap₂ (λ x xs. x ∷ xs) first (at i p now (omega (arith, l)) rest f)

-- in the end every sign is changed
pub all_negated : {M : Type 0} (i : ℕ) (p now : List (M × ℤ)) → length p ≤ i → now ≡ negated (take i p) ++ drop i p → now ≡ negated p
all_negated {M} i p now l e = e ∙ at i p l
  where
    at : (i : ℕ) (p : List (M × ℤ)) → length p ≤ i → negated (take i p) ++ drop i p ≡ negated p
    at zero [] l = refl
    at (suc i) [] l = refl
    at zero (u ∷ p) l = absurd (omega arith)
    at (suc i) (u ∷ p) l = ap (λ q. (u.0, neg_ℤ u.1) ∷ q) (at i p (omega (arith, l)))

-- ---- what may stand in a book
module _ {S : Type 0} (cmp : S → S → Ordering) where
  above_negated : (m : Monomial S) (p : Polynomial S) → IsAbove (monomial_cmp cmp) m p → IsAbove (monomial_cmp cmp) m (negated p)
  above_negated m [] h = tt
  above_negated m (t ∷ p) h = (h.0, above_negated m p h.1)

  canonical_negated : (p : Polynomial S) → IsPolynomial cmp p → IsPolynomial cmp (negated p)
  canonical_negated [] h = tt
  canonical_negated (t ∷ p) h = (λ e. h.0 (negative_zero t.1 e), h.1, above_negated t.0 p h.2, canonical_negated p h.3)
    where
      negative_zero : (c : ℤ) → neg_ℤ c ≡ pos 0 → c ≡ pos 0
      negative_zero c e = omega (arith, ints)

in_negated : {S : Type 0} (P : S → Type 0) (p : Polynomial S) → PolynomialIn P p → PolynomialIn P (negated p)
in_negated P [] h = tt
in_negated P (t ∷ p) h = (h.0, in_negated P p h.1)

negated_in_range : {M : Type 0} (p : List (M × ℤ)) → All (λ t. unsigned_abs t.1 ≤ greatest) p → All (λ t. unsigned_abs t.1 ≤ greatest) (negated p)
negated_in_range {M} [] h = h
negated_in_range {M} (t ∷ p) h =
    let InRange : M × ℤ → Type 0 = λ t. unsigned_abs t.1 ≤ greatest in
    All-cons InRange (t.0, neg_ℤ t.1) (negated p) (subst (λ n. n ≤ greatest) (size_negated t.1) (All-head InRange t p h)) (negated_in_range p (All-tail InRange t p h))
  where
    size_negated : (c : ℤ) → unsigned_abs c ≡ unsigned_abs (neg_ℤ c)
    size_negated c = omega (arith, ints)

negated_keys : {M : Type 0} (p : List (M × ℤ)) → map (λ t. t.0) (negated p) ≡ map (λ t. t.0) p
negated_keys [] = refl
negated_keys (t ∷ p) = ap (λ ms. t.0 ∷ ms) (negated_keys p)

-- the negative of a polynomial that may stand in a book may stand in it
pub negated_keepable : (r : RankingValue) (p : Polynomial Symbol) → IsKeepable r p → IsKeepable r (negated p)
negated_keepable r p h = record {
  canonical = canonical_negated (ranking_cmp r) p h.canonical;
  belongs = in_negated _ p h.belongs;
  small = ap (limit_of (symbols_under r)) (negated_keys p) ∙ h.small;
  in_range = negated_in_range p h.in_range;
}

-- signs leave the degrees
degrees_negated : (cmp : Symbol → Symbol → Ordering) (p : Polynomial Symbol) → degrees cmp p ≡ degrees cmp (negated p)
degrees_negated cmp [] = refl
degrees_negated cmp (t ∷ p) = ap (onto cmp max t.0) (degrees_negated cmp p)

-- the negative of an entry is one with the same degrees
pub negated_entry : (r : RankingValue) (p q : Polynomial Symbol) (table : Monomial Symbol) → q ≡ negated p → IsTabled r p table → IsTabled r q table
negated_entry r p q table e h = rw e (record { keepable = negated_keepable r p h.keepable; degrees_are = h.degrees_are ∙ degrees_negated (ranking_cmp r) p })
