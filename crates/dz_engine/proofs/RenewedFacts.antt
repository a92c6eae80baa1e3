-- What is found out of some equations becomes what is found out of others, place by place.
use Rattle.std.specs.Prelude.{IsSome, drop, slice_index_or, slice_set}
use Rattle.std.proofs.Common.{◌≡◌, ◌<◌, ◌≤◌, ◌+◌, ◌++◌, ℕ, zero, suc, List, [], ◌∷◌, length, take, refl, ap, arith, add-one}
use Rattle.std.proofs.lemmas.List.Elements.{All-cons, All-head, All-tail}
use Rattle.dz_poly.specs.Books.{BookValue}
use Rattle.dz_diff.specs.State.{at_place}
use Rattle.dz_engine.specs.declared.facts.Facts.{Facts}
use Rattle.dz_engine.specs.Facts.{AreKnown, IsKnown, names_of}

-- the names before a place, whatever stands behind it
pub names_front : (k : ℕ) (fs gs : List Facts) → k ≤ length fs → take k (names_of (take k fs ++ gs)) ≡ take k (names_of fs)
names_front zero fs gs l = refl
names_front (suc k) [] gs l = absurd (omega arith)
names_front (suc k) (f ∷ fs) gs l = ap (λ ps. f.poly ∷ ps) (names_front k fs gs (omega arith))

-- the names up to a place
pub names_here : (k : ℕ) (fs : List Facts) (d : Facts) → k < length fs → take (k + 1) (names_of fs) ≡ take k (names_of fs) ++ (slice_index_or fs k d).poly ∷ []
names_here k fs d l = rw add-one (at k fs l)
  where
    at : (k : ℕ) (fs : List Facts) → k < length fs → take (suc k) (names_of fs) ≡ take k (names_of fs) ++ (slice_index_or fs k d).poly ∷ []
    at k [] l = absurd (omega arith)
    at zero (f ∷ fs) l = refl
    at (suc k) (f ∷ fs) l = ap (λ ps. f.poly ∷ ps) (at k fs (omega arith))

-- where something else is put there
pub names_set : (k : ℕ) (fs : List Facts) (g : Facts) → k < length fs → take (k + 1) (names_of (slice_set fs k g)) ≡ take k (names_of fs) ++ g.poly ∷ []
names_set k fs g l = rw add-one (at k fs l)
  where
    at : (k : ℕ) (fs : List Facts) → k < length fs → take (suc k) (names_of (slice_set fs k g)) ≡ take k (names_of fs) ++ g.poly ∷ []
    at k [] l = absurd (omega arith)
    at zero (f ∷ fs) l = refl
    at (suc k) (f ∷ fs) l = ap (λ ps. f.poly ∷ ps) (at k fs (omega arith))

-- where the other has the same name, all names stay
pub names_stay : (k : ℕ) (fs : List Facts) (g d : Facts) → k < length fs → g.poly ≡ (slice_index_or fs k d).poly → names_of (slice_set fs k g) ≡ names_of fs
names_stay k [] g d l e = absurd (omega arith)
names_stay zero (f ∷ fs) g d l e = ap (λ p. p ∷ names_of fs) e
names_stay (suc k) (f ∷ fs) g d l e = ap (λ ps. f.poly ∷ ps) (names_stay k fs g d (omega arith) e)

-- or behind them all
pub names_push : (k : ℕ) (fs : List Facts) (g : Facts) → k ≡ length fs → take (k + 1) (names_of (fs ++ g ∷ [])) ≡ take k (names_of fs) ++ g.poly ∷ []
names_push k fs g e = rw add-one (at k fs e)
  where
    at : (k : ℕ) (fs : List Facts) → k ≡ length fs → take (suc k) (names_of (fs ++ g ∷ [])) ≡ take k (names_of fs) ++ g.poly ∷ []
    at zero [] e = refl
    at zero (f ∷ fs) e = absurd (omega (arith, e))
    at (suc k) [] e = absurd (omega (arith, e))
    at (suc k) (f ∷ fs) e = ap (λ ps. f.poly ∷ ps) (at k fs (omega (arith, e)))

-- the names of the first
pub names_take : (k : ℕ) (fs : List Facts) → names_of (take k fs) ≡ take k (names_of fs)
names_take zero fs = refl
names_take (suc k) [] = refl
names_take (suc k) (f ∷ fs) = ap (λ ps. f.poly ∷ ps) (names_take k fs)

module _ (book : BookValue) where
  -- what is known of all but one
  pub known_without : (k : ℕ) (fs : List Facts) → AreKnown book fs → AreKnown book (take k fs ++ drop (k + 1) fs)
  known_without k fs h = rw add-one (at k fs h)
    where
      at : (k : ℕ) (fs : List Facts) → AreKnown book fs → AreKnown book (take k fs ++ drop (suc k) fs)
      at zero [] h = h
      at zero (f ∷ fs) h = All-tail (IsKnown book) f fs h
      at (suc k) [] h = h
      at (suc k) (f ∷ fs) h = All-cons (IsKnown book) f (take k fs ++ drop (suc k) fs) (All-head (IsKnown book) f fs h) (at k fs (All-tail (IsKnown book) f fs h))

  -- of one more
  pub known_push : (fs : List Facts) (g : Facts) → IsKnown book g → AreKnown book fs → AreKnown book (fs ++ g ∷ [])
  known_push [] g i h = All-cons (IsKnown book) g [] i h
  known_push (f ∷ fs) g i h = All-cons (IsKnown book) f (fs ++ g ∷ []) (All-head (IsKnown book) f fs h) (known_push fs g i (All-tail (IsKnown book) f fs h))

  -- of all where something is put
  pub known_set : (k : ℕ) (fs : List Facts) (g : Facts) → IsKnown book g → AreKnown book fs → AreKnown book (slice_set fs k g)
  known_set k [] g i h = h
  known_set zero (f ∷ fs) g i h = All-cons (IsKnown book) g fs i (All-tail (IsKnown book) f fs h)
  known_set (suc k) (f ∷ fs) g i h = All-cons (IsKnown book) f (slice_set fs k g) (All-head (IsKnown book) f fs h) (known_set k fs g i (All-tail (IsKnown book) f fs h))

-- up to one place more
pub take_one : (k d : ℕ) (ps : List ℕ) → k < length ps → take k ps ++ slice_index_or ps k d ∷ [] ≡ take (k + 1) ps
take_one k d ps l = rw add-one (at k ps l)
  where
    at : (k : ℕ) (ps : List ℕ) → k < length ps → take k ps ++ slice_index_or ps k d ∷ [] ≡ take (suc k) ps
    at k [] l = absurd (omega arith)
    at zero (p ∷ ps) l = refl
    at (suc k) (p ∷ ps) l = ap (λ qs. p ∷ qs) (at k ps (omega arith))

pub take_within : (n k : ℕ) (ps : List ℕ) → n ≤ k → take n (take k ps) ≡ take n ps
take_within zero k ps l = refl
take_within (suc n) zero ps l = absurd (omega arith)
take_within (suc n) (suc k) [] l = refl
take_within (suc n) (suc k) (p ∷ ps) l = ap (λ qs. p ∷ qs) (take_within n k ps (omega arith))

pub take_all : (n : ℕ) (ps : List ℕ) → length ps ≤ n → take n ps ≡ ps
take_all zero [] l = refl
take_all (suc n) [] l = refl
take_all zero (p ∷ ps) l = absurd (omega arith)
take_all (suc n) (p ∷ ps) l = ap (λ qs. p ∷ qs) (take_all n ps (omega arith))

-- a place at which something stands
pub place_counts : {A : Type 0} (i : ℕ) (xs : List A) → IsSome (at_place i xs) → (1 ≤ i) × (i ≤ length xs)
place_counts i [] h = cc
place_counts zero (x ∷ xs) h = cc
place_counts (suc zero) (x ∷ xs) h = (omega arith, omega arith)
place_counts (suc (suc i)) (x ∷ xs) h = let r = place_counts (suc i) xs h in (omega arith, omega (arith, r.1))
