-- What a term more does to the terms of a polynomial and to their amounts.
use Rattle.std.proofs.Common.{◌≡◌, ◌≢◌, ◌<◌, ◌≤◌, ◌∙◌, ◌&&◌, sym, ap, ap₂, refl, ℕ, zero, suc, ◌+◌, max, nat_le, Bool, true, false, cond, List, [], ◌∷◌, map, length, take, drop, get_or, set, ℤ, pos, negsuc, ◌+ℤ◌, unsigned_abs, arith, le-leb, Some, None, Ok, inr}
use Rattle.std.specs.Prelude.{All}
use Rattle.std.specs.List.{insert, remove}
use Rattle.std.specs.Ordering.{match_ordering}
use Rattle.std.specs.declared.cmp.Ordering.{Ordering}
use Rattle.std.specs.declared.cmp.Ordering.TheVariants.{Less, Equal, Greater}
use Rattle.std.proofs.lemmas.Bool.Decides.{nat_tests}
use Rattle.std.proofs.lemmas.Cmp.{tied_itself}
use Rattle.std.proofs.lemmas.List.Elements.{All-head, All-tail}
use Rattle.dz_algebra.specs.Amount.{Amount, add_amounts, amount, amounts, amounts_fit, greatest}
use Rattle.dz_algebra.specs.Gather.{onto, put}
use Rattle.dz_algebra.specs.Order.{IsOrder, IsAbove}
use Rattle.dz_algebra.specs.Monomial.{Monomial, monomial_cmp}
use Rattle.dz_algebra.specs.Polynomial.{Polynomial, IsPolynomial, add_term, keep}
use Rattle.dz_algebra.specs.Whole.{whole_is_zero}
use Rattle.dz_algebra.proofs.Orders.{less_reversed, monomial_cmp_total}
use Rattle.dz_monomials.specs.Cells.{concluded}
use Rattle.dz_monomials.specs.Degrees.{degrees}
use Rattle.dz_monomials.specs.Stops.{IsStop}
use Rattle.dz_monomials.specs.declared.PolyStop.TheVariants.{Wide}
use Rattle.dz_monomials.specs.InPlace.{IsAt, IsBelow, added_at, changed_at, fits_at}

-- ---- a number added at a place
-- the place lies in the polynomial
pub at_inside : {K X : Type 0} (m : K) (i : ℕ) (ts : List (K × X)) → IsAt m i ts → i < length ts
at_inside m i [] h = absurd h
at_inside m zero (t ∷ ts) h = omega arith
at_inside m (suc i) (t ∷ ts) h = let l = at_inside m i ts h in omega arith

-- what is not zero does not pass the test for it
not_zero : (x : ℤ) → x ≢ pos 0 → whole_is_zero x ≡ false
not_zero (pos zero) n = absurd (n refl)
not_zero (pos (suc k)) n = refl
not_zero (negsuc k) n = refl

-- a coefficient that is not zero stands there
changed_set : {S : Type 0} (i : ℕ) (c x : ℤ) (t : Monomial S × ℤ) (p : Polynomial S) → i < length p → t ≡ get_or p i t → x ≡ c +ℤ t.1 → x ≢ pos 0 → set p i (t.0, x) ≡ changed_at i c p
changed_set i c x t [] l e f n = absurd (omega arith)
changed_set zero c x t (u ∷ p) l e f n =
    let w : x ≡ c +ℤ u.1 = f ∙ ap (λ v. c +ℤ v.1) e in
    ap (λ b. cond b p ((t.0, x) ∷ p)) (sym (not_zero x n)) ∙ ap (λ m. keep m x p) (ap (λ v. v.0) e) ∙ ap (λ y. keep u.0 y p) w
changed_set (suc i) c x t (u ∷ p) l e f n = ap (λ q. u ∷ q) (changed_set i c x t p (omega arith) e f n)

-- where it would be zero, the term is gone
changed_remove : {S : Type 0} (i : ℕ) (c x : ℤ) (t : Monomial S × ℤ) (p : Polynomial S) → i < length p → t ≡ get_or p i t → x ≡ c +ℤ t.1 → x ≡ pos 0 → remove p i ≡ changed_at i c p
changed_remove i c x t [] l e f z = absurd (omega arith)
changed_remove zero c x t (u ∷ p) l e f z =
    let w : x ≡ c +ℤ u.1 = f ∙ ap (λ v. c +ℤ v.1) e in
    ap (λ y. cond (whole_is_zero y) p ((u.0, x) ∷ p)) (sym z) ∙ ap (λ y. keep u.0 y p) w
changed_remove (suc i) c x t (u ∷ p) l e f z = ap (λ q. u ∷ q) (changed_remove i c x t p (omega arith) e f z)

-- the absolute values at the place
fits_there : {S : Type 0} (i : ℕ) (c : ℤ) (t : Monomial S × ℤ) (p : Polynomial S) → i < length p → t ≡ get_or p i t → fits_at i c p ≡ nat_le (unsigned_abs c + unsigned_abs t.1) greatest
fits_there i c t [] l e = absurd (omega arith)
fits_there zero c t (u ∷ p) l e = ap (λ v. nat_le (unsigned_abs c + unsigned_abs v.1) greatest) (sym e)
fits_there (suc i) c t (u ∷ p) l e = fits_there i c t p (omega arith) e

-- a sum in range is answered
fits_answer : {S : Type 0} (b : Bool) (p q : Polynomial S) → b ≡ true → q ≡ p → concluded None (cond b (Some p) None) ≡ Ok q
fits_answer b p q f e = ap (λ b. concluded None (cond b (Some p) None)) f ∙ ap (λ p. Ok p) (sym e)

-- with another coefficient
pub set_answer : {S : Type 0} (i : ℕ) (c x : ℤ) (t : Monomial S × ℤ) (p : Polynomial S) → i < length p → t ≡ get_or p i t → x ≡ c +ℤ t.1 → unsigned_abs c + unsigned_abs t.1 ≤ greatest → x ≢ pos 0 → added_at i c p ≡ Ok (set p i (t.0, x))
set_answer i c x t p l e f fit n = fits_answer (fits_at i c p) (changed_at i c p) (set p i (t.0, x)) (fits_there i c t p l e ∙ le-leb _ greatest fit) (changed_set i c x t p l e f n)

-- or without the term
pub remove_answer : {S : Type 0} (i : ℕ) (c x : ℤ) (t : Monomial S × ℤ) (p : Polynomial S) → i < length p → t ≡ get_or p i t → x ≡ c +ℤ t.1 → unsigned_abs c + unsigned_abs t.1 ≤ greatest → x ≡ pos 0 → added_at i c p ≡ Ok (remove p i)
remove_answer i c x t p l e f fit z = fits_answer (fits_at i c p) (changed_at i c p) (remove p i) (fits_there i c t p l e ∙ le-leb _ greatest fit) (changed_remove i c x t p l e f z)

-- one out of range is refused
pub wide_answer : {S : Type 0} (i : ℕ) (c : ℤ) (t : Monomial S × ℤ) (p : Polynomial S) → i < length p → t ≡ get_or p i t → greatest < unsigned_abs c + unsigned_abs t.1 → IsStop Wide (added_at i c p)
wide_answer i c t p l e wide = by_test (fits_at i c p) (fits_there i c t p l e ∙ too_much (unsigned_abs c + unsigned_abs t.1) wide)
  where
    too_much : (n : ℕ) → greatest < n → nat_le n greatest ≡ false
    too_much n m = grind (arith, nat_tests)

    by_test : (b : Bool) → b ≡ false → IsStop Wide (concluded None (cond b (Some (changed_at i c p)) None))
    by_test true f = absurd cc
    by_test false f = inr refl

-- another coefficient leaves the degrees
pub degrees_set : {S : Type 0} (cmp : S → S → Ordering) (i : ℕ) (x : ℤ) (t : Monomial S × ℤ) (p : Polynomial S) → i < length p → t ≡ get_or p i t → degrees cmp p ≡ degrees cmp (set p i (t.0, x))
degrees_set cmp i x t [] l e = absurd (omega arith)
degrees_set cmp zero x t (u ∷ p) l e = ap (λ v. onto cmp max v.0 (degrees cmp p)) (sym e)
degrees_set cmp (suc i) x t (u ∷ p) l e = ap (onto cmp max u.0) (degrees_set cmp i x t p (omega arith) e)

-- ---- keys and amounts of a polynomial
-- the amounts of terms stand at the same keys
pub same_keys : {M : Type 0} (ts : List (M × ℤ)) → map (λ t. t.0) (amounts ts) ≡ map (λ t. t.0) ts
same_keys [] = refl
same_keys (t ∷ ts) = ap (λ ms. t.0 ∷ ms) (same_keys ts)

-- coefficients in range fit
pub amounts_in_range : {M : Type 0} (ts : List (M × ℤ)) → All (λ t. unsigned_abs t.1 ≤ greatest) ts → amounts_fit (amounts ts) ≡ true
amounts_in_range [] h = refl
amounts_in_range {M} (t ∷ ts) h =
    let InRange : M × ℤ → Type 0 = λ t. unsigned_abs t.1 ≤ greatest in
    ap₂ ◌&&◌ (le-leb (unsigned_abs t.1) greatest (All-head InRange t ts h)) (amounts_in_range ts (All-tail InRange t ts h))

-- and have the degrees of the terms
pub degrees-amounts : {S : Type 0} (cmp : S → S → Ordering) (p : Polynomial S) → degrees cmp (amounts p) ≡ degrees cmp p
degrees-amounts cmp [] = refl
degrees-amounts cmp (t ∷ p) = ap (onto cmp max t.0) (degrees-amounts cmp p)

-- two tests that pass together
both_true : (a b : Bool) → (a && b) ≡ true → (a ≡ true) × (b ≡ true)
both_true true b e = (refl, e)
both_true false b e = cc

-- ---- a term put where its monomial stands
module _ {S : Type 0} {cmp : S → S → Ordering} (order : IsOrder cmp) where
  abbrev by : Monomial S → Monomial S → Ordering
  by = monomial_cmp cmp

  -- what is greater than all terms is greater than the one at a place
  above_at : (s m : Monomial S) (i : ℕ) (p : Polynomial S) → IsAbove by s p → IsAt m i p → by s m ≡ Greater
  above_at s m i [] a h = absurd h
  above_at s m zero (t ∷ p) a h = ap (by s) h ∙ a.0
  above_at s m (suc i) (t ∷ p) a h = above_at s m i p a.1 h

  -- a later monomial is less than the first
  later : (t : Monomial S × ℤ) (m : Monomial S) (i : ℕ) (p : Polynomial S) → IsAbove by t.0 p → IsAt m i p → by m t.0 ≡ Less
  later t m i p a h = less_reversed (monomial_cmp_total order) t.0 m (above_at t.0 m i p a h)

  -- the monomial of the first term ties with it
  first : (t : Monomial S × ℤ) (m : Monomial S) → m ≡ t.0 → by m t.0 ≡ Equal
  first t m e = ap (λ n. by n t.0) e ∙ tied_itself (monomial_cmp_total order) t.0

  abbrev put_by : Monomial S → ℤ → (Monomial S × ℤ) → Polynomial S → Ordering → List (Monomial S × Amount)
  put_by m c t p o = match_ordering o ((t.0, amount t.1) ∷ put by add_amounts m (amount c) (amounts p)) ((t.0, add_amounts (amount c) (amount t.1)) ∷ amounts p) ((m, amount c) ∷ (t.0, amount t.1) ∷ amounts p)

  abbrev add_by : Monomial S → ℤ → (Monomial S × ℤ) → Polynomial S → Ordering → Polynomial S
  add_by m c t p o = match_ordering o (t ∷ add_term by m c p) (keep m (c +ℤ t.1) p) (keep m c (t ∷ p))

  -- no monomial comes to it
  pub keys_at : (m : Monomial S) (c : ℤ) (i : ℕ) (p : Polynomial S) → IsPolynomial cmp p → IsAt m i p → map (λ t. t.0) (put by add_amounts m (amount c) (amounts p)) ≡ map (λ t. t.0) p
  keys_at m c i [] h a = absurd a
  keys_at m c zero (t ∷ p) h a = ap (λ o. map (λ t. t.0) (put_by m c t p o)) (first t m a) ∙ ap (λ ms. t.0 ∷ ms) (same_keys p)
  keys_at m c (suc i) (t ∷ p) h a = ap (λ o. map (λ t. t.0) (put_by m c t p o)) (later t m i p h.2 a) ∙ ap (λ ms. t.0 ∷ ms) (keys_at m c i p h.3 a)

  -- the amounts fit where they do at the place
  pub fit_at : (m : Monomial S) (c : ℤ) (i : ℕ) (p : Polynomial S) → IsPolynomial cmp p → IsAt m i p → amounts_fit (amounts p) ≡ true → amounts_fit (put by add_amounts m (amount c) (amounts p)) ≡ fits_at i c p
  fit_at m c i [] h a f = absurd a
  fit_at m c zero (t ∷ p) h a f =
      ap (λ o. amounts_fit (put_by m c t p o)) (first t m a)
      ∙ ap (λ b. nat_le (unsigned_abs c + unsigned_abs t.1) greatest && b) (both_true _ _ f).1 ∙ and_true (nat_le (unsigned_abs c + unsigned_abs t.1) greatest)
    where
      and_true : (b : Bool) → (b && true) ≡ b
      and_true true = refl
      and_true false = refl
  fit_at m c (suc i) (t ∷ p) h a f =
      ap (λ o. amounts_fit (put_by m c t p o)) (later t m i p h.2 a)
      ∙ ap (λ b. b && amounts_fit (put by add_amounts m (amount c) (amounts p))) (both_true _ _ f).0 ∙ fit_at m c i p h.3 a (both_true _ _ f).1

  -- the number is added there
  pub add_there : (m : Monomial S) (c : ℤ) (i : ℕ) (p : Polynomial S) → IsPolynomial cmp p → IsAt m i p → add_term by m c p ≡ changed_at i c p
  add_there m c i [] h a = absurd a
  add_there m c zero (t ∷ p) h a = ap (add_by m c t p) (first t m a) ∙ ap (λ n. keep n (c +ℤ t.1) p) a
  add_there m c (suc i) (t ∷ p) h a = ap (add_by m c t p) (later t m i p h.2 a) ∙ ap (λ q. t ∷ q) (add_there m c i p h.3 a)

-- ---- a term put where its monomial is missing
module _ {S : Type 0} (cmp : S → S → Ordering) where
  -- its amount comes to the place
  pub put_missing : (m : Monomial S) (c : ℤ) (i : ℕ) (p : Polynomial S) → IsBelow (monomial_cmp cmp) m (take i p) → IsAbove (monomial_cmp cmp) m (drop i p) → put (monomial_cmp cmp) add_amounts m (amount c) (amounts p) ≡ amounts (insert p i (m, c))
  put_missing m c zero [] b a = refl
  put_missing m c (suc i) [] b a = refl
  put_missing m c zero (t ∷ p) b a = ap (λ o. match_ordering o ((t.0, amount t.1) ∷ put (monomial_cmp cmp) add_amounts m (amount c) (amounts p)) ((t.0, add_amounts (amount c) (amount t.1)) ∷ amounts p) ((m, amount c) ∷ (t.0, amount t.1) ∷ amounts p)) a.0
  put_missing m c (suc i) (t ∷ p) b a =
      ap (λ o. match_ordering o ((t.0, amount t.1) ∷ put (monomial_cmp cmp) add_amounts m (amount c) (amounts p)) ((t.0, add_amounts (amount c) (amount t.1)) ∷ amounts p) ((m, amount c) ∷ (t.0, amount t.1) ∷ amounts p)) b.0
      ∙ ap (λ q. (t.0, amount t.1) ∷ q) (put_missing m c i p b.1 a)

  -- the term comes to the place
  pub add_missing : (m : Monomial S) (c : ℤ) (i : ℕ) (p : Polynomial S) → c ≢ pos 0 → IsBelow (monomial_cmp cmp) m (take i p) → IsAbove (monomial_cmp cmp) m (drop i p) → add_term (monomial_cmp cmp) m c p ≡ insert p i (m, c)
  add_missing m c zero [] z b a = ap (λ b. cond b [] ((m, c) ∷ [])) (not_zero c z)
  add_missing m c (suc i) [] z b a = ap (λ b. cond b [] ((m, c) ∷ [])) (not_zero c z)
  add_missing m c zero (t ∷ p) z b a = ap (λ o. match_ordering o (t ∷ add_term (monomial_cmp cmp) m c p) (keep m (c +ℤ t.1) p) (keep m c (t ∷ p))) a.0 ∙ ap (λ b. cond b (t ∷ p) ((m, c) ∷ t ∷ p)) (not_zero c z)
  add_missing m c (suc i) (t ∷ p) z b a =
      ap (λ o. match_ordering o (t ∷ add_term (monomial_cmp cmp) m c p) (keep m (c +ℤ t.1) p) (keep m c (t ∷ p))) b.0 ∙ ap (λ q. t ∷ q) (add_missing m c i p z b.1 a)

-- a coefficient in range more fits
pub fit_insert : {M : Type 0} (t : M × ℤ) (i : ℕ) (p : List (M × ℤ)) → unsigned_abs t.1 ≤ greatest → amounts_fit (amounts p) ≡ true → amounts_fit (amounts (insert p i t)) ≡ true
fit_insert t zero p l f = ap₂ ◌&&◌ (le-leb (unsigned_abs t.1) greatest l) f
fit_insert t (suc i) [] l f = ap₂ ◌&&◌ (le-leb (unsigned_abs t.1) greatest l) f
fit_insert t (suc i) (u ∷ p) l f = ap₂ ◌&&◌ (both_true _ _ f).0 (fit_insert t i p l (both_true _ _ f).1)
