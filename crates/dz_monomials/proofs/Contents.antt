-- The content of terms, found from the last to the first.
use Rattle.std.proofs.Common.{◌≡◌, ◌<◌, ◌≤◌, ◌+◌, ◌-◌, ◌∙◌, ℕ, zero, suc, List, [], ◌∷◌, length, drop, get_or, ℤ, unsigned_abs, refl, sym, ap, ap₂, arith}
use Rattle.std.specs.Int.{IsGcd}
use Rattle.std.proofs.lemmas.Nat.Gcd.{dvd_antisymm}
use Rattle.std.proofs.Math.Nat.{one-dvd}
use Rattle.dz_algebra.specs.Norm.{gcd, content}
use Rattle.dz_algebra.proofs.Divisors.{gcd_is}

-- a greatest common divisor is the one of the definition
pub divisor_is : (a b g : ℕ) → IsGcd a b g → g ≡ gcd a b
divisor_is a b g h = let e = gcd_is a b in dvd_antisymm (e.2 g h.0 h.1) (h.2 (gcd a b) e.0 e.1)

-- no term is left at first
pub none_left : {M : Type 0} (p : List (M × ℤ)) → 0 ≡ content (drop (length p - 0) p)
none_left p = ap content (sym (drop_all (length p - 0) p (omega arith)))
  where
    drop_all : {X : Type 0} (k : ℕ) (xs : List X) → length xs ≤ k → drop k xs ≡ []
    drop_all zero [] l = refl
    drop_all (suc k) [] l = refl
    drop_all zero (x ∷ xs) l = absurd (omega arith)
    drop_all (suc k) (x ∷ xs) l = drop_all k xs (omega (arith, l))

-- with one more term before the others
pub one_more : {M : Type 0} (i all g : ℕ) (p : List (M × ℤ)) (t d : M × ℤ) → i < length p → all ≡ content (drop (length p - i) p) → t ≡ get_or p (length p - 1 - i) d → IsGcd (unsigned_abs t.1) all g → g ≡ content (drop (length p - (i + 1)) p)
one_more {M} i all g p t d l e f h =
    divisor_is (unsigned_abs t.1) all g h
    ∙ ap₂ (λ x n. gcd (unsigned_abs x.1) n) f e
    ∙ ap (λ k. gcd (unsigned_abs (get_or p (length p - 1 - i) d).1) (content (drop k p))) next
    ∙ at (length p - 1 - i) p (omega (arith, l))
    ∙ ap (λ k. content (drop k p)) here
  where
    next : length p - i ≡ suc (length p - 1 - i)
    next = omega (arith, l)

    here : length p - 1 - i ≡ length p - (i + 1)
    here = omega (arith, l)

    at : (k : ℕ) (p : List (M × ℤ)) → k < length p → gcd (unsigned_abs (get_or p k d).1) (content (drop (suc k) p)) ≡ content (drop k p)
    at k [] l = absurd (omega arith)
    at zero (u ∷ p) l = refl
    at (suc k) (u ∷ p) l = at k p (omega (arith, l))

-- where the last terms have the content one, so have all
pub is_one : {M : Type 0} (k : ℕ) (p : List (M × ℤ)) → content (drop k p) ≡ 1 → content p ≡ 1
is_one zero p e = e
is_one (suc k) [] e = e
is_one (suc k) (u ∷ p) e = ap (gcd (unsigned_abs u.1)) (is_one k p e) ∙ with_one (unsigned_abs u.1)
  where
    with_one : (a : ℕ) → gcd a 1 ≡ 1
    with_one a = dvd_antisymm (gcd_is a 1).1 (one-dvd (gcd a 1))
