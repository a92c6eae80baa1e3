-- The greatest common divisor of a list, taken one value after the other.
use Rattle.std.proofs.Common.{◌≡◌, ◌<◌, ◌≤◌, ◌+◌, ℕ, List, ℤ, pos, length, take, slice_index_or, unsigned_abs, All, ◌∙◌, sym, ap, subst, arith}
use Rattle.std.specs.Int.{IsGcd, ◌∣◌}
use Rattle.std.proofs.lemmas.List.{take_more, take_all, get_or-take, length-take}
use Rattle.std.proofs.lemmas.List.Elements.{All-push, All-take}
use Rattle.std.proofs.lemmas.Nat.Gcd.{dvd-zero, dvd_trans}
use Rattle.std.proofs.Math.Nat.{one-dvd}
use Rattle.dz_int.specs.Numbers.{IsContent}
use Rattle.dz_algebra.specs.Norm.{gcd}
use Rattle.dz_algebra.proofs.Divisors.{gcd_is}

pub content_of_none : (vs : List ℤ) → IsContent (take 0 vs) 0
content_of_none vs = record { divides = λ k d h. absurd (omega arith); largest = λ d p. dvd-zero d }

-- what holds of the first i + 1 values holds of the first i, and of the last of them
fewer : (P : ℤ → Type 0) (vs : List ℤ) (i : ℕ) → All P (take (i + 1) vs) → All P (take i vs)
fewer P vs i p = λ k d h. subst P (get_or-take (i + 1) vs k d (omega (arith, length-take i vs)) ∙ sym (get_or-take i vs k d (omega (arith, length-take i vs)))) (p k d (omega (arith, length-take i vs, length-take (i + 1) vs)))

last : (P : ℤ → Type 0) (vs : List ℤ) (i : ℕ) → i < length vs → All P (take (i + 1) vs) → P (slice_index_or vs i (pos 0))
last P vs i h p = subst P (get_or-take (i + 1) vs i (pos 0) (omega arith)) (p i (pos 0) (omega (arith, length-take (i + 1) vs)))

content_of_more : (vs : List ℤ) (i g : ℕ) → i < length vs → IsContent (take i vs) g → IsContent (take (i + 1) vs) (gcd (unsigned_abs (slice_index_or vs i (pos 0))) g)
content_of_more vs i g h c = record { divides = divides; largest = largest }
  where
    v : ℤ
    v = slice_index_or vs i (pos 0)

    e : IsGcd (unsigned_abs v) g (gcd (unsigned_abs v) g)
    e = gcd_is (unsigned_abs v) g

    divides : All (λ w. gcd (unsigned_abs v) g ∣ unsigned_abs w) (take (i + 1) vs)
    divides = subst (All (λ w. gcd (unsigned_abs v) g ∣ unsigned_abs w)) (sym (take_more vs i (pos 0) h)) (All-push (λ w. gcd (unsigned_abs v) g ∣ unsigned_abs w) (take i vs) v (λ k d l. dvd_trans (gcd (unsigned_abs v) g) e.1 (c.divides k d l)) e.0)

    largest : (d : ℕ) → All (λ w. d ∣ unsigned_abs w) (take (i + 1) vs) → d ∣ gcd (unsigned_abs v) g
    largest d p = e.2 d (last (λ w. d ∣ unsigned_abs w) vs i h p) (c.largest d (fewer (λ w. d ∣ unsigned_abs w) vs i p))

-- the same, as a step of the loop
pub content_step : (vs : List ℤ) (i g m n : ℕ) → i < length vs → IsContent (take i vs) g → m ≡ unsigned_abs (slice_index_or vs i (pos 0)) → n ≡ gcd m g → IsContent (take (i + 1) vs) n
content_step vs i g m n h c e f = subst (IsContent (take (i + 1) vs)) (sym (f ∙ ap (λ k. gcd k g) e)) (content_of_more vs i g h c)

pub content_of_all : (vs : List ℤ) (i g : ℕ) → length vs ≤ i → IsContent (take i vs) g → IsContent vs g
content_of_all vs i g h c = subst (λ ws. IsContent ws g) (take_all i vs h) c

pub content_is_one : (vs : List ℤ) (i g : ℕ) → g ≡ 1 → IsContent (take i vs) g → IsContent vs 1
content_is_one vs i g e c = record { divides = λ k d l. one-dvd (unsigned_abs (slice_index_or vs k d)); largest = λ d p. subst (λ n. d ∣ n) e (c.largest d (All-take (λ v. d ∣ unsigned_abs v) i vs p)) }
