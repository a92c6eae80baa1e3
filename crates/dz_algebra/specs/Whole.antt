-- Whole numbers, of any size, are a differential domain without derivations.
use Rattle.std.specs.Prelude.{◌≡◌, ◌⊎◌, ◌↔◌, ℕ, zero, suc, ◌+◌, ◌*◌, Bool, true, false, IsTrue, ℤ, pos, negsuc, ◌+ℤ◌, ◌*ℤ◌, neg_ℤ, refl}
use Rattle.std.proofs.Common.{sym, ap, ◌∙◌, arith, inl, inr}
use Rattle.std.proofs.lemmas.Int.{ints}
use borrow.Author.Differences.{up, down, same_in, product_is, sum_is_lem}
use Rattle.std.proofs.Math.IntN.{+ℤ_comm, +ℤ_assoc, +ℤ_idl, +ℤ_invl, *ℤ_comm}
use Rattle.dz_algebra.specs.Ring.{Ring}
use Rattle.dz_algebra.specs.Domain.{Arithmetic, Operations, DomainLaws, copies}

-- the test for zero
abbrev pub whole_is_zero : ℤ → Bool
whole_is_zero (pos zero) = true
whole_is_zero (pos (suc n)) = false
whole_is_zero (negsuc n) = false

-- the ring of whole numbers
abbrev pub whole_arithmetic : Arithmetic ℤ
whole_arithmetic = record {
  zero = pos 0;
  one = pos 1;
  sum = ◌+ℤ◌;
  negative = neg_ℤ;
  product = ◌*ℤ◌;
}

-- whole numbers: every one is a value, and there is no derivation
abbrev pub whole_operations : Operations ℤ
whole_operations = record {
  arithmetic = whole_arithmetic;
  is_value = λ _. true;
  is_zero = whole_is_zero;
  derivations = 0;
  derivative = λ _ a. a;
}

-- the positive part of a product
pub up_mul : (a b : ℤ) → up (a *ℤ b) ≡ up a * up b + down a * down b
up_mul a b = (product_is a b).0

-- the negative part of a product
pub down_mul : (a b : ℤ) → down (a *ℤ b) ≡ up a * down b + down a * up b
down_mul a b = (product_is a b).1

-- products associate
pub *ℤ_assoc : (a b c : ℤ) → (a *ℤ b) *ℤ c ≡ a *ℤ (b *ℤ c)
*ℤ_assoc a b c = same_in _ _ (simp (up_mul, down_mul) (omega arith))

-- products distribute over sums
pub *ℤ-+ℤ : (a b c : ℤ) → a *ℤ (b +ℤ c) ≡ a *ℤ b +ℤ a *ℤ c
*ℤ-+ℤ a b c =
    let e : up a * (up (b +ℤ c) + down b + down c) ≡ up a * (down (b +ℤ c) + up b + up c) = ap (λ x. up a * x) (sum_is_lem b c) in
    let f : down a * (up (b +ℤ c) + down b + down c) ≡ down a * (down (b +ℤ c) + up b + up c) = ap (λ x. down a * x) (sum_is_lem b c) in
    let g = sum_is_lem (a *ℤ b) (a *ℤ c) in
    same_in _ _ (omega (arith, up_mul, down_mul, e, f, g))

one-*ℤ : (a : ℤ) → pos 1 *ℤ a ≡ a
one-*ℤ a = omega (arith, ints)

-- a product is zero only where a factor is
pub no_divisors : (a b : ℤ) → a *ℤ b ≡ pos 0 → (a ≡ pos 0) ⊎ (b ≡ pos 0)
no_divisors (pos zero) b e = inl refl
no_divisors (pos (suc m)) (pos zero) e = inr refl
no_divisors (pos (suc m)) (pos (suc n)) e = absurd (omega (arith, ints))
no_divisors (pos (suc m)) (negsuc n) e = absurd (omega (arith, ints))
no_divisors (negsuc m) (pos zero) e = inr refl
no_divisors (negsuc m) (pos (suc n)) e = absurd (omega (arith, ints))
no_divisors (negsuc m) (negsuc n) e = absurd (omega (arith, ints))

copies_up : (m : ℕ) (n : ℕ) → copies whole_arithmetic m (pos n) ≡ pos (m * n)
copies_up zero n = ap pos (omega arith)
copies_up (suc m) n = ap (λ x. pos n +ℤ x) (copies_up m n) ∙ ap pos (omega arith)

copies_down : (m : ℕ) (n : ℕ) → copies whole_arithmetic (suc m) (negsuc n) ≡ negsuc (m * suc n + n)
copies_down zero n = omega (arith, ints)
copies_down (suc m) n = ap (λ x. negsuc n +ℤ x) (copies_down m n) ∙ ap negsuc (omega arith)

characteristic : (m : ℕ) (a : ℤ) → copies whole_arithmetic (suc m) a ≡ pos 0 → a ≡ pos 0
characteristic m (pos n) e =
    let h : pos (suc m * n) ≡ pos 0 = sym (copies_up (suc m) n) ∙ e in
    let k : suc m * n ≡ 0 = cc in
    ap pos (omega arith)
characteristic m (negsuc n) e =
    let h : negsuc (m * suc n + n) ≡ pos 0 = sym (copies_down m n) ∙ e in cc

zero_tested : (a : ℤ) → IsTrue (whole_is_zero a) ↔ (a ≡ pos 0)
zero_tested (pos zero) = (λ _. refl, λ _. refl)
zero_tested (pos (suc n)) = (λ e. cc, λ e. cc)
zero_tested (negsuc n) = (λ e. cc, λ e. cc)

-- whole numbers keep the laws of a domain
pub whole_laws : DomainLaws whole_operations
whole_laws = record {
  zero_is_value = refl;
  one_is_value = refl;
  sum_is_value = λ _ _ _ _. refl;
  negative_is_value = λ _ _. refl;
  product_is_value = λ _ _ _ _. refl;
  derivative_is_value = λ _ _ _ _. refl;
  is_zero_at_zero = λ a _. zero_tested a;
  sum_commutes = λ a b _ _. +ℤ_comm a b;
  sum_associates = λ a b c _ _ _. +ℤ_assoc a b c;
  zero_is_neutral = λ a _. +ℤ_idl a;
  negative_is_inverse = λ a _. +ℤ_invl a;
  product_commutes = λ a b _ _. *ℤ_comm a b;
  product_associates = λ a b c _ _ _. *ℤ_assoc a b c;
  one_is_neutral = λ a _. one-*ℤ a;
  product_distributes = λ a b c _ _ _. *ℤ-+ℤ a b c;
  one_is_not_zero = λ e. cc;
  no_zero_divisors = λ a b _ _. no_divisors a b;
  characteristic_is_zero = λ m a _. characteristic m a;
  derivative_of_sum = λ i a b h. absurd (omega arith);
  derivative_of_product = λ i a b h. absurd (omega arith);
  derivatives_commute = λ i j a h. absurd (omega arith);
}

-- the ring of whole numbers, of any size
abbrev pub whole_ring : Ring ℤ
whole_ring = record {
  arithmetic = whole_arithmetic;
  sum_commutes = λ a b. whole_laws.sum_commutes a b refl refl;
  sum_associates = λ a b c. whole_laws.sum_associates a b c refl refl refl;
  zero_is_neutral = λ a. whole_laws.zero_is_neutral a refl;
  negative_is_inverse = λ a. whole_laws.negative_is_inverse a refl;
  product_commutes = λ a b. whole_laws.product_commutes a b refl refl;
  product_associates = λ a b c. whole_laws.product_associates a b c refl refl refl;
  one_is_neutral = λ a. whole_laws.one_is_neutral a refl;
  product_distributes = λ a b c. whole_laws.product_distributes a b c refl refl refl;
}
