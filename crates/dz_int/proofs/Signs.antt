-- Whole numbers by sign and absolute value, and the laws of their products.
use Rattle.std.proofs.Common.{◌≡◌, ◌<◌, ◌≤◌, ◌+◌, ◌*◌, ◌∙◌, ℕ, zero, suc, Bool, true, false, not, ℤ, pos, negsuc, ◌+ℤ◌, ◌*ℤ◌, unsigned_abs, refl, sym, ap, ap₂, subst, arith}
use Rattle.std.specs.Prelude.{neg_ℤ}
use Rattle.std.specs.Int.{is_negative}
use Rattle.std.proofs.lemmas.Int.{ints, to_z-of_z, to_z_pos, fits_signed_from_abs, unsigned_abs-mul}
use mathlib.Core.Bool.{beq}
use mir.Syntax.{w128}
use mir.Val.{SFits, of_z, to_z}
use borrow.Author.Differences.{up, down, same_in}
use Rattle.std.proofs.Math.IntN.{*ℤ_comm, zero-*ℤ, *ℤ-zero, pos-*ℤ-pos, negsuc-*ℤ-negsuc, negsuc-*ℤ-pos, pos-*ℤ-negsuc}
use Rattle.dz_algebra.specs.Whole.{up_mul, down_mul, *ℤ_assoc, *ℤ-+ℤ}
use Rattle.dz_int.specs.Numbers.{greatest, signed}

pub +ℤ-*ℤ : (a b c : ℤ) → (a +ℤ b) *ℤ c ≡ a *ℤ c +ℤ b *ℤ c
+ℤ-*ℤ a b c = *ℤ_comm (a +ℤ b) c ∙ *ℤ-+ℤ c a b ∙ ap₂ (λ x y. x +ℤ y) (*ℤ_comm c a) (*ℤ_comm c b)

-- ---- signs
pub by_sign : (z : ℤ) → z ≡ signed (is_negative z) (unsigned_abs z)
by_sign (pos n) = grind (arith, ints)
by_sign (negsuc n) = refl

pub unsigned_abs_signed : (s : Bool) (n : ℕ) → unsigned_abs (signed s n) ≡ n
unsigned_abs_signed false n = refl
unsigned_abs_signed true zero = refl
unsigned_abs_signed true (suc n) = refl

-- ---- products with a number that is not negative
pub signed_pos : (s : Bool) (m n : ℕ) → signed s m *ℤ pos n ≡ signed s (m * n)
signed_pos false m n = pos-*ℤ-pos m n
signed_pos true zero n = zero-*ℤ (pos n) ∙ ap (λ k. neg_ℤ (pos k)) (none n)
  where
    none : (n : ℕ) → 0 ≡ 0 * n
    none n = omega arith
signed_pos true (suc m) n = negsuc-*ℤ-pos m n

-- ---- machine words: a product and a sum in range are read back as they are
abs_of_product : (a : ℤ) (x : ℕ) → unsigned_abs (a *ℤ pos x) ≡ unsigned_abs a * x
abs_of_product a x = unsigned_abs-mul a (pos x)

product_read : (a : ℤ) (x : ℕ) → SFits w128 a → x ≤ greatest → unsigned_abs a * x ≤ greatest → to_z w128 (of_z w128 (to_z w128 (of_z w128 a) *ℤ to_z w128 x)) ≡ a *ℤ pos x
product_read a x f g h =
    ap₂ (λ u v. to_z w128 (of_z w128 (u *ℤ v))) (to_z-of_z w128 a f) (to_z_pos w128 x (omega arith))
    ∙ to_z-of_z w128 (a *ℤ pos x) (fits_signed_from_abs w128 (a *ℤ pos x) (omega (arith, abs_of_product a x)))

pub abs_of_sum : (u v : ℤ) → unsigned_abs (u +ℤ v) ≤ unsigned_abs u + unsigned_abs v
abs_of_sum u v = grind (arith, ints)

pub abs_of_sum_of_products : (a b : ℤ) (x y : ℕ) → unsigned_abs (a *ℤ pos x +ℤ b *ℤ pos y) ≤ unsigned_abs a * x + unsigned_abs b * y
abs_of_sum_of_products a b x y = omega (arith, abs_of_sum (a *ℤ pos x) (b *ℤ pos y), abs_of_product a x, abs_of_product b y)

pub sum_fits : (a b : ℤ) (x y : ℕ) → SFits w128 a → SFits w128 b → x ≤ greatest → y ≤ greatest → unsigned_abs a * x + unsigned_abs b * y ≤ greatest → SFits w128 (to_z w128 (of_z w128 (to_z w128 (of_z w128 a) *ℤ to_z w128 x)) +ℤ to_z w128 (of_z w128 (to_z w128 (of_z w128 b) *ℤ to_z w128 y)))
sum_fits a b x y f g h i p = subst (SFits w128) (sym (ap₂ (λ u v. u +ℤ v) (product_read a x f h (omega arith)) (product_read b y g i (omega arith)))) (fits_signed_from_abs w128 (a *ℤ pos x +ℤ b *ℤ pos y) (omega (arith, abs_of_sum_of_products a b x y)))

pub sum_read : (a b : ℤ) (x y : ℕ) → SFits w128 a → SFits w128 b → x ≤ greatest → y ≤ greatest → unsigned_abs a * x + unsigned_abs b * y ≤ greatest → to_z w128 (of_z w128 (to_z w128 (of_z w128 (to_z w128 (of_z w128 a) *ℤ to_z w128 x)) +ℤ to_z w128 (of_z w128 (to_z w128 (of_z w128 b) *ℤ to_z w128 y)))) ≡ a *ℤ pos x +ℤ b *ℤ pos y
sum_read a b x y f g h i p = to_z-of_z w128 _ (sum_fits a b x y f g h i p) ∙ ap₂ (λ u v. u +ℤ v) (product_read a x f h (omega arith)) (product_read b y g i (omega arith))

-- ---- products
zero_is : (n : ℕ) → n ≡ 0 → pos 0 ≡ neg_ℤ (pos n)
zero_is n e = ap (λ k. neg_ℤ (pos k)) (sym e)

times_signed : (s t : Bool) (m n : ℕ) → signed s m *ℤ signed t n ≡ signed (not (beq s t)) (m * n)
times_signed false false m n = pos-*ℤ-pos m n
times_signed false true m zero = *ℤ-zero (pos m) ∙ zero_is (m * zero) (omega arith)
times_signed false true m (suc n) = pos-*ℤ-negsuc m n
times_signed true false m n = signed_pos true m n
times_signed true true zero n = zero-*ℤ (neg_ℤ (pos n)) ∙ ap pos (none n)
  where
    none : (n : ℕ) → 0 ≡ 0 * n
    none n = omega arith
times_signed true true (suc m) zero = *ℤ-zero (negsuc m) ∙ ap pos (none m)
  where
    none : (m : ℕ) → 0 ≡ suc m * 0
    none m = omega arith
times_signed true true (suc m) (suc n) = negsuc-*ℤ-negsuc m n

-- the sign of a product is negative where the signs differ
pub product_by_sign : (a c : ℤ) → a *ℤ c ≡ signed (not (beq (is_negative a) (is_negative c))) (unsigned_abs a * unsigned_abs c)
product_by_sign a c = ap₂ (λ x y. x *ℤ y) (by_sign a) (by_sign c) ∙ times_signed (is_negative a) (is_negative c) (unsigned_abs a) (unsigned_abs c)

neg_signed : (s : Bool) (n : ℕ) → neg_ℤ (signed s n) ≡ signed (not s) n
neg_signed false n = refl
neg_signed true zero = refl
neg_signed true (suc n) = refl

pub neg_by_sign : (a : ℤ) → neg_ℤ a ≡ signed (not (is_negative a)) (unsigned_abs a)
neg_by_sign a = ap neg_ℤ (by_sign a) ∙ neg_signed (is_negative a) (unsigned_abs a)

-- ---- a positive factor is cancelled, and two factors change places
pub cancel_pos : (x w : ℤ) (y : ℕ) → 0 < y → x *ℤ pos y ≡ w *ℤ pos y → x ≡ w
cancel_pos x w y p e =
    let u : up x * y + down x * 0 ≡ up w * y + down w * 0 = sym (up_mul x (pos y)) ∙ ap up e ∙ up_mul w (pos y) in
    let d : up x * 0 + down x * y ≡ up w * 0 + down w * y = sym (down_mul x (pos y)) ∙ ap down e ∙ down_mul w (pos y) in
    let a : up x ≡ up w = cancelled (up x) (up w) y p (omega arith) in
    let b : down x ≡ down w = cancelled (down x) (down w) y p (omega arith) in
    same_in x w (omega arith)
  where
    cancelled : (m n y : ℕ) → 0 < y → m * y ≡ n * y → m ≡ n
    cancelled m n y p e = grind arith

pub factors_swap : (a b c : ℤ) → (a *ℤ b) *ℤ c ≡ (a *ℤ c) *ℤ b
factors_swap a b c = *ℤ_assoc a b c ∙ ap (λ x. a *ℤ x) (*ℤ_comm b c) ∙ sym (*ℤ_assoc a c b)
