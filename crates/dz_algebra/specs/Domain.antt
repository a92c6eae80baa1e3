-- Differential domains of characteristic zero (Kolchin): their operations, and the laws that these keep on values.
use Rattle.std.specs.Prelude.{◌≡◌, ◌≢◌, ◌⊎◌, ◌↔◌, ℕ, zero, suc, ◌<◌, Bool, IsTrue}

-- the operations of a commutative ring with elements in E
pub record Arithmetic (E : Type 0) : Type 0 where
  pub zero : E
  pub one : E
  pub sum : E → E → E
  pub negative : E → E
  pub product : E → E → E

-- the sum of m copies of a
abbrev pub copies : {E : Type 0} → Arithmetic E → ℕ → E → E
copies o zero a = o.zero
copies o (suc m) a = o.sum a (copies o m a)

-- the operations of a differential domain: those of its ring, which elements are values, which of these are zero, and
-- its derivations by number
pub record Operations (E : Type 0) : Type 0 where
  pub arithmetic : Arithmetic E
  pub open arithmetic use *
  pub is_value : E → Bool
  pub is_zero : E → Bool
  pub derivations : ℕ
  pub derivative : ℕ → E → E

-- the laws of a differential domain of characteristic zero, all of them of values
pub record DomainLaws {E : Type 0} (o : Operations E) : Type 0 where
  -- the operations make values
  pub zero_is_value : IsTrue (o.is_value o.zero)
  pub one_is_value : IsTrue (o.is_value o.one)
  pub sum_is_value : (a b : E) → IsTrue (o.is_value a) → IsTrue (o.is_value b) → IsTrue (o.is_value (o.sum a b))
  pub negative_is_value : (a : E) → IsTrue (o.is_value a) → IsTrue (o.is_value (o.negative a))
  pub product_is_value : (a b : E) → IsTrue (o.is_value a) → IsTrue (o.is_value b)
      → IsTrue (o.is_value (o.product a b))
  pub derivative_is_value : (i : ℕ) (a : E) → i < o.derivations → IsTrue (o.is_value a)
      → IsTrue (o.is_value (o.derivative i a))
  pub is_zero_at_zero : (a : E) → IsTrue (o.is_value a) → IsTrue (o.is_zero a) ↔ (a ≡ o.zero)
  -- the values are a commutative ring
  pub sum_commutes : (a b : E) → IsTrue (o.is_value a) → IsTrue (o.is_value b) → o.sum a b ≡ o.sum b a
  pub sum_associates : (a b c : E) → IsTrue (o.is_value a) → IsTrue (o.is_value b) → IsTrue (o.is_value c)
      → o.sum (o.sum a b) c ≡ o.sum a (o.sum b c)
  pub zero_is_neutral : (a : E) → IsTrue (o.is_value a) → o.sum o.zero a ≡ a
  pub negative_is_inverse : (a : E) → IsTrue (o.is_value a) → o.sum (o.negative a) a ≡ o.zero
  pub product_commutes : (a b : E) → IsTrue (o.is_value a) → IsTrue (o.is_value b) → o.product a b ≡ o.product b a
  pub product_associates : (a b c : E) → IsTrue (o.is_value a) → IsTrue (o.is_value b) → IsTrue (o.is_value c)
      → o.product (o.product a b) c ≡ o.product a (o.product b c)
  pub one_is_neutral : (a : E) → IsTrue (o.is_value a) → o.product o.one a ≡ a
  pub product_distributes : (a b c : E) → IsTrue (o.is_value a) → IsTrue (o.is_value b) → IsTrue (o.is_value c)
      → o.product a (o.sum b c) ≡ o.sum (o.product a b) (o.product a c)
  -- without zero divisors, and no nonzero number of copies of a nonzero value is zero
  pub one_is_not_zero : o.one ≢ o.zero
  pub no_zero_divisors : (a b : E) → IsTrue (o.is_value a) → IsTrue (o.is_value b) → o.product a b ≡ o.zero
      → (a ≡ o.zero) ⊎ (b ≡ o.zero)
  pub characteristic_is_zero : (m : ℕ) (a : E) → IsTrue (o.is_value a) → copies o.arithmetic (suc m) a ≡ o.zero
      → a ≡ o.zero
  -- the derivations are additive, obey Leibniz' rule and commute
  pub derivative_of_sum : (i : ℕ) (a b : E) → i < o.derivations → IsTrue (o.is_value a) → IsTrue (o.is_value b)
      → o.derivative i (o.sum a b) ≡ o.sum (o.derivative i a) (o.derivative i b)
  pub derivative_of_product : (i : ℕ) (a b : E) → i < o.derivations → IsTrue (o.is_value a) → IsTrue (o.is_value b)
      → o.derivative i (o.product a b) ≡ o.sum (o.product (o.derivative i a) b) (o.product a (o.derivative i b))
  pub derivatives_commute : (i j : ℕ) (a : E) → i < o.derivations → j < o.derivations → IsTrue (o.is_value a)
      → o.derivative i (o.derivative j a) ≡ o.derivative j (o.derivative i a)
