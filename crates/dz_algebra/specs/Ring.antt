-- Commutative rings, the ring of the values of a domain, and what follows from the laws of a ring.
use Rattle.std.specs.Prelude.{◌≡◌, IsTrue}
use Rattle.std.proofs.Common.{sym, ap, ◌∙◌}
use mathlib.Core.HLevel.{Σ_prop_path}
use mathlib.Core.Bool.{Bool-set}
use Rattle.dz_algebra.specs.Domain.{Arithmetic, Operations, DomainLaws}

-- a commutative ring: the laws hold of all elements
pub record Ring (R : Type 0) : Type 0 where
  pub arithmetic : Arithmetic R
  pub open arithmetic use *
  pub sum_commutes : (a b : R) → sum a b ≡ sum b a
  pub sum_associates : (a b c : R) → sum (sum a b) c ≡ sum a (sum b c)
  pub zero_is_neutral : (a : R) → sum zero a ≡ a
  pub negative_is_inverse : (a : R) → sum (negative a) a ≡ zero
  pub product_commutes : (a b : R) → product a b ≡ product b a
  pub product_associates : (a b c : R) → product (product a b) c ≡ product a (product b c)
  pub one_is_neutral : (a : R) → product one a ≡ a
  pub product_distributes : (a b c : R) → product a (sum b c) ≡ sum (product a b) (product a c)

-- the values of a domain, each with the fact that it is one
abbrev pub Value : {E : Type 0} → Operations E → Type 0
Value {E} o = (x : E) × IsTrue (o.is_value x)

-- two values with one element are one value
pub same_value : {E : Type 0} (o : Operations E) (a b : Value o) → a.0 ≡ b.0 → a ≡ b
same_value o a b e = Σ_prop_path (λ x. Bool-set _ _) e

-- the operations of a domain on its values
abbrev pub values_arithmetic : {E : Type 0} {o : Operations E} → DomainLaws o → Arithmetic (Value o)
values_arithmetic {o = o} d = record {
  zero = (o.zero, d.zero_is_value);
  one = (o.one, d.one_is_value);
  sum = λ a b. (o.sum a.0 b.0, d.sum_is_value a.0 b.0 a.1 b.1);
  negative = λ a. (o.negative a.0, d.negative_is_value a.0 a.1);
  product = λ a b. (o.product a.0 b.0, d.product_is_value a.0 b.0 a.1 b.1);
}

-- the values of a domain are a commutative ring
abbrev pub ring_of_values : {E : Type 0} {o : Operations E} → DomainLaws o → Ring (Value o)
ring_of_values {o = o} d = record {
  arithmetic = values_arithmetic d;
  sum_commutes = λ a b. same_value o _ _ (d.sum_commutes a.0 b.0 a.1 b.1);
  sum_associates = λ a b c. same_value o _ _ (d.sum_associates a.0 b.0 c.0 a.1 b.1 c.1);
  zero_is_neutral = λ a. same_value o _ _ (d.zero_is_neutral a.0 a.1);
  negative_is_inverse = λ a. same_value o _ _ (d.negative_is_inverse a.0 a.1);
  product_commutes = λ a b. same_value o _ _ (d.product_commutes a.0 b.0 a.1 b.1);
  product_associates = λ a b c. same_value o _ _ (d.product_associates a.0 b.0 c.0 a.1 b.1 c.1);
  one_is_neutral = λ a. same_value o _ _ (d.one_is_neutral a.0 a.1);
  product_distributes = λ a b c. same_value o _ _ (d.product_distributes a.0 b.0 c.0 a.1 b.1 c.1);
}

-- what follows from the laws of a commutative ring
module _ {R : Type 0} (r : Ring R) where
  -- the first two of three summands change places
  pub sum_swaps : (a b c : R) → r.sum a (r.sum b c) ≡ r.sum b (r.sum a c)
  sum_swaps a b c = sym (r.sum_associates a b c) ∙ ap (λ x. r.sum x c) (r.sum_commutes a b) ∙ r.sum_associates b a c

  -- four summands change partners
  pub sum_of_sums : (a b c d : R) → r.sum (r.sum a b) (r.sum c d) ≡ r.sum (r.sum a c) (r.sum b d)
  sum_of_sums a b c d = simp (r.sum_associates, r.sum_commutes, sum_swaps)

  -- the first two of three factors change places
  pub product_swaps : (a b c : R) → r.product a (r.product b c) ≡ r.product b (r.product a c)
  product_swaps a b c = sym (r.product_associates a b c) ∙ ap (λ x. r.product x c) (r.product_commutes a b) ∙ r.product_associates b a c

  -- four factors change partners
  pub product_of_products : (a b c d : R)
      → r.product (r.product a b) (r.product c d) ≡ r.product (r.product a c) (r.product b d)
  product_of_products a b c d = simp (r.product_associates, r.product_commutes, product_swaps)

  -- a sum times an element
  pub sum_times : (a b c : R) → r.product (r.sum a b) c ≡ r.sum (r.product a c) (r.product b c)
  sum_times a b c = simp (r.product_commutes, r.product_distributes)

  -- zero is neutral from the right
  pub right_neutral : (a : R) → r.sum a r.zero ≡ a
  right_neutral a = r.sum_commutes a r.zero ∙ r.zero_is_neutral a

  -- a summand cancels
  pub cancels : (a b c : R) → r.sum a b ≡ r.sum a c → b ≡ c
  cancels a b c e = sym (r.zero_is_neutral b) ∙ ap (λ x. r.sum x b) (sym (r.negative_is_inverse a)) ∙ r.sum_associates (r.negative a) a b ∙ ap (r.sum (r.negative a)) e ∙ sym (r.sum_associates (r.negative a) a c) ∙ ap (λ x. r.sum x c) (r.negative_is_inverse a) ∙ r.zero_is_neutral c

  -- an element times zero
  pub product_zero : (a : R) → r.product a r.zero ≡ r.zero
  product_zero a = cancels (r.product a r.zero) _ _ (sym (r.product_distributes a r.zero r.zero) ∙ ap (r.product a) (r.zero_is_neutral r.zero) ∙ sym (right_neutral _))

  -- zero times an element
  pub zero_product : (a : R) → r.product r.zero a ≡ r.zero
  zero_product a = r.product_commutes r.zero a ∙ product_zero a

  -- only the negative adds up to zero
  pub opposite : (a b : R) → r.sum a b ≡ r.zero → b ≡ r.negative a
  opposite a b e = cancels a b (r.negative a) (e ∙ sym (r.negative_is_inverse a) ∙ r.sum_commutes (r.negative a) a)

  -- the negative of a factor
  pub negative_product : (a b : R) → r.product (r.negative a) b ≡ r.negative (r.product a b)
  negative_product a b = opposite (r.product a b) _ (sym (sum_times a (r.negative a) b) ∙ ap (λ x. r.product x b) (r.sum_commutes a (r.negative a) ∙ r.negative_is_inverse a) ∙ zero_product b)

  -- the negative of a sum
  pub negative_sum : (a b : R) → r.negative (r.sum a b) ≡ r.sum (r.negative a) (r.negative b)
  negative_sum a b = sym (opposite (r.sum a b) _ (sum_of_sums a b (r.negative a) (r.negative b) ∙ ap (λ x. r.sum x (r.sum b (r.negative b))) (r.sum_commutes a _ ∙ r.negative_is_inverse a) ∙ r.zero_is_neutral _ ∙ r.sum_commutes b _ ∙ r.negative_is_inverse b))

  -- the negative of the negative
  pub negative_negative : (a : R) → r.negative (r.negative a) ≡ a
  negative_negative a = sym (opposite (r.negative a) a (r.negative_is_inverse a))

  -- the negative of zero
  pub negative_zero : r.negative r.zero ≡ r.zero
  negative_zero = sym (opposite r.zero r.zero (r.zero_is_neutral r.zero))

  -- an additive map takes zero to zero
  pub additive_zero : (d : R → R) → ((a b : R) → d (r.sum a b) ≡ r.sum (d a) (d b)) → d r.zero ≡ r.zero
  additive_zero d additive = cancels (d r.zero) _ _ (sym (additive r.zero r.zero) ∙ ap d (r.zero_is_neutral r.zero) ∙ sym (right_neutral _))
