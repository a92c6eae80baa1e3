-- Polynomials in one new variable over a domain are a domain.
use Rattle.std.specs.Prelude.{◌≡◌, ◌⊎◌, ◌↔◌, ℕ, zero, suc, ◌<◌, Bool, true, false, cond, not, ◌&&◌, List, [], ◌∷◌, IsTrue, refl, ltb}
use Rattle.std.proofs.Common.{sym, ap, ap₂, ◌∙◌, inl, inr, subst, ltb-true}
use Rattle.dz_algebra.specs.Domain.{Arithmetic, Operations, DomainLaws, copies}
use Rattle.dz_algebra.specs.Ring.{Ring, Value, same_value, values_arithmetic, ring_of_values, right_neutral, additive_zero}
use Rattle.dz_domain.specs.Adjoin.{attach, list_sum, list_multiple, list_product, list_each, list_derivative, ends_nonzero, each_passes, list_is_zero, adjoin_arithmetic, adjoin_operations}
use Rattle.dz_domain.specs.Series.{coefficient, convolution, convolution_commutes, convolution_associates, convolution_sum, series_derivative, series_derivative_sum, series_leibniz, convolution_leibniz, series_derivative_commutes, convolution_zero}
use Rattle.dz_domain.specs.CoefficientLists.{coefficient_sum, coefficient_each, coefficient_product, coefficient_derivative, same_coefficients, sum_ends, each_ends, product_ends, derivative_ends, list_divisors}

-- both of two tests: the first
and_left : (a b : Bool) → (a && b) ≡ true → a ≡ true
and_left true b e = refl
and_left false b e = e

-- both of two tests: the second
and_right : (a b : Bool) → (a && b) ≡ true → b ≡ true
and_right true b e = e
and_right false b e = cc

-- two tests together
both : (a b : Bool) → a ≡ true → b ≡ true → (a && b) ≡ true
both true b e f = f
both false b e f = e

-- a test that does not answer true
is_false : (b : Bool) → (b ≡ true → ⊥) → b ≡ false
is_false true h = absurd (h refl)
is_false false h = refl

module _ {E : Type 0} {o : Operations E} (laws : DomainLaws o) where
  -- the ring of the values of the domain below
  abbrev r : Ring (Value o)
  r = ring_of_values laws

  -- the test of a value for zero
  abbrev value_is_zero : Value o → Bool
  value_is_zero x = o.is_zero x.0

  -- the test answers true exactly at zero
  tested : (a : Value o) → IsTrue (value_is_zero a) ↔ (a ≡ r.zero)
  tested a = (
    λ e. same_value o a r.zero ((laws.is_zero_at_zero a.0 a.1).0 e),
    λ e. (laws.is_zero_at_zero a.0 a.1).1 (ap (λ x. x.0) e),
  )

  -- the elements of a list of values
  abbrev elements : List (Value o) → List E
  elements [] = []
  elements (a ∷ A) = a.0 ∷ elements A

  -- an element before a list
  elements_attach : (a : Value o) (A : List (Value o))
      → elements (attach value_is_zero a A) ≡ attach o.is_zero a.0 (elements A)
  elements_attach a (b ∷ A) = refl
  elements_attach a [] = by_test (o.is_zero a.0)
    where
      by_test : (b : Bool) → elements (cond b [] (a ∷ [])) ≡ cond b [] (a.0 ∷ [])
      by_test true = refl
      by_test false = refl

  -- the sum of lists of values
  abbrev value_sum : List (Value o) → List (Value o) → List (Value o)
  value_sum = list_sum value_is_zero (values_arithmetic laws)

  -- the product of lists of values
  abbrev value_product : List (Value o) → List (Value o) → List (Value o)
  value_product = list_product value_is_zero (values_arithmetic laws)

  -- the sum of lists of elements
  abbrev element_sum : List E → List E → List E
  element_sum = list_sum o.is_zero o.arithmetic

  -- the product of lists of elements
  abbrev element_product : List E → List E → List E
  element_product = list_product o.is_zero o.arithmetic

  -- sums keep elements
  elements_sum : (A B : List (Value o))
      → elements (value_sum A B) ≡ element_sum (elements A) (elements B)
  elements_sum [] B = refl
  elements_sum (a ∷ A) [] = refl
  elements_sum (a ∷ A) (b ∷ B) =
      elements_attach (r.sum a b) (value_sum A B)
      ∙ ap (attach o.is_zero (o.sum a.0 b.0)) (elements_sum A B)

  -- multiples keep elements
  elements_multiple : (c : Value o) (B : List (Value o))
      → elements (list_multiple value_is_zero (values_arithmetic laws) c B)
      ≡ list_multiple o.is_zero o.arithmetic c.0 (elements B)
  elements_multiple c [] = refl
  elements_multiple c (b ∷ B) =
      elements_attach (r.product c b) (list_multiple value_is_zero (values_arithmetic laws) c B)
      ∙ ap (attach o.is_zero (o.product c.0 b.0)) (elements_multiple c B)

  -- products keep elements
  elements_product : (A B : List (Value o))
      → elements (value_product A B) ≡ element_product (elements A) (elements B)
  elements_product [] B = refl
  elements_product (a ∷ A) B =
      elements_sum (list_multiple value_is_zero (values_arithmetic laws) a B)
      (attach value_is_zero r.zero (value_product A B))
      ∙ ap₂ element_sum (elements_multiple a B)
      (elements_attach r.zero (value_product A B)
      ∙ ap (attach o.is_zero o.zero) (elements_product A B))

  -- what is done to each member keeps elements
  elements_each : (f : Value o → Value o) (g : E → E) → ((x : Value o) → (f x).0 ≡ g x.0)
      → (A : List (Value o)) → elements (list_each value_is_zero f A)
      ≡ list_each o.is_zero g (elements A)
  elements_each f g e [] = refl
  elements_each f g e (a ∷ A) =
      elements_attach (f a) (list_each value_is_zero f A)
      ∙ ap₂ (attach o.is_zero) (e a) (elements_each f g e A)

  -- the derivation by the new variable keeps elements
  elements_derivative : (A : List (Value o))
      → elements (list_derivative value_is_zero (values_arithmetic laws) A)
      ≡ list_derivative o.is_zero o.arithmetic (elements A)
  elements_derivative [] = refl
  elements_derivative (a ∷ A) =
      elements_sum A (attach value_is_zero r.zero
      (list_derivative value_is_zero (values_arithmetic laws) A))
      ∙ ap (element_sum (elements A))
      (elements_attach r.zero (list_derivative value_is_zero (values_arithmetic laws) A)
      ∙ ap (attach o.is_zero o.zero) (elements_derivative A))

  -- every value of the new domain is such a list
  values_of : (A : List E) → each_passes o.is_value A ≡ true → List (Value o)
  values_of [] h = []
  values_of (a ∷ A) h =
      (a, and_left (o.is_value a) _ h) ∷ values_of A (and_right (o.is_value a) _ h)

  -- the elements of the list of values with given elements
  elements_of_values : (A : List E) (h : each_passes o.is_value A ≡ true)
      → elements (values_of A h) ≡ A
  unfolding values_of
  elements_of_values [] h = refl
  elements_of_values (a ∷ A) h =
      ap (λ B. a ∷ B) (elements_of_values A (and_right (o.is_value a) _ h))

  -- the elements end in zero where the values do
  ends_elements : (A : List (Value o))
      → ends_nonzero o.is_zero (elements A) ≡ ends_nonzero value_is_zero A
  ends_elements [] = refl
  ends_elements (a ∷ []) = refl
  ends_elements (a ∷ b ∷ A) = ends_elements (b ∷ A)

  -- the elements of values are values
  elements_pass : (A : List (Value o)) → each_passes o.is_value (elements A) ≡ true
  elements_pass [] = refl
  elements_pass (a ∷ A) = both (o.is_value a.0) _ a.1 (elements_pass A)

  -- a list of elements is a value of the new domain
  abbrev IsList : List E → Type 0
  IsList A = IsTrue (each_passes o.is_value A && ends_nonzero o.is_zero A)

  -- the elements of a list of values that does not end in zero are a value of the new domain
  elements_value : (A : List (Value o)) → IsTrue (ends_nonzero value_is_zero A)
      → IsList (elements A)
  elements_value A h =
      both (each_passes o.is_value (elements A)) _ (elements_pass A) (ends_elements A ∙ h)

  -- what holds of the elements of each list of values that does not end in zero holds of each value
  -- of the new domain
  by_values : (P : List E → Type 0)
      → ((A : List (Value o)) → IsTrue (ends_nonzero value_is_zero A) → P (elements A))
      → (A : List E) → IsList A → P A
  by_values P f A v =
      let h : each_passes o.is_value A ≡ true = and_left (each_passes o.is_value A) _ v in
      let g : ends_nonzero o.is_zero A ≡ true = and_right (each_passes o.is_value A) _ v in
      let e : elements (values_of A h) ≡ A = elements_of_values A h in
      subst P e (f (values_of A h) (sym (ends_elements (values_of A h))
      ∙ ap (ends_nonzero o.is_zero) e ∙ g))

  -- the same for two
  by_values₂ : (P : List E → List E → Type 0)
      → ((A B : List (Value o)) → IsTrue (ends_nonzero value_is_zero A)
      → IsTrue (ends_nonzero value_is_zero B) → P (elements A) (elements B)) → (A B : List E)
      → IsList A → IsList B → P A B
  by_values₂ P f A B v w =
      by_values (λ A. P A B) (λ A h. by_values (P (elements A)) (λ B g. f A B h g) B w) A v

  -- the same for three
  by_values₃ : (P : List E → List E → List E → Type 0)
      → ((A B C : List (Value o)) → IsTrue (ends_nonzero value_is_zero A)
      → IsTrue (ends_nonzero value_is_zero B) → IsTrue (ends_nonzero value_is_zero C)
      → P (elements A) (elements B) (elements C)) → (A B C : List E) → IsList A → IsList B
      → IsList C → P A B C
  by_values₃ P f A B C v w u =
      by_values₂ (λ A B. P A B C) (λ A B h g. by_values (P (elements A) (elements B))
      (λ C k. f A B C h g k) C u) A B v w

  -- ---- sums

  -- the series of a list of values
  abbrev at : List (Value o) → ℕ → Value o
  at A = coefficient r.zero A

  -- sums of lists are sums of series
  at_sum : (A B : List (Value o)) (n : ℕ) → at (value_sum A B) n ≡ r.sum (at A n) (at B n)
  at_sum A B n = coefficient_sum r value_is_zero tested A B n

  -- products of lists are products of series
  at_product : (A B : List (Value o)) (n : ℕ)
      → at (value_product A B) n ≡ convolution r (at A) (at B) n
  at_product A B n = coefficient_product r value_is_zero tested A B n

  -- lists of values that do not end in zero are equal, if their series are
  same : (A B : List (Value o)) → IsTrue (ends_nonzero value_is_zero A)
      → IsTrue (ends_nonzero value_is_zero B) → ((n : ℕ) → at A n ≡ at B n) → A ≡ B
  same A B h g e = same_coefficients r value_is_zero tested A B h g e

  -- a sum does not end in zero
  ends_sum : (A B : List (Value o)) → IsTrue (ends_nonzero value_is_zero A)
      → IsTrue (ends_nonzero value_is_zero B) → IsTrue (ends_nonzero value_is_zero (value_sum A B))
  ends_sum A B h g = sum_ends r value_is_zero tested A B h g

  -- a product does not end in zero
  ends_product : (A B : List (Value o)) → IsTrue (ends_nonzero value_is_zero (value_product A B))
  ends_product A B = product_ends r value_is_zero tested A B

  -- the sum of lists of values is commutative
  value_sum_commutes : (A B : List (Value o)) → IsTrue (ends_nonzero value_is_zero A)
      → IsTrue (ends_nonzero value_is_zero B) → value_sum A B ≡ value_sum B A
  value_sum_commutes A B h g =
      same _ _ (ends_sum A B h g) (ends_sum B A g h)
      (λ n. at_sum A B n ∙ r.sum_commutes _ _ ∙ sym (at_sum B A n))

  -- the sum is commutative
  sum_commutes : (A B : List E) → IsList A → IsList B → element_sum A B ≡ element_sum B A
  sum_commutes =
      by_values₂ (λ A B. element_sum A B ≡ element_sum B A)
      (λ A B h g. sym (elements_sum A B) ∙ ap elements (value_sum_commutes A B h g)
      ∙ elements_sum B A)

  -- the sum of lists of values is associative
  value_sum_associates : (A B C : List (Value o)) → IsTrue (ends_nonzero value_is_zero A)
      → IsTrue (ends_nonzero value_is_zero B) → IsTrue (ends_nonzero value_is_zero C)
      → value_sum (value_sum A B) C ≡ value_sum A (value_sum B C)
  value_sum_associates A B C h g k =
      same (value_sum (value_sum A B) C) (value_sum A (value_sum B C))
      (ends_sum (value_sum A B) C (ends_sum A B h g) k)
      (ends_sum A (value_sum B C) h (ends_sum B C g k))
      (λ n. at_sum (value_sum A B) C n ∙ ap (λ x. r.sum x (at C n)) (at_sum A B n)
      ∙ r.sum_associates _ _ _ ∙ ap (r.sum (at A n)) (sym (at_sum B C n))
      ∙ sym (at_sum A (value_sum B C) n))

  -- the sum is associative
  sum_associates : (A B C : List E) → IsList A → IsList B → IsList C
      → element_sum (element_sum A B) C ≡ element_sum A (element_sum B C)
  sum_associates =
      by_values₃ (λ A B C. element_sum (element_sum A B) C ≡ element_sum A (element_sum B C))
      (λ A B C h g k.
      ap (λ X. element_sum X (elements C)) (sym (elements_sum A B))
      ∙ sym (elements_sum (value_sum A B) C) ∙ ap elements (value_sum_associates A B C h g k)
      ∙ elements_sum A (value_sum B C) ∙ ap (element_sum (elements A)) (elements_sum B C))

  -- ---- the constants

  -- one does not pass the test for zero
  one_not_zero : o.is_zero o.one ≡ false
  one_not_zero =
      is_false _ (λ e. laws.one_is_not_zero ((laws.is_zero_at_zero o.one laws.one_is_value).0 e))

  -- one is a value
  one_is_list : IsList (o.one ∷ [])
  one_is_list =
      both (o.is_value o.one && true) _ (both (o.is_value o.one) _ laws.one_is_value refl)
      (ap not one_not_zero)

  -- one as a list of values
  abbrev value_one : List (Value o)
  value_one = r.one ∷ []

  -- the test for zero answers true exactly at zero
  is_zero_at_zero : (A : List E) → IsList A → IsTrue (list_is_zero A) ↔ (A ≡ [])
  is_zero_at_zero [] v = (λ e. refl, λ e. refl)
  is_zero_at_zero (a ∷ A) v = (λ e. cc, λ e. cc)

  -- ---- negatives

  -- the negative of a list of values
  abbrev value_negative : List (Value o) → List (Value o)
  value_negative = list_each value_is_zero r.negative

  -- the negative of a list of elements
  abbrev element_negative : List E → List E
  element_negative = list_each o.is_zero o.negative

  -- the negative of zero is zero
  negative_of_zero : r.negative r.zero ≡ r.zero
  negative_of_zero = sym (right_neutral r _) ∙ r.negative_is_inverse r.zero

  -- negatives keep elements
  elements_negative : (A : List (Value o))
      → elements (value_negative A) ≡ element_negative (elements A)
  elements_negative A = elements_each r.negative o.negative (λ x. refl) A

  -- the negative of a list of values is inverse
  value_negative_is_inverse : (A : List (Value o)) → IsTrue (ends_nonzero value_is_zero A)
      → value_sum (value_negative A) A ≡ []
  value_negative_is_inverse A h =
      same (value_sum (value_negative A) A) []
      (ends_sum (value_negative A) A (each_ends r value_is_zero tested r.negative A) h) refl
      (λ n. at_sum (value_negative A) A n
      ∙ ap (λ x. r.sum x (at A n))
      (coefficient_each r value_is_zero tested r.negative negative_of_zero A n)
      ∙ r.negative_is_inverse _)

  -- the negative is inverse
  negative_is_inverse : (A : List E) → IsList A → element_sum (element_negative A) A ≡ []
  negative_is_inverse =
      by_values (λ A. element_sum (element_negative A) A ≡ [])
      (λ A h. ap (λ X. element_sum X (elements A)) (sym (elements_negative A))
      ∙ sym (elements_sum (value_negative A) A) ∙ ap elements (value_negative_is_inverse A h))

  -- ---- products

  -- the product of lists of values is commutative
  value_product_commutes : (A B : List (Value o)) → value_product A B ≡ value_product B A
  value_product_commutes A B =
      same (value_product A B) (value_product B A) (ends_product A B) (ends_product B A)
      (λ n. at_product A B n ∙ convolution_commutes r (at A) (at B) n ∙ sym (at_product B A n))

  -- the product is commutative
  product_commutes : (A B : List E) → IsList A → IsList B
      → element_product A B ≡ element_product B A
  product_commutes =
      by_values₂ (λ A B. element_product A B ≡ element_product B A)
      (λ A B h g. sym (elements_product A B) ∙ ap elements (value_product_commutes A B)
      ∙ elements_product B A)

  -- the product of lists of values is associative
  value_product_associates : (A B C : List (Value o))
      → value_product (value_product A B) C ≡ value_product A (value_product B C)
  value_product_associates A B C =
      let left : at (value_product A B) ≡ convolution r (at A) (at B) = λ i n. at_product A B n i in
      let right : at (value_product B C) ≡ convolution r (at B) (at C) =
      λ i n. at_product B C n i in
      same (value_product (value_product A B) C) (value_product A (value_product B C))
      (ends_product (value_product A B) C) (ends_product A (value_product B C))
      (λ n. at_product (value_product A B) C n ∙ ap (λ f. convolution r f (at C) n) left
      ∙ convolution_associates r (at A) (at B) (at C) n
      ∙ ap (λ f. convolution r (at A) f n) (sym right)
      ∙ sym (at_product A (value_product B C) n))

  -- the product is associative
  product_associates : (A B C : List E) → IsList A → IsList B → IsList C
      → element_product (element_product A B) C ≡ element_product A (element_product B C)
  product_associates =
      by_values₃ (λ A B C. element_product (element_product A B) C
      ≡ element_product A (element_product B C)) (λ A B C h g k.
      ap (λ X. element_product X (elements C)) (sym (elements_product A B))
      ∙ sym (elements_product (value_product A B) C)
      ∙ ap elements (value_product_associates A B C) ∙ elements_product A (value_product B C)
      ∙ ap (element_product (elements A)) (elements_product B C))

  -- the product of lists of values distributes over the sum
  value_product_distributes : (A B C : List (Value o)) → IsTrue (ends_nonzero value_is_zero B)
      → IsTrue (ends_nonzero value_is_zero C)
      → value_product A (value_sum B C) ≡ value_sum (value_product A B) (value_product A C)
  value_product_distributes A B C g k =
      let summed : at (value_sum B C) ≡ (λ n. r.sum (at B n) (at C n)) = λ i n. at_sum B C n i in
      same (value_product A (value_sum B C)) (value_sum (value_product A B) (value_product A C))
      (ends_product A (value_sum B C))
      (ends_sum (value_product A B) (value_product A C) (ends_product A B) (ends_product A C))
      (λ n. at_product A (value_sum B C) n ∙ ap (λ f. convolution r (at A) f n) summed
      ∙ convolution_sum r (at A) (at B) (at C) n
      ∙ ap₂ r.sum (sym (at_product A B n)) (sym (at_product A C n))
      ∙ sym (at_sum (value_product A B) (value_product A C) n))

  -- the product distributes over the sum
  product_distributes : (A B C : List E) → IsList A → IsList B → IsList C
      → element_product A (element_sum B C)
      ≡ element_sum (element_product A B) (element_product A C)
  product_distributes =
      by_values₃ (λ A B C. element_product A (element_sum B C)
      ≡ element_sum (element_product A B) (element_product A C)) (λ A B C h g k.
      ap (element_product (elements A)) (sym (elements_sum B C))
      ∙ sym (elements_product A (value_sum B C))
      ∙ ap elements (value_product_distributes A B C g k)
      ∙ elements_sum (value_product A B) (value_product A C)
      ∙ ap₂ element_sum (elements_product A B) (elements_product A C))

  -- one times a series
  one_convolution : (f : ℕ → Value o) (n : ℕ) → convolution r (at value_one) f n ≡ f n
  one_convolution f zero = r.one_is_neutral _
  one_convolution f (suc n) =
      ap₂ r.sum (r.one_is_neutral _) (convolution_zero r f n) ∙ right_neutral r _

  -- one is neutral
  one_is_neutral : (A : List E) → IsList A → element_product (o.one ∷ []) A ≡ A
  one_is_neutral =
      by_values (λ A. element_product (o.one ∷ []) A ≡ A)
      (λ A h. sym (elements_product value_one A)
      ∙ ap elements (same (value_product value_one A) A (ends_product value_one A) h
      (λ n. at_product value_one A n ∙ one_convolution (at A) n)))

  -- a list of values without elements is empty
  no_elements : (A : List (Value o)) → elements A ≡ [] → A ≡ []
  no_elements [] e = refl
  no_elements (a ∷ A) e = cc

  -- the domain below has no zero divisors
  divisors : (a b : Value o) → r.product a b ≡ r.zero → (a ≡ r.zero) ⊎ (b ≡ r.zero)
  divisors a b e =
      elim (laws.no_zero_divisors a.0 b.0 a.1 b.1 (ap (λ x. x.0) e))
      [ inl h ↦ inl (same_value o a r.zero h) | inr h ↦ inr (same_value o b r.zero h) ]

  -- there are no zero divisors
  no_zero_divisors : (A B : List E) → IsList A → IsList B → element_product A B ≡ []
      → (A ≡ []) ⊎ (B ≡ [])
  no_zero_divisors =
      by_values₂ (λ A B. element_product A B ≡ [] → (A ≡ []) ⊎ (B ≡ [])) (λ A B h g e.
      elim (list_divisors r value_is_zero tested divisors A B h g
      (no_elements (value_product A B) (elements_product A B ∙ e)))
      [ inl k ↦ inl (ap elements k) | inr k ↦ inr (ap elements k) ])

  -- ---- copies

  -- the ring of lists of values
  abbrev value_arithmetic : Arithmetic (List (Value o))
  value_arithmetic = adjoin_arithmetic value_is_zero (values_arithmetic laws)

  -- copies keep elements
  elements_copies : (m : ℕ) (A : List (Value o))
      → elements (copies value_arithmetic m A)
      ≡ copies (adjoin_arithmetic o.is_zero o.arithmetic) m (elements A)
  elements_copies zero A = refl
  elements_copies (suc m) A =
      elements_sum A (copies value_arithmetic m A)
      ∙ ap (element_sum (elements A)) (elements_copies m A)

  -- copies of lists are copies of series
  at_copies : (m : ℕ) (A : List (Value o)) (n : ℕ)
      → at (copies value_arithmetic m A) n ≡ copies (values_arithmetic laws) m (at A n)
  at_copies zero A n = refl
  at_copies (suc m) A n =
      at_sum A (copies value_arithmetic m A) n ∙ ap (r.sum (at A n)) (at_copies m A n)

  -- copies of a value
  element_of_copies : (m : ℕ) (a : Value o)
      → (copies (values_arithmetic laws) m a).0 ≡ copies o.arithmetic m a.0
  element_of_copies zero a = refl
  element_of_copies (suc m) a = ap (o.sum a.0) (element_of_copies m a)

  -- the characteristic is zero
  characteristic_is_zero : (m : ℕ) (A : List E) → IsList A
      → copies (adjoin_arithmetic o.is_zero o.arithmetic) (suc m) A ≡ [] → A ≡ []
  characteristic_is_zero m =
      by_values (λ A. copies (adjoin_arithmetic o.is_zero o.arithmetic) (suc m) A ≡ [] → A ≡ [])
      (λ A h e.
      let none : copies value_arithmetic (suc m) A ≡ [] =
      no_elements (copies value_arithmetic (suc m) A) (elements_copies (suc m) A ∙ e) in
      ap elements (same A [] h refl (λ n.
      let k : copies (values_arithmetic laws) (suc m) (at A n) ≡ r.zero =
      sym (at_copies (suc m) A n) ∙ ap (λ X. at X n) none in
      same_value o (at A n) r.zero (laws.characteristic_is_zero m (at A n).0 (at A n).1
      (sym (element_of_copies (suc m) (at A n)) ∙ ap (λ x. x.0) k)))))

  -- ---- derivations

  -- a derivation of lists of elements: what it is on lists of values and on series, where it is
  -- additive and obeys Leibniz' rule
  record ListDerivation (D : List E → List E) : Type 0 where
    on : List (Value o) → List (Value o)
    elements_on : (A : List (Value o)) → elements (on A) ≡ D (elements A)
    ends_on : (A : List (Value o)) → IsTrue (ends_nonzero value_is_zero A)
        → IsTrue (ends_nonzero value_is_zero (on A))
    acts : (ℕ → Value o) → ℕ → Value o
    at_on : (A : List (Value o)) (n : ℕ)
        → coefficient r.zero (on A) n ≡ acts (coefficient r.zero A) n
    acts_sum : (f g : ℕ → Value o) (n : ℕ)
        → acts (λ k. r.sum (f k) (g k)) n ≡ r.sum (acts f n) (acts g n)
    acts_product : (f g : ℕ → Value o) (n : ℕ)
        → acts (convolution r f g) n
        ≡ r.sum (convolution r (acts f) g n) (convolution r f (acts g) n)

  module _ (i : ℕ) (h : i < o.derivations) where
    -- a derivation of the domain below, on values
    abbrev old : Value o → Value o
    old x = (o.derivative i x.0, laws.derivative_is_value i x.0 h x.1)

    -- it is additive
    old_additive : (a b : Value o) → old (r.sum a b) ≡ r.sum (old a) (old b)
    old_additive a b = same_value o _ _ (laws.derivative_of_sum i a.0 b.0 h a.1 b.1)

    -- it obeys Leibniz' rule
    old_leibniz : (a b : Value o)
        → old (r.product a b) ≡ r.sum (r.product (old a) b) (r.product a (old b))
    old_leibniz a b = same_value o _ _ (laws.derivative_of_product i a.0 b.0 h a.1 b.1)

    -- taken of each member, it is a derivation of lists
    abbrev old_derivation : ListDerivation (list_each o.is_zero (o.derivative i))
    old_derivation = record {
      on = list_each value_is_zero old;
      elements_on = λ A. elements_each old (o.derivative i) (λ x. refl) A;
      ends_on = λ A g. each_ends r value_is_zero tested old A;
      acts = λ f n. old (f n);
      at_on =
          λ A n. coefficient_each r value_is_zero tested old (additive_zero r old old_additive) A n;
      acts_sum = λ f g n. old_additive (f n) (g n);
      acts_product = λ f g n. convolution_leibniz r old old_additive old_leibniz f g n;
    }

  -- the derivation by the new variable
  abbrev new_derivation : ListDerivation (list_derivative o.is_zero o.arithmetic)
  new_derivation = record {
    on = list_derivative value_is_zero (values_arithmetic laws);
    elements_on = λ A. elements_derivative A;
    ends_on = λ A g. derivative_ends r value_is_zero tested A g;
    acts = λ f n. series_derivative r f n;
    at_on = λ A n. coefficient_derivative r value_is_zero tested A n;
    acts_sum = λ f g n. series_derivative_sum r f g n;
    acts_product = λ f g n. series_leibniz r f g n;
  }

  -- the i-th derivation of lists of elements, where b tells whether i is one of the domain below
  abbrev element_derivative : ℕ → Bool → List E → List E
  element_derivative i b A =
      cond b (list_each o.is_zero (o.derivative i) A) (list_derivative o.is_zero o.arithmetic A)

  -- each of them is a derivation of lists
  abbrev derivation : (i : ℕ) (b : Bool) → ltb i o.derivations ≡ b
      → ListDerivation (element_derivative i b)
  derivation i true e = old_derivation i (ltb-true i o.derivations e)
  derivation i false e = new_derivation

  -- what each derivation of lists keeps
  module _ (D : List E → List E) (l : ListDerivation D) where
    -- it makes values
    derivation_is_list : (A : List E) → IsList A → IsList (D A)
    derivation_is_list =
        by_values (λ A. IsList (D A))
        (λ A h. subst IsList (l.elements_on A) (elements_value (l.on A) (l.ends_on A h)))

    -- it is additive
    derivation_sum : (A B : List E) → IsList A → IsList B
        → D (element_sum A B) ≡ element_sum (D A) (D B)
    derivation_sum = by_values₂ (λ A B. D (element_sum A B) ≡ element_sum (D A) (D B)) (λ A B h g.
        let summed : at (value_sum A B) ≡ (λ n. r.sum (at A n) (at B n)) = λ i n. at_sum A B n i in
        ap D (sym (elements_sum A B)) ∙ sym (l.elements_on (value_sum A B))
        ∙ ap elements (same (l.on (value_sum A B)) (value_sum (l.on A) (l.on B))
        (l.ends_on (value_sum A B) (ends_sum A B h g))
        (ends_sum (l.on A) (l.on B) (l.ends_on A h) (l.ends_on B g))
        (λ n. l.at_on (value_sum A B) n ∙ ap (λ f. l.acts f n) summed ∙ l.acts_sum (at A) (at B) n
        ∙ ap₂ r.sum (sym (l.at_on A n)) (sym (l.at_on B n)) ∙ sym (at_sum (l.on A) (l.on B) n)))
        ∙ elements_sum (l.on A) (l.on B) ∙ ap₂ element_sum (l.elements_on A) (l.elements_on B))

    -- it obeys Leibniz' rule
    derivation_product : (A B : List E) → IsList A → IsList B
        → D (element_product A B) ≡ element_sum (element_product (D A) B) (element_product A (D B))
    derivation_product =
        by_values₂ (λ A B. D (element_product A B)
        ≡ element_sum (element_product (D A) B) (element_product A (D B))) (λ A B h g.
        let multiplied : at (value_product A B) ≡ convolution r (at A) (at B) =
        λ i n. at_product A B n i in
        let on_A : at (l.on A) ≡ l.acts (at A) = λ i n. l.at_on A n i in
        let on_B : at (l.on B) ≡ l.acts (at B) = λ i n. l.at_on B n i in
        let X = value_product (l.on A) B in
        let Y = value_product A (l.on B) in
        ap D (sym (elements_product A B)) ∙ sym (l.elements_on (value_product A B))
        ∙ ap elements (same (l.on (value_product A B)) (value_sum X Y)
        (l.ends_on (value_product A B) (ends_product A B))
        (ends_sum X Y (ends_product (l.on A) B) (ends_product A (l.on B)))
        (λ n. l.at_on (value_product A B) n ∙ ap (λ f. l.acts f n) multiplied
        ∙ l.acts_product (at A) (at B) n
        ∙ ap₂ r.sum (ap (λ f. convolution r f (at B) n) (sym on_A) ∙ sym (at_product (l.on A) B n))
        (ap (λ f. convolution r (at A) f n) (sym on_B) ∙ sym (at_product A (l.on B) n))
        ∙ sym (at_sum X Y n)))
        ∙ elements_sum X Y ∙ ap₂ element_sum
        (elements_product (l.on A) B
        ∙ ap (λ Z. element_product Z (elements B)) (l.elements_on A))
        (elements_product A (l.on B) ∙ ap (element_product (elements A)) (l.elements_on B)))

    -- it commutes with each that it commutes with on series
    derivation_commutes : (D' : List E → List E) (k : ListDerivation D')
        → ((f : ℕ → Value o) (n : ℕ) → l.acts (k.acts f) n ≡ k.acts (l.acts f) n) → (A : List E)
        → IsList A → D (D' A) ≡ D' (D A)
    derivation_commutes D' k e = by_values (λ A. D (D' A) ≡ D' (D A)) (λ A h.
        let on_l : at (l.on A) ≡ l.acts (at A) = λ i n. l.at_on A n i in
        let on_k : at (k.on A) ≡ k.acts (at A) = λ i n. k.at_on A n i in
        ap D (sym (k.elements_on A)) ∙ sym (l.elements_on (k.on A))
        ∙ ap elements (same (l.on (k.on A)) (k.on (l.on A)) (l.ends_on (k.on A) (k.ends_on A h))
        (k.ends_on (l.on A) (l.ends_on A h))
        (λ n. l.at_on (k.on A) n ∙ ap (λ f. l.acts f n) on_k ∙ e (at A) n
        ∙ ap (λ f. k.acts f n) (sym on_l) ∙ sym (k.at_on (l.on A) n)))
        ∙ k.elements_on (l.on A) ∙ ap D' (l.elements_on A))

  -- any two derivations commute on series
  acts_commute : (i j : ℕ) (b c : Bool) (e : ltb i o.derivations ≡ b) (f : ltb j o.derivations ≡ c)
      (s : ℕ → Value o) (n : ℕ)
      → (derivation i b e).acts ((derivation j c f).acts s) n
      ≡ (derivation j c f).acts ((derivation i b e).acts s) n
  acts_commute i j true true e f s n =
      same_value o _ _ (laws.derivatives_commute i j (s n).0 (ltb-true i o.derivations e)
      (ltb-true j o.derivations f) (s n).1)
  acts_commute i j true false e f s n =
      let h = ltb-true i o.derivations e in
      series_derivative_commutes r (old i h) (old_additive i h) (old_leibniz i h) s n
  acts_commute i j false true e f s n =
      let h = ltb-true j o.derivations f in
      sym (series_derivative_commutes r (old j h) (old_additive j h) (old_leibniz j h) s n)
  acts_commute i j false false e f s n = refl

  -- the laws of the polynomials in one new variable, from those of the domain below
  pub adjoin_laws : DomainLaws (adjoin_operations o)
  adjoin_laws = record {
    zero_is_value = refl;
    one_is_value = one_is_list;
    sum_is_value =
        by_values₂ (λ A B. IsList (element_sum A B))
        (λ A B h g. subst IsList (elements_sum A B)
        (elements_value (value_sum A B) (ends_sum A B h g)));
    negative_is_value =
        by_values (λ A. IsList (element_negative A))
        (λ A h. subst IsList (elements_negative A)
        (elements_value (value_negative A) (each_ends r value_is_zero tested r.negative A)));
    product_is_value =
        by_values₂ (λ A B. IsList (element_product A B))
        (λ A B h g. subst IsList (elements_product A B)
        (elements_value (value_product A B) (ends_product A B)));
    derivative_is_value =
        λ i A h v. derivation_is_list (element_derivative i (ltb i o.derivations))
        (derivation i (ltb i o.derivations) refl) A v;
    is_zero_at_zero = is_zero_at_zero;
    sum_commutes = sum_commutes;
    sum_associates = sum_associates;
    zero_is_neutral = λ A v. refl;
    negative_is_inverse = negative_is_inverse;
    product_commutes = product_commutes;
    product_associates = product_associates;
    one_is_neutral = one_is_neutral;
    product_distributes = product_distributes;
    one_is_not_zero = λ e. cc;
    no_zero_divisors = no_zero_divisors;
    characteristic_is_zero = characteristic_is_zero;
    derivative_of_sum =
        λ i A B h v w. derivation_sum (element_derivative i (ltb i o.derivations))
        (derivation i (ltb i o.derivations) refl) A B v w;
    derivative_of_product =
        λ i A B h v w. derivation_product (element_derivative i (ltb i o.derivations))
        (derivation i (ltb i o.derivations) refl) A B v w;
    derivatives_commute =
        λ i j A h g v. derivation_commutes (element_derivative i (ltb i o.derivations))
        (derivation i (ltb i o.derivations) refl) (element_derivative j (ltb j o.derivations))
        (derivation j (ltb j o.derivations) refl) (acts_commute i j _ _ refl refl) A v;
  }
