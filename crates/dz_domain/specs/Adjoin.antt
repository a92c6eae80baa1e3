-- Polynomials in one new variable over a domain, as lists of coefficients from the constant
-- upwards.
use Rattle.std.specs.Prelude.{◌+◌, Bool, true, false, cond, not, ◌&&◌, List, [], ◌∷◌, ltb}
use Rattle.dz_algebra.specs.Domain.{Arithmetic, Operations}

-- a and then A; the empty list where a is zero and A is empty
abbrev pub attach : {E : Type 0} → (E → Bool) → E → List E → List E
attach is_zero a [] = cond (is_zero a) [] (a ∷ [])
attach is_zero a (b ∷ B) = a ∷ b ∷ B

-- the sum of two lists, member by member
abbrev pub list_sum : {E : Type 0} → (E → Bool) → Arithmetic E → List E → List E → List E
list_sum is_zero r [] B = B
list_sum is_zero r (a ∷ A) [] = a ∷ A
list_sum is_zero r (a ∷ A) (b ∷ B) = attach is_zero (r.sum a b) (list_sum is_zero r A B)

-- the multiple by a value c: c times every member
abbrev pub list_multiple : {E : Type 0} → (E → Bool) → Arithmetic E → E → List E → List E
list_multiple is_zero r c [] = []
list_multiple is_zero r c (b ∷ B) = attach is_zero (r.product c b) (list_multiple is_zero r c B)

-- the product: the first member times B, and the rest times B one place further up
abbrev pub list_product : {E : Type 0} → (E → Bool) → Arithmetic E → List E → List E → List E
list_product is_zero r [] B = []
list_product is_zero r (a ∷ A) B =
    list_sum is_zero r (list_multiple is_zero r a B)
    (attach is_zero r.zero (list_product is_zero r A B))

-- f of every member
abbrev pub list_each : {E : Type 0} → (E → Bool) → (E → E) → List E → List E
list_each is_zero f [] = []
list_each is_zero f (a ∷ A) = attach is_zero (f a) (list_each is_zero f A)

-- the derivation by the new variable
abbrev pub list_derivative : {E : Type 0} → (E → Bool) → Arithmetic E → List E → List E
list_derivative is_zero r [] = []
list_derivative is_zero r (a ∷ A) =
    list_sum is_zero r A (attach is_zero r.zero (list_derivative is_zero r A))

-- the last member, where there is one, is not zero
abbrev pub ends_nonzero : {E : Type 0} → (E → Bool) → List E → Bool
ends_nonzero is_zero [] = true
ends_nonzero is_zero (a ∷ []) = not (is_zero a)
ends_nonzero is_zero (a ∷ b ∷ A) = ends_nonzero is_zero (b ∷ A)

-- every member is a value
abbrev pub each_passes : {E : Type 0} → (E → Bool) → List E → Bool
each_passes is_value [] = true
each_passes is_value (a ∷ A) = is_value a && each_passes is_value A

-- only the empty list is zero
abbrev pub list_is_zero : {E : Type 0} → List E → Bool
list_is_zero [] = true
list_is_zero (a ∷ A) = false

-- the ring of the lists over a ring
abbrev pub adjoin_arithmetic : {E : Type 0} → (E → Bool) → Arithmetic E → Arithmetic (List E)
adjoin_arithmetic is_zero r = record {
  zero = [];
  one = r.one ∷ [];
  sum = list_sum is_zero r;
  negative = list_each is_zero r.negative;
  product = list_product is_zero r;
}

-- the lists over a domain, whose derivations act on every member; the last derivation is by the new
-- variable
abbrev pub adjoin_operations : {E : Type 0} → Operations E → Operations (List E)
adjoin_operations o = record {
  arithmetic = adjoin_arithmetic o.is_zero o.arithmetic;
  is_value = λ A. each_passes o.is_value A && ends_nonzero o.is_zero A;
  is_zero = list_is_zero;
  derivations = o.derivations + 1;
  derivative =
      λ i A. cond (ltb i o.derivations) (list_each o.is_zero (o.derivative i) A)
      (list_derivative o.is_zero o.arithmetic A);
}
