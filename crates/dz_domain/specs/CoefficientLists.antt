-- Lists of coefficients that do not end in zero, as power series.
use Rattle.std.specs.Prelude.{◌≡◌, ◌≢◌, ◌⊎◌, ◌↔◌, ℕ, zero, suc, Bool, true, false, cond, not, List, [], ◌∷◌, IsTrue, refl}
use Rattle.std.proofs.Common.{sym, ap, ap₂, ◌∙◌, inl, inr}
use Rattle.dz_algebra.specs.Ring.{Ring, right_neutral, product_zero, zero_product}
use Rattle.dz_domain.specs.Adjoin.{attach, list_sum, list_multiple, list_product, list_each, list_derivative, ends_nonzero}
use Rattle.dz_domain.specs.Series.{coefficient, convolution, series_derivative, convolution_zero, convolution_last}

module _ {R : Type 0} (r : Ring R) (is_zero : R → Bool)
    (tested : (a : R) → IsTrue (is_zero a) ↔ (a ≡ r.zero)) where
  -- the series of a list
  at : List R → ℕ → R
  at A n = coefficient r.zero A n

  -- an element before a list
  pub coefficient_attach : (a : R) (A : List R) (n : ℕ)
      → coefficient r.zero (attach is_zero a A) n ≡ coefficient r.zero (a ∷ A) n
  coefficient_attach a (b ∷ A) n = refl
  coefficient_attach a [] n = by_test (is_zero a) refl n
    where
      -- by whether the element is zero
      by_test : (b : Bool) → is_zero a ≡ b → (n : ℕ)
          → coefficient r.zero (cond b [] (a ∷ [])) n ≡ coefficient r.zero (a ∷ []) n
      by_test true e zero = sym ((tested a).0 e)
      by_test true e (suc n) = refl
      by_test false e n = refl

  -- sums of lists are sums of series
  pub coefficient_sum : (A B : List R) (n : ℕ)
      → coefficient r.zero (list_sum is_zero r.arithmetic A B) n
      ≡ r.sum (coefficient r.zero A n) (coefficient r.zero B n)
  coefficient_sum [] B n = sym (r.zero_is_neutral _)
  coefficient_sum (a ∷ A) [] n = sym (right_neutral r _)
  coefficient_sum (a ∷ A) (b ∷ B) zero = coefficient_attach _ _ zero
  coefficient_sum (a ∷ A) (b ∷ B) (suc n) = coefficient_attach _ _ (suc n) ∙ coefficient_sum A B n

  -- multiples of lists are multiples of series
  pub coefficient_multiple : (c : R) (B : List R) (n : ℕ)
      → coefficient r.zero (list_multiple is_zero r.arithmetic c B) n
      ≡ r.product c (coefficient r.zero B n)
  coefficient_multiple c [] n = sym (product_zero r _)
  coefficient_multiple c (b ∷ B) zero = coefficient_attach _ _ zero
  coefficient_multiple c (b ∷ B) (suc n) =
      coefficient_attach _ _ (suc n) ∙ coefficient_multiple c B n

  -- what is done to each member is done to each coefficient
  pub coefficient_each : (f : R → R) → f r.zero ≡ r.zero → (A : List R) (n : ℕ)
      → coefficient r.zero (list_each is_zero f A) n ≡ f (coefficient r.zero A n)
  coefficient_each f e [] n = sym e
  coefficient_each f e (a ∷ A) zero = coefficient_attach _ _ zero
  coefficient_each f e (a ∷ A) (suc n) = coefficient_attach _ _ (suc n) ∙ coefficient_each f e A n

  -- products of lists are products of series
  pub coefficient_product : (A B : List R) (n : ℕ)
      → coefficient r.zero (list_product is_zero r.arithmetic A B) n
      ≡ convolution r (coefficient r.zero A) (coefficient r.zero B) n
  coefficient_product [] B n = sym (convolution_zero r _ n)
  coefficient_product (a ∷ A) B zero =
      let P = list_product is_zero r.arithmetic A B in
      coefficient_sum (list_multiple is_zero r.arithmetic a B) (attach is_zero r.zero P) zero
      ∙ ap₂ r.sum (coefficient_multiple a B zero) (coefficient_attach r.zero P zero)
      ∙ right_neutral r _
  coefficient_product (a ∷ A) B (suc n) =
      let P = list_product is_zero r.arithmetic A B in
      coefficient_sum (list_multiple is_zero r.arithmetic a B) (attach is_zero r.zero P) (suc n)
      ∙ ap₂ r.sum (coefficient_multiple a B (suc n))
      (coefficient_attach r.zero P (suc n) ∙ coefficient_product A B n)

  -- the derivative of zero is zero
  series_derivative_zero : (n : ℕ) → series_derivative r (λ _. r.zero) n ≡ r.zero
  series_derivative_zero zero = refl
  series_derivative_zero (suc n) = r.zero_is_neutral _ ∙ series_derivative_zero n

  -- derivatives of lists are derivatives of series
  pub coefficient_derivative : (A : List R) (n : ℕ)
      → coefficient r.zero (list_derivative is_zero r.arithmetic A) n
      ≡ series_derivative r (coefficient r.zero A) n
  coefficient_derivative [] n = sym (series_derivative_zero n)
  coefficient_derivative (a ∷ A) zero =
      let P = list_derivative is_zero r.arithmetic A in
      coefficient_sum A (attach is_zero r.zero P) zero
      ∙ ap (r.sum (coefficient r.zero A zero)) (coefficient_attach r.zero P zero)
      ∙ right_neutral r _
  coefficient_derivative (a ∷ A) (suc n) =
      let P = list_derivative is_zero r.arithmetic A in
      coefficient_sum A (attach is_zero r.zero P) (suc n)
      ∙ ap (r.sum (coefficient r.zero A (suc n)))
      (coefficient_attach r.zero P (suc n) ∙ coefficient_derivative A n)

  -- ---- lists that do not end in zero

  -- a test does not answer both
  not_zero : (b : Bool) → IsTrue b → not b ≡ true → ⊥
  not_zero true e f = cc
  not_zero false e f = cc

  -- the rest of a list that does not end in zero does not either
  ends_tail : (a : R) (A : List R) → IsTrue (ends_nonzero is_zero (a ∷ A))
      → IsTrue (ends_nonzero is_zero A)
  ends_tail a [] h = refl
  ends_tail a (b ∷ A) h = h

  -- a list that does not end in zero has a coefficient that is not zero
  some_nonzero : (a : R) (A : List R) → IsTrue (ends_nonzero is_zero (a ∷ A))
      → ((n : ℕ) → coefficient r.zero (a ∷ A) n ≡ r.zero) → ⊥
  some_nonzero a [] h e = not_zero (is_zero a) ((tested a).1 (e zero)) h
  some_nonzero a (b ∷ A) h e = some_nonzero b A h (λ n. e (suc n))

  -- lists that do not end in zero are equal, if their coefficients are
  pub same_coefficients : (A B : List R) → IsTrue (ends_nonzero is_zero A)
      → IsTrue (ends_nonzero is_zero B)
      → ((n : ℕ) → coefficient r.zero A n ≡ coefficient r.zero B n) → A ≡ B
  same_coefficients [] [] h g e = refl
  same_coefficients [] (b ∷ B) h g e = absurd (some_nonzero b B g (λ n. sym (e n)))
  same_coefficients (a ∷ A) [] h g e = absurd (some_nonzero a A h e)
  same_coefficients (a ∷ A) (b ∷ B) h g e =
      ap₂ (λ x y. x ∷ y) (e zero) (same_coefficients A B (ends_tail a A h) (ends_tail b B g)
      (λ n. e (suc n)))

  -- an element before a list that does not end in zero
  pub attach_ends : (a : R) (A : List R) → IsTrue (ends_nonzero is_zero A)
      → IsTrue (ends_nonzero is_zero (attach is_zero a A))
  attach_ends a (b ∷ A) h = h
  attach_ends a [] h = by_test (is_zero a) refl
    where
      by_test : (b : Bool) → is_zero a ≡ b → IsTrue (ends_nonzero is_zero (cond b [] (a ∷ [])))
      by_test true e = refl
      by_test false e = ap not e

  -- a sum does not end in zero
  pub sum_ends : (A B : List R) → IsTrue (ends_nonzero is_zero A) → IsTrue (ends_nonzero is_zero B)
      → IsTrue (ends_nonzero is_zero (list_sum is_zero r.arithmetic A B))
  sum_ends [] B h g = g
  sum_ends (a ∷ A) [] h g = h
  sum_ends (a ∷ A) (b ∷ B) h g =
      attach_ends (r.sum a b) (list_sum is_zero r.arithmetic A B)
      (sum_ends A B (ends_tail a A h) (ends_tail b B g))

  -- a multiple does not end in zero
  pub multiple_ends : (c : R) (B : List R)
      → IsTrue (ends_nonzero is_zero (list_multiple is_zero r.arithmetic c B))
  multiple_ends c [] = refl
  multiple_ends c (b ∷ B) =
      attach_ends (r.product c b) (list_multiple is_zero r.arithmetic c B) (multiple_ends c B)

  -- what is made of each member does not end in zero
  pub each_ends : (f : R → R) (A : List R) → IsTrue (ends_nonzero is_zero (list_each is_zero f A))
  each_ends f [] = refl
  each_ends f (a ∷ A) = attach_ends (f a) (list_each is_zero f A) (each_ends f A)

  -- a product does not end in zero
  pub product_ends : (A B : List R)
      → IsTrue (ends_nonzero is_zero (list_product is_zero r.arithmetic A B))
  product_ends [] B = refl
  product_ends (a ∷ A) B =
      sum_ends (list_multiple is_zero r.arithmetic a B)
      (attach is_zero r.zero (list_product is_zero r.arithmetic A B)) (multiple_ends a B)
      (attach_ends r.zero (list_product is_zero r.arithmetic A B) (product_ends A B))

  -- a derivative does not end in zero
  pub derivative_ends : (A : List R) → IsTrue (ends_nonzero is_zero A)
      → IsTrue (ends_nonzero is_zero (list_derivative is_zero r.arithmetic A))
  derivative_ends [] h = refl
  derivative_ends (a ∷ A) h =
      sum_ends A (attach is_zero r.zero (list_derivative is_zero r.arithmetic A)) (ends_tail a A h)
      (attach_ends r.zero (list_derivative is_zero r.arithmetic A)
      (derivative_ends A (ends_tail a A h)))

  -- no zero divisors
  module _ (divisors : (a b : R) → r.product a b ≡ r.zero → (a ≡ r.zero) ⊎ (b ≡ r.zero)) where
    -- a series is zero, if its constant and the rest are
    all_zero : (f : ℕ → R) → f zero ≡ r.zero → ((n : ℕ) → f (suc n) ≡ r.zero) → (n : ℕ)
        → f n ≡ r.zero
    all_zero f e g zero = e
    all_zero f e g (suc n) = g n

    -- where the constant of the first factor is not zero and the product is zero, the second factor
    -- is zero
    second_zero : (f : ℕ → R) (B : List R) → f zero ≢ r.zero
        → ((n : ℕ) → convolution r f (coefficient r.zero B) n ≡ r.zero) → (n : ℕ)
        → coefficient r.zero B n ≡ r.zero
    second_zero f [] h e n = refl
    second_zero f (b ∷ B) h e n =
        elim (divisors (f zero) b (e zero)) [
          | inl a ↦ absurd (h a)
          | inr c ↦ all_zero (coefficient r.zero (b ∷ B)) c
              (second_zero f B h (λ k. sym (r.zero_is_neutral _)
              ∙ ap (λ x. r.sum x (convolution r f (coefficient r.zero B) k))
              (sym (ap (r.product (f (suc k))) c ∙ product_zero r _))
              ∙ sym (convolution_last r f (coefficient r.zero (b ∷ B)) k) ∙ e (suc k))) n
        ]

    -- where the product of two series is zero, one of them is
    one_zero : (A B : List R) → ((n : ℕ)
        → convolution r (coefficient r.zero A) (coefficient r.zero B) n ≡ r.zero)
        → ((n : ℕ) → coefficient r.zero A n ≡ r.zero) ⊎ ((n : ℕ) → coefficient r.zero B n ≡ r.zero)
    one_zero [] B e = inl (λ n. refl)
    one_zero (a ∷ A) B e = by_test (is_zero a) refl (one_zero A B)
      where
        by_test : (b : Bool) → is_zero a ≡ b
            → (((n : ℕ) → convolution r (coefficient r.zero A) (coefficient r.zero B) n ≡ r.zero)
            → ((n : ℕ) → coefficient r.zero A n ≡ r.zero)
            ⊎ ((n : ℕ) → coefficient r.zero B n ≡ r.zero))
            → ((n : ℕ) → coefficient r.zero (a ∷ A) n ≡ r.zero)
            ⊎ ((n : ℕ) → coefficient r.zero B n ≡ r.zero)
        by_test true t rest =
            let first : a ≡ r.zero = (tested a).0 t in
            elim (rest (λ n. sym (r.zero_is_neutral _)
            ∙ ap (λ x. r.sum x (convolution r (coefficient r.zero A) (coefficient r.zero B) n))
            (sym (ap (λ x. r.product x (coefficient r.zero B (suc n))) first
            ∙ zero_product r _)) ∙ e (suc n))) [
              | inl f ↦ inl (all_zero (coefficient r.zero (a ∷ A)) first f)
              | inr g ↦ inr g
            ]
        by_test false t rest =
            inr (second_zero (coefficient r.zero (a ∷ A)) B
            (λ f. not_zero (is_zero a) ((tested a).1 f) (ap not t)) e)

    -- where the product of two lists is zero, one of them is
    pub list_divisors : (A B : List R) → IsTrue (ends_nonzero is_zero A)
        → IsTrue (ends_nonzero is_zero B) → list_product is_zero r.arithmetic A B ≡ []
        → (A ≡ []) ⊎ (B ≡ [])
    list_divisors A B h g e =
        elim (one_zero A B (λ n. sym (coefficient_product A B n)
        ∙ ap (λ C. coefficient r.zero C n) e)) [
          | inl f ↦ inl (same_coefficients A [] h refl f)
          | inr f ↦ inr (same_coefficients B [] g refl f)
        ]
