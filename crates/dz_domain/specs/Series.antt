-- Formal power series over a ring, as functions, and lists of coefficients as such.
use Rattle.std.specs.Prelude.{◌≡◌, ℕ, zero, suc, List, [], ◌∷◌, refl}
use Rattle.std.proofs.Common.{sym, ap, ap₂, ◌∙◌}
use Rattle.dz_algebra.specs.Ring.{Ring, sum_swaps, sum_of_sums, sum_times, right_neutral, zero_product}

-- the coefficient at n, the default past the end
abbrev pub coefficient : {R : Type 0} → R → List R → ℕ → R
coefficient default [] n = default
coefficient default (a ∷ A) zero = a
coefficient default (a ∷ A) (suc n) = coefficient default A n

module _ {R : Type 0} (r : Ring R) where
  -- a series without its constant, divided by the variable
  abbrev pub tail : (ℕ → R) → ℕ → R
  tail f n = f (suc n)

  -- the product of two series: the constant of the first times the second, and so on with the rest
  abbrev pub convolution : (ℕ → R) → (ℕ → R) → ℕ → R
  convolution f g zero = r.product (f zero) (g zero)
  convolution f g (suc n) = r.sum (r.product (f zero) (g (suc n))) (convolution (tail f) g n)

  -- the derivation by the variable, by Leibniz on the variable times the rest
  abbrev pub series_derivative : (ℕ → R) → ℕ → R
  series_derivative f zero = f (suc zero)
  series_derivative f (suc n) = r.sum (f (suc (suc n))) (series_derivative (tail f) n)

  -- zero times a series
  pub convolution_zero : (g : ℕ → R) (n : ℕ) → convolution (λ _. r.zero) g n ≡ r.zero
  convolution_zero g zero = zero_product r _
  convolution_zero g (suc n) =
      ap₂ r.sum (zero_product r _) (convolution_zero g n) ∙ r.zero_is_neutral _

  -- the last term apart
  pub convolution_last : (f g : ℕ → R) (n : ℕ)
      → convolution f g (suc n) ≡ r.sum (r.product (f (suc n)) (g zero)) (convolution f (tail g) n)
  convolution_last f g zero = r.sum_commutes _ _
  convolution_last f g (suc n) =
      ap (r.sum (r.product (f zero) (g (suc (suc n))))) (convolution_last (tail f) g n)
      ∙ sum_swaps r _ _ _

  -- the product of series is commutative
  pub convolution_commutes : (f g : ℕ → R) (n : ℕ) → convolution f g n ≡ convolution g f n
  convolution_commutes f g zero = r.product_commutes _ _
  convolution_commutes f g (suc n) =
      ap₂ r.sum (r.product_commutes _ _) (convolution_commutes (tail f) g n)
      ∙ sym (convolution_last g f n)

  -- the product distributes over a sum on the right
  pub convolution_sum : (f g h : ℕ → R) (n : ℕ)
      → convolution f (λ k. r.sum (g k) (h k)) n ≡ r.sum (convolution f g n) (convolution f h n)
  convolution_sum f g h zero = r.product_distributes _ _ _
  convolution_sum f g h (suc n) =
      ap₂ r.sum (r.product_distributes _ _ _) (convolution_sum (tail f) g h n)
      ∙ sum_of_sums r _ _ _ _

  -- the product distributes over a sum on the left
  pub sum_convolution : (f g h : ℕ → R) (n : ℕ)
      → convolution (λ k. r.sum (f k) (g k)) h n ≡ r.sum (convolution f h n) (convolution g h n)
  sum_convolution f g h zero = sum_times r _ _ _
  sum_convolution f g h (suc n) =
      ap₂ r.sum (sum_times r _ _ _) (sum_convolution (tail f) (tail g) h n) ∙ sum_of_sums r _ _ _ _

  -- a factor of the ring stands before the product
  pub convolution_multiple : (c : R) (f g : ℕ → R) (n : ℕ)
      → convolution (λ k. r.product c (f k)) g n ≡ r.product c (convolution f g n)
  convolution_multiple c f g zero = r.product_associates _ _ _
  convolution_multiple c f g (suc n) =
      ap₂ r.sum (r.product_associates _ _ _) (convolution_multiple c (tail f) g n)
      ∙ sym (r.product_distributes _ _ _)

  -- the product of series is associative
  pub convolution_associates : (f g h : ℕ → R) (n : ℕ)
      → convolution (convolution f g) h n ≡ convolution f (convolution g h) n
  convolution_associates f g h zero = r.product_associates _ _ _
  convolution_associates f g h (suc n) =
      ap₂ r.sum (r.product_associates (f zero) (g zero) (h (suc n)))
      (sum_convolution (λ k. r.product (f zero) (g (suc k))) (convolution (tail f) g) h n
      ∙ ap₂ r.sum (convolution_multiple (f zero) (tail g) h n)
      (convolution_associates (tail f) g h n))
      ∙ sym (r.sum_associates _ _ _)
      ∙ ap (λ x. r.sum x (convolution (tail f) (convolution g h) n))
      (sym (r.product_distributes (f zero) (r.product (g zero) (h (suc n)))
      (convolution (tail g) h n)))

  -- the derivation is additive
  pub series_derivative_sum : (f g : ℕ → R) (n : ℕ)
      → series_derivative (λ k. r.sum (f k) (g k)) n
      ≡ r.sum (series_derivative f n) (series_derivative g n)
  series_derivative_sum f g zero = refl
  series_derivative_sum f g (suc n) =
      ap (r.sum _) (series_derivative_sum (tail f) (tail g) n) ∙ sum_of_sums r _ _ _ _

  -- the derivation takes factors of the ring to the front
  pub series_derivative_multiple : (c : R) (f : ℕ → R) (n : ℕ)
      → series_derivative (λ k. r.product c (f k)) n ≡ r.product c (series_derivative f n)
  series_derivative_multiple c f zero = refl
  series_derivative_multiple c f (suc n) =
      ap (r.sum _) (series_derivative_multiple c (tail f) n) ∙ sym (r.product_distributes _ _ _)

  -- zero and then f
  abbrev pub shifted : (ℕ → R) → ℕ → R
  shifted f zero = r.zero
  shifted f (suc n) = f n

  -- the derivative is the rest of the series and the variable times the derivative of the rest
  pub series_derivative_is : (f : ℕ → R) (n : ℕ)
      → series_derivative f n ≡ r.sum (f (suc n)) (shifted (series_derivative (tail f)) n)
  series_derivative_is f zero = sym (right_neutral r _)
  series_derivative_is f (suc n) = refl

  -- equal first factors have equal products
  convolution_same : (f f' g : ℕ → R) → ((n : ℕ) → f n ≡ f' n) → (n : ℕ)
      → convolution f g n ≡ convolution f' g n
  convolution_same f f' g e zero = ap (λ x. r.product x (g zero)) (e zero)
  convolution_same f f' g e (suc n) =
      ap₂ r.sum (ap (λ x. r.product x (g (suc n))) (e zero))
      (convolution_same (tail f) (tail f') g (λ k. e (suc k)) n)

  -- the derivation obeys Leibniz' rule
  pub series_leibniz : (f g : ℕ → R) (n : ℕ)
      → series_derivative (convolution f g) n
      ≡ r.sum (convolution (series_derivative f) g n) (convolution f (series_derivative g) n)
  series_leibniz f g zero = r.sum_commutes _ _
  series_leibniz f g (suc n) =
      ap (r.sum _) (series_derivative_sum (λ k. r.product (f zero) (g (suc k)))
      (convolution (tail f) g) n ∙ ap₂ r.sum (series_derivative_multiple (f zero) (tail g) n)
      (series_leibniz (tail f) g n))
      ∙ regroup (r.product (f zero) (g (suc (suc n)))) (convolution (tail f) g (suc n))
      (r.product (f zero) (series_derivative (tail g) n))
      (convolution (series_derivative (tail f)) g n)
      (convolution (tail f) (series_derivative g) n)
      ∙ ap₂ r.sum (sym first) (ap (λ x. r.sum x (convolution (tail f) (series_derivative g) n))
      (sym (r.product_distributes _ _ _)))
    where
      -- five summands change places
      regroup : (a b c d e : R) → r.sum (r.sum a b) (r.sum c (r.sum d e))
          ≡ r.sum (r.sum b d) (r.sum (r.sum a c) e)
      regroup a b c d e = simp (r.sum_associates, r.sum_commutes, sum_swaps r)

      -- the product with a derivative as the first factor
      first : convolution (series_derivative f) g (suc n)
          ≡ r.sum (convolution (tail f) g (suc n)) (convolution (series_derivative (tail f)) g n)
      first =
          convolution_same (series_derivative f)
          (λ k. r.sum (f (suc k)) (shifted (series_derivative (tail f)) k)) g
          (series_derivative_is f) (suc n)
          ∙ sum_convolution (tail f) (shifted (series_derivative (tail f))) g (suc n)
          ∙ ap (r.sum (convolution (tail f) g (suc n)))
          (ap (λ x. r.sum x (convolution (series_derivative (tail f)) g n)) (zero_product r _)
          ∙ r.zero_is_neutral _)

  -- a derivation of the ring, taken of every coefficient
  module _ (d : R → R) (additive : (a b : R) → d (r.sum a b) ≡ r.sum (d a) (d b))
      (leibniz : (a b : R) → d (r.product a b) ≡ r.sum (r.product (d a) b) (r.product a (d b)))
    where
      -- it obeys Leibniz' rule on series
      pub convolution_leibniz : (f g : ℕ → R) (n : ℕ)
          → d (convolution f g n) ≡ r.sum (convolution (λ k. d (f k)) g n)
          (convolution f (λ k. d (g k)) n)
      convolution_leibniz f g zero = leibniz _ _
      convolution_leibniz f g (suc n) =
          additive _ _ ∙ ap₂ r.sum (leibniz _ _) (convolution_leibniz (tail f) g n)
          ∙ sum_of_sums r _ _ _ _

      -- it commutes with the derivation by the variable
      pub series_derivative_commutes : (f : ℕ → R) (n : ℕ)
          → d (series_derivative f n) ≡ series_derivative (λ k. d (f k)) n
      series_derivative_commutes f zero = refl
      series_derivative_commutes f (suc n) =
          additive _ _ ∙ ap (r.sum _) (series_derivative_commutes (tail f) n)
