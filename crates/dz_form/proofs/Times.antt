-- The products of a power, one after the other.
use Rattle.std.proofs.Common.{◌≡◌, ◌<◌, ◌≤◌, ◌+◌, ◌-◌, ◌∙◌, sym, ap, subst, ℕ, zero, suc, Result, Ok, Err, pos, arith, refl, inl, inr}
use Rattle.dz_algebra.specs.Polynomial.{Polynomial}
use Rattle.dz_algebra.specs.Size.{Refusal, product_answer}
use Rattle.dz_algebra.specs.Symbols.{Symbols}
use Rattle.dz_rank.specs.declared.symbols.Symbol.{Symbol}
use Rattle.dz_monomials.specs.Stops.{IsStop}
use Rattle.dz_monomials.specs.declared.PolyStop.{PolyStop}
use Rattle.dz_monomials.specs.Terms.{constant_polynomial}
use Rattle.dz_algebra.specs.Outcome.{◌>>=◌}
use Rattle.dz_form.specs.Values.{power_answer, times}

module _ (g : Symbols Symbol) (a : Polynomial Symbol) where
  -- the first of some products
  times_step : (n : ℕ) (q : Polynomial Symbol) → times g a (suc n) q ≡ (product_answer g q a >>= times g a n)
  times_step n q = refl

  -- one product more
  pub times_more : (count at : ℕ) (q r : Polynomial Symbol) (total : Result (Polynomial Symbol) Refusal) → at < count → product_answer g q a ≡ Ok r → times g a (count - at) q ≡ total
      → times g a (count - (at + 1)) r ≡ total
  times_more count at q r total more e whole =
      let n = count - (at + 1) in
      let left : count - at ≡ suc n = omega arith in
      sym (ap (λ o. o >>= times g a n) e) ∙ sym (times_step n q) ∙ ap (λ k. times g a k q) (sym left) ∙ whole

  -- no product is left
  pub times_done : (count at : ℕ) (q : Polynomial Symbol) (total : Result (Polynomial Symbol) Refusal) → count ≤ at → times g a (count - at) q ≡ total → total ≡ Ok q
  times_done count at q total none whole =
      let left : count - at ≡ 0 = omega arith in
      sym whole ∙ ap (λ k. times g a k q) left

  -- a refusal comes before what follows
  stopped : (stop : PolyStop) (f : Polynomial Symbol → Result (Polynomial Symbol) Refusal) (o : Result (Polynomial Symbol) Refusal) → IsStop stop o → IsStop stop (o >>= f)
  stopped stop f (Ok p) (inl m) = inl m
  stopped stop f (Ok p) (inr m) = absurd cc
  stopped stop f (Err e) m = m

  -- a product is refused
  pub times_refused : (stop : PolyStop) (count at : ℕ) (q : Polynomial Symbol) (total : Result (Polynomial Symbol) Refusal) → at < count → IsStop stop (product_answer g q a)
      → times g a (count - at) q ≡ total → IsStop stop total
  times_refused stop count at q total more refused whole =
      let n = count - (at + 1) in
      let left : count - at ≡ suc n = omega arith in
      subst (IsStop stop) (sym (times_step n q) ∙ ap (λ k. times g a k q) (sym left) ∙ whole) (stopped stop (times g a n) (product_answer g q a) refused)

  -- a power whose exponent is not zero
  pub power_is : (k : ℕ) → 0 < k → times g a (k - 1) a ≡ power_answer g a k
  unfolding power_answer
  power_is zero some = absurd (omega arith)
  power_is (suc k) some = let e : suc k - 1 ≡ k = omega arith in ap (λ n. times g a n a) e

  -- a power whose exponent is zero
  pub one_power : (k : ℕ) → k ≡ 0 → Ok (constant_polynomial (pos 1)) ≡ power_answer g a k
  unfolding power_answer
  one_power zero e = refl
  one_power (suc k) e = absurd (omega arith)
