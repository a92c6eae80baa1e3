-- How many equations a sample has, and how many terms their polynomials have.
use Rattle.std.proofs.Common.{◌≡◌, ◌≤◌, ◌+◌, ℕ, ℤ, zero, suc, Bool, true, false, [], ◌∷◌, ◌++◌, length, cond, refl, ap, arith}
use Rattle.std.specs.Prelude.{◌+ℤ◌}
use Rattle.std.specs.Ordering.{match_ordering}
use Rattle.std.specs.declared.cmp.Ordering.{Ordering}
use Rattle.std.specs.declared.cmp.Ordering.TheVariants.{Less, Equal, Greater}
use Rattle.std.proofs.lemmas.List.{length-append}
use Rattle.dz_algebra.specs.Monomial.{Monomial, monomial_cmp}
use Rattle.dz_algebra.specs.Polynomial.{Contributions, Polynomial, add_term, collect, keep, negated, pairs, polynomial_difference, polynomial_product, symbol_polynomial}
use Rattle.dz_algebra.specs.Whole.{whole_is_zero}
use Rattle.dz_sample.specs.Sample.{first_equations, further_equation, further_equations, sample}
use Rattle.dz_monomials.specs.Terms.{constant_polynomial}

-- ---- contributions make no more terms than there are contributions
module _ {S : Type 0} where
  keep_length : (m : Monomial S) (c : ℤ) (p : Polynomial S) → length (keep m c p) ≤ suc (length p)
  keep_length m c p = go (whole_is_zero c)
    where
      go : (b : Bool) → length (cond b p ((m, c) ∷ p)) ≤ suc (length p)
      go true = omega arith
      go false = omega arith

  add_length : (by : Monomial S → Monomial S → Ordering) (m : Monomial S) (c : ℤ) (p : Polynomial S) → length (add_term by m c p) ≤ suc (length p)
  add_length by m c [] = keep_length m c []
  add_length by m c (t ∷ p) = go (by m t.0) (add_length by m c p)
    where
      go : (o : Ordering) → length (add_term by m c p) ≤ suc (length p)
          → length (match_ordering o (t ∷ add_term by m c p) (keep m (c +ℤ t.1) p) (keep m c (t ∷ p))) ≤ suc (suc (length p))
      go Less rest = omega (arith, rest)
      go Equal rest = omega (arith, keep_length m (c +ℤ t.1) p)
      go Greater rest = keep_length m c (t ∷ p)

  collect_length : (by : Monomial S → Monomial S → Ordering) (ts : Contributions S) → length (collect by ts) ≤ length ts
  collect_length by [] = omega arith
  collect_length by (t ∷ ts) = omega (arith, add_length by t.0 t.1 (collect by ts), collect_length by ts)

  negated_length : (p : Polynomial S) → length (negated p) ≡ length p
  negated_length [] = refl
  negated_length (t ∷ p) = ap suc (negated_length p)

  -- a multiple of a symbol
  multiple_length : (cmp : S → S → Ordering) (c : ℤ) (u : S) → length (pairs cmp (constant_polynomial c) (symbol_polynomial u)) ≤ 1
  multiple_length cmp c u = go (whole_is_zero c)
    where
      go : (b : Bool) → length (pairs cmp (cond b [] (([], c) ∷ [])) (symbol_polynomial u)) ≤ 1
      go true = omega arith
      go false = omega arith

  pub rest_length : (cmp : S → S → Ordering) (v u : S) (c : ℤ) → length (polynomial_difference cmp (symbol_polynomial v) (polynomial_product cmp (constant_polynomial c) (symbol_polynomial u))) ≤ 2
  unfolding polynomial_difference polynomial_product
  rest_length cmp v u c =
      let product = collect (monomial_cmp cmp) (pairs cmp (constant_polynomial c) (symbol_polynomial u)) in
      omega (
        arith,
        collect_length (monomial_cmp cmp) (symbol_polynomial v ++ negated product),
        negated_length product,
        collect_length (monomial_cmp cmp) (pairs cmp (constant_polynomial c) (symbol_polynomial u)),
        multiple_length cmp c u,
      )

-- ---- how many equations there are
further_length : (seed n : ℕ) → length (further_equations seed n) ≡ n
unfolding further_equations
further_length seed zero = refl
further_length seed (suc n) = omega (arith, length-append (further_equations seed n) (further_equation seed n ∷ []), further_length seed n)

first_length : (seed : ℕ) → length (first_equations seed 8) ≡ 16
unfolding first_equations
first_length seed = refl

pub sample_length : (seed size : ℕ) → length (sample seed size) ≡ 16 + size
sample_length seed size = omega (arith, length-append (first_equations seed 8) (further_equations seed size), first_length seed, further_length seed size)
