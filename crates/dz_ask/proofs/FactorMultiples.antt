-- The factor of a reduction is a whole multiple of the norm of its multiplier.
use Rattle.std.proofs.Common.{◌≡◌, ◌≢◌, ◌<◌, ◌∙◌, ◌*ℤ◌, ℕ, [], ◌∷◌, ℤ, pos, int_div, refl, sym, ap, arith, subst}
use Rattle.std.specs.Int.{◌∣◌}
use Rattle.std.proofs.lemmas.Int.{ints}
use Rattle.dz_algebra.specs.Norm.{content, divided, norm, signed_content}
use Rattle.dz_algebra.specs.Polynomial.{Polynomial, IsPolynomial, scaled}
use Rattle.dz_algebra.proofs.Norms.{exact, scaled_norm, signed_content_nonzero, signed_content_size}
use Rattle.dz_algebra.proofs.NormLaws.{divided_scaled, scaled_again}
use Rattle.dz_rank.specs.Rankings.{RankingValue, ranking_cmp}
use Rattle.dz_rank.specs.declared.symbols.Symbol.{Symbol}

-- a is a multiple of the norm of m by a whole number that is not zero
pub record IsMultipleOf (m a : Polynomial Symbol) : Type 0 where
  pub times : ℤ
  pub not_zero : times ≢ pos 0
  pub multiple : a ≡ scaled times (norm m)

-- a positive number is not zero
positive_nonzero : (k : ℕ) → 0 < k → pos k ≢ pos 0
positive_nonzero k h e = omega (arith, ints)

-- a multiple of zero is zero
times_nothing : (k c : ℤ) → k *ℤ pos 0 ≡ pos 0
times_nothing k c = omega (arith, ints)

-- what has no terms after scaling has none
no_norm : (p : Polynomial Symbol) → scaled (pos 1) p ≡ [] → p ≡ []
no_norm [] e = refl
no_norm (t ∷ p) e = cc

-- what divides the coefficients of a polynomial divides it down to a multiple of its norm
pub divided_multiple : (r : RankingValue) (k : ℕ) (m : Polynomial Symbol) → 0 < k → k ∣ content m → IsPolynomial (ranking_cmp r) m → IsMultipleOf m (divided (pos k) m)
divided_multiple r k [] h d i = record { times = pos 1; not_zero = λ e. cc; multiple = sym (ap (scaled (pos 1)) (no_norm (norm []) (scaled_norm []))) }
divided_multiple r k (t ∷ m) h d i =
    let c = signed_content (t ∷ m) in
    let split : c ≡ pos k *ℤ int_div c (pos k) = exact c (pos k) k refl (subst (λ n. k ∣ n) (sym (signed_content_size t m)) d) in
    let n = norm (t ∷ m) in
    let whole : t ∷ m ≡ scaled (pos k) (scaled (int_div c (pos k)) n) = sym (scaled_norm (t ∷ m)) ∙ ap (λ x. scaled x n) split ∙ sym (scaled_again (pos k) (int_div c (pos k)) n) in
    record {
      times = int_div c (pos k);
      not_zero = λ e. signed_content_nonzero (ranking_cmp r) (t ∷ m) i (split ∙ ap (λ x. pos k *ℤ x) e ∙ times_nothing (pos k) c);
      multiple = ap (divided (pos k)) whole ∙ divided_scaled (pos k) (positive_nonzero k h) (scaled (int_div c (pos k)) n);
    }
