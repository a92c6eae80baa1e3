-- A number has one reduced fraction, so the answers of the calls are determined.
use Rattle.std.proofs.Common.{◌≡◌, ◌<◌, ◌*◌, ◌∙◌, ℕ, ℤ, pos, ◌*ℤ◌, unsigned_abs, refl, sym, ap, ap₂}
use Rattle.std.proofs.lemmas.Int.{unsigned_abs-mul}
use Rattle.dz_int.specs.Fractions.{Fraction, IsReduced, HasValue}
use Rattle.dz_int.proofs.Coprime.{same_parts}
use Rattle.dz_int.proofs.Reduced.{coprime_gcd}
use Rattle.dz_int.proofs.Signs.{cancel_pos, factors_swap}

-- two reduced forms of n over d are equal
pub same_fraction : (f h : Fraction) (n : ℤ) (d : ℕ) → 0 < d → IsReduced f → IsReduced h → HasValue f n d → HasValue h n d → f ≡ h
same_fraction f h n d p r s v w =
    let crossed : f.numerator *ℤ pos h.denominator ≡ h.numerator *ℤ pos f.denominator =
    cancel_pos _ _ d p
    (factors_swap f.numerator (pos h.denominator) (pos d)
    ∙ ap (λ x. x *ℤ pos h.denominator) v
    ∙ factors_swap n (pos f.denominator) (pos h.denominator)
    ∙ ap (λ x. x *ℤ pos f.denominator) (sym w)
    ∙ factors_swap h.numerator (pos d) (pos f.denominator)) in
    let absolute : unsigned_abs f.numerator * h.denominator ≡ unsigned_abs h.numerator * f.denominator =
    sym (unsigned_abs-mul f.numerator (pos h.denominator)) ∙ ap unsigned_abs crossed ∙ unsigned_abs-mul h.numerator (pos f.denominator) in
    let parts = same_parts (unsigned_abs f.numerator) f.denominator (unsigned_abs h.numerator) h.denominator r.positive
    (coprime_gcd _ _ f.denominator refl r.coprime) (coprime_gcd _ _ h.denominator refl s.coprime) absolute in
    let numerators : f.numerator ≡ h.numerator =
    cancel_pos f.numerator h.numerator f.denominator r.positive (ap (λ k. f.numerator *ℤ pos k) parts.1 ∙ crossed) in
    ap₂ (λ (x : ℤ) (y : ℕ). record { numerator = x; denominator = y }) numerators parts.1
