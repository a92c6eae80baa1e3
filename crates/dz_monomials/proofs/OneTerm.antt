-- Polynomials of one term may stand in a book.
use Rattle.std.proofs.Common.{◌≡◌, ◌≢◌, ◌≤◌, ◌<◌, ◌∙◌, ℕ, zero, suc, false, cond, [], ◌∷◌, nat_lt, ℤ, pos, negsuc, unsigned_abs, refl, sym, ap, ap₂, subst, arith}
use Rattle.std.proofs.lemmas.Bool.Decides.{nat_tests}
use Rattle.std.proofs.lemmas.List.Elements.{All-nil, All-cons}
use Rattle.std.specs.Prelude.{Some, None, All, ◌||◌}
use Rattle.dz_algebra.specs.declared.Limit.TheVariants as limits
use Rattle.dz_algebra.specs.Amount.{greatest}
use Rattle.dz_algebra.specs.Monomial.{Monomial}
use Rattle.dz_algebra.specs.Polynomial.{Polynomial}
use Rattle.dz_algebra.specs.Whole.{whole_is_zero}
use Rattle.dz_rank.specs.declared.symbols.Symbol.{Symbol}
use Rattle.dz_rank.specs.Rankings.{RankingValue}
use Rattle.dz_rank.specs.Symbols.{BelongsTo, total_order}
use Rattle.dz_monomials.specs.Keeping.{IsTabled}
use Rattle.dz_monomials.specs.Terms.{constant_polynomial, power_term}
use Rattle.dz_monomials.proofs.Multiplying.{zero_entry}

not_zero : (c : ℤ) → c ≢ pos 0 → whole_is_zero c ≡ false
not_zero (pos zero) n = absurd (n refl)
not_zero (pos (suc k)) n = refl
not_zero (negsuc k) n = refl

pub number_is : (c : ℤ) (terms : Polynomial Symbol) → c ≢ pos 0 → terms ≡ ([], c) ∷ [] → terms ≡ constant_polynomial c
number_is c terms n e = e ∙ sym (ap (λ b. cond b [] (([], c) ∷ [])) (not_zero c n))

pub no_number : (c : ℤ) (terms : Polynomial Symbol) → c ≡ pos 0 → terms ≡ [] → terms ≡ constant_polynomial c
no_number c terms h e = e ∙ sym (ap constant_polynomial h)

pub no_entry : (r : RankingValue) (terms : Polynomial Symbol) (table : Monomial Symbol) → terms ≡ [] → table ≡ [] → IsTabled r terms table
no_entry = zero_entry

one_in_range : (m : Monomial Symbol) (c : ℤ) → unsigned_abs c ≤ greatest → All {X = Monomial Symbol × ℤ} (λ t. unsigned_abs t.1 ≤ greatest) ((m, c) ∷ [])
one_in_range m c l = All-cons (λ t. unsigned_abs t.1 ≤ greatest) (m, c) [] l (All-nil (λ t. unsigned_abs t.1 ≤ greatest))

-- a number that is not zero
pub number_entry : (r : RankingValue) (c : ℤ) (terms : Polynomial Symbol) (table : Monomial Symbol) → c ≢ pos 0 → unsigned_abs c ≤ greatest → terms ≡ ([], c) ∷ [] → table ≡ [] → IsTabled r terms table
number_entry r c terms table n l e f =
    subst (λ t. IsTabled r t table) (sym e)
    (record { keepable = record { canonical = (n, tt, tt, tt); belongs = (tt, tt); small = refl; in_range = one_in_range [] c l }; degrees_are = f })

pub power_is : (c : ℤ) (s : Symbol) (k : ℕ) (terms : Polynomial Symbol) → 0 < k → terms ≡ ((s, k) ∷ [], c) ∷ [] → terms ≡ power_term c s k
power_is c s zero terms h e = absurd (omega arith)
power_is c s (suc k) terms h e = e

-- a number that is not zero times a power of a symbol
pub power_entry : (r : RankingValue) (c : ℤ) (s : Symbol) (k : ℕ) (terms : Polynomial Symbol) (table : Monomial Symbol) → c ≢ pos 0 → unsigned_abs c ≤ greatest → 0 < k → k < 65536 → BelongsTo r.signature s → total_order s ≤ 60 → terms ≡ ((s, k) ∷ [], c) ∷ [] → table ≡ (s, k) ∷ [] → IsTabled r terms table
power_entry r c s k terms table n l p q b o e f =
    let low : nat_lt 60 (total_order s) ≡ false = grind (arith, nat_tests) in
    let fits : nat_lt 65535 k ≡ false = grind (arith, nat_tests) in
    subst (λ t. IsTabled r t table) (sym e)
    (record {
      keepable = record {
        canonical = (n, (p, tt, tt), tt, tt);
        belongs = ((b, tt), tt);
        small = ap₂ (λ x y. cond ((x || false) || false) (Some limits.Order) (cond ((y || false) || false) (Some limits.Exponent) None)) low fits;
        in_range = one_in_range ((s, k) ∷ []) c l;
      };
      degrees_are = f;
    })

-- a number is itself times a power to zero
pub number_as_power : (c : ℤ) (s : Symbol) (k : ℕ) (terms : Polynomial Symbol) → c ≢ pos 0 → k ≡ 0 → terms ≡ constant_polynomial c → terms ≡ power_term c s k
number_as_power c s zero terms n h e = e ∙ ap (λ b. cond b [] (([], c) ∷ [])) (not_zero c n)
number_as_power c s (suc k) terms n h e = absurd (omega arith)
