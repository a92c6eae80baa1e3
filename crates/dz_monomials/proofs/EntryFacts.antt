-- What the terms and the table of an entry tell.
use Rattle.std.proofs.Common.{◌≡◌, ◌<◌, true, false, nat_lt, refl, ◌∙◌, ℕ, zero, suc, [], ◌∷◌, length, get_or, ℤ, sym, ap, subst, arith}
use Rattle.std.proofs.lemmas.Bool.Decides.{nat_tests}
use Rattle.dz_algebra.specs.Monomial.{Monomial, IsMonomial, exponent}
use Rattle.dz_algebra.specs.Parts.{degree}
use Rattle.dz_algebra.specs.Polynomial.{Polynomial, IsPolynomial}
use Rattle.dz_algebra.proofs.Canonical.{are_monomials}
use Rattle.dz_rank.specs.declared.symbols.Symbol.{Symbol}
use Rattle.dz_rank.specs.Rankings.{RankingValue, ranking_cmp}
use Rattle.dz_rank.specs.Symbols.{total_order}
use Rattle.dz_monomials.specs.Degrees.{degrees}
use Rattle.dz_monomials.specs.Keeping.{IsTabled}
use Rattle.dz_monomials.proofs.Below.{occurs}
use Rattle.dz_monomials.proofs.Summing.{low_entry}
use Rattle.dz_monomials.proofs.SupportLaws.{degrees_monomial, exponent_of_degrees}
use Rattle.dz_monomials.proofs.SymbolLaws.{ranking_order}

pub table_is_monomial : (r : RankingValue) (p : Polynomial Symbol) (table : Monomial Symbol) → IsTabled r p table → IsMonomial (ranking_cmp r) table
table_is_monomial r p table h = subst (IsMonomial (ranking_cmp r)) (sym h.degrees_are) (degrees_monomial (ranking_order r) p (are_monomials (ranking_order r) p h.keepable.canonical))

-- the degree in s stands in the table
pub degree_stands : (r : RankingValue) (p : Polynomial Symbol) (table : Monomial Symbol) (s : Symbol) → IsTabled r p table → exponent (ranking_cmp r) s table ≡ degree (ranking_cmp r) s p
degree_stands r p table s h = ap (exponent (ranking_cmp r) s) h.degrees_are ∙ exponent_of_degrees (ranking_order r) s p (are_monomials (ranking_order r) p h.keepable.canonical)

pub term_is_monomial : (r : RankingValue) (p : Polynomial Symbol) (table : Monomial Symbol) (k : ℕ) (d : Monomial Symbol × ℤ) → IsTabled r p table → k < length p → IsMonomial (ranking_cmp r) (get_or p k d).0
term_is_monomial r p table k d h l = at p k h.keepable.canonical l
  where
    at : (p : Polynomial Symbol) (k : ℕ) → IsPolynomial (ranking_cmp r) p → k < length p → IsMonomial (ranking_cmp r) (get_or p k d).0
    at [] k i l = absurd (omega arith)
    at (t ∷ p) zero i l = i.1
    at (t ∷ p) (suc k) i l = at p k i.3 (omega arith)

-- a derivative of too high an order does not occur
pub too_high : (r : RankingValue) (p : Polynomial Symbol) (table : Monomial Symbol) (s : Symbol) → IsTabled r p table → 60 < total_order s → degree (ranking_cmp r) s p ≡ 0
too_high r p table s h l = by_exponent (exponent (ranking_cmp r) s (degrees (ranking_cmp r) p)) refl
  where
    by_exponent : (e : ℕ) → exponent (ranking_cmp r) s (degrees (ranking_cmp r) p) ≡ e → degree (ranking_cmp r) s p ≡ 0
    by_exponent zero f = sym (exponent_of_degrees (ranking_order r) s p (are_monomials (ranking_order r) p h.keepable.canonical)) ∙ f
    by_exponent (suc e) f =
        let high : nat_lt 60 (total_order s) ≡ true = grind (arith, nat_tests) in
        let low : nat_lt 60 (total_order s) ≡ false = occurs (ranking_order r) (λ s. nat_lt 60 (total_order s)) (degrees (ranking_cmp r) p) s (low_entry r p h.keepable).orders (omega (arith, f)) in
        absurd (cc)
