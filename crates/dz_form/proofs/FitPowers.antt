-- The powers and coefficients of a polynomial that may stand in a book may be written.
use Rattle.std.proofs.Common.{◌≡◌, ◌<◌, ◌≤◌, ◌||◌, sym, refl, ℕ, Bool, true, false, cond, List, [], ◌∷◌, ◌++◌, map, nat_lt, ℤ, unsigned_abs, Option, Some, None, arith, subst}
use Rattle.std.specs.Prelude.{All, ⊤, length}
use Rattle.std.specs.List.{list_any}
use Rattle.std.proofs.lemmas.Bool.Decides.{nat_tests}
use Rattle.std.proofs.lemmas.List.Elements.{All-cons, All-head, All-nil, All-tail}
use Rattle.dz_algebra.specs.Amount.{greatest}
use Rattle.dz_algebra.specs.declared.Limit.TheVariants as limits
use Rattle.dz_algebra.specs.Monomial.{Monomial, IsMonomial, MonomialIn}
use Rattle.dz_algebra.specs.Polynomial.{Polynomial, IsPolynomial, PolynomialIn}
use Rattle.dz_algebra.specs.Size.{has_high_exponent, has_high_order, limit_of, symbols}
use Rattle.dz_algebra.specs.Symbols.{Symbols}
use Rattle.dz_rank.specs.declared.rankings.Signature.{Signature}
use Rattle.dz_rank.specs.declared.symbols.Symbol.{Symbol}
use Rattle.dz_rank.specs.Rankings.{RankingValue, ranking_cmp}
use Rattle.dz_rank.specs.Symbols.{BelongsTo, total_order}
use Rattle.dz_monomials.specs.Keeping.{IsKeepable}
use Rattle.dz_monomials.specs.Ranked.{symbols_under}
use Rattle.dz_syntax.specs.Names.{Declared, signature_of}
use Rattle.dz_form.specs.Texts.{IsReadablePower, IsReadableTerm, IsWritable}

-- a power of a symbol of the signature, of low order and exponent
pub record IsFitPower (g : Signature) (p : Symbol × ℕ) : Type 0 where
  pub symbol : BelongsTo g p.0
  pub order : total_order p.0 ≤ 60
  pub exponent : p.1 ≤ 65535
  pub some : 0 < p.1

-- every power of a monomial is one
abbrev pub AreFitPowers : Signature → Monomial Symbol → Type 0
AreFitPowers g [] = ⊤
AreFitPowers g (p ∷ m) = IsFitPower g p × AreFitPowers g m

-- so are the powers behind others
pub fit_back : (g : Signature) (m n : Monomial Symbol) → AreFitPowers g (m ++ n) → AreFitPowers g n
fit_back g [] n h = h
fit_back g (p ∷ m) n h = fit_back g m n h.1

-- where one of two tests fails, each does
both_false : (a b : Bool) → (a || b) ≡ false → (a ≡ false) × (b ≡ false)
both_false true b e = cc
both_false false b e = (refl, e)

-- a number that is not above another
not_above : (most n : ℕ) → nat_lt most n ≡ false → n ≤ most
not_above most n e = grind (arith, nat_tests)

-- the powers of a monomial without high order and exponent
powers_fit : (r : RankingValue) (m : Monomial Symbol) → IsMonomial (ranking_cmp r) m → MonomialIn (BelongsTo r.signature) m → list_any (λ p. nat_lt 60 (total_order p.0)) m ≡ false
    → list_any (λ p. nat_lt 65535 p.1) m ≡ false → AreFitPowers r.signature m
powers_fit r [] h i o e = tt
powers_fit r (p ∷ m) h i o e =
    let a = both_false (nat_lt 60 (total_order p.0)) (list_any (λ p. nat_lt 60 (total_order p.0)) m) o in
    let b = both_false (nat_lt 65535 p.1) (list_any (λ p. nat_lt 65535 p.1) m) e in (
      record { symbol = i.0; order = not_above 60 (total_order p.0) a.0; exponent = not_above 65535 p.1 b.0; some = h.0 },
      powers_fit r m h.2 i.1 a.1 b.1,
    )

-- monomials that pass no limit have low orders and exponents
low_of_limit : (g : Symbols Symbol) (ms : List (Monomial Symbol)) → limit_of g ms ≡ None → (has_high_order g ms ≡ false) × (has_high_exponent ms ≡ false)
low_of_limit g ms e =
    let counts = cond (nat_lt 64 (length (symbols g.cmp ms))) (Some limits.Symbols) (cond (nat_lt 4096 (length ms)) (Some limits.Terms) None) in
    by_tests (has_high_order g ms) (has_high_exponent ms) counts e
  where
    by_tests : (a b : Bool) (counts : Option limits.the_data) → cond a (Some limits.Order) (cond b (Some limits.Exponent) counts) ≡ None → (a ≡ false) × (b ≡ false)
    by_tests true b counts e = cc
    by_tests false true counts e = cc
    by_tests false false counts e = (refl, refl)

-- the powers of every monomial of a polynomial
abbrev pub HasFitTerms : Signature → Polynomial Symbol → Type 0
HasFitTerms g [] = ⊤
HasFitTerms g (t ∷ p) = AreFitPowers g t.0 × HasFitTerms g p

-- the terms of a polynomial without high orders and exponents
terms_fit : (r : RankingValue) (p : Polynomial Symbol) → IsPolynomial (ranking_cmp r) p → PolynomialIn (BelongsTo r.signature) p → has_high_order (symbols_under r) (map (λ t. t.0) p) ≡ false
    → has_high_exponent (map (λ t. t.0) p) ≡ false → HasFitTerms r.signature p
terms_fit r [] h i o e = tt
terms_fit r (t ∷ p) h i o e =
    let a = both_false (list_any (λ p. nat_lt 60 (total_order p.0)) t.0) (has_high_order (symbols_under r) (map (λ t. t.0) p)) o in
    let b = both_false (list_any (λ p. nat_lt 65535 p.1) t.0) (has_high_exponent (map (λ t. t.0) p)) e in
    (powers_fit r t.0 h.1 i.0 a.0 b.0, terms_fit r p h.3 i.1 a.1 b.1)

-- the powers of a polynomial that may stand in a book
pub keepable_fits : (r : RankingValue) (p : Polynomial Symbol) → IsKeepable r p → HasFitTerms r.signature p
keepable_fits r p h =
    let low = low_of_limit (symbols_under r) (map (λ t. t.0) p) h.small in
    terms_fit r p h.canonical h.belongs low.0 low.1

-- powers that fit may be read
powers_readable : (names : Declared) (m : Monomial Symbol) → AreFitPowers (signature_of names) m → All (λ p. IsReadablePower names p) m
powers_readable names [] h = All-nil (λ p. IsReadablePower names p)
powers_readable names (p ∷ m) h =
    All-cons (λ p. IsReadablePower names p) p m (record { symbol = h.0.symbol; order = h.0.order; exponent = h.0.exponent }) (powers_readable names m h.1)

-- and so may terms
terms_readable : (names : Declared) (p : Polynomial Symbol) → HasFitTerms (signature_of names) p → All (λ t. unsigned_abs t.1 ≤ greatest) p → IsWritable names p
terms_readable names [] h i = All-nil (λ t. IsReadableTerm names t)
terms_readable names (t ∷ p) h i =
    let InRange : Monomial Symbol × ℤ → Type 0 = λ t. unsigned_abs t.1 ≤ greatest in
    All-cons (λ t. IsReadableTerm names t) t p (record { powers = powers_readable names t.0 h.0; coefficient = All-head InRange t p i }) (terms_readable names p h.1 (All-tail InRange t p i))

-- a polynomial that may stand in a book has a canonical text that may be read
pub keepable_writable : (names : Declared) (r : RankingValue) (p : Polynomial Symbol) → signature_of names ≡ r.signature → IsKeepable r p → IsWritable names p
keepable_writable names r p e h = terms_readable names p (subst (λ g. HasFitTerms g p) (sym e) (keepable_fits r p h)) h.in_range
