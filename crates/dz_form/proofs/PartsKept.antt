-- Parts of a polynomial that may stand in a book may stand in it.
use Rattle.std.proofs.Common.{◌≡◌, ◌≢◌, ◌≤◌, ◌+◌, ◌∙◌, sym, ap, refl, ℕ, List, [], ◌∷◌, ◌++◌, map, length, ℤ, pos, unsigned_abs, None, arith, length-append}
use Rattle.std.specs.Prelude.{All}
use Rattle.std.specs.declared.cmp.Ordering.{Ordering}
use Rattle.std.specs.Ordering.{match_ordering}
use Rattle.std.proofs.lemmas.List.Elements.{All-cons, All-head, All-nil, All-tail}
use Rattle.dz_algebra.specs.Amount.{greatest}
use Rattle.dz_algebra.specs.Order.{IsAbove}
use Rattle.dz_algebra.specs.Monomial.{Monomial, IsMonomial, MonomialIn, exponent, monomial_cmp, monomial_product, with_power}
use Rattle.dz_algebra.specs.Polynomial.{Polynomial, IsPolynomial, PolynomialIn}
use Rattle.dz_algebra.specs.Size.{limit_of}
use Rattle.dz_algebra.proofs.Canonical.{are_monomials}
use Rattle.dz_algebra.proofs.Monomials.{exponent_product}
use Rattle.dz_rank.specs.declared.symbols.Symbol.{Symbol}
use Rattle.dz_rank.specs.Rankings.{RankingValue, ranking_cmp}
use Rattle.dz_rank.specs.Symbols.{BelongsTo}
use Rattle.dz_monomials.specs.Keeping.{IsKeepable}
use Rattle.dz_monomials.specs.Ranked.{symbols_under}
use Rattle.dz_monomials.proofs.Below.{small_below}
use Rattle.dz_monomials.proofs.SymbolLaws.{ranking_order}
use Rattle.dz_monomials.proofs.SupportLaws.{greatest_exponent, keys_monomials}

-- ---- fronts and backs of lists

-- what is above a list is above its front
above_front : {K V : Type 0} (cmp : K → K → Ordering) (k : K) (a b : List (K × V)) → IsAbove cmp k (a ++ b) → IsAbove cmp k a
above_front cmp k [] b h = tt
above_front cmp k (t ∷ a) b h = (h.0, above_front cmp k a b h.1)

module _ {S : Type 0} (cmp : S → S → Ordering) where
  -- the first powers of a monomial are one
  monomial_front : (m n : Monomial S) → IsMonomial cmp (m ++ n) → IsMonomial cmp m
  monomial_front [] n h = tt
  monomial_front (p ∷ m) n h = (h.0, above_front cmp p.0 m n h.1, monomial_front m n h.2)

  -- the first terms of a polynomial are one
  polynomial_front : (a b : Polynomial S) → IsPolynomial cmp (a ++ b) → IsPolynomial cmp a
  polynomial_front [] b h = tt
  polynomial_front (t ∷ a) b h = (h.0, h.1, above_front (monomial_cmp cmp) t.0 a b h.2, polynomial_front a b h.3)

  -- and so are the last
  polynomial_back : (a b : Polynomial S) → IsPolynomial cmp (a ++ b) → IsPolynomial cmp b
  polynomial_back [] b h = h
  polynomial_back (t ∷ a) b h = polynomial_back a b h.3

  -- the first terms have no greater exponents
  exponents_front : (s : S) (a b : Polynomial S) → greatest_exponent cmp s a ≤ greatest_exponent cmp s (a ++ b)
  exponents_front s [] b = omega arith
  exponents_front s (t ∷ a) b = let h = exponents_front s a b in omega (arith, h)

  -- nor have the last terms
  exponents_back : (s : S) (a b : Polynomial S) → greatest_exponent cmp s b ≤ greatest_exponent cmp s (a ++ b)
  exponents_back s [] b = omega arith
  exponents_back s (t ∷ a) b = let h = exponents_back s a b in omega (arith, h)

  -- a power of a greater symbol comes first
  with_power_above : (s : S) (e : ℕ) (m : Monomial S) → IsAbove cmp s m → with_power cmp s e m ≡ (s, e) ∷ m
  with_power_above s e [] h = refl
  with_power_above s e (p ∷ m) h = ap (λ o. match_ordering o (p ∷ with_power cmp s e m) ((p.0, e + p.1) ∷ m) ((s, e) ∷ p ∷ m)) h.0

  -- the product of the parts of a monomial is the monomial
  pub product_appends : (m n : Monomial S) → IsMonomial cmp (m ++ n) → monomial_product cmp m n ≡ m ++ n
  product_appends [] n h = refl
  product_appends (p ∷ m) n h = ap (with_power cmp p.0 p.1) (product_appends m n h.2) ∙ with_power_above p.0 p.1 (m ++ n) h.1

module _ {S : Type 0} (P : S → Type 0) where
  -- a property of all symbols of a monomial is one of the first powers
  monomial_in_front : (m n : Monomial S) → MonomialIn P (m ++ n) → MonomialIn P m
  monomial_in_front [] n h = tt
  monomial_in_front (p ∷ m) n h = (h.0, monomial_in_front m n h.1)

  -- and of the first terms of a polynomial
  in_front : (a b : Polynomial S) → PolynomialIn P (a ++ b) → PolynomialIn P a
  in_front [] b h = tt
  in_front (t ∷ a) b h = (h.0, in_front a b h.1)

  -- and of the last
  in_back : (a b : Polynomial S) → PolynomialIn P (a ++ b) → PolynomialIn P b
  in_back [] b h = h
  in_back (t ∷ a) b h = in_back a b h.1

module _ {X : Type 0} (P : X → Type 0) where
  -- what holds of each element holds of the first ones
  all_front : (a b : List X) → All P (a ++ b) → All P a
  all_front [] b h = All-nil P
  all_front (x ∷ a) b h = All-cons P x a (All-head P x (a ++ b) h) (all_front a b (All-tail P x (a ++ b) h))

  -- and of the last ones
  all_back : (a b : List X) → All P (a ++ b) → All P b
  all_back [] b h = h
  all_back (x ∷ a) b h = all_back a b (All-tail P x (a ++ b) h)

-- ---- parts of what may stand in a book

module _ (r : RankingValue) where
  -- the order of the symbols
  abbrev cmp : Symbol → Symbol → Ordering
  cmp = ranking_cmp r

  -- the coefficient of a term is in range
  abbrev InRange : Monomial Symbol × ℤ → Type 0
  InRange t = unsigned_abs t.1 ≤ greatest

  -- a polynomial with fewer terms and lower exponents passes no limit
  small_part : (p q : Polynomial Symbol) → IsPolynomial cmp p → IsPolynomial cmp q → ((s : Symbol) → greatest_exponent cmp s p ≤ greatest_exponent cmp s q) → length p ≤ length q
      → limit_of (symbols_under r) (map (λ t. t.0) q) ≡ None → limit_of (symbols_under r) (map (λ t. t.0) p) ≡ None
  small_part p q h k below fewer small =
      let order = ranking_order r in
      small_below (symbols_under r) order p q (keys_monomials order p (are_monomials order p h)) (keys_monomials order q (are_monomials order q k)) below fewer small

  -- the first terms
  pub front_keepable : (a b : Polynomial Symbol) → IsKeepable r (a ++ b) → IsKeepable r a
  front_keepable a b h =
      let is = polynomial_front cmp a b h.canonical in
      let size = length-append a b in
      record {
        canonical = is;
        belongs = in_front (BelongsTo r.signature) a b h.belongs;
        small = small_part a (a ++ b) is h.canonical (λ s. exponents_front cmp s a b) (omega (arith, size)) h.small;
        in_range = all_front InRange a b h.in_range;
      }

  -- the last terms
  pub back_keepable : (a b : Polynomial Symbol) → IsKeepable r (a ++ b) → IsKeepable r b
  back_keepable a b h =
      let is = polynomial_back cmp a b h.canonical in
      let size = length-append a b in
      record {
        canonical = is;
        belongs = in_back (BelongsTo r.signature) a b h.belongs;
        small = small_part b (a ++ b) is h.canonical (λ s. exponents_back cmp s a b) (omega (arith, size)) h.small;
        in_range = all_back InRange a b h.in_range;
      }

  -- a term with some of the powers
  pub powers_keepable : (m n : Monomial Symbol) (c : ℤ) → IsKeepable r ((m ++ n, c) ∷ []) → IsKeepable r ((m, c) ∷ [])
  powers_keepable m n c h =
      let is : IsPolynomial cmp ((m, c) ∷ []) = (h.canonical.0, monomial_front cmp m n h.canonical.1, tt, tt) in
      record {
        canonical = is;
        belongs = (monomial_in_front (BelongsTo r.signature) m n h.belongs.0, tt);
        small = small_part ((m, c) ∷ []) ((m ++ n, c) ∷ []) is h.canonical (λ s. below s) (omega arith) h.small;
        in_range = All-cons InRange (m, c) [] (All-head InRange (m ++ n, c) [] h.in_range) (All-nil InRange);
      }
    where
      below : (s : Symbol) → greatest_exponent cmp s ((m, c) ∷ []) ≤ greatest_exponent cmp s ((m ++ n, c) ∷ [])
      below s =
          let sum : exponent cmp s (m ++ n) ≡ exponent cmp s m + exponent cmp s n = ap (exponent cmp s) (sym (product_appends cmp m n h.canonical.1)) ∙ exponent_product (ranking_order r) s m n in
          omega (arith, sum)

  -- a term with another coefficient
  pub coefficient_keepable : (m : Monomial Symbol) (c d : ℤ) → d ≢ pos 0 → unsigned_abs d ≤ greatest → IsKeepable r ((m, c) ∷ []) → IsKeepable r ((m, d) ∷ [])
  coefficient_keepable m c d some l h = record {
    canonical = (some, h.canonical.1, tt, tt);
    belongs = h.belongs;
    small = h.small;
    in_range = All-cons InRange (m, d) [] l (All-nil InRange);
  }
