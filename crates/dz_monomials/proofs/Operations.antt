-- What cells answer is what their operation answers, and an answer may stand in a book.
use Rattle.std.specs.Prelude.{Ok, All, Option, Some, None}
use Rattle.std.proofs.Common.{◌≡◌, ◌≤◌, ◌∙◌, ◌&&◌, max, Bool, true, false, cond, List, [], ◌∷◌, map, length, nat_le, ℤ, ◌+ℤ◌, unsigned_abs, refl, sym, ap, arith, subst}
use Rattle.std.proofs.lemmas.Int.{ints}
use Rattle.std.proofs.lemmas.Bool.Decides.{nat_tests}
use Rattle.std.proofs.lemmas.List.Elements.{All-nil, All-cons}
use Rattle.std.specs.declared.cmp.Ordering.{Ordering}
use Rattle.std.specs.declared.cmp.Ordering.TheVariants.{Less, Equal, Greater}
use Rattle.std.specs.Ordering.{match_ordering}
use Rattle.dz_algebra.specs.declared.Limit.{Limit}
use Rattle.dz_algebra.specs.Whole.{whole_is_zero}
use Rattle.dz_algebra.specs.Order.{IsOrder}
use Rattle.dz_algebra.specs.Gather.{put}
use Rattle.dz_algebra.specs.Monomial.{Monomial, MonomialIn, monomial_cmp, exponent}
use Rattle.dz_algebra.specs.Polynomial.{Polynomial, Contributions, AreMonomials, IsPolynomial, PolynomialIn, keep, add_term, collect}
use Rattle.dz_algebra.specs.Amount.{Amount, amount, add_amounts, greatest, gathered, nonzero, amounts_fit}
use Rattle.dz_algebra.specs.Symbols.{Symbols}
use Rattle.dz_algebra.specs.Size.{refused, refusal, unless, operation, support, fits, limit_of}
use Rattle.dz_algebra.proofs.Canonical.{are_monomials}
use Rattle.dz_algebra.proofs.Operations.{operation_is, operation_canonical, nonzero_gathered}
use Rattle.dz_rank.specs.declared.symbols.Symbol.{Symbol}
use Rattle.dz_rank.specs.Rankings.{RankingValue, ranking_cmp}
use Rattle.dz_rank.specs.Symbols.{BelongsTo}
use Rattle.dz_monomials.specs.Keeping.{IsKeepable}
use Rattle.dz_monomials.specs.Cells.{caps, finished, concluded}
use Rattle.dz_monomials.specs.Degrees.{degrees, limit_by}
use Rattle.dz_monomials.specs.Ranked.{symbols_under}
use Rattle.dz_monomials.proofs.Below.{small_below}
use Rattle.dz_monomials.proofs.Amounts.{concluded_caps}
use Rattle.dz_monomials.proofs.SupportLaws.{limit_of_support, greatest_exponent, keys_monomials, gathered_keys}
use Rattle.dz_monomials.proofs.SymbolLaws.{ranking_order}

-- the cells of contributions answer what the operation does
pub concluded_is : {S : Type 0} (g : Symbols S) → IsOrder g.cmp → (ts : Contributions S) → AreMonomials g.cmp ts → concluded (limit_by g.total_order (degrees g.cmp ts) (length (gathered g.cmp ts))) (finished (caps (gathered g.cmp ts))) ≡ operation g ts
unfolding operation refusal fits
concluded_is g order ts h =
    concluded_caps order (limit_by g.total_order (degrees g.cmp ts) (length (gathered g.cmp ts))) ts
    ∙ ap (λ l. unless (refused l (amounts_fit (gathered g.cmp ts))) (collect (monomial_cmp g.cmp) ts)) (sym (limit_of_support g order ts h))

-- ---- an answer has the symbols of its contributions
module _ {S : Type 0} (P : S → Type 0) (by : Monomial S → Monomial S → Ordering) where
  in_keep : (m : Monomial S) (c : ℤ) (p : Polynomial S) → MonomialIn P m → PolynomialIn P p → PolynomialIn P (keep m c p)
  in_keep m c p h g = elim (whole_is_zero c) as (λ b. PolynomialIn P (cond b p ((m, c) ∷ p))) [ true ↦ g | false ↦ (h, g) ]

  in_add : (m : Monomial S) (c : ℤ) (p : Polynomial S) → MonomialIn P m → PolynomialIn P p → PolynomialIn P (add_term by m c p)
  in_add m c [] h g = in_keep m c [] h tt
  in_add m c (t ∷ p) h g =
      elim (by m t.0) as (λ o. PolynomialIn P (match_ordering o (t ∷ add_term by m c p) (keep m (c +ℤ t.1) p) (keep m c (t ∷ p)))) [
        | Less ↦ (g.0, in_add m c p h g.1)
        | Equal ↦ in_keep m (c +ℤ t.1) p h g.1
        | Greater ↦ in_keep m c (t ∷ p) h g
      ]

  in_collect : (ts : Contributions S) → PolynomialIn P ts → PolynomialIn P (collect by ts)
  in_collect [] h = tt
  in_collect (t ∷ ts) h = in_add t.0 t.1 (collect by ts) h.0 (in_collect ts h.1)

-- ---- and coefficients in range
abbrev IsBounded : Amount → Type 0
IsBounded a = unsigned_abs a.total ≤ a.majorant

abbrev AreBounded : {M : Type 0} → List (M × Amount) → Type 0
AreBounded [] = Unit {0}
AreBounded (t ∷ ts) = IsBounded t.1 × AreBounded ts

both_bounded : (a b : Amount) → IsBounded a → IsBounded b → IsBounded (add_amounts a b)
both_bounded a b h g = omega (arith, ints)

module _ {S : Type 0} (cmp : S → S → Ordering) where
  bounded_put : (m : Monomial S) (a : Amount) (g : List (Monomial S × Amount)) → IsBounded a → AreBounded g → AreBounded (put (monomial_cmp cmp) add_amounts m a g)
  bounded_put m a [] h i = (h, tt)
  bounded_put m a (t ∷ g) h i =
      elim (monomial_cmp cmp m t.0) as (λ o. AreBounded (match_ordering o (t ∷ put (monomial_cmp cmp) add_amounts m a g) ((t.0, add_amounts a t.1) ∷ g) ((m, a) ∷ t ∷ g))) [
        | Less ↦ (i.0, bounded_put m a g h i.1)
        | Equal ↦ (both_bounded a t.1 h i.0, i.1)
        | Greater ↦ (h, i)
      ]

  bounded_gathered : (ts : Contributions S) → AreBounded (gathered cmp ts)
  bounded_gathered [] = tt
  bounded_gathered (t ∷ ts) = bounded_put t.0 (amount t.1) (gathered cmp ts) (omega arith) (bounded_gathered ts)

abbrev AreInRange : {M : Type 0} → List (M × ℤ) → Type 0
AreInRange p = All (λ t. unsigned_abs t.1 ≤ greatest) p

in_range_nonzero : {S : Type 0} (g : List (Monomial S × Amount)) → AreBounded g → amounts_fit g ≡ true → AreInRange (nonzero g)
in_range_nonzero [] h e = All-nil _
in_range_nonzero {S} (t ∷ g) h e = by_test (nat_le t.1.majorant greatest) refl (amounts_fit g) refl e (in_range_nonzero g h.1)
  where
    by_zero : (b : Bool) → unsigned_abs t.1.total ≤ greatest → AreInRange (nonzero g) → AreInRange (cond b (nonzero g) ((t.0, t.1.total) ∷ nonzero g))
    by_zero true l r = r
    by_zero false l r = All-cons (λ t. unsigned_abs t.1 ≤ greatest) (t.0, t.1.total) (nonzero g) l r

    by_test : (b : Bool) → nat_le t.1.majorant greatest ≡ b → (c : Bool) → amounts_fit g ≡ c → (b && c) ≡ true → (amounts_fit g ≡ true → AreInRange (nonzero g)) → AreInRange (nonzero (t ∷ g))
    by_test true f true k e rest = by_zero (whole_is_zero t.1.total) (let l : t.1.majorant ≤ greatest = grind (arith, nat_tests) in omega (arith, h.0, l)) (rest k)
    by_test true f false k e rest = cc
    by_test false f c k e rest = cc

unless_ok : {A E : Type 0} (e : Option E) (a b : A) → unless e a ≡ Ok b → e ≡ None
unless_ok None a b h = refl
unless_ok (Some e) a b h = cc

refused_none : (l : Option Limit) (b : Bool) → refused l b ≡ None → (l ≡ None) × (b ≡ true)
refused_none (Some l) b e = cc
refused_none None true e = (refl, refl)
refused_none None false e = cc

-- ---- and passes no limit
fewer_nonzero : {S : Type 0} (g : List (Monomial S × Amount)) → length (nonzero g) ≤ length g
fewer_nonzero [] = omega arith
fewer_nonzero (t ∷ g) = let h = fewer_nonzero g in elim (whole_is_zero t.1.total) as (λ z. length (cond z (nonzero g) ((t.0, t.1.total) ∷ nonzero g)) ≤ length (t ∷ g)) [ true ↦ omega arith | false ↦ omega arith ]

less_nonzero : {S : Type 0} (cmp : S → S → Ordering) (s : S) (g : List (Monomial S × Amount)) → greatest_exponent cmp s (nonzero g) ≤ greatest_exponent cmp s g
less_nonzero cmp s [] = omega arith
less_nonzero cmp s (t ∷ g) = let h = less_nonzero cmp s g in elim (whole_is_zero t.1.total) as (λ z. greatest_exponent cmp s (cond z (nonzero g) ((t.0, t.1.total) ∷ nonzero g)) ≤ max (exponent cmp s t.0) (greatest_exponent cmp s g)) [ true ↦ omega arith | false ↦ omega arith ]

module _ {S : Type 0} (g : Symbols S) (order : IsOrder g.cmp) where
  -- where the support passes no limit, neither does the polynomial
  small_nonzero : (ts : Contributions S) → AreMonomials g.cmp ts → IsPolynomial g.cmp (nonzero (gathered g.cmp ts)) → limit_of g (map (λ t. t.0) (gathered g.cmp ts)) ≡ None → limit_of g (map (λ t. t.0) (nonzero (gathered g.cmp ts))) ≡ None
  small_nonzero ts h i e =
      small_below g order (nonzero (gathered g.cmp ts)) (gathered g.cmp ts)
      (keys_monomials order (nonzero (gathered g.cmp ts)) (are_monomials order (nonzero (gathered g.cmp ts)) i)) (gathered_keys order ts h)
      (λ s. less_nonzero g.cmp s (gathered g.cmp ts)) (fewer_nonzero (gathered g.cmp ts)) e

-- the answer of an operation may stand in a book
pub operation_keepable : (r : RankingValue) (ts : Contributions Symbol) → AreMonomials (ranking_cmp r) ts → PolynomialIn (BelongsTo r.signature) ts → (p : Polynomial Symbol) → operation (symbols_under r) ts ≡ Ok p → IsKeepable r p
unfolding operation refusal fits support
operation_keepable r ts h i p e =
    let order = ranking_order r in
    let c : collect (monomial_cmp (ranking_cmp r)) ts ≡ p = operation_is (symbols_under r) ts p e in
    let n : nonzero (gathered (ranking_cmp r) ts) ≡ p = nonzero_gathered order ts ∙ c in
    let k : IsPolynomial (ranking_cmp r) p = operation_canonical (symbols_under r) order ts h p e in
    let f = refused_none _ _ (unless_ok _ _ p e) in
    record {
      canonical = k;
      belongs = subst (PolynomialIn (BelongsTo r.signature)) c (in_collect (BelongsTo r.signature) (monomial_cmp (ranking_cmp r)) ts i);
      small = subst (λ q. limit_of (symbols_under r) (map (λ t. t.0) q) ≡ None) n (small_nonzero (symbols_under r) order ts h (subst (IsPolynomial (ranking_cmp r)) (sym n) k) f.0);
      in_range = subst AreInRange n (in_range_nonzero (gathered (ranking_cmp r) ts) (bounded_gathered (ranking_cmp r) ts) f.1);
    }
