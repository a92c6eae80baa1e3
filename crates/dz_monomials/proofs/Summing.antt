-- Sums and differences of polynomials that stand in a book.
use Rattle.std.proofs.Common.{◌≡◌, ◌∙◌, ◌||◌, ◌++◌, ℕ, max, Bool, true, false, cond, List, [], ◌∷◌, length, ℤ, neg_ℤ, nat_lt, refl, sym, ap, ap₂, subst, arith}
use Rattle.std.specs.Prelude.{Option, Some, None, Result, Ok, Err, IfOk}
use Rattle.std.specs.declared.cmp.Ordering.{Ordering}
use Rattle.dz_algebra.specs.declared.Limit.TheVariants as limits
use Rattle.dz_algebra.specs.Gather.{merge, onto}
use Rattle.dz_algebra.specs.Order.{IsOrder}
use Rattle.dz_algebra.specs.Monomial.{Monomial, monomial_cmp}
use Rattle.dz_algebra.specs.Polynomial.{Polynomial, Contributions, IsPolynomial, AreMonomials, PolynomialIn, negated}
use Rattle.dz_algebra.specs.Amount.{Amount, amounts, gathered}
use Rattle.dz_algebra.specs.Size.{operation}
use Rattle.dz_algebra.proofs.Canonical.{are_monomials, monomials-append}
use Rattle.dz_algebra.proofs.Gathers.{any_onto}
use Rattle.dz_algebra.proofs.PolynomialRing.{negated_is}
use Rattle.dz_rank.specs.declared.symbols.Symbol.{Symbol}
use Rattle.dz_rank.specs.Rankings.{RankingValue, ranking_cmp}
use Rattle.dz_rank.specs.Symbols.{BelongsTo, total_order}
use Rattle.dz_monomials.specs.Keeping.{IsKeepable}
use Rattle.dz_monomials.specs.Cells.{add_capped, caps, finished, concluded}
use Rattle.dz_monomials.specs.Degrees.{degrees, has_high_order, has_high_exponent, limit_of_counts, limit_by}
use Rattle.dz_monomials.specs.Keeping.{IsTabled}
use Rattle.dz_monomials.specs.Ranked.{symbols_under}
use Rattle.dz_monomials.specs.Signs.{with_sign}
use Rattle.dz_monomials.specs.Supports.{IsSupportOf}
use Rattle.dz_monomials.specs.declared.sign.Sign.{Sign}
use Rattle.dz_monomials.specs.declared.sign.Sign.TheVariants.{Plus, Minus}
use Rattle.dz_monomials.proofs.Amounts.{merged_sum, length-caps}
use Rattle.dz_monomials.proofs.Merging.{merge_nothing}
use Rattle.dz_monomials.proofs.Multiples.{limit_of_degrees, high_multiple}
use Rattle.dz_monomials.proofs.Operations.{concluded_is, operation_keepable}
use Rattle.dz_monomials.proofs.SupportLaws.{degrees_sum, degrees_gathered, one_pass}
use Rattle.dz_monomials.proofs.SymbolLaws.{ranking_order}

-- ---- signs
pub plus_same : {M : Type 0} (ts : List (M × ℤ)) → with_sign Plus ts ≡ ts
plus_same [] = refl
plus_same (t ∷ ts) = ap (λ l. t ∷ l) (plus_same ts)

pub minus_negates : {M : Type 0} (ts : List (M × ℤ)) → with_sign Minus ts ≡ negated ts
minus_negates [] = refl
minus_negates (t ∷ ts) = ap (λ l. (t.0, neg_ℤ t.1) ∷ l) (minus_negates ts)

with_sign_is : {S : Type 0} {cmp : S → S → Ordering} → IsOrder cmp → (sign : Sign) (p : Polynomial S) → IsPolynomial cmp p → IsPolynomial cmp (with_sign sign p)
with_sign_is {cmp = cmp} order Plus p h = subst (IsPolynomial cmp) (sym (plus_same p)) h
with_sign_is {cmp = cmp} order Minus p h = subst (IsPolynomial cmp) (sym (minus_negates p)) (negated_is order p h)

with_sign_in : {S : Type 0} (P : S → Type 0) (sign : Sign) (p : Polynomial S) → PolynomialIn P p → PolynomialIn P (with_sign sign p)
with_sign_in P sign [] h = tt
with_sign_in P sign (t ∷ p) h = (h.0, with_sign_in P sign p h.1)

in-append : {S : Type 0} (P : S → Type 0) (p q : Polynomial S) → PolynomialIn P p → PolynomialIn P q → PolynomialIn P (p ++ q)
in-append P [] q h g = g
in-append P (t ∷ p) q h g = (h.0, in-append P p q h.1 g)

degrees-with_sign : {S : Type 0} (cmp : S → S → Ordering) (sign : Sign) (p : Polynomial S) → degrees cmp (with_sign sign p) ≡ degrees cmp p
degrees-with_sign cmp sign [] = refl
degrees-with_sign cmp sign (t ∷ p) = ap (onto cmp max t.0) (degrees-with_sign cmp sign p)

pub degrees-caps : {S : Type 0} (cmp : S → S → Ordering) (g : List (Monomial S × Amount)) → degrees cmp (caps g) ≡ degrees cmp g
degrees-caps cmp [] = refl
degrees-caps cmp (t ∷ g) = ap (onto cmp max t.0) (degrees-caps cmp g)

-- one pass over the cells of two polynomials, the second taken with a sign
pub merged_signs : {S : Type 0} {cmp : S → S → Ordering} → IsOrder cmp → (p : Polynomial S) (sign : Sign) (q : Polynomial S) → IsPolynomial cmp p → IsPolynomial cmp q → merge (monomial_cmp cmp) add_capped (caps (amounts (with_sign sign q))) (caps (amounts (with_sign Plus p))) ≡ caps (gathered cmp (p ++ with_sign sign q))
merged_signs {cmp = cmp} order p sign q h g =
    ap (λ a. merge (monomial_cmp cmp) add_capped (caps (amounts (with_sign sign q))) (caps (amounts a))) (plus_same p)
    ∙ merged_sum order p (with_sign sign q) h (with_sign_is order sign q g)

-- the pass ends where the first side does
pub terms_ended : {S : Type 0} (by : Monomial S → Monomial S → Ordering) (all ts new whole : List (Monomial S × Option Amount)) (p : Polynomial S) → all ++ merge by add_capped ts (caps (amounts (with_sign Plus p))) ≡ whole → length p ≡ 0 → new ≡ all ++ ts → new ≡ whole
terms_ended by all ts new whole [] e h f = f ∙ sym (ap (λ l. all ++ l) (merge_nothing by add_capped ts)) ∙ e
terms_ended by all ts new whole (t ∷ p) e h f = absurd (omega arith)

-- ---- limits of one side
pub record IsLow (order : Symbol → ℕ) (m : Monomial Symbol) : Type 0 where
  pub orders : has_high_order order m ≡ false
  pub exponents : has_high_exponent m ≡ false

low_of_limit : (m : Monomial Symbol) (n : ℕ) → limit_by total_order m n ≡ None → IsLow total_order m
low_of_limit m n e = by_tests (has_high_order total_order m) refl (has_high_exponent m) refl
  where
    by_tests : (a : Bool) → has_high_order total_order m ≡ a → (b : Bool) → has_high_exponent m ≡ b → IsLow total_order m
    by_tests true f b g = let z = sym (ap (λ a. cond a (Some limits.Order) (cond (has_high_exponent m) (Some limits.Exponent) (limit_of_counts (length m) n))) f) ∙ e in cc
    by_tests false f true g = let z = sym (ap₂ (λ a b. cond a (Some limits.Order) (cond b (Some limits.Exponent) (limit_of_counts (length m) n))) f g) ∙ e in cc
    by_tests false f false g = record { orders = f; exponents = g }

-- a polynomial in a book has low orders and exponents
pub low_entry : (r : RankingValue) (p : Polynomial Symbol) → IsKeepable r p → IsLow total_order (degrees (ranking_cmp r) p)
low_entry r p h = low_of_limit (degrees (ranking_cmp r) p) (length p) (sym (limit_of_degrees (symbols_under r) (ranking_order r) p) ∙ h.small)

low_multiple : (r : RankingValue) (m n : Monomial Symbol) → IsLow total_order m → IsLow total_order n → IsLow total_order (onto (ranking_cmp r) max m n)
low_multiple r m n h g = record {
  orders = any_onto (ranking_order r) max (λ s. nat_lt 60 (total_order s)) m n ∙ ap₂ (λ a b. a || b) h.orders g.orders;
  exponents = high_multiple (ranking_order r) m n ∙ ap₂ (λ a b. a || b) h.exponents g.exponents;
}

-- ---- the support of an operation
pub support_of : (r : RankingValue) (ts : Contributions Symbol) (table : Monomial Symbol) (cells : List (Monomial Symbol × Option Amount)) → AreMonomials (ranking_cmp r) ts → table ≡ degrees (ranking_cmp r) ts → cells ≡ caps (gathered (ranking_cmp r) ts) → has_high_order total_order table ≡ false → has_high_exponent table ≡ false → IsSupportOf r ts table cells
support_of r ts table cells h d e f k = record {
  support = record { degrees_are = d ∙ sym (ap (degrees (ranking_cmp r)) e ∙ degrees-caps (ranking_cmp r) (gathered (ranking_cmp r) ts) ∙ degrees_gathered (ranking_order r) ts h); orders = f; exponents = k };
  answer =
      ap₂ (λ m c. concluded (limit_by total_order m (length c)) (finished c)) d e
      ∙ ap (λ n. concluded (limit_by total_order (degrees (ranking_cmp r) ts) n) (finished (caps (gathered (ranking_cmp r) ts)))) (length-caps (gathered (ranking_cmp r) ts))
      ∙ concluded_is (symbols_under r) (ranking_order r) ts h;
}

pub sum_monomials : (r : RankingValue) (p : Polynomial Symbol) (sign : Sign) (q : Polynomial Symbol) → IsKeepable r p → IsKeepable r q → AreMonomials (ranking_cmp r) (p ++ with_sign sign q)
sum_monomials r p sign q h g =
    let order = ranking_order r in
    monomials-append order p (with_sign sign q) (are_monomials order p h.canonical) (are_monomials order (with_sign sign q) (with_sign_is order sign q g.canonical))

-- the support of a sum
pub sum_support : (r : RankingValue) (p : Polynomial Symbol) (a : Monomial Symbol) (sign : Sign) (q : Polynomial Symbol) (b : Monomial Symbol) (table : Monomial Symbol) (cells : List (Monomial Symbol × Option Amount)) → IsTabled r p a → IsTabled r q b → table ≡ merge (ranking_cmp r) max b a → cells ≡ caps (gathered (ranking_cmp r) (p ++ with_sign sign q)) → IsSupportOf r (p ++ with_sign sign q) table cells
sum_support r p a sign q b table cells h g d e =
    let order = ranking_order r in
    let cmp = ranking_cmp r in
    let i = are_monomials order p h.keepable.canonical in
    let j = are_monomials order (with_sign sign q) (with_sign_is order sign q g.keepable.canonical) in
    let s : b ≡ degrees cmp (with_sign sign q) = g.degrees_are ∙ sym (degrees-with_sign cmp sign q) in
    let m : table ≡ merge cmp max (degrees cmp (with_sign sign q)) (degrees cmp p) = d ∙ ap₂ (merge cmp max) s h.degrees_are in
    let l = low_multiple r (degrees cmp p) (degrees cmp (with_sign sign q)) (low_entry r p h.keepable) (subst (IsLow total_order) (sym (degrees-with_sign cmp sign q)) (low_entry r q g.keepable)) in
    let o : table ≡ onto cmp max (degrees cmp p) (degrees cmp (with_sign sign q)) = m ∙ one_pass order p (with_sign sign q) i j in
    support_of r (p ++ with_sign sign q) table cells (sum_monomials r p sign q h.keepable g.keepable) (m ∙ degrees_sum order p (with_sign sign q) i j) e
    (ap (has_high_order total_order) o ∙ l.orders) (ap has_high_exponent o ∙ l.exponents)

-- the answer of a sum may stand in the book
pub sum_keepable : (r : RankingValue) (p : Polynomial Symbol) (sign : Sign) (q : Polynomial Symbol) → IsKeepable r p → IsKeepable r q → (a : Polynomial Symbol) → operation (symbols_under r) (p ++ with_sign sign q) ≡ Ok a → IsKeepable r a
sum_keepable r p sign q h g a e =
    operation_keepable r (p ++ with_sign sign q) (sum_monomials r p sign q h g)
    (in-append (BelongsTo r.signature) p (with_sign sign q) h.belongs (with_sign_in (BelongsTo r.signature) sign q g.belongs)) a e

-- what two clauses say of one value
pub both_ok : {A E : Type 0} {P Q R : A → Type 0} → ((a : A) → P a → Q a → R a) → (o : Result A E) → IfOk o P → IfOk o Q → IfOk o R
both_ok f (Ok a) h g = f a h g
both_ok f (Err e) h g = tt
