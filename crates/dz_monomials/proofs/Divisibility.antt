-- Division of the coefficients of polynomials that stand in a book.
use Rattle.std.proofs.Common.{◌≡◌, ◌≢◌, ◌<◌, ◌≤◌, ◌+◌, ◌/◌, ◌∙◌, ◌++◌, ℕ, zero, suc, max, List, [], ◌∷◌, map, length, take, drop, get_or, ℤ, pos, negsuc, neg_ℤ, int_div, unsigned_abs, refl, sym, ap, ap₂, subst, arith, add-one}
use Rattle.std.specs.Prelude.{All, slice_index_or, slice_set}
use Rattle.std.specs.Int.{◌∣◌}
use Rattle.std.proofs.Math.Nat.{div-le_self, div-one}
use Rattle.std.proofs.lemmas.List.Elements.{All-nil, All-cons, All-head, All-tail}
use Rattle.std.proofs.lemmas.Nat.Gcd.{le_of_dvd}
use Rattle.std.specs.declared.cmp.Ordering.{Ordering}
use Rattle.dz_algebra.specs.Amount.{greatest}
use Rattle.dz_algebra.specs.Gather.{onto}
use Rattle.dz_algebra.specs.Monomial.{Monomial}
use Rattle.dz_algebra.specs.Norm.{content, signed_content, divided, norm}
use Rattle.dz_algebra.specs.Polynomial.{Polynomial, IsPolynomial, PolynomialIn, scaled}
use Rattle.dz_algebra.specs.Size.{limit_of}
use Rattle.dz_algebra.proofs.NormLaws.{norm_is, unscaled_is}
use Rattle.dz_algebra.proofs.Norms.{content_divides, exact, content_positive}
use Rattle.dz_rank.specs.declared.symbols.Symbol.{Symbol}
use Rattle.dz_rank.specs.Rankings.{RankingValue, ranking_cmp}
use Rattle.dz_rank.specs.Symbols.{BelongsTo}
use Rattle.dz_monomials.specs.Keeping.{IsKeepable}
use Rattle.dz_monomials.specs.Degrees.{degrees}
use Rattle.dz_monomials.specs.Divisions.{DividesAll}
use Rattle.dz_monomials.specs.Keeping.{IsTabled}
use Rattle.dz_monomials.specs.Ranked.{symbols_under}

-- ---- the size of a content
positive_size : (c : ℤ) → c ≢ pos 0 → 0 < unsigned_abs c
positive_size (pos zero) n = absurd (n refl)
positive_size (pos (suc k)) n = omega arith
positive_size (negsuc k) n = omega arith

pub content_in_range : {M : Type 0} (t : M × ℤ) (p : List (M × ℤ)) → t.1 ≢ pos 0 → unsigned_abs t.1 ≤ greatest → content (t ∷ p) ≤ greatest
content_in_range t p n l = let h = le_of_dvd (positive_size t.1 n) (content_divides (t ∷ p)).0 in omega arith

-- ---- quotients
size_negated : (n : ℕ) → unsigned_abs (neg_ℤ (pos n)) ≡ n
size_negated zero = refl
size_negated (suc n) = refl

pub size_divided : (c k : ℤ) → unsigned_abs (int_div c k) ≤ unsigned_abs c
size_divided (pos a) (pos b) = div-le_self a b
size_divided (pos a) (negsuc b) = subst (λ n. n ≤ a) (sym (size_negated (a / suc b))) (div-le_self a (suc b))
size_divided (negsuc a) (pos b) = subst (λ n. n ≤ suc a) (sym (size_negated (suc a / b))) (div-le_self (suc a) b)
size_divided (negsuc a) (negsuc b) = div-le_self (suc a) (suc b)

divided_by_one : (c : ℤ) → int_div c (pos 1) ≡ c
divided_by_one (pos a) = ap pos (div-one a)
divided_by_one (negsuc a) = ap (λ n. neg_ℤ (pos n)) (div-one (suc a))

pub divided_one : {M : Type 0} (p : List (M × ℤ)) → divided (pos 1) p ≡ p
divided_one [] = refl
divided_one {M} (t ∷ p) = ap₂ (λ (c : ℤ) (q : List (M × ℤ)). (t.0, c) ∷ q) (divided_by_one t.1) (divided_one p)

keys_divided : {M : Type 0} (k : ℤ) (p : List (M × ℤ)) → map (λ t. t.0) (divided k p) ≡ map (λ t. t.0) p
keys_divided k [] = refl
keys_divided k (t ∷ p) = ap (λ l. t.0 ∷ l) (keys_divided k p)

degrees_divided : {S : Type 0} (cmp : S → S → Ordering) (k : ℤ) (p : Polynomial S) → degrees cmp (divided k p) ≡ degrees cmp p
degrees_divided cmp k [] = refl
degrees_divided cmp k (t ∷ p) = ap (onto cmp max t.0) (degrees_divided cmp k p)

divided_in : {S : Type 0} (P : S → Type 0) (k : ℤ) (p : Polynomial S) → PolynomialIn P p → PolynomialIn P (divided k p)
divided_in P k [] h = tt
divided_in P k (t ∷ p) h = (h.0, divided_in P k p h.1)

divided_in_range : {S : Type 0} (k : ℤ) (p : Polynomial S) → All (λ t. unsigned_abs t.1 ≤ greatest) p → All (λ t. unsigned_abs t.1 ≤ greatest) (divided k p)
divided_in_range {S} k [] h = All-nil {X = Monomial S × ℤ} (λ t. unsigned_abs t.1 ≤ greatest)
divided_in_range {S} k (t ∷ p) h =
    let l = size_divided t.1 k in
    let m : unsigned_abs t.1 ≤ greatest = All-head {X = Monomial S × ℤ} (λ t. unsigned_abs t.1 ≤ greatest) t p h in
    All-cons {X = Monomial S × ℤ} (λ t. unsigned_abs t.1 ≤ greatest) (t.0, int_div t.1 k) (divided k p) (omega arith) (divided_in_range k p (All-tail {X = Monomial S × ℤ} (λ t. unsigned_abs t.1 ≤ greatest) t p h))

-- an entry with its coefficients divided may stand in the book
divided_is_entry : (r : RankingValue) (p : Polynomial Symbol) (table : Monomial Symbol) (k : ℤ) (q : Polynomial Symbol) (table' : Monomial Symbol) → IsTabled r p table → IsPolynomial (ranking_cmp r) (divided k p) → q ≡ divided k p → table' ≡ table → IsTabled r q table'
divided_is_entry r p table k q table' h i e f =
    subst (λ q. IsTabled r q table') (sym e)
    (record {
      keepable = record {
        canonical = i;
        belongs = divided_in (BelongsTo r.signature) k p h.keepable.belongs;
        small = ap (limit_of (symbols_under r)) (keys_divided k p) ∙ h.keepable.small;
        in_range = divided_in_range k p h.keepable.in_range;
      };
      degrees_are = f ∙ h.degrees_are ∙ sym (degrees_divided (ranking_cmp r) k p);
    })

-- ---- norms
pub norm_divides : {M : Type 0} (p : List (M × ℤ)) → divided (signed_content p) p ≡ norm p
unfolding norm
norm_divides p = refl

pub norm_entry : (r : RankingValue) (p : Polynomial Symbol) (table : Monomial Symbol) (k : ℤ) (q : Polynomial Symbol) (table' : Monomial Symbol) → IsTabled r p table → k ≡ signed_content p → q ≡ divided k p → table' ≡ table → IsTabled r q table'
norm_entry r p table k q table' h e f g =
    divided_is_entry r p table k q table' h (subst (IsPolynomial (ranking_cmp r)) (sym (ap (λ k. divided k p) e ∙ norm_divides p)) (norm_is (ranking_cmp r) p h.keepable.canonical)) f g

pub norm_value : {M : Type 0} (k : ℤ) (p q : List (M × ℤ)) → k ≡ signed_content p → q ≡ divided k p → q ≡ norm p
norm_value k p q e f = f ∙ ap (λ k. divided k p) e ∙ norm_divides p

-- a polynomial with content 1 and a positive first coefficient is its norm
pub own_norm : {M : Type 0} (k : ℤ) (p : List (M × ℤ)) → k ≡ signed_content p → k ≡ pos 1 → norm p ≡ p
own_norm k p e f = sym (norm_divides p) ∙ ap (λ k. divided k p) (sym e ∙ f) ∙ divided_one p

-- ---- exact quotients
scaled_quotient : {S : Type 0} (k : ℕ) (p : Polynomial S) → DividesAll k p → scaled (pos k) (divided (pos k) p) ≡ p
scaled_quotient k [] h = refl
scaled_quotient {S} k (t ∷ p) h =
    ap₂ (λ (c : ℤ) (q : Polynomial S). (t.0, c) ∷ q)
    (sym (exact t.1 (pos k) k refl (All-head {X = Monomial S × ℤ} (λ t. k ∣ unsigned_abs t.1) t p h)))
    (scaled_quotient k p (All-tail {X = Monomial S × ℤ} (λ t. k ∣ unsigned_abs t.1) t p h))

pub quotient_entry : (r : RankingValue) (p : Polynomial Symbol) (table : Monomial Symbol) (k : ℕ) (q : Polynomial Symbol) (table' : Monomial Symbol) → IsTabled r p table → DividesAll k p → q ≡ divided (pos k) p → table' ≡ table → IsTabled r q table'
quotient_entry r p table k q table' h d f g =
    divided_is_entry r p table (pos k) q table' h
    (unscaled_is (ranking_cmp r) (pos k) (divided (pos k) p) (subst (IsPolynomial (ranking_cmp r)) (sym (scaled_quotient k p d)) h.keepable.canonical)) f g

-- a number that divides every coefficient of a polynomial that is not zero is in range
pub divisor_in_range : (r : RankingValue) (p : Polynomial Symbol) (k : ℕ) → IsKeepable r p → p ≢ [] → DividesAll k p → k ≤ greatest
divisor_in_range r [] k h n d = absurd (n refl)
divisor_in_range r (t ∷ p) k h n d =
    let l = le_of_dvd (positive_size t.1 h.canonical.0) (All-head {X = Monomial Symbol × ℤ} (λ t. k ∣ unsigned_abs t.1) t p d) in
    let m : unsigned_abs t.1 ≤ greatest = All-head {X = Monomial Symbol × ℤ} (λ t. unsigned_abs t.1 ≤ greatest) t p h.in_range in
    omega arith

-- no coefficient of a canonical polynomial is zero
pub coefficients_not_zero : {S : Type 0} (cmp : S → S → Ordering) (p : Polynomial S) → IsPolynomial cmp p → All (λ t. t.1 ≢ pos 0) p
coefficients_not_zero {S} cmp [] h = All-nil {X = Monomial S × ℤ} (λ t. t.1 ≢ pos 0)
coefficients_not_zero {S} cmp (t ∷ p) h = All-cons {X = Monomial S × ℤ} (λ t. t.1 ≢ pos 0) t p h.0 (coefficients_not_zero cmp p h.3)

-- ---- one more entry of a list
pub divided_more : {M : Type 0} (k : ℤ) (i : ℕ) (p : List (M × ℤ)) (t : M × ℤ) → i < length p → t ≡ get_or p i t → divided k (take i p) ++ (t.0, int_div t.1 k) ∷ [] ≡ divided k (take (i + 1) p)
divided_more {M} k i p t h e = rw add-one (at i p h e)
  where
    at : (i : ℕ) (p : List (M × ℤ)) → i < length p → t ≡ get_or p i t → divided k (take i p) ++ (t.0, int_div t.1 k) ∷ [] ≡ divided k (take (suc i) p)
    at i [] h e = absurd (omega arith)
    at zero (u ∷ p) h e = ap (λ x. (x.0, int_div x.1 k) ∷ []) e
    at (suc i) (u ∷ p) h e = ap (λ l. (u.0, int_div u.1 k) ∷ l) (at i p (omega arith) e)

-- the content of a polynomial in a book that is not zero is positive and in range
pub content_positive_in_range : (r : RankingValue) (p : Polynomial Symbol) → IsKeepable r p → p ≢ [] → (0 < content p) × (content p ≤ greatest)
content_positive_in_range r [] h n = absurd (n refl)
content_positive_in_range r (t ∷ p) h n = (content_positive t p h.canonical.0, content_in_range t p h.canonical.0 (All-head {X = Monomial Symbol × ℤ} (λ t. unsigned_abs t.1 ≤ greatest) t p h.in_range))

pub norm_of_nothing : {M : Type 0} (p : List (M × ℤ)) → length p ≡ 0 → norm p ≡ []
unfolding norm
norm_of_nothing [] e = refl
norm_of_nothing (t ∷ p) e = absurd (omega arith)

-- the norm of no terms is what it was
pub nothing_is_normal : {M : Type 0} (p : List (M × ℤ)) → length p ≡ 0 → p ≡ norm p
unfolding norm
nothing_is_normal [] e = refl
nothing_is_normal (t ∷ p) e = absurd (omega arith)

-- ---- division in place
-- at its beginning nothing is divided
pub none_divided : {M : Type 0} (k : ℤ) (p : List (M × ℤ)) → p ≡ divided k (take 0 p) ++ drop 0 p
none_divided k p = refl

-- with one more coefficient divided
pub one_divided : {M : Type 0} (k : ℤ) (i : ℕ) (p now : List (M × ℤ)) (t d : M × ℤ) → i < length p → now ≡ divided k (take i p) ++ drop i p → t ≡ ((slice_index_or now i d).0, int_div (slice_index_or now i d).1 k)
    → slice_set now i t ≡ divided k (take (i + 1) p) ++ drop (i + 1) p
one_divided {M} k i p now t d l e f = rw add-one (at i p now l e f)
  where
    at : (i : ℕ) (p now : List (M × ℤ)) → i < length p → now ≡ divided k (take i p) ++ drop i p → t ≡ ((slice_index_or now i d).0, int_div (slice_index_or now i d).1 k)
        → slice_set now i t ≡ divided k (take (suc i) p) ++ drop (suc i) p
    at i [] now l e f = absurd (omega arith)
    at zero (u ∷ p) now l e f = ap (λ xs. slice_set xs 0 t) e ∙ ap (λ x. x ∷ p) (f ∙ ap (λ xs. ((slice_index_or xs 0 d).0, int_div (slice_index_or xs 0 d).1 k)) e)
    at (suc i) (u ∷ p) [] l e f = absurd (nothing e)
      where
        nothing : {X : Type 0} {x : X} {xs : List X} → [] ≡ x ∷ xs → ⊥
        nothing e = cc
    at (suc i) (u ∷ p) (v ∷ now) l e f =
        let first : v ≡ (u.0, int_div u.1 k) = cc in
        let rest : now ≡ divided k (take i p) ++ drop i p = cc in
        ap₂ (λ x xs. x ∷ xs) first (at i p now (omega (arith, l)) rest f)

-- in the end every coefficient is divided
pub all_divided : {M : Type 0} (k : ℤ) (i : ℕ) (p now : List (M × ℤ)) → length p ≤ i → now ≡ divided k (take i p) ++ drop i p → now ≡ divided k p
all_divided {M} k i p now l e = e ∙ at i p l
  where
    at : (i : ℕ) (p : List (M × ℤ)) → length p ≤ i → divided k (take i p) ++ drop i p ≡ divided k p
    at zero [] l = refl
    at (suc i) [] l = refl
    at zero (u ∷ p) l = absurd (omega arith)
    at (suc i) (u ∷ p) l = ap (λ q. (u.0, int_div u.1 k) ∷ q) (at i p (omega (arith, l)))
