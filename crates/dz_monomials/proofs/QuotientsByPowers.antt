-- The quotient by the greatest power of a symbol may stand in a book, and is the polynomial itself where that power is the 0-th.
use Rattle.std.specs.Prelude.{All, get_or}
use Rattle.std.proofs.Common.{◌≡◌, ◌≢◌, ◌<◌, ◌≤◌, ◌+◌, ◌-◌, ◌∙◌, ◌++◌, ℕ, zero, suc, min, max, [], ◌∷◌, length, take, drop, ℤ, unsigned_abs, refl, sym, ap, ap₂, subst, arith, add-one}
use Rattle.std.proofs.lemmas.List.Elements.{All-nil, All-cons, All-head, All-tail}
use Rattle.std.specs.Cmp.{tied_itself}
use Rattle.std.specs.declared.cmp.Ordering.{Ordering}
use Rattle.std.specs.declared.cmp.Ordering.TheVariants.{Less, Equal, Greater}
use Rattle.std.specs.Ordering.{match_ordering}
use Rattle.dz_algebra.specs.Amount.{greatest}
use Rattle.dz_algebra.specs.Monomial.{Monomial, IsMonomial, MonomialIn, monomial_cmp, exponent, without}
use Rattle.dz_algebra.specs.Order.{IsOrder, IsAbove}
use Rattle.dz_algebra.specs.Parts.{degree}
use Rattle.dz_algebra.specs.Polynomial.{Polynomial, IsPolynomial, PolynomialIn}
use Rattle.dz_algebra.proofs.Canonical.{are_monomials, collected}
use Rattle.dz_algebra.proofs.Coefficients.{exponent_left, exponent_other, without_is}
use Rattle.dz_algebra.proofs.Inside.{in_with_power, in_without, occurs}
use Rattle.dz_algebra.proofs.Monomials.{exponent_with_power, same_exponents, with_power_is}
use Rattle.dz_algebra.proofs.MonomialOrder.{power_keeps_order}
use Rattle.dz_rank.specs.declared.symbols.Symbol.{Symbol}
use Rattle.dz_rank.specs.Rankings.{RankingValue, ranking_cmp}
use Rattle.dz_rank.specs.Symbols.{BelongsTo}
use Rattle.dz_monomials.specs.Keeping.{IsTabled, IsKeepable}
use Rattle.dz_monomials.specs.Degrees.{degrees}
use Rattle.dz_monomials.specs.Ranked.{symbols_under}
use Rattle.dz_monomials.specs.Terms as terms
use Rattle.dz_monomials.proofs.Below.{small_below}
use Rattle.dz_monomials.proofs.PowerCoefficients.{exponent_changed, lower_part, lower_without}
use Rattle.dz_monomials.proofs.SupportLaws.{greatest_exponent, keys_monomials}
use Rattle.dz_monomials.proofs.SymbolLaws.{ranking_order}
use Rattle.dz_monomials.specs.PowerDivision.{least_exponent, divisor_power, with_exponent, divided_by, quotient_by}

-- ---- the least exponent
module _ {S : Type 0} (cmp : S → S → Ordering) (v : S) where
  -- no exponent is less than zero
  least_zero : (p : Polynomial S) → least_exponent cmp v 0 p ≡ 0
  least_zero [] = refl
  least_zero (t ∷ p) = ap (λ k. least_exponent cmp v k p) (let e : min 0 (exponent cmp v t.0) ≡ 0 = omega arith in e) ∙ least_zero p

  -- the least exponent is no greater
  least_most : (k : ℕ) (p : Polynomial S) → least_exponent cmp v k p ≤ k
  least_most k [] = omega arith
  least_most k (t ∷ p) = let h = least_most (min k (exponent cmp v t.0)) p in omega (arith, h)

  -- the degree is no less than an exponent
  pub from_degree : (p : Polynomial S) → divisor_power cmp v p ≡ least_exponent cmp v (degree cmp v p) p
  from_degree [] = refl
  from_degree (t ∷ p) = ap (λ k. least_exponent cmp v k p) (let e : exponent cmp v t.0 ≡ min (max (exponent cmp v t.0) (degree cmp v p)) (exponent cmp v t.0) = omega arith in e)

  -- a list of terms from one of them on
  drop_here : (p : Polynomial S) (i : ℕ) (d : Monomial S × ℤ) → i < length p → d ≡ get_or p i d → drop i p ≡ d ∷ drop (i + 1) p
  drop_here p i d l e = rw add-one (at p i l e)
    where
      at : (p : Polynomial S) (i : ℕ) → i < length p → d ≡ get_or p i d → drop i p ≡ d ∷ drop (suc i) p
      at [] i l e = absurd (omega arith)
      at (t ∷ p) zero l e = ap (λ x. x ∷ p) (sym e)
      at (t ∷ p) (suc i) l e = at p i (omega arith) e

  -- nothing is left past the end
  drop_end : (p : Polynomial S) (i : ℕ) → length p ≤ i → drop i p ≡ []
  drop_end [] zero l = refl
  drop_end [] (suc i) l = refl
  drop_end (t ∷ p) zero l = absurd (omega arith)
  drop_end (t ∷ p) (suc i) l = drop_end p i (omega arith)

  -- one term more
  pub least_more : (p : Polynomial S) (i k : ℕ) (d : Monomial S × ℤ) → i < length p → d ≡ get_or p i d → least_exponent cmp v k (drop i p) ≡ least_exponent cmp v (min k (exponent cmp v d.0)) (drop (i + 1) p)
  least_more p i k d l e = ap (least_exponent cmp v k) (drop_here p i d l e)

  -- no term is left
  pub least_end : (p : Polynomial S) (i k : ℕ) → length p ≤ i → least_exponent cmp v k (drop i p) ≡ k
  least_end p i k l = ap (least_exponent cmp v k) (drop_end p i l)

  -- no less exponent can come
  pub least_reached : (p : Polynomial S) (i k : ℕ) → k ≡ 0 → least_exponent cmp v k (drop i p) ≡ 0
  least_reached p i k e = ap (λ k. least_exponent cmp v k (drop i p)) e ∙ least_zero (drop i p)

  -- each exponent is at least k
  abbrev IsLow : ℕ → Polynomial S → Type 0
  IsLow k [] = Unit {0}
  IsLow k (t ∷ p) = (k ≤ exponent cmp v t.0) × IsLow k p

  -- no exponent is less than the least
  least_low : (k : ℕ) (p : Polynomial S) → IsLow (least_exponent cmp v k p) p
  least_low k [] = tt
  least_low k (t ∷ p) = let h = least_most (min k (exponent cmp v t.0)) p in (omega (arith, h), least_low (min k (exponent cmp v t.0)) p)

  -- nor than the power that divides
  power_low : (p : Polynomial S) → IsLow (divisor_power cmp v p) p
  power_low [] = tt
  power_low (t ∷ p) = (least_most (exponent cmp v t.0) p, least_low (exponent cmp v t.0) p)

  -- so it is at a place
  low_at : (k : ℕ) (p : Polynomial S) (i : ℕ) (d : Monomial S × ℤ) → i < length p → d ≡ get_or p i d → IsLow k p → k ≤ exponent cmp v d.0
  low_at k [] i d l e h = absurd (omega arith)
  low_at k (t ∷ p) zero d l e h = subst (λ (x : Monomial S × ℤ). k ≤ exponent cmp v x.0) (sym e) h.0
  low_at k (t ∷ p) (suc i) d l e h = low_at k p i d (omega arith) e h.1

  -- no exponent is below the power that divides
  pub power_at : (k : ℕ) (p : Polynomial S) (i : ℕ) (d : Monomial S × ℤ) → k ≡ divisor_power cmp v p → i < length p → d ≡ get_or p i d → k ≤ exponent cmp v d.0
  power_at k p i d e l is = low_at k p i d l is (subst (λ n. IsLow n p) (sym e) (power_low p))

  -- the terms of two lists
  divided-append : (k : ℕ) (p q : Polynomial S) → divided_by cmp v k (p ++ q) ≡ divided_by cmp v k p ++ divided_by cmp v k q
  divided-append k [] q = refl
  divided-append k (t ∷ p) q = ap (λ l. (with_exponent cmp v (exponent cmp v t.0 - k) (without cmp v t.0), t.1) ∷ l) (divided-append k p q)

  -- a list of terms up to one of them
  take_here : (p : Polynomial S) (i : ℕ) (d : Monomial S × ℤ) → i < length p → d ≡ get_or p i d → take (i + 1) p ≡ take i p ++ d ∷ []
  take_here p i d l e = rw add-one (at p i l e)
    where
      at : (p : Polynomial S) (i : ℕ) → i < length p → d ≡ get_or p i d → take (suc i) p ≡ take i p ++ d ∷ []
      at [] i l e = absurd (omega arith)
      at (t ∷ p) zero l e = ap (λ x. x ∷ []) (sym e)
      at (t ∷ p) (suc i) l e = ap (λ l. t ∷ l) (at p i (omega arith) e)

module _ {S : Type 0} {cmp : S → S → Ordering} (order : IsOrder cmp) (v : S) where
  -- one monomial divided by a power
  changed : (e : ℕ) (m : Monomial S) → IsMonomial cmp m → e ≤ exponent cmp v m → terms.with_exponent cmp v e m ≡ with_exponent cmp v e (without cmp v m)
  changed zero m h l = refl
  changed (suc e) m h l = exponent_changed order v e m h (omega (arith, l))

  -- one term more
  pub divided_more : (k : ℕ) (p : Polynomial S) (i : ℕ) (d : Monomial S × ℤ) (e : ℕ) (n : Monomial S) (c : ℤ) → i < length p → d ≡ get_or p i d → IsMonomial cmp d.0 → e ≡ exponent cmp v d.0 - k → n ≡ terms.with_exponent cmp v e d.0 → c ≡ d.1
      → divided_by cmp v k (take i p) ++ (n, c) ∷ [] ≡ divided_by cmp v k (take (i + 1) p)
  divided_more k p i d e n c l is h f g j =
      let one : n ≡ with_exponent cmp v (exponent cmp v d.0 - k) (without cmp v d.0) = g ∙ ap (λ e. terms.with_exponent cmp v e d.0) f ∙ changed (exponent cmp v d.0 - k) d.0 h (omega arith) in
      ap₂ (λ n (c : ℤ). divided_by cmp v k (take i p) ++ (n, c) ∷ []) one j
      ∙ sym (ap (divided_by cmp v k) (take_here cmp v p i d l is) ∙ divided-append cmp v k (take i p) (d ∷ []))

  -- ---- one monomial
  abbrev lowered : ℕ → Monomial S → Monomial S
  lowered k m = with_exponent cmp v (exponent cmp v m - k) (without cmp v m)

  -- a power keeps monomials
  with_exponent_is : (e : ℕ) (m : Monomial S) → IsMonomial cmp m → IsMonomial cmp (with_exponent cmp v e m)
  with_exponent_is zero m h = h
  with_exponent_is (suc e) m h = with_power_is order v (suc e) m (omega arith) h

  -- so does its division
  lowered_is : (k : ℕ) (m : Monomial S) → IsMonomial cmp m → IsMonomial cmp (lowered k m)
  lowered_is k m h = with_exponent_is (exponent cmp v m - k) (without cmp v m) (without_is order v m h)

  -- the exponents of a monomial times a power
  exponent_with : (u : S) (e : ℕ) (m : Monomial S) → exponent cmp u (with_exponent cmp v e m) ≡ match_ordering (cmp u v) 0 e 0 + exponent cmp u m
  exponent_with u zero m = elim (cmp u v) as (λ o. exponent cmp u m ≡ match_ordering o 0 0 0 + exponent cmp u m) [ Less ↦ omega arith | Equal ↦ omega arith | Greater ↦ omega arith ]
  exponent_with u (suc e) m = exponent_with_power order u v (suc e) m

  -- the power put back
  put_back : (k : ℕ) (m : Monomial S) → IsMonomial cmp m → k ≤ exponent cmp v m → with_exponent cmp v k (lowered k m) ≡ m
  put_back k m h l = same_exponents order (with_exponent cmp v k (lowered k m)) m (with_exponent_is k (lowered k m) (lowered_is k m h)) h at
    where
      by_order : (u : S) (o : Ordering) → cmp u v ≡ o → exponent cmp u (with_exponent cmp v k (lowered k m)) ≡ match_ordering (cmp u v) 0 k 0 + exponent cmp u (lowered k m) → exponent cmp u (lowered k m) ≡ match_ordering (cmp u v) 0 (exponent cmp v m - k) 0 + exponent cmp u (without cmp v m) → exponent cmp u (with_exponent cmp v k (lowered k m)) ≡ exponent cmp u m
      by_order u Less f a b =
          let x = a ∙ ap (λ o. match_ordering o 0 k 0 + exponent cmp u (lowered k m)) f in
          let y = b ∙ ap (λ o. match_ordering o 0 (exponent cmp v m - k) 0 + exponent cmp u (without cmp v m)) f in
          let z = exponent_other order v u (λ g. let w : cmp u v ≡ Equal = ap (λ x. cmp x v) (sym (order.same v u g)) ∙ tied_itself order.total v in let n : Less ≡ Equal = sym f ∙ w in cc) m in
          omega (arith, x, y, z)
      by_order u Greater f a b =
          let x = a ∙ ap (λ o. match_ordering o 0 k 0 + exponent cmp u (lowered k m)) f in
          let y = b ∙ ap (λ o. match_ordering o 0 (exponent cmp v m - k) 0 + exponent cmp u (without cmp v m)) f in
          let z = exponent_other order v u (λ g. let w : cmp u v ≡ Equal = ap (λ x. cmp x v) (sym (order.same v u g)) ∙ tied_itself order.total v in let n : Greater ≡ Equal = sym f ∙ w in cc) m in
          omega (arith, x, y, z)
      by_order u Equal f a b =
          let x = a ∙ ap (λ o. match_ordering o 0 k 0 + exponent cmp u (lowered k m)) f in
          let y = b ∙ ap (λ o. match_ordering o 0 (exponent cmp v m - k) 0 + exponent cmp u (without cmp v m)) f in
          let same : u ≡ v = order.same u v f in
          let z : exponent cmp u (without cmp v m) ≡ 0 = ap (λ x. exponent cmp x (without cmp v m)) same ∙ exponent_left order v m in
          let w : exponent cmp u m ≡ exponent cmp v m = ap (λ x. exponent cmp x m) same in
          omega (arith, x, y, z, w, l)

      at : (u : S) → exponent cmp u (with_exponent cmp v k (lowered k m)) ≡ exponent cmp u m
      at u = by_order u (cmp u v) refl (exponent_with u k (lowered k m)) (exponent_with u (exponent cmp v m - k) (without cmp v m))

  -- a power keeps their order
  with_exponent_order : (k : ℕ) (m n : Monomial S) → IsMonomial cmp m → IsMonomial cmp n → monomial_cmp cmp (with_exponent cmp v k m) (with_exponent cmp v k n) ≡ monomial_cmp cmp m n
  with_exponent_order zero m n h i = refl
  with_exponent_order (suc k) m n h i = power_keeps_order order v (suc k) (omega arith) m n h i

  -- the order stays
  lowered_order : (k : ℕ) (m n : Monomial S) → IsMonomial cmp m → IsMonomial cmp n → k ≤ exponent cmp v m → k ≤ exponent cmp v n → monomial_cmp cmp (lowered k m) (lowered k n) ≡ monomial_cmp cmp m n
  lowered_order k m n h i l j = sym (with_exponent_order k (lowered k m) (lowered k n) (lowered_is k m h) (lowered_is k n i)) ∙ ap₂ (monomial_cmp cmp) (put_back k m h l) (put_back k n i j)

  -- no exponent is raised
  lowered_exponent : (u : S) (k : ℕ) (m : Monomial S) → exponent cmp u (lowered k m) ≤ exponent cmp u m
  lowered_exponent u k m = by_exponent (exponent cmp v m - k) (omega arith)
    where
      by_exponent : (e : ℕ) → e ≤ exponent cmp v m → exponent cmp u (with_exponent cmp v e (without cmp v m)) ≤ exponent cmp u m
      by_exponent zero l = lower_without order v u m
      by_exponent (suc e) l = lower_part order v u (suc e) m l

  -- no symbol is new
  lowered_in : (P : S → Type 0) (k : ℕ) (m : Monomial S) → MonomialIn P m → MonomialIn P (lowered k m)
  lowered_in P k m h = by_exponent (exponent cmp v m - k) (λ z. omega arith)
    where
      by_exponent : (e : ℕ) → (e ≢ 0 → exponent cmp v m ≢ 0) → MonomialIn P (with_exponent cmp v e (without cmp v m))
      by_exponent zero n = in_without cmp P v m h
      by_exponent (suc e) n = in_with_power cmp P v (suc e) (without cmp v m) (occurs order P v m (n (λ z. cc)) h) (in_without cmp P v m h)

  -- ---- a polynomial
  divided_is : (k : ℕ) (p : Polynomial S) → IsPolynomial cmp p → IsLow cmp v k p → IsPolynomial cmp (divided_by cmp v k p)
  divided_is k [] h l = tt
  divided_is k (t ∷ p) h l = (h.0, lowered_is k t.0 h.1, above t.0 p h.1 h.3 h.2 l.0 l.1, divided_is k p h.3 l.1)
    where
      above : (m : Monomial S) (p : Polynomial S) → IsMonomial cmp m → IsPolynomial cmp p → IsAbove (monomial_cmp cmp) m p → k ≤ exponent cmp v m → IsLow cmp v k p → IsAbove (monomial_cmp cmp) (lowered k m) (divided_by cmp v k p)
      above m [] i g a x y = tt
      above m (u ∷ p) i g a x y = (lowered_order k m u.0 i g.1 x y.0 ∙ a.0, above m p i g.3 a.1 x y.1)

  -- no exponent is raised
  divided_exponents : (u : S) (k : ℕ) (p : Polynomial S) → greatest_exponent cmp u (divided_by cmp v k p) ≤ greatest_exponent cmp u p
  divided_exponents u k [] = omega arith
  divided_exponents u k (t ∷ p) = let h = divided_exponents u k p in let g = lowered_exponent u k t.0 in omega (arith, h, g)

  -- no symbol is new
  divided_in : (P : S → Type 0) (k : ℕ) (p : Polynomial S) → PolynomialIn P p → PolynomialIn P (divided_by cmp v k p)
  divided_in P k [] h = tt
  divided_in P k (t ∷ p) h = (lowered_in P k t.0 h.0, divided_in P k p h.1)

  -- there are as many terms
  divided_length : (k : ℕ) (p : Polynomial S) → length (divided_by cmp v k p) ≡ length p
  divided_length k [] = refl
  divided_length k (t ∷ p) = ap suc (divided_length k p)

  -- a coefficient is in range
  abbrev IsInRange : Monomial S × ℤ → Type 0
  IsInRange t = unsigned_abs t.1 ≤ greatest

  -- the coefficients stay in range
  divided_in_range : (k : ℕ) (p : Polynomial S) → All IsInRange p → All IsInRange (divided_by cmp v k p)
  divided_in_range k [] h = All-nil {X = Monomial S × ℤ} IsInRange
  divided_in_range k (t ∷ p) h =
      let first : unsigned_abs t.1 ≤ greatest = All-head {X = Monomial S × ℤ} IsInRange t p h in
      All-cons {X = Monomial S × ℤ} IsInRange (lowered k t.0, t.1) (divided_by cmp v k p) first (divided_in_range k p (All-tail {X = Monomial S × ℤ} IsInRange t p h))

  -- the terms that are divided are the quotient
  pub quotient_is : (k : ℕ) (p : Polynomial S) → IsPolynomial cmp p → k ≡ divisor_power cmp v p → quotient_by cmp v p ≡ divided_by cmp v k p
  quotient_is k p h e =
      collected order (divided_by cmp v (divisor_power cmp v p) p) (divided_is (divisor_power cmp v p) p h (power_low cmp v p))
      ∙ ap (λ k. divided_by cmp v k p) (sym e)

  -- the 0-th power changes nothing
  divided_zero : (p : Polynomial S) → IsPolynomial cmp p → divided_by cmp v 0 p ≡ p
  divided_zero [] h = refl
  divided_zero (t ∷ p) h = ap₂ (λ m q. (m, t.1) ∷ q) (put_back 0 t.0 h.1 (omega arith)) (divided_zero p h.3)

-- where only the 0-th power divides, the quotient is the polynomial
pub quotient_itself : (r : RankingValue) (v : Symbol) (p : Polynomial Symbol) (table : Monomial Symbol) → IsTabled r p table → 0 ≡ divisor_power (ranking_cmp r) v p → quotient_by (ranking_cmp r) v p ≡ p
quotient_itself r v p table h e = quotient_is (ranking_order r) v 0 p h.keepable.canonical e ∙ divided_zero (ranking_order r) v p h.keepable.canonical

-- the terms that are divided are the quotient
pub quotient_terms : (r : RankingValue) (v : Symbol) (k : ℕ) (p q : Polynomial Symbol) (table : Monomial Symbol) → IsTabled r p table → k ≡ divisor_power (ranking_cmp r) v p → q ≡ divided_by (ranking_cmp r) v k p → q ≡ quotient_by (ranking_cmp r) v p
quotient_terms r v k p q table h e f = f ∙ sym (quotient_is (ranking_order r) v k p h.keepable.canonical e)

-- and may stand in a book
pub quotient_is_entry : (r : RankingValue) (v : Symbol) (k : ℕ) (p q : Polynomial Symbol) (table table' : Monomial Symbol) → IsTabled r p table → k ≡ divisor_power (ranking_cmp r) v p → q ≡ divided_by (ranking_cmp r) v k p → table' ≡ degrees (ranking_cmp r) q → IsTabled r q table'
quotient_is_entry r v k p q table table' h e f g =
    let order = ranking_order r in
    let cmp = ranking_cmp r in
    let c = divided_is order v k p h.keepable.canonical (subst (λ n. IsLow cmp v n p) (sym e) (power_low cmp v p)) in
    record {
      keepable = subst (IsKeepable r) (sym f) (record {
        canonical = c;
        belongs = divided_in order v (BelongsTo r.signature) k p h.keepable.belongs;
        small = small_below (symbols_under r) order (divided_by cmp v k p) p (keys_monomials order (divided_by cmp v k p) (are_monomials order (divided_by cmp v k p) c)) (keys_monomials order p (are_monomials order p h.keepable.canonical)) (λ u. divided_exponents order v u k p) (let n = divided_length order v k p in omega (arith, n)) h.keepable.small;
        in_range = divided_in_range order v k p h.keepable.in_range;
      });
      degrees_are = g;
    }
