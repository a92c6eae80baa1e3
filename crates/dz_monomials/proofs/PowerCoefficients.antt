-- The coefficient of a power of a symbol, times a lower power of it, may stand in a book.
use Rattle.std.proofs.Common.{◌≡◌, ◌≢◌, ◌<◌, ◌≤◌, ◌+◌, ◌∙◌, ◌++◌, ◌==◌, ℕ, zero, suc, max, Bool, true, false, cond, List, [], ◌∷◌, length, take, get_or, ℤ, unsigned_abs, refl, sym, ap, subst, arith, add-one}
use Rattle.std.specs.Prelude.{All}
use Rattle.std.proofs.lemmas.Bool.{eq-eqb, eqb-true}
use Rattle.std.proofs.lemmas.List.Elements.{All-nil, All-cons, All-head, All-tail}
use Rattle.std.specs.declared.cmp.Ordering.{Ordering}
use Rattle.std.specs.declared.cmp.Ordering.TheVariants.{Less, Equal, Greater}
use Rattle.std.specs.Ordering.{match_ordering}
use Rattle.dz_algebra.specs.Amount.{greatest}
use Rattle.dz_algebra.specs.Monomial.{Monomial, IsMonomial, monomial_cmp, exponent, with_power, without}
use Rattle.dz_algebra.specs.Order.{IsOrder, IsAbove}
use Rattle.dz_algebra.specs.Parts.{coefficient_of}
use Rattle.dz_algebra.specs.Polynomial.{Polynomial, IsPolynomial, PolynomialIn}
use Rattle.dz_algebra.proofs.Canonical.{are_monomials}
use Rattle.dz_algebra.proofs.Coefficients.{coefficient_of_is, exponent_left, exponent_other, without_nothing}
use Rattle.dz_algebra.proofs.Inside.{in_with_power, in_without, occurs}
use Rattle.dz_algebra.proofs.Monomials.{exponent_below, exponent_with_power, above_more, with_power_is}
use Rattle.dz_algebra.proofs.MonomialOrder.{power_keeps_order}
use Rattle.dz_rank.specs.declared.symbols.Symbol.{Symbol}
use Rattle.dz_rank.specs.Rankings.{RankingValue, ranking_cmp}
use Rattle.dz_rank.specs.Symbols.{BelongsTo}
use Rattle.dz_monomials.specs.Keeping.{IsTabled, IsKeepable}
use Rattle.dz_monomials.specs.Degrees.{degrees}
use Rattle.dz_monomials.specs.Ranked.{symbols_under}
use Rattle.dz_monomials.specs.Terms.{times_power, with_exponent}
use Rattle.dz_monomials.proofs.Below.{small_below}
use Rattle.dz_monomials.proofs.SupportLaws.{greatest_exponent, keys_monomials}
use Rattle.dz_monomials.proofs.SymbolLaws.{ranking_order}

-- ---- one more entry of a list
take_here : {X : Type 0} (i : ℕ) (xs : List X) (x : X) → i < length xs → x ≡ get_or xs i x → take (i + 1) xs ≡ take i xs ++ x ∷ []
take_here {X} i xs x h e = rw add-one (at i xs h e)
  where
    at : (i : ℕ) (xs : List X) → i < length xs → x ≡ get_or xs i x → take (suc i) xs ≡ take i xs ++ x ∷ []
    at i [] h e = absurd (omega arith)
    at zero (y ∷ xs) h e = ap (λ z. z ∷ []) (sym e)
    at (suc i) (y ∷ xs) h e = ap (λ l. y ∷ l) (at i xs (omega arith) e)

same_default : {X : Type 0} (xs : List X) (i : ℕ) (d e : X) → i < length xs → get_or xs i d ≡ get_or xs i e
same_default [] i d e h = absurd (omega arith)
same_default (x ∷ xs) zero d e h = refl
same_default (x ∷ xs) (suc i) d e h = same_default xs i d e (omega arith)

-- ---- a monomial with another exponent of s
module _ {S : Type 0} (cmp : S → S → Ordering) (s : S) where
  without-append : (m n : Monomial S) → without cmp s (m ++ n) ≡ without cmp s m ++ without cmp s n
  without-append [] n = refl
  without-append (p ∷ m) n =
      elim (cmp s p.0) as (λ o. match_ordering o (p ∷ without cmp s (m ++ n)) (without cmp s (m ++ n)) (p ∷ without cmp s (m ++ n)) ≡ match_ordering o (p ∷ without cmp s m) (without cmp s m) (p ∷ without cmp s m) ++ without cmp s n) [
        | Less ↦ ap (λ l. p ∷ l) (without-append m n)
        | Equal ↦ without-append m n
        | Greater ↦ ap (λ l. p ∷ l) (without-append m n)
      ]

  with_exponent-append : (e : ℕ) (m n : Monomial S) → with_exponent cmp s e (m ++ n) ≡ with_exponent cmp s e m ++ with_exponent cmp s e n
  with_exponent-append zero m n = without-append m n
  with_exponent-append (suc e) [] n = refl
  with_exponent-append (suc e) (p ∷ m) n =
      elim (cmp s p.0) as (λ o. match_ordering o (p ∷ with_exponent cmp s (suc e) (m ++ n)) ((p.0, suc e) ∷ with_exponent cmp s (suc e) (m ++ n)) (p ∷ with_exponent cmp s (suc e) (m ++ n)) ≡ match_ordering o (p ∷ with_exponent cmp s (suc e) m) ((p.0, suc e) ∷ with_exponent cmp s (suc e) m) (p ∷ with_exponent cmp s (suc e) m) ++ with_exponent cmp s (suc e) n) [
        | Less ↦ ap (λ l. p ∷ l) (with_exponent-append (suc e) m n)
        | Equal ↦ ap (λ l. (p.0, suc e) ∷ l) (with_exponent-append (suc e) m n)
        | Greater ↦ ap (λ l. p ∷ l) (with_exponent-append (suc e) m n)
      ]

  -- with one more power
  pub power_more : (e : ℕ) (m : Monomial S) (i : ℕ) (d : S × ℕ) → i < length m → with_exponent cmp s e (take i m) ++ with_exponent cmp s e (get_or m i d ∷ []) ≡ with_exponent cmp s e (take (i + 1) m)
  power_more e m i d h = sym (ap (with_exponent cmp s e) (take_here i m (get_or m i d) h (same_default m i d (get_or m i d) h)) ∙ with_exponent-append e (take i m) (get_or m i d ∷ []))

module _ {S : Type 0} {cmp : S → S → Ordering} (order : IsOrder cmp) (s : S) where
  -- where s is above a monomial, nothing changes but what is put before it
  above_kept : (e : ℕ) (m : Monomial S) → IsAbove cmp s m → with_exponent cmp s (suc e) m ≡ m
  above_kept e [] h = refl
  above_kept e (p ∷ m) h = ap (λ o. match_ordering o (p ∷ with_exponent cmp s (suc e) m) ((p.0, suc e) ∷ with_exponent cmp s (suc e) m) (p ∷ with_exponent cmp s (suc e) m)) h.0 ∙ ap (λ l. p ∷ l) (above_kept e m h.1)

  above_put : (e : ℕ) (m : Monomial S) → IsAbove cmp s m → with_power cmp s e m ≡ (s, e) ∷ m
  above_put e [] h = refl
  above_put e (p ∷ m) h = ap (λ o. match_ordering o (p ∷ with_power cmp s e m) ((p.0, e + p.1) ∷ m) ((s, e) ∷ p ∷ m)) h.0

  -- another exponent is that power of s on the monomial without it
  pub exponent_changed : (e : ℕ) (m : Monomial S) → IsMonomial cmp m → 0 < exponent cmp s m → with_exponent cmp s (suc e) m ≡ with_power cmp s (suc e) (without cmp s m)
  exponent_changed e [] h l = absurd (omega (arith, l))
  exponent_changed e (p ∷ m) h l = by_order (cmp s p.0) refl (exponent_changed e m h.2)
    where
      by_order : (o : Ordering) → cmp s p.0 ≡ o → (0 < exponent cmp s m → with_exponent cmp s (suc e) m ≡ with_power cmp s (suc e) (without cmp s m)) → match_ordering (cmp s p.0) (p ∷ with_exponent cmp s (suc e) m) ((p.0, suc e) ∷ with_exponent cmp s (suc e) m) (p ∷ with_exponent cmp s (suc e) m) ≡ with_power cmp s (suc e) (match_ordering (cmp s p.0) (p ∷ without cmp s m) (without cmp s m) (p ∷ without cmp s m))
      by_order Less f rest =
          let occurs : 0 < exponent cmp s m = subst (λ x. 0 < x) (ap (λ o. match_ordering o (exponent cmp s m) (p.1 + exponent cmp s m) (exponent cmp s m)) f) l in
          ap (λ o. match_ordering o (p ∷ with_exponent cmp s (suc e) m) ((p.0, suc e) ∷ with_exponent cmp s (suc e) m) (p ∷ with_exponent cmp s (suc e) m)) f ∙ ap (λ k. p ∷ k) (rest occurs)
          ∙ sym (ap (λ o. match_ordering o (p ∷ with_power cmp s (suc e) (without cmp s m)) ((p.0, suc e + p.1) ∷ without cmp s m) ((s, suc e) ∷ p ∷ without cmp s m)) f)
          ∙ ap (λ o. with_power cmp s (suc e) (match_ordering o (p ∷ without cmp s m) (without cmp s m) (p ∷ without cmp s m))) (sym f)
      by_order Equal f rest =
          let same : s ≡ p.0 = order.same s p.0 f in
          let above : IsAbove cmp s m = subst (λ x. IsAbove cmp x m) (sym same) h.1 in
          let nothing : without cmp s m ≡ m = without_nothing order s m h.2 (exponent_below order s m above) in
          ap (λ o. match_ordering o (p ∷ with_exponent cmp s (suc e) m) ((p.0, suc e) ∷ with_exponent cmp s (suc e) m) (p ∷ with_exponent cmp s (suc e) m)) f ∙ ap (λ k. (p.0, suc e) ∷ k) (above_kept e m above) ∙ ap (λ x. (x, suc e) ∷ m) (sym same)
          ∙ sym (above_put (suc e) m above) ∙ ap (with_power cmp s (suc e)) (sym nothing)
          ∙ ap (λ o. with_power cmp s (suc e) (match_ordering o (p ∷ without cmp s m) (without cmp s m) (p ∷ without cmp s m))) (sym f)
      by_order Greater f rest =
          let none : exponent cmp s (p ∷ m) ≡ 0 = exponent_below order s (p ∷ m) (f, above_more order s p.0 m f h.1) in
          absurd (omega (arith, none, l))

  -- ---- one term
  part_of_term : (m n : Monomial S) (c : ℤ) (k e : ℕ) → IsMonomial cmp m → exponent cmp s m ≡ k → e ≤ k → n ≡ with_exponent cmp s e m → (n, c) ∷ [] ≡ times_power cmp s e (coefficient_of cmp s k ((m, c) ∷ []))
  part_of_term m n c k e h f l g = ap (λ x. (x, c) ∷ []) g ∙ by_exponent e l ∙ ap (times_power cmp s e) (sym (ap (λ b. cond b ((without cmp s m, c) ∷ []) []) (eq-eqb (exponent cmp s m) k f)))
    where
      by_exponent : (e : ℕ) → e ≤ k → (with_exponent cmp s e m, c) ∷ [] ≡ times_power cmp s e ((without cmp s m, c) ∷ [])
      by_exponent zero l = refl
      by_exponent (suc e) l = ap (λ x. (x, c) ∷ []) (exponent_changed e m h (omega (arith, f, l)))

-- the part of a term with the exponent k
pub power_left : (r : RankingValue) (s : Symbol) (m n : Monomial Symbol) (c : ℤ) (k e : ℕ) → IsMonomial (ranking_cmp r) m → exponent (ranking_cmp r) s m ≡ k → e ≤ k → n ≡ with_exponent (ranking_cmp r) s e m → (n, c) ∷ [] ≡ times_power (ranking_cmp r) s e (coefficient_of (ranking_cmp r) s k ((m, c) ∷ []))
power_left r s m n c k e h f l g = part_of_term (ranking_order r) s m n c k e h f l g

-- a term with another exponent of s adds nothing
pub no_power : {S : Type 0} (cmp : S → S → Ordering) (s : S) (m : Monomial S) (c : ℤ) (k e : ℕ) → exponent cmp s m ≢ k → [] ≡ times_power cmp s e (coefficient_of cmp s k ((m, c) ∷ []))
no_power cmp s m c k e n = by_test (exponent cmp s m == k) refl
  where
    nothing : (e : ℕ) → [] ≡ times_power cmp s e []
    nothing zero = refl
    nothing (suc e) = refl

    by_test : (b : Bool) → (exponent cmp s m == k) ≡ b → [] ≡ times_power cmp s e (cond (exponent cmp s m == k) ((without cmp s m, c) ∷ []) [])
    by_test true f = absurd (n (eqb-true (exponent cmp s m) k f))
    by_test false f = nothing e ∙ ap (λ b. times_power cmp s e (cond b ((without cmp s m, c) ∷ []) [])) (sym f)

-- ---- a polynomial with one more term
module _ {S : Type 0} (cmp : S → S → Ordering) (s : S) where
  coefficient-append : (k : ℕ) (p q : Polynomial S) → coefficient_of cmp s k (p ++ q) ≡ coefficient_of cmp s k p ++ coefficient_of cmp s k q
  coefficient-append k [] q = refl
  coefficient-append k (t ∷ p) q =
      elim (exponent cmp s t.0 == k) as (λ b. cond b ((without cmp s t.0, t.1) ∷ coefficient_of cmp s k (p ++ q)) (coefficient_of cmp s k (p ++ q)) ≡ cond b ((without cmp s t.0, t.1) ∷ coefficient_of cmp s k p) (coefficient_of cmp s k p) ++ coefficient_of cmp s k q) [
        | true ↦ ap (λ l. (without cmp s t.0, t.1) ∷ l) (coefficient-append k p q)
        | false ↦ coefficient-append k p q
      ]

  times-append : (e : ℕ) (p q : Polynomial S) → times_power cmp s e (p ++ q) ≡ times_power cmp s e p ++ times_power cmp s e q
  times-append zero p q = refl
  times-append (suc e) [] q = refl
  times-append (suc e) (t ∷ p) q = ap (λ l. (with_power cmp s (suc e) t.0, t.1) ∷ l) (times-append (suc e) p q)

  pub term_more : (k e : ℕ) (p : Polynomial S) (i : ℕ) (t : Monomial S × ℤ) → i < length p → t ≡ get_or p i t → times_power cmp s e (coefficient_of cmp s k (take i p)) ++ times_power cmp s e (coefficient_of cmp s k (t ∷ [])) ≡ times_power cmp s e (coefficient_of cmp s k (take (i + 1) p))
  term_more k e p i t h g =
      sym (ap (λ l. times_power cmp s e (coefficient_of cmp s k l)) (take_here i p t h g)
      ∙ ap (times_power cmp s e) (coefficient-append k (take i p) (t ∷ []))
      ∙ times-append e (coefficient_of cmp s k (take i p)) (coefficient_of cmp s k (t ∷ [])))

  -- ---- what the part keeps of the polynomial
  fewer_terms : (k e : ℕ) (p : Polynomial S) → length (times_power cmp s e (coefficient_of cmp s k p)) ≤ length p
  fewer_terms k e p = let h = as_many e (coefficient_of cmp s k p) in let g = fewer p in omega (arith, h, g)
    where
      as_many : (e : ℕ) (p : Polynomial S) → length (times_power cmp s e p) ≡ length p
      as_many zero p = refl
      as_many (suc e) [] = refl
      as_many (suc e) (t ∷ p) = ap suc (as_many (suc e) p)

      fewer : (p : Polynomial S) → length (coefficient_of cmp s k p) ≤ length p
      fewer [] = omega arith
      fewer (t ∷ p) = let h = fewer p in elim (exponent cmp s t.0 == k) as (λ b. length (cond b ((without cmp s t.0, t.1) ∷ coefficient_of cmp s k p) (coefficient_of cmp s k p)) ≤ length (t ∷ p)) [ true ↦ omega arith | false ↦ omega arith ]

abbrev IsInRange : {S : Type 0} → Monomial S × ℤ → Type 0
IsInRange t = unsigned_abs t.1 ≤ greatest

part_in_range : {S : Type 0} (cmp : S → S → Ordering) (s : S) (k e : ℕ) (p : Polynomial S) → All IsInRange p → All IsInRange (times_power cmp s e (coefficient_of cmp s k p))
part_in_range {S} cmp s k e p h = multiplied e (coefficient_of cmp s k p) (coefficient p h)
  where
    coefficient : (p : Polynomial S) → All IsInRange p → All IsInRange (coefficient_of cmp s k p)
    coefficient [] h = All-nil {X = Monomial S × ℤ} IsInRange
    coefficient (t ∷ p) h =
        let rest = coefficient p (All-tail {X = Monomial S × ℤ} IsInRange t p h) in
        let first : unsigned_abs t.1 ≤ greatest = All-head {X = Monomial S × ℤ} IsInRange t p h in
        elim (exponent cmp s t.0 == k) as (λ b. All {X = Monomial S × ℤ} IsInRange (cond b ((without cmp s t.0, t.1) ∷ coefficient_of cmp s k p) (coefficient_of cmp s k p))) [
          | true ↦ All-cons {X = Monomial S × ℤ} IsInRange (without cmp s t.0, t.1) (coefficient_of cmp s k p) first rest
          | false ↦ rest
        ]

    multiplied : (e : ℕ) (p : Polynomial S) → All IsInRange p → All IsInRange (times_power cmp s e p)
    multiplied zero p h = h
    multiplied (suc e) [] h = h
    multiplied (suc e) (t ∷ p) h =
        let first : unsigned_abs t.1 ≤ greatest = All-head {X = Monomial S × ℤ} IsInRange t p h in
        All-cons {X = Monomial S × ℤ} IsInRange (with_power cmp s (suc e) t.0, t.1) (times_power cmp s (suc e) p) first (multiplied (suc e) p (All-tail {X = Monomial S × ℤ} IsInRange t p h))

module _ {S : Type 0} {cmp : S → S → Ordering} (order : IsOrder cmp) (s : S) where
  -- a power keeps polynomials canonical
  pub times_power_is : (e : ℕ) (p : Polynomial S) → IsPolynomial cmp p → IsPolynomial cmp (times_power cmp s e p)
  times_power_is zero p h = h
  times_power_is (suc e) [] h = tt
  times_power_is (suc e) (t ∷ p) h = (h.0, with_power_is order s (suc e) t.0 (omega arith) h.1, above t.0 p h.1 h.3 h.2, times_power_is (suc e) p h.3)
    where
      above : (m : Monomial S) (p : Polynomial S) → IsMonomial cmp m → IsPolynomial cmp p → IsAbove (monomial_cmp cmp) m p → IsAbove (monomial_cmp cmp) (with_power cmp s (suc e) m) (times_power cmp s (suc e) p)
      above m [] i g a = tt
      above m (u ∷ p) i g a = (power_keeps_order order s (suc e) (omega arith) m u.0 i g.1 ∙ a.0, above m p i g.3 a.1)

  -- the exponents of a monomial whose exponent of s is lowered
  pub lower_part : (u : S) (e : ℕ) (m : Monomial S) → e ≤ exponent cmp s m → exponent cmp u (with_power cmp s e (without cmp s m)) ≤ exponent cmp u m
  lower_part u e m l = by_order (cmp u s) refl
    where
      whole : exponent cmp u (with_power cmp s e (without cmp s m)) ≡ match_ordering (cmp u s) 0 e 0 + exponent cmp u (without cmp s m)
      whole = exponent_with_power order u s e (without cmp s m)

      apart : (o : Ordering) → cmp u s ≡ o → match_ordering o 0 e 0 ≡ 0 → (cmp s u ≡ Equal → ⊥) → exponent cmp u (with_power cmp s e (without cmp s m)) ≤ exponent cmp u m
      apart o f z n = let a = whole ∙ ap (λ o. match_ordering o 0 e 0 + exponent cmp u (without cmp s m)) f in let b = exponent_other order s u n m in omega (arith, a, b, z)

      by_order : (o : Ordering) → cmp u s ≡ o → exponent cmp u (with_power cmp s e (without cmp s m)) ≤ exponent cmp u m
      by_order Less f = apart Less f refl (λ g. let k : s ≡ u = order.same s u g in let z : cmp u s ≡ Equal = ap (λ x. cmp x s) (sym k) ∙ ap (cmp s) k ∙ g in cc)
      by_order Greater f = apart Greater f refl (λ g. let k : s ≡ u = order.same s u g in let z : cmp u s ≡ Equal = ap (λ x. cmp x s) (sym k) ∙ ap (cmp s) k ∙ g in cc)
      by_order Equal f =
          let k : u ≡ s = order.same u s f in
          let a = whole ∙ ap (λ o. match_ordering o 0 e 0 + exponent cmp u (without cmp s m)) f in
          let b : exponent cmp u (without cmp s m) ≡ 0 = ap (λ x. exponent cmp x (without cmp s m)) k ∙ exponent_left order s m in
          let c : exponent cmp u m ≡ exponent cmp s m = ap (λ x. exponent cmp x m) k in
          omega (arith, a, b, c, l)

  pub lower_without : (u : S) (m : Monomial S) → exponent cmp u (without cmp s m) ≤ exponent cmp u m
  lower_without u m = by_order (cmp s u) refl
    where
      by_order : (o : Ordering) → cmp s u ≡ o → exponent cmp u (without cmp s m) ≤ exponent cmp u m
      by_order Less e = let f = exponent_other order s u (λ g. let z : Less ≡ Equal = sym e ∙ g in cc) m in omega (arith, f)
      by_order Greater e = let f = exponent_other order s u (λ g. let z : Greater ≡ Equal = sym e ∙ g in cc) m in omega (arith, f)
      by_order Equal e = let f : exponent cmp u (without cmp s m) ≡ 0 = ap (λ x. exponent cmp x (without cmp s m)) (sym (order.same s u e)) ∙ exponent_left order s m in omega (arith, f)

  -- no exponent of the part is greater than in the polynomial
  lower_exponents : (u : S) (k e : ℕ) (p : Polynomial S) → e ≤ k → greatest_exponent cmp u (times_power cmp s e (coefficient_of cmp s k p)) ≤ greatest_exponent cmp u p
  lower_exponents u k zero [] l = omega arith
  lower_exponents u k (suc e) [] l = omega arith
  lower_exponents u k zero (t ∷ p) l =
      let h = lower_exponents u k zero p l in
      let g = lower_without u t.0 in
      elim (exponent cmp s t.0 == k) as (λ b. greatest_exponent cmp u (cond b ((without cmp s t.0, t.1) ∷ coefficient_of cmp s k p) (coefficient_of cmp s k p)) ≤ max (exponent cmp u t.0) (greatest_exponent cmp u p)) [ true ↦ omega (arith, h, g) | false ↦ omega (arith, h) ]
  lower_exponents u k (suc e) (t ∷ p) l =
      let h = lower_exponents u k (suc e) p l in
      elim (exponent cmp s t.0 == k) as (λ b. (exponent cmp s t.0 == k) ≡ b → greatest_exponent cmp u (times_power cmp s (suc e) (cond b ((without cmp s t.0, t.1) ∷ coefficient_of cmp s k p) (coefficient_of cmp s k p))) ≤ max (exponent cmp u t.0) (greatest_exponent cmp u p)) [
        | true ↦ λ f. let n = eqb-true (exponent cmp s t.0) k f in let g = lower_part u (suc e) t.0 (omega (arith, n, l)) in omega (arith, h, g)
        | false ↦ λ f. omega (arith, h)
      ] refl

  -- the symbols of the part are among those of the polynomial
  part_in : (P : S → Type 0) (k e : ℕ) (p : Polynomial S) → e ≤ k → PolynomialIn P p → PolynomialIn P (times_power cmp s e (coefficient_of cmp s k p))
  part_in P k zero [] l h = tt
  part_in P k (suc e) [] l h = tt
  part_in P k zero (t ∷ p) l h =
      elim (exponent cmp s t.0 == k) as (λ b. PolynomialIn P (cond b ((without cmp s t.0, t.1) ∷ coefficient_of cmp s k p) (coefficient_of cmp s k p))) [
        | true ↦ (in_without cmp P s t.0 h.0, part_in P k zero p l h.1)
        | false ↦ part_in P k zero p l h.1
      ]
  part_in P k (suc e) (t ∷ p) l h =
      elim (exponent cmp s t.0 == k) as (λ b. (exponent cmp s t.0 == k) ≡ b → PolynomialIn P (times_power cmp s (suc e) (cond b ((without cmp s t.0, t.1) ∷ coefficient_of cmp s k p) (coefficient_of cmp s k p)))) [
        | true ↦ λ f. let n = eqb-true (exponent cmp s t.0) k f in
            (in_with_power cmp P s (suc e) (without cmp s t.0) (occurs order P s t.0 (λ z. omega (arith, n, l, z)) h.0) (in_without cmp P s t.0 h.0), part_in P k (suc e) p l h.1)
        | false ↦ λ f. part_in P k (suc e) p l h.1
      ] refl

-- the part of a polynomial in a book may stand there too
pub part_is_entry : (r : RankingValue) (p : Polynomial Symbol) (table : Monomial Symbol) (s : Symbol) (k e : ℕ) (q : Polynomial Symbol) (table' : Monomial Symbol) → IsTabled r p table → e ≤ k → q ≡ times_power (ranking_cmp r) s e (coefficient_of (ranking_cmp r) s k p) → table' ≡ degrees (ranking_cmp r) q → IsTabled r q table'
part_is_entry r p table s k e q table' h l f g =
    let order = ranking_order r in
    let cmp = ranking_cmp r in
    let part : Polynomial Symbol = times_power cmp s e (coefficient_of cmp s k p) in
    let c = times_power_is order s e (coefficient_of cmp s k p) (coefficient_of_is order s k p h.keepable.canonical) in
    record {
      keepable = subst (IsKeepable r) (sym f) (record {
        canonical = c;
        belongs = part_in order s (BelongsTo r.signature) k e p l h.keepable.belongs;
        small = small_below (symbols_under r) order part p (keys_monomials order part (are_monomials order part c)) (keys_monomials order p (are_monomials order p h.keepable.canonical)) (λ u. lower_exponents order s u k e p l) (fewer_terms cmp s k e p) h.keepable.small;
        in_range = part_in_range cmp s k e p h.keepable.in_range;
      });
      degrees_are = g;
    }
