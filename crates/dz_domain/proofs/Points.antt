-- What a point gives: each symbol has a value, and each derivation takes it to that of what it
-- makes of the symbol.
use Rattle.std.proofs.Common.{◌≡◌, ℕ, zero, suc, ◌+◌, ◌≤◌, ◌<◌, Bool, true, false, cond, List, [], ◌∷◌, length, get_or, take, refl, sym, ap, ◌∙◌, arith, IsTrue, All, ltb, ltb-true, ltb-false, ne_eqb, ◌==◌}
use Rattle.std.proofs.lemmas.List.Elements.{All-get_or}
use Rattle.std.proofs.lemmas.Grind.{common_steps}
use Rattle.std.proofs.lemmas.List.{get_or_past}
use Rattle.dz_algebra.specs.Domain.{Operations, DomainLaws}
use Rattle.dz_algebra.specs.Derivation.{constant, unit}
use Rattle.dz_algebra.specs.Value.{rate_value}
use Rattle.dz_algebra.proofs.DomainValues.{derivative_of_zero}
use Rattle.dz_rank.specs.declared.symbols.Symbol.{Symbol}
use Rattle.dz_rank.specs.declared.symbols.Symbol.TheVariants.{Independent, Derivative}
use Rattle.dz_rank.specs.Symbols.{raised}
use Rattle.dz_monomials.specs.Ranked.{symbol_rate}
use Rattle.dz_domain.specs.Point.{Coordinates, IsPoint, iterated_derivative, operator_derivative, symbol_value}

-- the first exponents of none
take_nothing : (n : ℕ) → take {A = ℕ} n [] ≡ []
take_nothing zero = refl
take_nothing (suc n) = refl

-- the exponents of the first n derivations, with one of them greater by one
take_raised : (n i : ℕ) (ks : List ℕ) → i < n → take n (raised i ks) ≡ raised i (take n ks)
take_raised zero i ks h = absurd (omega arith)
take_raised (suc n) zero [] h = ap (λ r. 1 ∷ r) (take_nothing n)
take_raised (suc n) zero (k ∷ ks) h = refl
take_raised (suc n) (suc i) [] h =
    ap (λ r. 0 ∷ r) (take_raised n i [] (omega arith) ∙ ap (raised i) (take_nothing n))
take_raised (suc n) (suc i) (k ∷ ks) h = ap (λ r. k ∷ r) (take_raised n i ks (omega arith))

module _ {E : Type 0} {o : Operations E} (laws : DomainLaws o) where
  -- a derivation taken any number of times makes values
  iterated_derivative_is_value : (i k : ℕ) (a : E) → i < o.derivations → IsTrue (o.is_value a)
      → IsTrue (o.is_value (iterated_derivative o i k a))
  iterated_derivative_is_value i zero a h v = v
  iterated_derivative_is_value i (suc k) a h v =
      laws.derivative_is_value i _ h (iterated_derivative_is_value i k a h v)

  -- and so does an operator
  operator_derivative_is_value : (i : ℕ) (ks : List ℕ) (a : E) → i + length ks ≤ o.derivations
      → IsTrue (o.is_value a) → IsTrue (o.is_value (operator_derivative o i ks a))
  operator_derivative_is_value i [] a h v = v
  operator_derivative_is_value i (k ∷ ks) a h v =
      operator_derivative_is_value (suc i) ks _ (omega arith)
      (iterated_derivative_is_value i k a (omega arith) v)

  -- a derivation taken after another one taken several times is taken at first
  derivative_of_iterated : (i j k : ℕ) (a : E) → i < o.derivations → j < o.derivations
      → IsTrue (o.is_value a) → o.derivative i (iterated_derivative o j k a)
      ≡ iterated_derivative o j k (o.derivative i a)
  derivative_of_iterated i j zero a h g v = refl
  derivative_of_iterated i j (suc k) a h g v =
      laws.derivatives_commute i j _ h g (iterated_derivative_is_value j k a g v)
      ∙ ap (o.derivative j) (derivative_of_iterated i j k a h g v)

  -- a derivation taken from outside is taken at first
  derivative_of_operator : (i j : ℕ) (ks : List ℕ) (a : E) → i < o.derivations
      → j + length ks ≤ o.derivations → IsTrue (o.is_value a)
      → o.derivative i (operator_derivative o j ks a)
      ≡ operator_derivative o j ks (o.derivative i a)
  derivative_of_operator i j [] a h g v = refl
  derivative_of_operator i j (k ∷ ks) a h g v =
      derivative_of_operator i (suc j) ks _ h (omega arith)
      (iterated_derivative_is_value j k a (omega arith) v)
      ∙ ap (operator_derivative o (suc j) ks) (derivative_of_iterated i j k a h (omega arith) v)

  -- a derivation taken at first is taken once more
  iterated_outside : (i k : ℕ) (a : E)
      → iterated_derivative o i k (o.derivative i a) ≡ iterated_derivative o i (suc k) a
  iterated_outside i zero a = refl
  iterated_outside i (suc k) a = ap (o.derivative i) (iterated_outside i k a)

  -- and then its exponent is greater by one
  operator_raised : (i j : ℕ) (ks : List ℕ) (a : E) → j + i < o.derivations
      → j + length ks ≤ o.derivations → IsTrue (o.is_value a)
      → operator_derivative o j (raised i ks) a
      ≡ operator_derivative o j ks (o.derivative (j + i) a)
  operator_raised zero j [] a h g v =
      let e : j ≡ j + zero = omega arith in ap (λ k. o.derivative k a) e
  operator_raised (suc i) j [] a h g v =
      let e : suc j + i ≡ j + suc i = omega arith in
      operator_raised i (suc j) [] a (omega arith) (omega arith) v ∙ ap (λ k. o.derivative k a) e
  operator_raised zero j (k ∷ ks) a h g v =
      let e : j ≡ j + zero = omega arith in
      ap (operator_derivative o (suc j) ks)
      (sym (iterated_outside j k a) ∙ ap (λ n. iterated_derivative o j k (o.derivative n a)) e)
  operator_raised (suc i) j (k ∷ ks) a h g v =
      let e : suc j + i ≡ j + suc i = omega arith in
      operator_raised i (suc j) ks _ (omega arith) (omega arith)
      (iterated_derivative_is_value j k a (omega arith) v)
      ∙ ap (λ n. operator_derivative o (suc j) ks (o.derivative n (iterated_derivative o j k a))) e
      ∙ ap (operator_derivative o (suc j) ks)
      (derivative_of_iterated (j + suc i) j k a h (omega arith) v)

  module _ {p : Coordinates E} (point : IsPoint o p) where
    -- a coordinate, or zero past the end, is a value
    element_or_zero : (xs : List E) (j : ℕ) → All (λ x. IsTrue (o.is_value x)) xs
        → IsTrue (o.is_value (get_or xs j o.zero))
    element_or_zero xs j all =
        elim (ltb j (length xs)) as (λ b. ltb j (length xs) ≡ b
        → IsTrue (o.is_value (get_or xs j o.zero))) [
          | true ↦ λ h. All-get_or (λ x. IsTrue (o.is_value x)) xs j o.zero
              (omega (arith, ltb-true j (length xs), h)) all
          | false ↦ λ h. let past : length xs ≤ j =
              omega (arith, ltb-false j (length xs), h) in
              rw (get_or_past xs j o.zero past) laws.zero_is_value
        ] refl

    -- there are at most as many exponents as derivations
    take_fits : (n : ℕ) (ks : List ℕ) → n ≤ o.derivations → 0 + length (take n ks) ≤ o.derivations
    take_fits n ks h = grind (arith, common_steps)

    -- each symbol has a value
    pub symbol_is_value : (s : Symbol) → IsTrue (o.is_value (symbol_value o p s))
    symbol_is_value (Independent j) = element_or_zero p.independents j point.independent_values
    symbol_is_value (Derivative u t) =
        operator_derivative_is_value 0 (take (length p.independents) t.counts) _
        (take_fits _ _ point.enough) (element_or_zero p.dependents u point.dependent_values)

    -- one and zero are the values of the rates of independents
    cond_rate : (b : Bool) → cond b o.one o.zero
        ≡ rate_value o.arithmetic (symbol_value o p) (cond b unit constant)
    cond_rate true = refl
    cond_rate false = refl

    -- the i-th derivation takes the value of a symbol to the value of what it makes of the symbol
    pub rate_of_symbol : (i : ℕ) → i < length p.independents → (s : Symbol)
        → o.derivative i (symbol_value o p s)
        ≡ rate_value o.arithmetic (symbol_value o p) (symbol_rate i s)
    unfolding symbol_rate
    rate_of_symbol i h (Independent j) =
        elim (ltb j (length p.independents)) as
        (λ b. ltb j (length p.independents) ≡ b
        → o.derivative i (get_or p.independents j o.zero)
        ≡ rate_value o.arithmetic (symbol_value o p) (cond (i == j) unit constant)) [
          | true ↦ λ g. point.rates i j (omega (arith, point.enough))
              (omega (arith, ltb-true j (length p.independents), g)) ∙ cond_rate (i == j)
          | false ↦ λ g.
              let past : length p.independents ≤ j =
              omega (arith, ltb-false j (length p.independents), g) in
              let apart : (i == j) ≡ false = ne_eqb i j (λ e. omega arith) in
              ap (o.derivative i) (get_or_past p.independents j o.zero past)
              ∙ derivative_of_zero laws i (omega (arith, point.enough))
              ∙ ap (λ b. cond b o.one o.zero) (sym apart) ∙ cond_rate (i == j)
        ] refl
    rate_of_symbol i h (Derivative u t) =
        let n = length p.independents in
        let a = get_or p.dependents u o.zero in
        let v = element_or_zero p.dependents u point.dependent_values in
        let l : 0 + length (take n t.counts) ≤ o.derivations = take_fits n t.counts point.enough in
        let b : i < o.derivations = omega (arith, point.enough) in
        let c : 0 + i < o.derivations = omega arith in
        let e : 0 + i ≡ i = omega arith in
        derivative_of_operator i 0 (take n t.counts) a b l v
        ∙ ap (λ k. operator_derivative o 0 (take n t.counts) (o.derivative k a)) (sym e)
        ∙ sym (operator_raised i 0 (take n t.counts) a c l v)
        ∙ ap (λ ks. operator_derivative o 0 ks a) (sym (take_raised n i t.counts h))
