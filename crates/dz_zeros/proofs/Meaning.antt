-- Values of polynomials in a ring, and where they are zero.
use Rattle.std.specs.Prelude.{⊤}
use Rattle.std.proofs.Common.{◌≡◌, ◌≢◌, ◌⊎◌, inl, inr, ℕ, zero, suc, ◌+◌, ◌-◌, ◌<◌, ◌≤◌, min, true, List, [], ◌∷◌, length, take, ℤ, pos, refl, sym, ap, ap₂, ◌∙◌, arith, subst, Ok}
use Rattle.std.specs.declared.cmp.Ordering.{Ordering}
use Rattle.std.specs.declared.cmp.Ordering.TheVariants.{Less, Equal, Greater}
use Rattle.std.specs.Ordering.{match_ordering}
use Rattle.dz_algebra.specs.Ring.{Ring, product_zero, right_neutral, product_swaps}
use Rattle.dz_algebra.specs.Monomial.{Monomial, monomial_cmp, exponent, without}
use Rattle.dz_algebra.specs.Polynomial.{Contributions, Polynomial, IsPolynomial, PolynomialIn, collect, negated, symbol_polynomial}
use Rattle.dz_algebra.specs.Derivation.{derivative_contributions}
use Rattle.dz_algebra.specs.Norm.{norm, signed_content}
use Rattle.dz_algebra.specs.Parts.{is_ground}
use Rattle.dz_algebra.specs.Size.{operation, difference_answer, product_answer, derivation_answer}
use Rattle.dz_algebra.specs.Value.{value, monomial_value, power, whole_in}
use Rattle.dz_algebra.proofs.Norms.{signed_content_nonzero, value_norm}
use Rattle.dz_algebra.proofs.Operations.{operation_is}
use Rattle.dz_algebra.proofs.Orders.{same_monomial}
use Rattle.dz_algebra.proofs.Values.{collect_value, negated_value, pairs_value, value-append, with_power_value, power-add}
use Rattle.dz_rank.specs.Rankings.{RankingValue, ranking_cmp}
use Rattle.dz_rank.specs.declared.symbols.Operator.{Operator}
use Rattle.dz_rank.specs.declared.symbols.Symbol.{Symbol}
use Rattle.dz_monomials.specs.Ranked.{symbol_rate, symbols_under}
use Rattle.dz_monomials.proofs.SymbolLaws.{ranking_order}
use Rattle.dz_diff.specs.Operations.{iterated_answer, derivations_answer, operator_answer, setting_of}
use Rattle.dz_diff.specs.Tests.{is_unit}
use Rattle.dz_algebra.proofs.Outcomes.{bind_ok, both}
use Rattle.dz_diff.proofs.Goodness.{Good, InRange}
use Rattle.dz_monomials.specs.PowerDivision.{least_exponent, divisor_power, with_exponent, divided_by, quotient_by}

-- what a point of a domain gives: values of symbols in a ring in which polynomials vanish as they should
pub record Meaning (r : RankingValue) (R : Type 0) : Type 0 where
  pub ring : Ring R
  pub at : Symbol → R
  pub decide : (x : R) → (x ≡ ring.zero) ⊎ (x ≢ ring.zero)
  pub no_divisors : (a b : R) → ring.product a b ≡ ring.zero → (a ≡ ring.zero) ⊎ (b ≡ ring.zero)
  pub whole_nonzero : (c : ℤ) → c ≢ pos 0 → whole_in ring.arithmetic c ≢ ring.zero
  pub derivative_vanishes : (i : ℕ) (a : Polynomial Symbol) → i < r.signature.independents → value ring.arithmetic at a ≡ ring.zero
      → value ring.arithmetic at (derivative_contributions (ranking_cmp r) (symbol_rate i) a) ≡ ring.zero
  pub ground_nonzero : (a : Polynomial Symbol) → IsPolynomial (ranking_cmp r) a → PolynomialIn (InRange r) a → is_ground (symbols_under r) a ≡ true → a ≢ []
      → value ring.arithmetic at a ≢ ring.zero

module _ {r : RankingValue} {R : Type 0} (m : Meaning r R) where
  abbrev by : Symbol → Symbol → Ordering
  by = ranking_cmp r

  -- the value of contributions
  abbrev pub val : Contributions Symbol → R
  val ts = value m.ring.arithmetic m.at ts

  -- a polynomial's value is zero
  abbrev pub Vanishes : Polynomial Symbol → Type 0
  Vanishes p = value m.ring.arithmetic m.at p ≡ m.ring.zero

  -- a polynomial's value is not zero
  abbrev pub Differs : Polynomial Symbol → Type 0
  Differs h = Vanishes h → ⊥

  -- ---- the operations
  pub collected : (ts : Contributions Symbol) → val (collect (monomial_cmp (ranking_cmp r)) ts) ≡ val ts
  collected ts = collect_value m.ring (ranking_cmp r) (ranking_order r).same m.at (monomial_cmp (ranking_cmp r)) (same_monomial (ranking_order r)) ts

  value_operation : (ts : Contributions Symbol) (a : Polynomial Symbol) → operation (symbols_under r) ts ≡ Ok a → val a ≡ val ts
  value_operation ts a e = ap val (sym (operation_is (symbols_under r) ts a e)) ∙ collected ts

  -- the value of a product
  pub value_product : (a b c : Polynomial Symbol) → product_answer (symbols_under r) a b ≡ Ok c → val c ≡ m.ring.product (val a) (val b)
  value_product a b c e = value_operation _ c e ∙ pairs_value m.ring (ranking_cmp r) (ranking_order r).same m.at a b

  -- the value of a difference
  pub value_difference : (a b c : Polynomial Symbol) → difference_answer (symbols_under r) a b ≡ Ok c → val c ≡ m.ring.sum (val a) (m.ring.negative (val b))
  value_difference a b c e =
      value_operation _ c e ∙ value-append m.ring (ranking_cmp r) (ranking_order r).same m.at a (negated b)
      ∙ ap (m.ring.sum _) (negated_value m.ring (ranking_cmp r) (ranking_order r).same m.at b)

  -- a product vanishes with its second factor
  pub vanishes_product : (a b c : Polynomial Symbol) → product_answer (symbols_under r) a b ≡ Ok c → Vanishes b → Vanishes c
  vanishes_product a b c e h = value_product a b c e ∙ ap (m.ring.product _) h ∙ product_zero m.ring _

  -- ---- derivations
  vanishes_derivation : (i : ℕ) (a b : Polynomial Symbol) → derivation_answer (symbols_under r) i a ≡ Ok b → i < r.signature.independents → Vanishes a → Vanishes b
  vanishes_derivation i a b e h z = value_operation _ b e ∙ m.derivative_vanishes i a h z

  vanishes_iterated : (i k : ℕ) (a b : Polynomial Symbol) → iterated_answer (symbols_under r) i k a ≡ Ok b → i < r.signature.independents → Vanishes a → Vanishes b
  vanishes_iterated i zero a b e h z = let f : a ≡ b = cc in subst Vanishes f z
  vanishes_iterated i (suc k) a b e h z =
      let s = bind_ok (iterated_answer (symbols_under r) i k a) (derivation_answer (symbols_under r) i) b e in
      vanishes_derivation i s.0 b s.2 h (vanishes_iterated i k a s.0 s.1 h z)

  vanishes_derivations : (i : ℕ) (ks : List ℕ) (a b : Polynomial Symbol) → derivations_answer (symbols_under r) i ks a ≡ Ok b → i + length ks ≤ r.signature.independents → Vanishes a → Vanishes b
  vanishes_derivations i [] a b e h z = let f : a ≡ b = cc in subst Vanishes f z
  vanishes_derivations i (k ∷ ks) a b e h z =
      let s = bind_ok (iterated_answer (symbols_under r) i k a) (derivations_answer (symbols_under r) (suc i) ks) b e in
      vanishes_derivations (suc i) ks s.0 b s.2 (omega arith) (vanishes_iterated i k a s.0 s.1 (omega arith) z)

  take_length : (n : ℕ) (ks : List ℕ) → length (take n ks) ≤ n
  take_length zero ks = omega arith
  take_length (suc n) [] = omega arith
  take_length (suc n) (k ∷ ks) = let h = take_length n ks in omega arith

  -- an operator's derivative vanishes where the polynomial does
  pub vanishes_operator : (t : Operator) (a b : Polynomial Symbol) → operator_answer (setting_of r) t a ≡ Ok b → Vanishes a → Vanishes b
  vanishes_operator t a b e z =
      vanishes_derivations 0 (take r.signature.independents t.counts) a b e (let h = take_length r.signature.independents t.counts in omega arith) z

  -- ---- norms
  -- the norm vanishes where the polynomial does
  pub norm_vanishes : (p : Polynomial Symbol) → Good r p → Vanishes p → Vanishes (norm p)
  norm_vanishes p h z =
      elim (m.no_divisors (whole_in m.ring.arithmetic (signed_content p)) (val (norm p)) (sym (value_norm m.ring m.at p) ∙ z)) [
        | inl e ↦ absurd (m.whole_nonzero (signed_content p) (signed_content_nonzero (ranking_cmp r) p h.0) e)
        | inr e ↦ e
      ]

  -- and the other way round
  pub vanishes_norm : (p : Polynomial Symbol) → Vanishes (norm p) → Vanishes p
  vanishes_norm p z = value_norm m.ring m.at p ∙ ap (m.ring.product _) z ∙ product_zero m.ring _

  -- ---- units
  -- a polynomial that is ground and not zero vanishes nowhere
  pub unit_nonzero : (p : Polynomial Symbol) → Good r p → is_unit (symbols_under r) p ≡ true → Differs p
  unit_nonzero [] h e z = cc
  unit_nonzero (t ∷ p) h e z = let b = both (is_ground (symbols_under r) (t ∷ p)) true e in m.ground_nonzero (t ∷ p) h.0 h.1 b.0 (λ f. cc) z

  -- ---- powers of a symbol
  abbrev pw : Symbol → ℕ → R
  pw s k = power m.ring.arithmetic (m.at s) k

  abbrev mv : Monomial Symbol → R
  mv n = monomial_value m.ring.arithmetic m.at n

  monomial_split : (v : Symbol) (n : Monomial Symbol) → mv n ≡ m.ring.product (pw v (exponent by v n)) (mv (without by v n))
  monomial_split v [] = sym (m.ring.one_is_neutral _)
  monomial_split v (p ∷ n) = by_order (by v p.0) refl (monomial_split v n)
    where
      by_order : (o : Ordering) → by v p.0 ≡ o
          → mv n ≡ m.ring.product (pw v (exponent by v n)) (mv (without by v n))
          → m.ring.product (pw p.0 p.1) (mv n) ≡ m.ring.product (pw v (match_ordering o (exponent by v n) (p.1 + exponent by v n) (exponent by v n))) (mv (match_ordering o (p ∷ without by v n) (without by v n) (p ∷ without by v n)))
      by_order Less f ih = ap (m.ring.product (pw p.0 p.1)) ih ∙ product_swaps m.ring _ _ _
      by_order Equal f ih =
          ap (m.ring.product (pw p.0 p.1)) ih ∙ sym (m.ring.product_associates _ _ _)
          ∙ ap (λ z. m.ring.product z (mv (without by v n))) (ap (λ s. m.ring.product (pw s p.1) (pw v (exponent by v n))) (sym ((ranking_order r).same v p.0 f)) ∙ sym (power-add m.ring (m.at v) p.1 (exponent by v n)))
      by_order Greater f ih = ap (m.ring.product (pw p.0 p.1)) ih ∙ product_swaps m.ring _ _ _

  exponent_value : (v : Symbol) (e : ℕ) (n : Monomial Symbol) → mv (with_exponent by v e n) ≡ m.ring.product (pw v e) (mv n)
  exponent_value v zero n = sym (m.ring.one_is_neutral _)
  exponent_value v (suc e) n = with_power_value m.ring (ranking_cmp r) (ranking_order r).same m.at v (suc e) n

  -- every exponent of v is at least k
  abbrev AreDivided : Symbol → ℕ → Polynomial Symbol → Type 0
  AreDivided v k [] = ⊤
  AreDivided v k (t ∷ p) = (k ≤ exponent (ranking_cmp r) v t.0) × AreDivided v k p

  value_divided_by : (v : Symbol) (k : ℕ) (p : Polynomial Symbol) → AreDivided v k p → val p ≡ m.ring.product (pw v k) (val (divided_by by v k p))
  value_divided_by v k [] h = sym (product_zero m.ring _)
  value_divided_by v k (t ∷ p) h =
      let e = exponent by v t.0 in
      let w = mv (without by v t.0) in
      let f : k + (e - k) ≡ e = omega (arith, h.0) in
      let split : mv t.0 ≡ m.ring.product (pw v k) (mv (with_exponent by v (e - k) (without by v t.0))) =
      monomial_split v t.0 ∙ ap (λ i. m.ring.product (pw v i) w) (sym f) ∙ ap (λ z. m.ring.product z w) (power-add m.ring (m.at v) k (e - k)) ∙ m.ring.product_associates _ _ _ ∙ ap (m.ring.product _) (sym (exponent_value v (e - k) (without by v t.0))) in
      ap₂ m.ring.sum (ap (m.ring.product (whole_in m.ring.arithmetic t.1)) split ∙ product_swaps m.ring _ _ _) (value_divided_by v k p h.1) ∙ sym (m.ring.product_distributes _ _ _)

  least_is : (v : Symbol) (k : ℕ) (p : Polynomial Symbol) → (least_exponent by v k p ≤ k) × AreDivided v (least_exponent by v k p) p
  least_is v k [] = (omega arith, tt)
  least_is v k (t ∷ p) =
      let s = least_is v (min k (exponent by v t.0)) p in
      (omega (arith, s.0), (omega (arith, s.0), s.1))

  power_divides : (v : Symbol) (p : Polynomial Symbol) → AreDivided v (divisor_power by v p) p
  power_divides v [] = tt
  power_divides v (t ∷ p) = let s = least_is v (exponent by v t.0) p in (s.0, s.1)

  -- a polynomial is the power of v times the quotient
  pub value_quotient : (v : Symbol) (p : Polynomial Symbol) → val p ≡ m.ring.product (power m.ring.arithmetic (m.at v) (divisor_power (ranking_cmp r) v p)) (val (quotient_by (ranking_cmp r) v p))
  value_quotient v p = value_divided_by v (divisor_power by v p) p (power_divides v p) ∙ ap (m.ring.product _) (sym (collected (divided_by by v (divisor_power by v p) p)))

  times_one : (x : R) → m.ring.product x m.ring.one ≡ x
  times_one x = m.ring.product_commutes x m.ring.one ∙ m.ring.one_is_neutral x

  -- the value of a symbol
  pub value_symbol : (v : Symbol) → val (symbol_polynomial v) ≡ m.at v
  value_symbol v =
      right_neutral m.ring _ ∙ ap (λ y. m.ring.product y (m.ring.product (m.ring.product (m.at v) m.ring.one) m.ring.one)) (right_neutral m.ring m.ring.one)
      ∙ m.ring.one_is_neutral (m.ring.product (m.ring.product (m.at v) m.ring.one) m.ring.one) ∙ times_one (m.ring.product (m.at v) m.ring.one) ∙ times_one (m.at v)

  -- what has a power zero is zero
  pub power_zero : (x : R) (k : ℕ) → power m.ring.arithmetic x k ≡ m.ring.zero → m.ring.one ≢ m.ring.zero → x ≡ m.ring.zero
  power_zero x zero e h = absurd (h e)
  power_zero x (suc k) e h = elim (m.no_divisors x (power m.ring.arithmetic x k) e) [ inl f ↦ f | inr f ↦ power_zero x k f h ]

  -- one is not zero
  pub one_nonzero : m.ring.one ≢ m.ring.zero
  one_nonzero e = m.whole_nonzero (pos 1) (λ f. cc) (right_neutral m.ring m.ring.one ∙ e)
