-- Operators act on polynomials: one derivation more comes last, and an operation that is not refused answers the
-- derivative.
use Rattle.std.proofs.Common.{◌≡◌, ◌+◌, ◌∙◌, ℕ, zero, suc, List, [], ◌∷◌, take, drop, All, Ok, refl, sym, ap, subst, arith}
use Rattle.dz_algebra.specs.Polynomial.{Polynomial, IsPolynomial}
use Rattle.dz_algebra.specs.Derivation.{polynomial_derivative}
use Rattle.dz_algebra.specs.Size.{derivation_answer}
use Rattle.dz_algebra.proofs.Commuting.{IsDerivation}
use Rattle.dz_algebra.proofs.Derivations.{differentiated, additive, leibniz, derivatives_commute}
use Rattle.dz_algebra.proofs.Operations.{operation_is}
use Rattle.dz_algebra.proofs.PolynomialRing.{Canonical, same_canonical, polynomial_ring}
use Rattle.dz_rank.specs.Rankings.{RankingValue, ranking_cmp}
use Rattle.dz_rank.specs.Symbols.{raised, IsOperatorOf}
use Rattle.dz_rank.specs.declared.symbols.Operator.{Operator}
use Rattle.dz_rank.specs.declared.symbols.Symbol.{Symbol}
use Rattle.dz_monomials.specs.Ranked.{symbol_rate, symbols_under}
use Rattle.dz_monomials.proofs.SymbolLaws.{ranking_order, rates_commute}
use Rattle.dz_diff.specs.Operations.{iterated_answer, derivations_answer, operator_answer, setting_of}
use Rattle.dz_algebra.proofs.Outcomes.{bind_ok}
use Rattle.dz_jet.specs.Derivatives.{iterated_derivative, derivative_from, derivative_of}

module _ (r : RankingValue) where
  -- the canonical polynomials under the ranking
  abbrev pub Poly : Type 0
  Poly = Canonical (ranking_order r)

  -- the i-th derivation
  abbrev pub derivation : ℕ → Poly → Poly
  derivation i p = differentiated (ranking_order r) (symbol_rate i) p

  pub is_derivation : (i : ℕ) → IsDerivation (polynomial_ring (ranking_order r)) (derivation i)
  is_derivation i = record { additive = additive (ranking_order r) (symbol_rate i); leibniz = leibniz (ranking_order r) (symbol_rate i) }

  commute : (i j : ℕ) (p : Poly) → derivation i (derivation j p) ≡ derivation j (derivation i p)
  commute i j p = derivatives_commute (ranking_order r) (symbol_rate i) (symbol_rate j) (rates_commute i j) p

  iterated : ℕ → ℕ → Poly → Poly
  iterated i zero p = p
  iterated i (suc k) p = derivation i (iterated i k p)

  from : ℕ → List ℕ → Poly → Poly
  unfolding iterated
  from i [] p = p
  from i (k ∷ ks) p = from (suc i) ks (iterated i k p)

  -- ---- one derivation more
  iterated_commutes : (i j k : ℕ) (p : Poly) → iterated j k (derivation i p) ≡ derivation i (iterated j k p)
  unfolding iterated
  iterated_commutes i j zero p = refl
  iterated_commutes i j (suc k) p = ap (derivation j) (iterated_commutes i j k p) ∙ commute j i (iterated j k p)

  from_commutes : (i j : ℕ) (ks : List ℕ) (p : Poly) → from j ks (derivation i p) ≡ derivation i (from j ks p)
  unfolding from
  from_commutes i j [] p = refl
  from_commutes i j (k ∷ ks) p = ap (from (suc j) ks) (iterated_commutes i j k p) ∙ from_commutes i (suc j) ks (iterated j k p)

  from_raised : (i j : ℕ) (ks : List ℕ) (p : Poly) → from j (raised i ks) p ≡ derivation (j + i) (from j ks p)
  unfolding from iterated
  from_raised zero j [] p = ap (λ n. derivation n p) (plus_none j)
    where
      plus_none : (j : ℕ) → j ≡ j + 0
      plus_none j = omega arith
  from_raised zero j (k ∷ ks) p = from_commutes j (suc j) ks (iterated j k p) ∙ ap (λ n. derivation n (from (suc j) ks (iterated j k p))) (plus_none j)
    where
      plus_none : (j : ℕ) → j ≡ j + 0
      plus_none j = omega arith
  from_raised (suc i) j [] p = from_raised i (suc j) [] p ∙ ap (λ n. derivation n p) (moved i j)
    where
      moved : (i j : ℕ) → suc j + i ≡ j + suc i
      moved i j = omega arith
  from_raised (suc i) j (k ∷ ks) p = from_raised i (suc j) ks (iterated j k p) ∙ ap (λ n. derivation n (from (suc j) ks (iterated j k p))) (moved i j)
    where
      moved : (i j : ℕ) → suc j + i ≡ j + suc i
      moved i j = omega arith

  -- ---- the derivative by an operator
  iterated_is : (i k : ℕ) (p : Poly) → (iterated i k p).0 ≡ iterated_derivative r i k p.0
  unfolding iterated
  iterated_is i zero p = refl
  iterated_is i (suc k) p = ap (polynomial_derivative (ranking_cmp r) (symbol_rate i)) (iterated_is i k p)

  from_is : (i : ℕ) (ks : List ℕ) (p : Poly) → (from i ks p).0 ≡ derivative_from r i ks p.0
  unfolding from
  from_is i [] p = refl
  from_is i (k ∷ ks) p = from_is (suc i) ks (iterated i k p) ∙ ap (derivative_from r (suc i) ks) (iterated_is i k p)

  -- it is canonical
  pub derivative_is : (t : Operator) (p : Polynomial Symbol) → IsPolynomial (ranking_cmp r) p → IsPolynomial (ranking_cmp r) (derivative_of r t p)
  unfolding derivative_of
  derivative_is t p h = subst (IsPolynomial (ranking_cmp r)) (from_is 0 t.counts (p, h)) (from 0 t.counts (p, h)).1

  abbrev pub derived : Operator → Poly → Poly
  derived t p = (derivative_of r t p.0, derivative_is t p.0 p.1)

  derived_is : (t : Operator) (p : Poly) → derived t p ≡ from 0 t.counts p
  unfolding derivative_of
  derived_is t p = same_canonical (ranking_order r) _ _ (sym (from_is 0 t.counts p))

  -- one derivation more comes last
  pub derived_raised : (i : ℕ) (t : Operator) (p : Poly) → derived (record { counts = raised i t.counts }) p ≡ derivation i (derived t p)
  derived_raised i t p =
      derived_is (record { counts = raised i t.counts }) p ∙ from_raised i 0 t.counts p
      ∙ ap (λ n. derivation n (from 0 t.counts p)) (from_none i) ∙ ap (derivation i) (sym (derived_is t p))
    where
      from_none : (i : ℕ) → 0 + i ≡ i
      from_none i = omega arith

  -- ---- answers
  derivation_is : (i : ℕ) (a b : Polynomial Symbol) → derivation_answer (symbols_under r) i a ≡ Ok b → polynomial_derivative (ranking_cmp r) (symbol_rate i) a ≡ b
  unfolding polynomial_derivative
  derivation_is i a b e = operation_is (symbols_under r) _ b e

  iterated_answer_is : (i k : ℕ) (a b : Polynomial Symbol) → iterated_answer (symbols_under r) i k a ≡ Ok b → iterated_derivative r i k a ≡ b
  iterated_answer_is i zero a b e = cc
  iterated_answer_is i (suc k) a b e =
      let s = bind_ok (iterated_answer (symbols_under r) i k a) (derivation_answer (symbols_under r) i) b e in
      ap (polynomial_derivative (ranking_cmp r) (symbol_rate i)) (iterated_answer_is i k a s.0 s.1) ∙ derivation_is i s.0 b s.2

  answers_from : (i : ℕ) (ks : List ℕ) (a b : Polynomial Symbol) → derivations_answer (symbols_under r) i ks a ≡ Ok b → derivative_from r i ks a ≡ b
  answers_from i [] a b e = cc
  answers_from i (k ∷ ks) a b e =
      let s = bind_ok (iterated_answer (symbols_under r) i k a) (derivations_answer (symbols_under r) (suc i) ks) b e in
      ap (derivative_from r (suc i) ks) (iterated_answer_is i k a s.0 s.1) ∙ answers_from (suc i) ks s.0 b s.2

  abbrev Zeros : List ℕ → Type 0
  Zeros ks = All (λ k. k ≡ 0) ks

  tail : (k : ℕ) (ks : List ℕ) → Zeros (k ∷ ks) → Zeros ks
  tail k ks p = λ i d h. p (suc i) d (omega arith)

  pub none_from : (i : ℕ) (ks : List ℕ) (a : Polynomial Symbol) → Zeros ks → derivative_from r i ks a ≡ a
  none_from i [] a h = refl
  none_from i (k ∷ ks) a h = ap (λ n. derivative_from r (suc i) ks (iterated_derivative r i n a)) (h 0 0 (omega arith)) ∙ none_from (suc i) ks a (tail k ks h)

  taken_from : (n i : ℕ) (ks : List ℕ) (a : Polynomial Symbol) → Zeros (drop n ks) → derivative_from r i ks a ≡ derivative_from r i (take n ks) a
  taken_from zero i ks a h = none_from i ks a h
  taken_from (suc n) i [] a h = refl
  taken_from (suc n) i (k ∷ ks) a h = taken_from n (suc i) ks (iterated_derivative r i k a) h

  -- an answer is the derivative by the operator
  pub operator_is : (t : Operator) (a b : Polynomial Symbol) → IsOperatorOf r.signature.independents t → operator_answer (setting_of r) t a ≡ Ok b → derivative_of r t a ≡ b
  unfolding derivative_of
  operator_is t a b h e = taken_from r.signature.independents 0 t.counts a h.zeros ∙ answers_from 0 (take r.signature.independents t.counts) a b e
