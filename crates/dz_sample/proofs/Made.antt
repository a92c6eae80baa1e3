-- What the calls for an equation leave in a book, one after the other: two symbols, a number, a multiple and the rest.
use Rattle.std.proofs.Common.{◌≡◌, ◌∙◌, ◌≤◌, ◌+◌, ℕ, ℤ, List, [], ◌∷◌, length, None, Some, ◌⊎◌, refl, subst, ap, arith, inl, inr, of_z, to_z, to_z-of_z}
use Rattle.std.specs.Prelude.{IfErr, IfOk, IsErrAnd, OnErr, OnOk, Ok, Err, Result, unsigned_abs}
use Rattle.std.specs.Int.{w128}
use Rattle.std.specs.Ordering.{ordering_reverse}
use Rattle.std.proofs.lemmas.Int.{fits_signed_from_abs}
use Rattle.std.specs.declared.cmp.Ordering.TheVariants.{Greater, Less}
use Rattle.dz_algebra.specs.Amount.{greatest}
use Rattle.dz_algebra.specs.Polynomial.{Polynomial, polynomial_product, symbol_polynomial}
use Rattle.dz_algebra.specs.Size.{Refusal, difference_answer, product_answer}
use Rattle.dz_poly.specs.Books.{BookValue, Gives, IsKept, Means, polynomial}
use Rattle.dz_poly.proofs.Books.{kept_itself, kept_polynomial, kept_trans, means_lives, means_polynomial}
use Rattle.dz_rank.specs.Rankings.{RankingValue, ranking_cmp}
use Rattle.dz_rank.specs.Symbols.{derivative_by, exponent_sums}
use Rattle.dz_rank.specs.declared.symbols.Symbol.{Symbol}
use Rattle.dz_rank.specs.declared.symbols.Symbol.TheVariants.{Derivative}
use Rattle.dz_sample.specs.Equations.{IsEquationOf, dependent_of, derivative_of, equation_polynomial}
use Rattle.dz_sample.specs.declared.equations.SampleEquation.{SampleEquation}
use Rattle.dz_monomials.specs.Ranked.{symbols_under}
use Rattle.dz_monomials.specs.Terms.{constant_polynomial}
use Rattle.dz_monomials.specs.declared.PolyStop.{PolyStop}
use Rattle.dz_monomials.specs.declared.PolyStop.TheVariants.{Memory}
use Rattle.dz_sample.proofs.Fitting.{multiple_answer, rest_answer}

-- ---- results
-- what is not refused is given, or memory ran out
pub given : (new : BookValue) (result : Result ℕ PolyStop) (answer : Result (Polynomial Symbol) Refusal) (q : Polynomial Symbol) → answer ≡ Ok q
    → Gives new result answer → IfOk result (λ p. Means new p q)
given new (Ok p) answer q is gives = rw is at gives
given new (Err e) answer q is gives = tt

pub only_memory : (new : BookValue) (result : Result ℕ PolyStop) (answer : Result (Polynomial Symbol) Refusal) (q : Polynomial Symbol) → answer ≡ Ok q
    → Gives new result answer → IfErr result (λ e. e ≡ Memory)
only_memory new (Ok p) answer q is gives = tt
only_memory new (Err e) answer q is gives = go (subst (Gives new (Err e)) is gives)
  where
    go : (e ≡ Memory) ⊎ (None ≡ Some e) → e ≡ Memory
    go (inl h) = h
    go (inr h) = absurd cc

-- an exit hands on its error
pub err_up : {T : Type 0} (r : Result T PolyStop) (e : PolyStop) → IsErrAnd r (λ y. y ≡ e) → e ≡ Memory → IfErr r (λ y. y ≡ Memory)
err_up (Ok a) e h memory = tt
err_up (Err x) e h memory = h ∙ memory

-- a call keeps older polynomials, and a refused one leaves the book as it was
pub kept_by : {A E : Type 0} (old new : BookValue) (r : Result A E) → OnOk r (IsKept old new) → OnErr r (new ≡ old) → IsKept old new
kept_by old new (Ok a) kept refused = kept
kept_by old new (Err e) kept refused = rw refused (kept_itself old)

-- a coefficient in range is as it is stored
pub kept_whole : (z : ℤ) → unsigned_abs z ≤ greatest → to_z w128 (of_z w128 z) ≡ z
kept_whole z small = to_z-of_z (fits_signed_from_abs w128 z (omega arith))

-- ---- the derivative is the greater symbol
-- an operator after the identity
after_identity : (ts : List ℕ) → length ts ≡ 4 → exponent_sums (0 ∷ 0 ∷ 0 ∷ 0 ∷ []) ts ≡ ts
after_identity (a ∷ b ∷ c ∷ d ∷ []) four =
    let plain : (x : ℕ) → 0 + x ≡ x = λ x. omega arith in
    rw (plain a, plain b, plain c, plain d) refl
after_identity [] four = absurd (omega arith)
after_identity (a ∷ []) four = absurd (omega arith)
after_identity (a ∷ b ∷ []) four = absurd (omega arith)
after_identity (a ∷ b ∷ c ∷ []) four = absurd (omega arith)
after_identity (a ∷ b ∷ c ∷ d ∷ e ∷ ts) four = absurd (omega arith)

pub above : (r : RankingValue) (e : SampleEquation) → IsEquationOf r.signature e
    → ranking_cmp r (dependent_of e) (derivative_by e.operator (dependent_of e)) ≡ Less
    → ranking_cmp r (derivative_of e) (dependent_of e) ≡ ordering_reverse (ranking_cmp r (dependent_of e) (derivative_of e))
    → ranking_cmp r (derivative_of e) (dependent_of e) ≡ Greater
above r e h grows total =
    let raised : derivative_by e.operator (dependent_of e) ≡ derivative_of e =
    ap (λ ts. Derivative e.dependent (record { counts = ts })) (after_identity e.operator.counts h.belongs.1.size) in
    total ∙ ap ordering_reverse (subst (λ s. ranking_cmp r (dependent_of e) s ≡ Less) raised grows)

-- ---- the books, one after the other
-- what a polynomial of an older book is in a later one
stays : (old new : BookValue) (p : ℕ) (q : Polynomial Symbol) → Means old p q → IsKept old new → polynomial new p ≡ q
stays old new p q means kept = kept_polynomial old new p kept (means_lives old p q means) ∙ means_polynomial old p q means

module _ (old one two three : BookValue) (leader symbol factor : ℕ) (e : SampleEquation) (h : IsEquationOf old.ranking.signature e)
    (first : IsKept old one) (second : IsKept one two) (third : IsKept two three)
    (leader_is : Means one leader (symbol_polynomial (derivative_of e))) (symbol_is : Means two symbol (symbol_polynomial (dependent_of e)))
    (factor_is : Means three factor (constant_polynomial (to_z w128 (of_z w128 e.coefficient)))) where
  older : IsKept old three
  older = kept_trans old two three (kept_trans old one two first second) third

  abbrev multiple_of : Polynomial Symbol
  multiple_of = polynomial_product (ranking_cmp old.ranking) (constant_polynomial e.coefficient) (symbol_polynomial (dependent_of e))

  -- the product is not refused
  pub product_is : product_answer (symbols_under three.ranking) (polynomial three factor) (polynomial three symbol) ≡ Ok multiple_of
  product_is =
      let number = means_polynomial three factor _ factor_is ∙ ap (λ (z : ℤ). constant_polynomial z) (kept_whole e.coefficient h.in_range) in
      rw (older.ranking, number, stays two three symbol _ symbol_is third) (multiple_answer (symbols_under old.ranking) (dependent_of e) e.coefficient (omega arith) h.in_range)

  -- nor is the difference
  pub difference_is : (four : BookValue) (multiple : ℕ) → IsKept three four → Gives four (Ok multiple) (product_answer (symbols_under three.ranking) (polynomial three factor) (polynomial three symbol))
      → ranking_cmp old.ranking (derivative_of e) (dependent_of e) ≡ Greater
      → difference_answer (symbols_under four.ranking) (polynomial four leader) (polynomial four multiple) ≡ Ok (equation_polynomial (ranking_cmp old.ranking) e)
  difference_is four multiple fourth gives greater =
      let means = means_polynomial four multiple multiple_of (subst (Gives four (Ok multiple)) product_is gives) in
      let since = kept_trans one three four (kept_trans one two three second third) fourth in
      rw (fourth.ranking ∙ older.ranking, stays one four leader _ leader_is since, means)
      (rest_answer (symbols_under old.ranking) (derivative_of e) (dependent_of e) e.coefficient greater h.small (omega arith) h.in_range)
