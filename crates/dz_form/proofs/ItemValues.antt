-- What an item's value is may stand in a book.
use Rattle.std.proofs.Common.{◌≡◌, ◌≤◌, subst, refl, ℕ, zero, suc, List, [], ◌∷◌, ◌++◌, ℤ, pos, negsuc, unsigned_abs, Result, Ok, Err, arith}
use Rattle.std.specs.Prelude.{All, ⊤}
use Rattle.std.proofs.lemmas.List.Elements.{All-head, All-tail}
use Rattle.dz_algebra.specs.Amount.{greatest}
use Rattle.dz_algebra.specs.Polynomial.{Polynomial, negated, polynomial_negative, symbol_polynomial}
use Rattle.dz_algebra.specs.Size.{Refusal, difference_answer, product_answer, sum_answer}
use Rattle.dz_algebra.proofs.Canonical.{are_monomials, monomials-append}
use Rattle.dz_algebra.proofs.Inside.{in-append}
use Rattle.dz_rank.specs.declared.symbols.Symbol as rank
use Rattle.dz_rank.specs.Rankings.{RankingValue, ranking_cmp}
use Rattle.dz_rank.specs.Symbols.{BelongsTo, total_order}
use Rattle.dz_monomials.specs.Keeping.{IsKeepable}
use Rattle.dz_monomials.specs.Ranked.{symbols_under}
use Rattle.dz_monomials.specs.Terms.{constant_polynomial}
use Rattle.dz_monomials.proofs.Multiplying.{product_keepable, zero_entry}
use Rattle.dz_monomials.proofs.OneTerm.{number_entry, power_entry}
use Rattle.dz_monomials.proofs.Operations.{operation_keepable}
use Rattle.dz_monomials.proofs.SymbolLaws.{ranking_order}
use Rattle.dz_syntax.specs.declared.expression.Op.{Op}
use Rattle.dz_syntax.specs.declared.expression.Op.TheVariants.{Number, Symbol, Negate, Add, Sub, Mul, Power}
use Rattle.dz_syntax.specs.Postfix.{IsExpression, IsStep}
use Rattle.dz_algebra.specs.Outcome.{◌>>=◌}
use Rattle.dz_form.specs.Values.{Polynomials, item_answer, latest, onto, power_answer, step_answer, steps_answer, times}
use Rattle.dz_monomials.proofs.Negated.{negated_keepable}

-- every value may stand in a book
abbrev pub AreKeepable : RankingValue → Polynomials → Type 0
AreKeepable r [] = ⊤
AreKeepable r (p ∷ values) = IsKeepable r p × AreKeepable r values

-- what two answers have is one
pub same_value : {A E : Type 0} (a b : A) → ◌≡◌ {A = Result A E} (Ok a) (Ok b) → a ≡ b
same_value a b e = cc

-- the polynomial zero may stand in a book
pub nothing_keepable : (r : RankingValue) → IsKeepable r []
nothing_keepable r = (zero_entry r [] [] refl refl).keepable

-- a number in range may stand in a book
pub number_keepable : (r : RankingValue) (z : ℤ) → unsigned_abs z ≤ greatest → IsKeepable r (constant_polynomial z)
number_keepable r (pos zero) l = nothing_keepable r
number_keepable r (pos (suc k)) l = (number_entry r (pos (suc k)) (constant_polynomial (pos (suc k))) [] (λ e. cc) l refl refl).keepable
number_keepable r (negsuc k) l = (number_entry r (negsuc k) (constant_polynomial (negsuc k)) [] (λ e. cc) l refl refl).keepable

-- a symbol of the signature may stand in a book
pub symbol_keepable : (r : RankingValue) (s : rank.Symbol) → BelongsTo r.signature s → total_order s ≤ 60 → IsKeepable r (symbol_polynomial s)
symbol_keepable r s b o = (power_entry r (pos 1) s 1 (symbol_polynomial s) ((s, 1) ∷ []) (λ e. cc) (omega arith) (omega arith) (omega arith) b o refl refl).keepable

module _ (r : RankingValue) where
  -- the answer of a sum may stand in a book
  sum_kept : (a b p : Polynomial rank.Symbol) → IsKeepable r a → IsKeepable r b → sum_answer (symbols_under r) a b ≡ Ok p → IsKeepable r p
  sum_kept a b p h k e =
      let order = ranking_order r in
      operation_keepable r (a ++ b) (monomials-append order a b (are_monomials order a h.canonical) (are_monomials order b k.canonical))
      (in-append (ranking_cmp r) (BelongsTo r.signature) a b h.belongs k.belongs) p e

  -- and so may that of a difference
  difference_kept : (a b p : Polynomial rank.Symbol) → IsKeepable r a → IsKeepable r b → difference_answer (symbols_under r) a b ≡ Ok p → IsKeepable r p
  difference_kept a b p h k e = sum_kept a (negated b) p h (negated_keepable r b k) e

  -- and that of products, one after the other
  times_kept : (a : Polynomial rank.Symbol) (n : ℕ) (p q : Polynomial rank.Symbol) → IsKeepable r a → IsKeepable r p → times (symbols_under r) a n p ≡ Ok q → IsKeepable r q
  times_kept a zero p q h k e = subst (IsKeepable r) (same_value p q e) k
  times_kept a (suc n) p q h k e = by_product (product_answer (symbols_under r) p a) refl (λ m k. times_kept a n m q h k) e
    where
      by_product : (o : Result (Polynomial rank.Symbol) Refusal) → product_answer (symbols_under r) p a ≡ o
          → ((m : Polynomial rank.Symbol) → IsKeepable r m → times (symbols_under r) a n m ≡ Ok q → IsKeepable r q)
          → (o >>= times (symbols_under r) a n) ≡ Ok q → IsKeepable r q
      by_product (Ok m) f more e = more m (product_keepable r p a k h m f) e
      by_product (Err x) f more e = absurd cc

  -- and that of a power
  power_kept : (a : Polynomial rank.Symbol) (n : ℕ) (q : Polynomial rank.Symbol) → IsKeepable r a → power_answer (symbols_under r) a n ≡ Ok q → IsKeepable r q
  unfolding power_answer
  power_kept a zero q h e = subst (IsKeepable r) (same_value (constant_polynomial (pos 1)) q e) (number_keepable r (pos 1) (omega arith))
  power_kept a (suc n) q h e = times_kept a n a q h h e

  -- an answer on top of values
  onto_kept : (values values' : Polynomials) (o : Result (Polynomial rank.Symbol) Refusal) → AreKeepable r values → ((p : Polynomial rank.Symbol) → o ≡ Ok p → IsKeepable r p)
      → onto values o ≡ Ok values' → AreKeepable r values'
  onto_kept values values' (Ok p) k h e = subst (AreKeepable r) (same_value (p ∷ values) values' e) (h p refl, k)
  onto_kept values values' (Err x) k h e = absurd cc

  -- a number that may be written
  literal_kept : (z : ℤ) → IsStep r.signature (Number z) → IsKeepable r (constant_polynomial z)
  literal_kept z s = number_keepable r z (rw s.2 s.1)

  -- a step
  step_kept : (op : Op) (values values' : Polynomials) → IsStep r.signature op → AreKeepable r values → step_answer (symbols_under r) op values ≡ Ok values' → AreKeepable r values'
  step_kept (Number z) values values' s k e = onto_kept values values' (Ok (constant_polynomial z)) k (λ p f. subst (IsKeepable r) (same_value (constant_polynomial z) p f) (literal_kept z s)) e
  step_kept (Symbol v) values values' s k e = onto_kept values values' (Ok (symbol_polynomial v)) k (λ p f. subst (IsKeepable r) (same_value (symbol_polynomial v) p f) (symbol_keepable r v s.0 s.1)) e
  step_kept Negate [] values' s k e = subst (AreKeepable r) (same_value [] values' e) k
  step_kept Negate (a ∷ values) values' s k e = onto_kept values values' (Ok (polynomial_negative a)) k.1 (λ p f. subst (IsKeepable r) (same_value (polynomial_negative a) p f) (negated_keepable r a k.0)) e
  step_kept (Power n) [] values' s k e = subst (AreKeepable r) (same_value [] values' e) k
  step_kept (Power n) (a ∷ values) values' s k e = onto_kept values values' (power_answer (symbols_under r) a n) k.1 (λ p f. power_kept a n p k.0 f) e
  step_kept Add [] values' s k e = subst (AreKeepable r) (same_value [] values' e) k
  step_kept Add (b ∷ []) values' s k e = subst (AreKeepable r) (same_value (b ∷ []) values' e) k
  step_kept Add (b ∷ a ∷ values) values' s k e = onto_kept values values' (sum_answer (symbols_under r) a b) k.1.1 (λ p f. sum_kept a b p k.1.0 k.0 f) e
  step_kept Sub [] values' s k e = subst (AreKeepable r) (same_value [] values' e) k
  step_kept Sub (b ∷ []) values' s k e = subst (AreKeepable r) (same_value (b ∷ []) values' e) k
  step_kept Sub (b ∷ a ∷ values) values' s k e = onto_kept values values' (difference_answer (symbols_under r) a b) k.1.1 (λ p f. difference_kept a b p k.1.0 k.0 f) e
  step_kept Mul [] values' s k e = subst (AreKeepable r) (same_value [] values' e) k
  step_kept Mul (b ∷ []) values' s k e = subst (AreKeepable r) (same_value (b ∷ []) values' e) k
  step_kept Mul (b ∷ a ∷ values) values' s k e = onto_kept values values' (product_answer (symbols_under r) a b) k.1.1 (λ p f. product_keepable r a b k.1.0 k.0 p f) e

  -- steps
  steps_kept : (steps : List Op) (values values' : Polynomials) → All (λ op. IsStep r.signature op) steps → AreKeepable r values → steps_answer (symbols_under r) steps values ≡ Ok values' → AreKeepable r values'
  steps_kept [] values values' s k e = subst (AreKeepable r) (same_value values values' e) k
  steps_kept (op ∷ steps) values values' s k e =
      by_step (step_answer (symbols_under r) op values) refl (λ made k. steps_kept steps made values' (All-tail (λ op. IsStep r.signature op) op steps s) k) e
    where
      by_step : (o : Result Polynomials Refusal) → step_answer (symbols_under r) op values ≡ o → ((made : Polynomials) → AreKeepable r made → steps_answer (symbols_under r) steps made ≡ Ok values' → AreKeepable r values')
          → (o >>= steps_answer (symbols_under r) steps) ≡ Ok values' → AreKeepable r values'
      by_step (Ok made) f more e = more made (step_kept op values made (All-head (λ op. IsStep r.signature op) op steps s) k f) e
      by_step (Err x) f more e = absurd cc

  -- the latest of values
  latest_kept : (values : Polynomials) → AreKeepable r values → IsKeepable r (latest values)
  latest_kept [] k = nothing_keepable r
  latest_kept (p ∷ values) k = k.0

-- the value of an item may stand in a book
pub item_keepable : (r : RankingValue) (steps : List Op) (p : Polynomial rank.Symbol) → IsExpression r.signature steps → item_answer (symbols_under r) steps ≡ Ok p → IsKeepable r p
unfolding item_answer
item_keepable r steps p h e = by_values (steps_answer (symbols_under r) steps []) refl e
  where
    by_values : (o : Result Polynomials Refusal) → steps_answer (symbols_under r) steps [] ≡ o → (o >>= λ values. Ok (latest values)) ≡ Ok p → IsKeepable r p
    by_values (Ok values) f e = subst (IsKeepable r) (same_value (latest values) p e) (latest_kept r values (steps_kept r steps [] values h.fit tt f))
    by_values (Err x) f e = absurd cc
