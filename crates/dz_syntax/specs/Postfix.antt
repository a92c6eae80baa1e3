-- Lists of steps in postfix order.
use Rattle.std.specs.Prelude.{◌≡◌, ◌≤◌, ℕ, zero, suc, ⊤, List, [], ◌∷◌, Option, Some, None, pos, All}
use Rattle.dz_rank.specs.declared.rankings.Signature.{Signature}
use Rattle.dz_rank.specs.Symbols.{BelongsTo, total_order}
use Rattle.dz_syntax.specs.declared.expression.Op.{Op}
use Rattle.dz_syntax.specs.declared.expression.Op.TheVariants.{Number, Symbol, Negate, Power}
use Rattle.dz_syntax.specs.Expressions.{most_literal, most_exponent}

-- a number is one that may be written, and a symbol is one of the signature, of total order at most 60
abbrev pub IsStep : Signature → Op → Type 0
IsStep g (Number z) = (n : ℕ) × (n ≤ most_literal) × (z ≡ pos n)
IsStep g (Symbol v) = BelongsTo g v × (total_order v ≤ 60)
IsStep g (Power k) = k ≤ most_exponent
IsStep g op = ⊤

-- how many values there are after the steps, of n before; none where a step finds too few
abbrev pub values_after : ℕ → List Op → Option ℕ
values_after n [] = Some n
values_after n (Number z ∷ steps) = values_after (suc n) steps
values_after n (Symbol v ∷ steps) = values_after (suc n) steps
values_after zero (op ∷ steps) = None
values_after (suc n) (Negate ∷ steps) = values_after (suc n) steps
values_after (suc n) (Power k ∷ steps) = values_after (suc n) steps
values_after (suc zero) (op ∷ steps) = None
values_after (suc (suc n)) (op ∷ steps) = values_after (suc n) steps

-- the steps are one expression over a signature
pub record IsExpression (g : Signature) (steps : List Op) : Type 0 where
  pub fit : All (λ op. IsStep g op) steps
  pub one : values_after 0 steps ≡ Some 1
