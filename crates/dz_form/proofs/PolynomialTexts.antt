-- A canonical text is read as its polynomial, and two polynomials with one text are one.
use Rattle.std.proofs.Common.{◌≡◌, ◌⊎◌, ◌∙◌, sym, ap, subst, refl, ℕ, List, Result, Ok, Err, Some, inl, inr}
use Rattle.std.specs.Result.{IsErrAnd}
use Rattle.dz_algebra.specs.Polynomial.{Polynomial}
use Rattle.dz_algebra.specs.Size.{Refusal, wide, large}
use Rattle.dz_algebra.specs.Symbols.{Symbols}
use Rattle.dz_rank.specs.declared.symbols.Symbol.{Symbol}
use Rattle.dz_rank.specs.Rankings.{RankingValue}
use Rattle.dz_poly.specs.Books.{BookValue, Gives}
use Rattle.dz_monomials.specs.Keeping.{IsKeepable}
use Rattle.dz_monomials.specs.Stops.{IsStop}
use Rattle.dz_monomials.specs.declared.PolyStop.{PolyStop}
use Rattle.dz_monomials.specs.declared.PolyStop.TheVariants as stops
use Rattle.dz_monomials.specs.Ranked.{symbols_under}
use Rattle.dz_syntax.specs.declared.expression.Op.{Op}
use Rattle.dz_syntax.specs.declared.fault.SyntaxFault.{SyntaxFault}
use Rattle.dz_syntax.specs.declared.fault.SyntaxKind.{SyntaxKind}
use Rattle.dz_syntax.specs.declared.fault.SyntaxKind.TheVariants as kinds
use Rattle.dz_syntax.specs.Items.{Answers, item_of}
use Rattle.dz_syntax.specs.Names.{Declared, IsDeclared, signature_of}
use Rattle.dz_syntax.proofs.Readings.{item_again}
use Rattle.dz_form.specs.declared.polynomials.ReadPolyFault.{ReadPolyFault}
use Rattle.dz_form.specs.declared.polynomials.ReadPolyFault.TheVariants.{Memory, Syntax}
use Rattle.dz_form.specs.PolynomialReading.{GivesRead, fault_of, polynomial_at, polynomial_of, text_fault, text_fault_by, value_fault, value_of}
use Rattle.dz_form.specs.Steps.{polynomial_steps}
use Rattle.dz_form.specs.Texts.{polynomial_text}
use Rattle.dz_form.specs.Values.{item_answer}
use Rattle.dz_form.proofs.FitPowers.{keepable_writable}
use Rattle.dz_form.proofs.ItemValues.{same_value}
use Rattle.dz_form.proofs.TextItems.{text_is_item}
use Rattle.dz_form.proofs.TextValues.{text_value}

module _ (names : Declared) (r : RankingValue) (declared : IsDeclared names) (same : signature_of names ≡ r.signature) where
  -- the canonical text of a polynomial is read as its steps
  text_read : (p : Polynomial Symbol) → IsKeepable r p → item_of names (polynomial_text names p) ≡ Ok (polynomial_steps p)
  text_read p h = item_again names (polynomial_text names p) (polynomial_steps p) (text_is_item names p declared (keepable_writable names r p same h))

  -- and so as the polynomial
  pub polynomial_at-text : (p : Polynomial Symbol) (bytes : List ℕ) → IsKeepable r p → bytes ≡ polynomial_text names p → polynomial_at (symbols_under r) names bytes ≡ Ok p
  unfolding polynomial_at
  polynomial_at-text p bytes h e =
      ap (λ (text : List ℕ). polynomial_of (symbols_under r) (item_of names text)) e
      ∙ ap (polynomial_of (symbols_under r)) (text_read p h)
      ∙ ap value_of (text_value r p h)

  -- two polynomials with one text are one
  same_text : (p q : Polynomial Symbol) → IsKeepable r p → IsKeepable r q → polynomial_text names p ≡ polynomial_text names q → p ≡ q
  same_text p q h k e = same_value p q (sym (polynomial_at-text p (polynomial_text names p) h refl) ∙ polynomial_at-text q (polynomial_text names p) k e)

-- two polynomials with one canonical text are one
pub polynomial_text-injective : (names : Declared) (r : RankingValue) (p q : Polynomial Symbol) → IsDeclared names → signature_of names ≡ r.signature → IsKeepable r p → IsKeepable r q
    → polynomial_text names p ≡ polynomial_text names q → p ≡ q
polynomial_text-injective names r p q declared same h k e = same_text names r declared same p q h k e

-- ---- the faults of reading

-- a fault of the text is told, unless memory ran out
text_fault_is : (k : SyntaxKind) (f : SyntaxFault) → (text_fault_by k f ≡ Memory) ⊎ (text_fault_by k f ≡ Syntax f)
text_fault_is kinds.Memory f = inl refl
text_fault_is k f = inr refl

-- a text that is no item
text_misread : (new : BookValue) (g : Symbols Symbol) (names : Declared) (bytes : List ℕ) (f : SyntaxFault) → Answers {X = List Op} (λ v. v) (Err f) (item_of names bytes)
    → GivesRead new (Err (text_fault f)) (polynomial_at g names bytes)
unfolding polynomial_at
text_misread new g names bytes f (inl e) = inl (ap text_fault e)
text_misread new g names bytes f (inr e) = by_fault (text_fault_is f.kind f)
  where
    by_fault : (text_fault f ≡ Memory) ⊎ (text_fault f ≡ Syntax f) → GivesRead new (Err (text_fault f)) (polynomial_of g (item_of names bytes))
    by_fault (inl m) = inl m
    by_fault (inr s) = inr (ap (λ o. fault_of (polynomial_of g o)) e ∙ ap (λ x. Some x) (sym s))

-- what a call gives then
pub text_refused : (new : BookValue) (g : Symbols Symbol) (names : Declared) (bytes : List ℕ) (f : SyntaxFault) (r : Result ℕ ReadPolyFault) → IsErrAnd r (λ e. e ≡ text_fault f)
    → Answers {X = List Op} (λ v. v) (Err f) (item_of names bytes) → GivesRead new r (polynomial_at g names bytes)
text_refused new g names bytes f (Ok k) is read = absurd is
text_refused new g names bytes f (Err e) is read = subst (λ e. GivesRead new (Err e) (polynomial_at g names bytes)) (sym is) (text_misread new g names bytes f read)

-- a value that is refused
value_refused : (stop : PolyStop) (answer : Result (Polynomial Symbol) Refusal) → IsStop stop answer → (value_fault stop ≡ Memory) ⊎ (fault_of (value_of answer) ≡ Some (value_fault stop))
value_refused stop answer (inl e) = inl (ap value_fault e)
value_refused stop (Ok p) (inr e) = absurd cc
value_refused stop (Err wide) (inr e) = let same : stops.Wide ≡ stop = cc in inr (ap (λ s. Some (value_fault s)) same)
value_refused stop (Err (large l)) (inr e) = let same : stops.Large l ≡ stop = cc in inr (ap (λ s. Some (value_fault s)) same)

-- what the value of an item that was read gives
pub value_read : (new : BookValue) (g : Symbols Symbol) (names : Declared) (bytes : List ℕ) (steps : List Op) (k : ℕ) → Answers {X = List Op} (λ v. v) (Ok steps) (item_of names bytes)
    → Gives new (Ok k) (item_answer g steps) → GivesRead new (Ok k) (polynomial_at g names bytes)
unfolding polynomial_at
value_read new g names bytes steps k read given = rw read (by_answer (item_answer g steps) given)
  where
    by_answer : (answer : Result (Polynomial Symbol) Refusal) → Gives new (Ok k) answer → GivesRead new (Ok k) (value_of answer)
    by_answer (Ok p) given = given
    by_answer (Err e) given = given

-- and what its refusal gives
pub refusal_read : (new : BookValue) (g : Symbols Symbol) (names : Declared) (bytes : List ℕ) (steps : List Op) (stop : PolyStop) (r : Result ℕ ReadPolyFault) → IsErrAnd r (λ e. e ≡ value_fault stop)
    → Answers {X = List Op} (λ v. v) (Ok steps) (item_of names bytes) → IsStop stop (item_answer g steps) → GivesRead new r (polynomial_at g names bytes)
unfolding polynomial_at
refusal_read new g names bytes steps stop (Ok k) is read refused = absurd is
refusal_read new g names bytes steps stop (Err e) is read refused = rw (is, read) (value_refused stop (item_answer g steps) refused)

-- what a call gives for the canonical text of a polynomial
pub text_gives : (names : Declared) (r : RankingValue) → IsDeclared names → signature_of names ≡ r.signature → (new : BookValue) (result : Result ℕ ReadPolyFault) (bytes : List ℕ)
    → GivesRead new result (polynomial_at (symbols_under r) names bytes) → (p : Polynomial Symbol) → IsKeepable r p → bytes ≡ polynomial_text names p → GivesRead new result (Ok p)
text_gives names r declared same new result bytes given p h e = subst (GivesRead new result) (polynomial_at-text names r declared same p bytes h e) given
