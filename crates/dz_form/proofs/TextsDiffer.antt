-- Different symbols, and different operators, have different texts.
use Rattle.std.proofs.Common.{◌≡◌, ℕ, ◌≤◌, List, [], ◌++◌, sum, Bool, true, false, Result, Ok, refl, sym, ap, ◌∙◌}
use Rattle.std.specs.Prelude.{cond, codes}
use Rattle.dz_rank.specs.declared.symbols.Operator.{Operator}
use Rattle.dz_rank.specs.declared.symbols.Symbol.{Symbol}
use Rattle.dz_rank.specs.Symbols.{BelongsTo, IsOperatorOf, identity, total_order}
use Rattle.dz_syntax.specs.declared.fault.Fault.{Fault}
use Rattle.dz_syntax.specs.Tokens.{skip_from, front, token_of}
use Rattle.dz_syntax.specs.Names.{Declared, IsDeclared, signature_of}
use Rattle.dz_syntax.specs.Atoms.{independent_at, names_in, symbol_at}
use Rattle.dz_syntax.proofs.Sound.{ok_is}
use Rattle.dz_form.specs.Texts.{derivations_text, is_identity, operator_text, symbol_text}
use Rattle.dz_form.proofs.SymbolTexts.{ends_nil, identity_is, operator_read, symbol_read}

-- what is read at one place is one thing
one_read : (A : Type 0) (x y : A) (rest : List ℕ) (r : Result (A × List ℕ) Fault) → r ≡ Ok (x, rest) → r ≡ Ok (y, rest) → x ≡ y
one_read A x y rest r e f = ap (λ (p : A × List ℕ). p.0) (ok_is (x, rest) (y, rest) (sym e ∙ f))

-- ---- symbols

-- symbols with one text are one
pub symbol_text-injective : (names : Declared) (s t : Symbol) → IsDeclared names → BelongsTo (signature_of names) s → BelongsTo (signature_of names) t → total_order s ≤ 60 → total_order t ≤ 60
    → symbol_text names s ≡ symbol_text names t → s ≡ t
symbol_text-injective names s t d in_s in_t order_s order_t e =
    let same = ap (λ (text : List ℕ). symbol_at names (skip_from false (text ++ []))) e in
    one_read Symbol s t [] (symbol_at names (skip_from false (symbol_text names s ++ []))) (symbol_read names s [] d in_s order_s ends_nil) (same ∙ symbol_read names t [] d in_t order_t ends_nil)

-- ---- operators

-- no name begins with -
no_names_at_minus : (names : Declared) (o : Operator) (rest : List ℕ) → names_in 60 names identity (skip_from false (codes "-" ++ rest)) ≡ Ok (o, []) → ⊥
unfolding names_in independent_at front token_of
no_names_at_minus names o rest e = cc

-- operators with one text are one, by whether each is the identity
operators_by : (names : Declared) (o p : Operator) (none nothing : Bool) → IsDeclared names → IsOperatorOf names.independents o → IsOperatorOf names.independents p
    → sum o.counts ≤ 60 → sum p.counts ≤ 60 → is_identity o ≡ none → is_identity p ≡ nothing
    → cond none (codes "-") (derivations_text names o) ≡ cond nothing (codes "-") (derivations_text names p) → o ≡ p
operators_by names o p true true d of_o of_p order_o order_p i j e = identity_is names.independents o of_o i ∙ sym (identity_is names.independents p of_p j)
operators_by names o p true false d of_o of_p order_o order_p i j e =
    let same = ap (λ (text : List ℕ). names_in 60 names identity (skip_from false (text ++ codes "]"))) e in
    absurd (no_names_at_minus names p (codes "]") (same ∙ operator_read names p [] d of_p order_p j))
operators_by names o p false true d of_o of_p order_o order_p i j e =
    let same = ap (λ (text : List ℕ). names_in 60 names identity (skip_from false (text ++ codes "]"))) (sym e) in
    absurd (no_names_at_minus names o (codes "]") (same ∙ operator_read names o [] d of_o order_o i))
operators_by names o p false false d of_o of_p order_o order_p i j e =
    let same = ap (λ (text : List ℕ). names_in 60 names identity (skip_from false (text ++ codes "]"))) e in
    one_read Operator o p [] (names_in 60 names identity (skip_from false (derivations_text names o ++ codes "]"))) (operator_read names o [] d of_o order_o i) (same ∙ operator_read names p [] d of_p order_p j)

-- operators with one text are one
pub operator_text-injective : (names : Declared) (o p : Operator) → IsDeclared names → IsOperatorOf names.independents o → IsOperatorOf names.independents p → sum o.counts ≤ 60 → sum p.counts ≤ 60
    → operator_text names o ≡ operator_text names p → o ≡ p
unfolding operator_text
operator_text-injective names o p d of_o of_p order_o order_p e = operators_by names o p (is_identity o) (is_identity p) d of_o of_p order_o order_p refl refl e
