-- The reading of an item, and the grammar.
use Rattle.std.proofs.Common.{◌≡◌, ℕ, ◌<◌, List, length, Result, Ok, Err, refl, sym, ap, subst, ◌∙◌, arith, false}
use Rattle.std.specs.Prelude.{IfOk}
use Rattle.dz_syntax.specs.declared.token.Token.{Token}
use Rattle.dz_syntax.specs.declared.token.Token.TheVariants.{Nothing}
use Rattle.dz_syntax.specs.declared.fault.Fault.{Fault}
use Rattle.dz_syntax.specs.declared.fault.SyntaxFault.{SyntaxFault}
use Rattle.dz_syntax.specs.declared.expression.Op.{Op}
use Rattle.dz_syntax.specs.Tokens.{front, skip_from}
use Rattle.dz_syntax.specs.Names.{Declared, signature_of}
use Rattle.dz_syntax.specs.Postfix.{IsExpression}
use Rattle.dz_syntax.specs.Expressions.{State, poly_with, inside}
use Rattle.dz_syntax.specs.Grammar.{binding, IsPoly, IsInside}
use Rattle.dz_syntax.specs.Items.{placed, Answers, ended_from, start, item_at, item_of, IsItem}
use Rattle.dz_algebra.proofs.Outcomes.{bind_ok}
use Rattle.dz_syntax.proofs.Sound.{ok_is, poly_sound, inside_sound}
use Rattle.dz_syntax.proofs.Shorter.{inside_within}
use Rattle.dz_syntax.proofs.Postfix.{made_expression, poly_is_made}
use Rattle.dz_syntax.proofs.SymbolsFit.{symbol_fits}
use Rattle.dz_syntax.proofs.Complete.{then, on_ok, poly_complete, inside_complete}

ended_ok : (t : Token) (s : State) (o : List Op) → front s.text ≡ t → ended_from t s ≡ Ok o → (front s.text ≡ Nothing) × (s.out ≡ o)
ended_ok Nothing s o is e = (is, ok_is s.out o e)
ended_ok t s o is e = absurd cc

placed_ok : (total : ℕ) (r : Result (List Op) Fault) (o : List Op) → placed total r ≡ Ok o → r ≡ Ok o
placed_ok total (Ok x) o e = let k : x ≡ o = cc in ap (λ (y : List Op). Ok y) k
placed_ok total (Err f) o e = absurd cc

pub item_found : (names : Declared) (bytes : List ℕ) (o : List Op) → item_of names bytes ≡ Ok o → IsItem names bytes o
unfolding item_of item_at
item_found names bytes o e =
    let b = bind_ok (poly_with names (inside names 64) (start bytes)) (λ s. ended_from (front s.text) s) o (placed_ok (length bytes) (item_at names bytes) o e) in
    let a = poly_sound names (IsInside names 64) (inside names 64) (inside_sound names 64) (start bytes) b.0 b.1 in
    let end = ended_ok (front b.0.text) b.0 o refl b.2 in
    record { end = b.0.text; poly = subst (λ (l : List Op). IsPoly names (IsInside names 64) (skip_from false bytes) l b.0.text) (sym a.out ∙ end.1) a.is; nothing = end.0 }

pub item_again : (names : Declared) (bytes : List ℕ) (o : List Op) → IsItem names bytes o → item_of names bytes ≡ Ok o
unfolding item_of item_at
item_again names bytes o is =
    let s = then (start bytes) o is.end in
    let lt : binding (front is.end) < 1 = rw is.nothing (omega arith) in
    let read = poly_complete names (IsInside names 64) (inside names 64) (inside_complete names 64) (inside_within names 64) (start bytes) o is.end is.poly lt in
    ap (placed (length bytes)) (on_ok (poly_with names (inside names 64) (start bytes)) s (λ s. ended_from (front s.text) s) read ∙ ap (λ t. ended_from t s) is.nothing)

pub is_found : (names : Declared) (bytes : List ℕ) (r : Result (List Op) SyntaxFault) → Answers (λ v. v) r (item_of names bytes) → IfOk r (λ v. IsItem names bytes v)
is_found names bytes (Ok v) e = item_found names bytes v e
is_found names bytes (Err f) e = tt

abbrev read : List Op → Result (List Op) SyntaxFault
read o = Ok o

ok_values : (a b : List Op) → read a ≡ read b → a ≡ b
ok_values a b e = cc

pub one_reading : (names : Declared) (bytes : List ℕ) (a b : List Op) → IsItem names bytes a → IsItem names bytes b → a ≡ b
one_reading names bytes a b p q = ok_values a b (sym (item_again names bytes a p) ∙ item_again names bytes b q)

pub item_is_expression : (names : Declared) (bytes : List ℕ) (r : Result (List Op) SyntaxFault) → Answers (λ v. v) r (item_of names bytes) → IfOk r (λ v. IsExpression (signature_of names) v)
item_is_expression names bytes (Ok v) e =
    let i = item_found names bytes v e in
    made_expression (signature_of names) v (poly_is_made names (signature_of names) (symbol_fits names) (skip_from false bytes) v i.end i.poly)
item_is_expression names bytes (Err f) e = tt
