-- Functions: what is read is in the grammar, and what is in the grammar is read.
use Rattle.std.proofs.Common.{◌≡◌, ℕ, ◌≤◌, ◌==◌, length, List, [], map, Ok, Option, Some, None, Bool, true, false, refl, sym, ap, subst, ◌∙◌, arith}
use Rattle.std.specs.Prelude.{if◌then◌else◌}
use Rattle.std.specs.List.{list_any}
use Rattle.dz_rank.specs.declared.symbols.Operator.{Operator}
use Rattle.dz_rank.specs.declared.symbols.Symbol.{Symbol}
use Rattle.dz_rank.specs.declared.symbols.Symbol.TheVariants.{Independent, Derivative}
use Rattle.dz_syntax.specs.declared.token.Token.{Token}
use Rattle.dz_syntax.specs.declared.token.Token.TheVariants.{Name}
use Rattle.dz_syntax.specs.declared.fault.SyntaxKind.TheVariants.{Twice}
use Rattle.dz_syntax.specs.declared.expression.Op.{Op}
use Rattle.dz_syntax.specs.Tokens.{front, behind, bytes_of}
use Rattle.dz_syntax.specs.Names.{Declared, find}
use Rattle.dz_algebra.specs.Outcome.{◌>>=◌}
use Rattle.dz_syntax.specs.Faults.{refuse}
use Rattle.dz_syntax.specs.Expressions.{State, poly_with, inside}
use Rattle.dz_syntax.specs.Grammar.{IsPoly, IsInside}
use Rattle.dz_syntax.specs.Marks.{expected, is_equals, is_semicolon}
use Rattle.dz_syntax.specs.Functions.{as_dependent, dependent_from, dependent_at, element_of, function_at, independents_alone, new_dependent_at}
use Rattle.dz_syntax.specs.SystemGrammar.{IsFunction}
use Rattle.dz_algebra.proofs.Outcomes.{bind_ok}
use Rattle.dz_syntax.proofs.Sound.{ok_is, poly_sound, inside_sound}
use Rattle.dz_syntax.proofs.Complete.{on_ok}
use Rattle.dz_syntax.proofs.Shorter.{behind_within}
use Rattle.dz_syntax.proofs.NamesGrammar.{stands_sound, stands_complete}
use Rattle.dz_syntax.proofs.ListsGrammar.{ends_element}
use Rattle.dz_syntax.proofs.ItemsGrammar.{ends_binds, side_read, side_within}

-- ---- the dependent

-- the name at the front stands for a dependent with this number
abbrev IsDependent : Declared → List ℕ → ℕ → Type 0
IsDependent names text d = (front text ≡ Name) × (o : Operator) × (find names (bytes_of text) ≡ Some (Derivative d o))

as_dependent_sound : (text : List ℕ) (s : Option Symbol) (d : ℕ) → as_dependent text s ≡ Ok d → (o : Operator) × (s ≡ Some (Derivative d o))
as_dependent_sound text None d e = absurd cc
as_dependent_sound text (Some (Independent i)) d e = absurd cc
as_dependent_sound text (Some (Derivative u o)) d e = (o, ap (λ n. Some (Derivative n o)) (ok_is u d e))

dependent_from_sound : (names : Declared) (t : Token) (text : List ℕ) (d : ℕ) → front text ≡ t → dependent_from names t text ≡ Ok d → IsDependent names text d
dependent_from_sound names Name text d is e = let s = as_dependent_sound text (find names (bytes_of text)) d e in (is, s.0, s.1)
dependent_from_sound names t text d is e = absurd cc

dependent_sound : (names : Declared) (text : List ℕ) (d : ℕ) → dependent_at names text ≡ Ok d → IsDependent names text d
unfolding dependent_at
dependent_sound names text d e = dependent_from_sound names (front text) text d refl e

dependent_complete : (names : Declared) (text : List ℕ) (d : ℕ) (o : Operator) → front text ≡ Name → find names (bytes_of text) ≡ Some (Derivative d o) → dependent_at names text ≡ Ok d
unfolding dependent_at
dependent_complete names text d o is e = ap (λ t. dependent_from names t text) is ∙ ap (as_dependent text) e

abbrev taken : ℕ → List ℕ → Bool
taken d found = list_any (λ u. d == u) found

new_if : (c : Bool) (text : List ℕ) (x y : ℕ) → (if c then refuse Twice text else Ok x) ≡ Ok y → (c ≡ false) × (x ≡ y)
new_if true text x y e = absurd cc
new_if false text x y e = (refl, ok_is x y e)

new_dependent_sound : (names : Declared) (found text : List ℕ) (d : ℕ) → new_dependent_at names found text ≡ Ok d → IsDependent names text d × (taken d found ≡ false)
unfolding new_dependent_at
new_dependent_sound names found text d e =
    let b = bind_ok (dependent_at names text) (λ d. if list_any (λ u. d == u) found then refuse Twice text else Ok d) d e in
    let n = new_if (taken b.0 found) text b.0 d b.2 in
    subst (λ d. IsDependent names text d × (taken d found ≡ false)) n.1 (dependent_sound names text b.0 b.1, n.0)

new_dependent_complete : (names : Declared) (found text : List ℕ) (d : ℕ) (o : Operator) → front text ≡ Name → find names (bytes_of text) ≡ Some (Derivative d o) → taken d found ≡ false
    → new_dependent_at names found text ≡ Ok d
unfolding new_dependent_at
new_dependent_complete names found text d o is e new =
    on_ok (dependent_at names text) d (λ d. if list_any (λ u. d == u) found then refuse Twice text else Ok d) (dependent_complete names text d o is e)
    ∙ ap (λ c. if c then refuse Twice text else Ok d) new

-- ---- a function

abbrev ReadFunction : Type 0
ReadFunction = (ℕ × List Op) × List ℕ

abbrev first_state : List ℕ → State
first_state text = record { out = []; text = text }

pub function_sound : (names : Declared) (found : List (ℕ × List Op)) (text : List ℕ) (y : ReadFunction) → element_of names found text ≡ Ok y → IsFunction names found text y.0 y.1
unfolding function_at
function_sound names found text y e =
    let alone = independents_alone names in
    let b = bind_ok (new_dependent_at names (map (λ f. f.0) found) text) (λ d. expected (is_equals (front (behind text))) (behind text) >>= λ t. poly_with alone (inside alone 64) (first_state t) >>= λ s. Ok ((d, s.out), s.text)) y e in
    let c = bind_ok (expected (is_equals (front (behind text))) (behind text)) (λ t. poly_with alone (inside alone 64) (first_state t) >>= λ s. Ok ((b.0, s.out), s.text)) y b.2 in
    let p = bind_ok (poly_with alone (inside alone 64) (first_state c.0)) (λ s. Ok ((b.0, s.out), s.text)) y c.2 in
    let n = new_dependent_sound names (map (λ f. f.0) found) text b.0 b.1 in
    let a = poly_sound alone (IsInside alone 64) (inside alone 64) (inside_sound alone 64) (first_state c.0) p.0 p.1 in
    subst (λ (y : ReadFunction). IsFunction names found text y.0 y.1) (ok_is ((b.0, p.0.out), p.0.text) y p.2) (
      b.0,
      n.0.1,
      p.0.out,
      c.0,
      n.0.0,
      n.0.2,
      n.1,
      stands_sound is_equals (behind text) c.0 c.1,
      subst (λ (l : List Op). IsPoly alone (IsInside alone 64) c.0 l p.0.text) (sym a.out) a.is,
      refl,
    )

pub function_complete : (names : Declared) (found : List (ℕ × List Op)) (text : List ℕ) (f : ℕ × List Op) (rest : List ℕ) → IsFunction names found text f rest → ends_element (front rest) ≡ true
    → element_of names found text ≡ Ok (f, rest)
unfolding function_at
function_complete names found text f rest a ends =
    let alone = independents_alone names in
    on_ok (new_dependent_at names (map (λ f. f.0) found) text) a.0 (λ d. expected (is_equals (front (behind text))) (behind text) >>= λ t. poly_with alone (inside alone 64) (first_state t) >>= λ s. Ok ((d, s.out), s.text))
    (new_dependent_complete names (map (λ f. f.0) found) text a.0 a.1 a.4 a.5 a.6)
    ∙ on_ok (expected (is_equals (front (behind text))) (behind text)) a.3 (λ t. poly_with alone (inside alone 64) (first_state t) >>= λ s. Ok ((a.0, s.out), s.text)) (stands_complete is_equals (behind text) a.3 a.7)
    ∙ on_ok (poly_with alone (inside alone 64) (first_state a.3)) (record { out = a.2; text = rest }) (λ s. Ok ((a.0, s.out), s.text)) (side_read alone (first_state a.3) a.2 rest a.8 (ends_binds (front rest) ends))
    ∙ ap (λ (f : ℕ × List Op). Ok (f, rest)) (sym a.9)

pub function_within : (names : Declared) (found : List (ℕ × List Op)) (text : List ℕ) (f : ℕ × List Op) (rest : List ℕ) → IsFunction names found text f rest → length rest ≤ length text
function_within names found text f rest a =
    omega (arith, behind_within text, ap length a.7.1, behind_within (behind text), side_within (independents_alone names) a.3 a.2 rest a.8)

pub function_starts : (names : Declared) (found : List (ℕ × List Op)) (text : List ℕ) (f : ℕ × List Op) (rest : List ℕ) → IsFunction names found text f rest → is_semicolon (front text) ≡ false
function_starts names found text f rest a = ap is_semicolon a.4
