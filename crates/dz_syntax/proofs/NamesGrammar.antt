-- Lists of declared names: what is read is in the grammar, and what is in the grammar is read.
use Rattle.std.proofs.Common.{◌≡◌, ℕ, zero, suc, ◌<◌, ◌≤◌, length, List, Result, Ok, Bool, true, false, refl, sym, ap, subst, ◌∙◌, arith}
use Rattle.std.specs.Prelude.{if◌then◌else◌}
use Rattle.dz_syntax.specs.declared.token.Token.{Token}
use Rattle.dz_syntax.specs.declared.token.Token.TheVariants.{Name, Comma}
use Rattle.dz_syntax.specs.declared.fault.Fault.{Fault}
use Rattle.dz_syntax.specs.declared.fault.SyntaxKind.TheVariants.{Twice, Names}
use Rattle.dz_syntax.specs.declared.names.Group.{Group}
use Rattle.dz_syntax.specs.Tokens.{front, behind, bytes_of}
use Rattle.dz_syntax.specs.Names.{Declared, declared, known}
use Rattle.dz_syntax.specs.Faults.{refuse}
use Rattle.dz_syntax.specs.Declarations.{new_name, new_name_from, declarations, declarations_go_on}
use Rattle.dz_syntax.specs.Marks.{expected}
use Rattle.dz_syntax.specs.SystemGrammar.{Stands, IsNewName, IsMoreNames, IsNames}
use Rattle.dz_algebra.proofs.Outcomes.{bind_ok}
use Rattle.dz_syntax.proofs.Sound.{ok_is}
use Rattle.dz_syntax.proofs.Complete.{on_ok}
use Rattle.dz_syntax.proofs.Shorter.{behind_within}

-- ---- one token

expected_ok : (is : Bool) (text rest : List ℕ) → expected is text ≡ Ok rest → (is ≡ true) × (rest ≡ behind text)
unfolding expected
expected_ok true text rest e = (refl, sym (ok_is (behind text) rest e))
expected_ok false text rest e = absurd cc

pub stands_sound : (sort : Token → Bool) (text rest : List ℕ) → expected (sort (front text)) text ≡ Ok rest → Stands sort text rest
stands_sound sort text rest e = expected_ok (sort (front text)) text rest e

pub stands_complete : (sort : Token → Bool) (text rest : List ℕ) → Stands sort text rest → expected (sort (front text)) text ≡ Ok rest
unfolding expected
stands_complete sort text rest s = rw (s.0, s.1) refl

-- ---- one new name

new_if : (b : Bool) (text name : List ℕ) → (if b then refuse Twice text else Ok (bytes_of text)) ≡ Ok name → (b ≡ false) × (name ≡ bytes_of text)
new_if true text name e = absurd cc
new_if false text name e = (refl, sym (ok_is (bytes_of text) name e))

new_name_ok : (names : Declared) (t : Token) (text name : List ℕ) → front text ≡ t → new_name_from names t text ≡ Ok name → IsNewName names text × (name ≡ bytes_of text)
new_name_ok names Name text name is e =
    let h = new_if (known names (bytes_of text)) text name e in
    (record { token = is; new = h.0 }, h.1)
new_name_ok names t text name is e = absurd cc

new_name_sound : (names : Declared) (text name : List ℕ) → new_name names text ≡ Ok name → IsNewName names text × (name ≡ bytes_of text)
unfolding new_name
new_name_sound names text name e = new_name_ok names (front text) text name refl e

new_name_complete : (names : Declared) (text : List ℕ) → IsNewName names text → new_name names text ≡ Ok (bytes_of text)
unfolding new_name
new_name_complete names text is = rw (is.token, is.new) refl

-- ---- a list of names

abbrev Rest : Type 0
Rest = Declared × List ℕ

stops_sound : (group : Group) (left : ℕ) (names : Declared) (text : List ℕ) (all : Declared) (rest : List ℕ) → IsNewName names text
    → (x : Rest) → x ≡ (declared group names (bytes_of text), behind text) → x ≡ (all, rest) → IsNames group (suc left) names text all rest
stops_sound group left names text all rest is x e f =
    let h : (declared group names (bytes_of text), behind text) ≡ (all, rest) = sym e ∙ f in
    (0, omega arith, is, (sym (ap (λ (p : Rest). p.0) h), sym (ap (λ (p : Rest). p.1) h)))

goes_on_sound : (group : Group) (left : ℕ) (names : Declared) (text : List ℕ) (all : Declared) (rest : List ℕ) → IsNewName names text
    → ((more : Declared) (text : List ℕ) → declarations left group more text ≡ Ok (all, rest) → IsNames group left more text all rest)
    → (t : Token) → front (behind text) ≡ t
    → declarations_go_on (declarations left group) (declared group names (bytes_of text)) t (behind text) ≡ Ok (all, rest) → IsNames group (suc left) names text all rest
goes_on_sound group left names text all rest is more Comma comma e =
    let h = more (declared group names (bytes_of text)) (behind (behind text)) e in
    let lt : h.0 < left = h.1 in
    (suc h.0, omega (arith, lt), is, (comma, h.2, h.3))
goes_on_sound group left names text all rest is more t token e =
    stops_sound group left names text all rest is _ refl (ok_is _ (all, rest) e)

pub names_sound : (group : Group) (left : ℕ) (names : Declared) (text : List ℕ) (all : Declared) (rest : List ℕ) → declarations left group names text ≡ Ok (all, rest) → IsNames group left names text all rest
unfolding declarations
names_sound group zero names text all rest e =
    let b = bind_ok (new_name names text) (λ name. refuse Names text) (all, rest) e in absurd (let f = b.2 in cc)
names_sound group (suc left) names text all rest e =
    let b = bind_ok (new_name names text) (λ name. declarations_go_on (declarations left group) (declared group names name) (front (behind text)) (behind text)) (all, rest) e in
    let n = new_name_sound names text b.0 b.1 in
    let f = subst (λ (name : List ℕ). declarations_go_on (declarations left group) (declared group names name) (front (behind text)) (behind text) ≡ Ok (all, rest)) n.1 b.2 in
    goes_on_sound group left names text all rest n.0 (λ more text. names_sound group left more text all rest) (front (behind text)) refl f

go_on_stops : (more : Declared → List ℕ → Result Rest Fault) (names : Declared) (t : Token) (text : List ℕ) → (t ≡ Comma → ⊥) → declarations_go_on more names t text ≡ Ok (names, text)
go_on_stops more names Comma text other = absurd (other refl)
go_on_stops more names t text other = refl

pub names_complete : (group : Group) (n left : ℕ) (names : Declared) (text : List ℕ) (all : Declared) (rest : List ℕ) → n < left → IsNewName names text
    → IsMoreNames group n (declared group names (bytes_of text)) (behind text) all rest → (front rest ≡ Comma → ⊥) → declarations left group names text ≡ Ok (all, rest)
unfolding declarations
names_complete group n zero names text all rest lt is more other = absurd (omega arith)
names_complete group zero (suc left) names text all rest lt is more other =
    let next = λ (name : List ℕ). declarations_go_on (declarations left group) (declared group names name) (front (behind text)) (behind text) in
    let stop : front (behind text) ≡ Comma → ⊥ = λ e. other (ap front more.1 ∙ e) in
    on_ok (new_name names text) (bytes_of text) next (new_name_complete names text is)
    ∙ go_on_stops (declarations left group) (declared group names (bytes_of text)) (front (behind text)) (behind text) stop
    ∙ rw (more.0, more.1) refl
names_complete group (suc n) (suc left) names text all rest lt is more other =
    let next = λ (name : List ℕ). declarations_go_on (declarations left group) (declared group names name) (front (behind text)) (behind text) in
    on_ok (new_name names text) (bytes_of text) next (new_name_complete names text is)
    ∙ ap (λ t. declarations_go_on (declarations left group) (declared group names (bytes_of text)) t (behind text)) more.0
    ∙ names_complete group n left (declared group names (bytes_of text)) (behind (behind text)) all rest (omega (arith, lt)) more.1 more.2 other

-- what is of a sort that a comma is not
pub not_comma : (sort : Token → Bool) (t : Token) → sort t ≡ true → sort Comma ≡ false → t ≡ Comma → ⊥
not_comma sort t is isnt e = let h : sort Comma ≡ true = subst (λ (u : Token). sort u ≡ true) e is in absurd cc

-- each name takes a byte at least
pub more_names_within : (group : Group) (n : ℕ) (names : Declared) (text : List ℕ) (all : Declared) (rest : List ℕ) → IsMoreNames group n names text all rest → length rest ≤ length text
more_names_within group zero names text all rest more = rw more.1 (omega arith)
more_names_within group (suc n) names text all rest more =
    omega (arith, behind_within text, behind_within (behind text), more_names_within group n (declared group names (bytes_of (behind text))) (behind (behind text)) all rest more.2)

pub names_within : (group : Group) (most : ℕ) (names : Declared) (text : List ℕ) (all : Declared) (rest : List ℕ) → IsNames group most names text all rest → length rest ≤ length text
names_within group most names text all rest is =
    omega (arith, behind_within text, more_names_within group is.0 (declared group names (bytes_of text)) (behind text) all rest is.3)
