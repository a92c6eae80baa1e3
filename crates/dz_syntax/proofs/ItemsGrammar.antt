-- Items in a list: what is read is in the grammar, and what is in the grammar is read.
use Rattle.std.proofs.Common.{◌≡◌, ℕ, ◌<◌, ◌≤◌, length, List, [], ◌∷◌, ◌++◌, Ok, Bool, true, false, refl, sym, ap, subst, ◌∙◌, inl, inr, arith}
use Rattle.dz_syntax.specs.declared.token.Token.{Token}
use Rattle.dz_syntax.specs.declared.token.Token.TheVariants.{Comma, Semicolon, Equals, Differs}
use Rattle.dz_syntax.specs.declared.marks.Section.{Section}
use Rattle.dz_syntax.specs.declared.marks.Section.TheVariants.{Equations, Inequations, Questions}
use Rattle.dz_syntax.specs.declared.expression.Op.{Op}
use Rattle.dz_syntax.specs.declared.expression.Op.TheVariants as ops
use Rattle.dz_syntax.specs.Tokens.{front, behind}
use Rattle.dz_syntax.specs.Names.{Declared}
use Rattle.dz_syntax.specs.Expressions.{State, past, poly_with, inside}
use Rattle.dz_syntax.specs.Grammar.{Grammar, binding, IsAtom, IsPower, IsPoly, IsInside}
use Rattle.dz_syntax.specs.Marks.{expected, is_word_of, is_relation, is_semicolon}
use Rattle.dz_syntax.specs.Sections.{element_of, items_from, section_at, sides_at, sides_from}
use Rattle.dz_syntax.specs.SystemGrammar.{IsSides, IsItemOf, IsSection}
use Rattle.dz_algebra.proofs.Outcomes.{bind_ok}
use Rattle.dz_syntax.proofs.Sound.{ok_is, poly_sound, inside_sound}
use Rattle.dz_syntax.proofs.Complete.{then, on_ok, poly_complete, inside_complete, symbol_front}
use Rattle.dz_syntax.proofs.Shorter.{behind_within, poly_within, inside_within}
use Rattle.dz_syntax.proofs.NamesGrammar.{stands_sound, stands_complete}
use Rattle.dz_syntax.proofs.ListsGrammar.{ends_element, list_from, list_sound, list_complete}

-- ---- what follows a side

pub ends_binds : (t : Token) → ends_element t ≡ true → binding t < 1
ends_binds Comma e = omega arith
ends_binds Semicolon e = omega arith
ends_binds t e = absurd cc

ends_no_relation : (section : Section) (t : Token) → ends_element t ≡ true → is_relation section t ≡ false
ends_no_relation Equations Comma e = refl
ends_no_relation Inequations Comma e = refl
ends_no_relation Questions Comma e = refl
ends_no_relation Equations Semicolon e = refl
ends_no_relation Inequations Semicolon e = refl
ends_no_relation Questions Semicolon e = refl
ends_no_relation section t e = absurd cc

relation_binds : (section : Section) (t : Token) → is_relation section t ≡ true → binding t < 1
relation_binds Equations Equals e = omega arith
relation_binds Inequations Differs e = omega arith
relation_binds section t e = absurd cc

-- ---- an item

abbrev first_state : List ℕ → State
first_state text = record { out = []; text = text }

sides_from_sound : (section : Section) (names : Declared) (c : Bool) (s : State) (text : List ℕ) (y : List Op × List ℕ) → is_relation section (front s.text) ≡ c
    → IsPoly names (IsInside names 64) text s.out s.text → sides_from names c s ≡ Ok y → IsSides section names text y.0 y.1
sides_from_sound section names false s text y is p e =
    subst (λ (y : List Op × List ℕ). IsSides section names text y.0 y.1) (ok_is (s.out, s.text) y e) (inl p)
sides_from_sound section names true s text y is p e =
    let b = bind_ok (poly_with names (inside names 64) (past s)) (λ s. Ok (s.out ++ ops.Sub ∷ [], s.text)) y e in
    let a = poly_sound names (IsInside names 64) (inside names 64) (inside_sound names 64) (past s) b.0 b.1 in
    subst (λ (y : List Op × List ℕ). IsSides section names text y.0 y.1) (ok_is (b.0.out ++ ops.Sub ∷ [], b.0.text) y b.2)
    (inr (s.out, a.steps, s.text, p, is, a.is, ap (λ (l : List Op). l ++ ops.Sub ∷ []) a.out))

sides_sound : (section : Section) (names : Declared) (text : List ℕ) (y : List Op × List ℕ) → sides_at section names text ≡ Ok y → IsSides section names text y.0 y.1
unfolding sides_at
sides_sound section names text y e =
    let b = bind_ok (poly_with names (inside names 64) (first_state text)) (λ s. sides_from names (is_relation section (front s.text)) s) y e in
    let a = poly_sound names (IsInside names 64) (inside names 64) (inside_sound names 64) (first_state text) b.0 b.1 in
    sides_from_sound section names (is_relation section (front b.0.text)) b.0 text y refl
    (subst (λ (l : List Op). IsPoly names (IsInside names 64) text l b.0.text) (sym a.out) a.is) b.2

pub side_read : (names : Declared) (s : State) (o : List Op) (rest : List ℕ) → IsPoly names (IsInside names 64) s.text o rest → binding (front rest) < 1
    → poly_with names (inside names 64) s ≡ Ok (then s o rest)
side_read names s o rest p lt = poly_complete names (IsInside names 64) (inside names 64) (inside_complete names 64) (inside_within names 64) s o rest p lt

sides_complete : (section : Section) (names : Declared) (text : List ℕ) (o : List Op) (rest : List ℕ) → IsSides section names text o rest → ends_element (front rest) ≡ true
    → sides_at section names text ≡ Ok (o, rest)
unfolding sides_at
sides_complete section names text o rest (inl p) ends =
    let s = then (first_state text) o rest in
    on_ok (poly_with names (inside names 64) (first_state text)) s (λ s. sides_from names (is_relation section (front s.text)) s) (side_read names (first_state text) o rest p (ends_binds (front rest) ends))
    ∙ ap (λ c. sides_from names c s) (ends_no_relation section (front rest) ends)
sides_complete section names text o rest (inr a) ends =
    let s = then (first_state text) a.0 a.2 in
    on_ok (poly_with names (inside names 64) (first_state text)) s (λ s. sides_from names (is_relation section (front s.text)) s) (side_read names (first_state text) a.0 a.2 a.3 (relation_binds section (front a.2) a.4))
    ∙ ap (λ c. sides_from names c s) a.4
    ∙ on_ok (poly_with names (inside names 64) (past s)) (then (past s) a.1 rest) (λ s. Ok (s.out ++ ops.Sub ∷ [], s.text)) (side_read names (past s) a.1 rest a.5 (ends_binds (front rest) ends))
    ∙ ap (λ (l : List Op). Ok (l, rest)) (sym a.6)

pub side_within : (names : Declared) (text : List ℕ) (o : List Op) (rest : List ℕ) → IsPoly names (IsInside names 64) text o rest → length rest ≤ length text
side_within names text o rest p = poly_within names (IsInside names 64) (inside_within names 64) text o rest p

pub sides_within : (section : Section) (names : Declared) (text : List ℕ) (o : List Op) (rest : List ℕ) → IsSides section names text o rest → length rest ≤ length text
sides_within section names text o rest (inl p) = side_within names text o rest p
sides_within section names text o rest (inr a) = omega (arith, side_within names text a.0 a.2 a.3, behind_within a.2, side_within names (behind a.2) a.1 rest a.5)

-- ---- no item begins with a semicolon

atom_starts : (names : Declared) (g : Grammar) (text : List ℕ) (o : List Op) (rest : List ℕ) → IsAtom names g text o rest → is_semicolon (front text) ≡ false
atom_starts names g text o rest (inl a) = ap is_semicolon a.1.token
atom_starts names g text o rest (inr (inl a)) = ap is_semicolon (symbol_front names text (a.0, rest) a.1)
atom_starts names g text o rest (inr (inr a)) = ap is_semicolon a.0

power_starts : (names : Declared) (g : Grammar) (text : List ℕ) (o : List Op) (rest : List ℕ) → IsPower names g text o rest → is_semicolon (front text) ≡ false
power_starts names g text o rest (inl a) = atom_starts names g text o rest a
power_starts names g text o rest (inr a) = atom_starts names g text a.0 a.1 a.3

poly_starts : (names : Declared) (g : Grammar) (text : List ℕ) (o : List Op) (rest : List ℕ) → IsPoly names g text o rest → is_semicolon (front text) ≡ false
poly_starts names g text o rest a = elim a.4 [
  | inl p ↦ power_starts names g text p.0 p.2 p.4
  | inr q ↦ elim q [ inl p ↦ ap is_semicolon p.0 | inr p ↦ ap is_semicolon p.1 ]
]

sides_starts : (section : Section) (names : Declared) (text : List ℕ) (o : List Op) (rest : List ℕ) → IsSides section names text o rest → is_semicolon (front text) ≡ false
sides_starts section names text o rest (inl p) = poly_starts names (IsInside names 64) text o rest p
sides_starts section names text o rest (inr a) = poly_starts names (IsInside names 64) text a.0 a.2 a.3

-- ---- a list of items

items_from_is : (section : Section) (names : Declared) (c : Bool) (text : List ℕ) → items_from section names c text ≡ list_from (element_of section names) (IsItemOf section names) c text
items_from_is section names true text = refl
items_from_is section names false text = refl

pub section_sound : (section : Section) (names : Declared) (text : List ℕ) (y : List (List Op) × List ℕ) → section_at section names text ≡ Ok y → IsSection section names text y.0 y.1
unfolding section_at
section_sound section names text y e =
    let b = bind_ok (expected (is_word_of section (front text)) text) (λ t. items_from section names (is_semicolon (front t)) t) y e in
    let c = is_semicolon (front b.0) in
    (b.0, stands_sound (is_word_of section) text b.0 b.1, list_sound (element_of section names) (IsItemOf section names) (λ found. sides_sound section names) c b.0 y refl (sym (items_from_is section names c b.0) ∙ b.2))

pub section_complete : (section : Section) (names : Declared) (text : List ℕ) (items : List (List Op)) (rest : List ℕ) → IsSection section names text items rest → section_at section names text ≡ Ok (items, rest)
unfolding section_at
section_complete section names text items rest a =
    on_ok (expected (is_word_of section (front text)) text) a.0 (λ t. items_from section names (is_semicolon (front t)) t) (stands_complete (is_word_of section) text a.0 a.1)
    ∙ items_from_is section names (is_semicolon (front a.0)) a.0
    ∙ list_complete (element_of section names) (IsItemOf section names) (λ found. sides_complete section names) (λ found. sides_within section names) (λ found. sides_starts section names) a.0 items rest a.2
