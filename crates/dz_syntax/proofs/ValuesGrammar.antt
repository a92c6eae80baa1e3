-- Values: what is read is in the grammar, and what is in the grammar is read.
use Rattle.std.proofs.Common.{◌≡◌, ℕ, zero, suc, ◌<◌, ◌≤◌, length, List, map, ℤ, pos, Ok, Bool, true, false, refl, sym, ap, subst, ◌∙◌, inl, inr, arith}
use Rattle.std.proofs.lemmas.Bool.Decides.{nat_tests}
use Rattle.std.specs.Prelude.{if◌then◌else◌, ◌==◌}
use Rattle.std.specs.List.{list_any}
use Rattle.dz_int.specs.Numbers.{signed}
use Rattle.dz_int.specs.Fractions.{Fraction}
use Rattle.dz_rank.specs.declared.symbols.Symbol.{Symbol}
use Rattle.dz_syntax.specs.declared.token.Token.{Token}
use Rattle.dz_syntax.specs.declared.token.Token.TheVariants.{Minus, Slash}
use Rattle.dz_syntax.specs.declared.fault.SyntaxKind.TheVariants.{Twice, Literal, Denominator}
use Rattle.dz_syntax.specs.Tokens.{front, behind}
use Rattle.dz_syntax.specs.Names.{Declared}
use Rattle.dz_syntax.specs.Atoms.{literal_at, symbol_at}
use Rattle.dz_algebra.specs.Outcome.{◌>>=◌}
use Rattle.dz_syntax.specs.Faults.{refuse}
use Rattle.dz_syntax.specs.Expressions.{most_literal}
use Rattle.dz_syntax.specs.Grammar.{IsNumber}
use Rattle.dz_syntax.specs.Marks.{expected, is_equals, is_semicolon}
use Rattle.dz_syntax.specs.Values.{fraction_of, numerator_from, numerator_at, positive_at, denominator_from, denominator_at, fraction_at, same_symbol, new_symbol_at, value_at, element_of}
use Rattle.dz_syntax.specs.SystemGrammar.{IsNumerator, IsDenominator, IsValue}
use Rattle.dz_algebra.proofs.Outcomes.{bind_ok}
use Rattle.dz_syntax.proofs.Sound.{ok_is, literal_ok}
use Rattle.dz_syntax.proofs.Complete.{on_ok, literal_complete, symbol_front}
use Rattle.dz_syntax.proofs.Shorter.{behind_within, symbol_within}
use Rattle.dz_syntax.proofs.NamesGrammar.{stands_sound, stands_complete}
use Rattle.dz_syntax.proofs.ListsGrammar.{ends_element}

abbrev Whole : Type 0
Whole = ℤ × List ℕ

abbrev Natural : Type 0
Natural = ℕ × List ℕ

-- ---- the numerator

numerator_from_sound : (t : Token) (text : List ℕ) (y : Whole) → front text ≡ t → numerator_from t text ≡ Ok y → IsNumerator text y.0 y.1
numerator_from_sound Minus text y is e =
    let b = bind_ok (literal_at most_literal Literal (behind text)) (λ n. Ok (signed true n.0, n.1)) y e in
    subst (λ (y : Whole). IsNumerator text y.0 y.1) (ok_is (signed true b.0.0, b.0.1) y b.2) (inr (b.0.0, is, literal_ok most_literal Literal (behind text) b.0 b.1, refl))
numerator_from_sound t text y is e =
    let b = bind_ok (literal_at most_literal Literal text) (λ n. Ok (pos n.0, n.1)) y e in
    subst (λ (y : Whole). IsNumerator text y.0 y.1) (ok_is (pos b.0.0, b.0.1) y b.2) (inl (b.0.0, literal_ok most_literal Literal text b.0 b.1, refl))

numerator_sound : (text : List ℕ) (y : Whole) → numerator_at text ≡ Ok y → IsNumerator text y.0 y.1
unfolding numerator_at
numerator_sound text y e = numerator_from_sound (front text) text y refl e

numerator_complete : (text : List ℕ) (z : ℤ) (rest : List ℕ) → IsNumerator text z rest → numerator_at text ≡ Ok (z, rest)
unfolding numerator_at
numerator_complete text z rest (inl a) =
    ap (λ t. numerator_from t text) a.1.token
    ∙ on_ok (literal_at most_literal Literal text) (a.0, rest) (λ n. Ok (pos n.0, n.1)) (literal_complete most_literal Literal text a.0 rest a.1)
    ∙ ap (λ (z : ℤ). Ok (z, rest)) (sym a.2)
numerator_complete text z rest (inr a) =
    ap (λ t. numerator_from t text) a.1
    ∙ on_ok (literal_at most_literal Literal (behind text)) (a.0, rest) (λ n. Ok (signed true n.0, n.1)) (literal_complete most_literal Literal (behind text) a.0 rest a.2)
    ∙ ap (λ (z : ℤ). Ok (z, rest)) (sym a.3)

numerator_within : (text : List ℕ) (z : ℤ) (rest : List ℕ) → IsNumerator text z rest → length rest ≤ length text
numerator_within text z rest (inl a) = rw a.1.end (behind_within text)
numerator_within text z rest (inr a) = rw a.2.end (omega (arith, behind_within (behind text), behind_within text))

-- ---- the denominator

positive_if : (c : Bool) (text : List ℕ) (x y : Natural) → (x.0 == 0) ≡ c → (if c then refuse Denominator text else Ok x) ≡ Ok y → (0 < x.0) × (x ≡ y)
positive_if true text x y is e = absurd cc
positive_if false text x y is e = (above x.0 is, ok_is x y e)
  where
    above : (n : ℕ) → (n == 0) ≡ false → 0 < n
    above zero e = absurd cc
    above (suc n) e = omega arith

positive_sound : (text : List ℕ) (y : Natural) → positive_at text ≡ Ok y → IsNumber most_literal text y.0 y.1 × (0 < y.0)
unfolding positive_at
positive_sound text y e =
    let b = bind_ok (literal_at most_literal Literal text) (λ n. if n.0 == 0 then refuse Denominator text else Ok n) y e in
    let p = positive_if (b.0.0 == 0) text b.0 y refl b.2 in
    subst (λ (y : Natural). IsNumber most_literal text y.0 y.1 × (0 < y.0)) p.1 (literal_ok most_literal Literal text b.0 b.1, p.0)

not_zero : (n : ℕ) → 0 < n → (n == 0) ≡ false
not_zero n lt = grind (arith, nat_tests)

positive_complete : (text : List ℕ) (d : ℕ) (rest : List ℕ) → IsNumber most_literal text d rest → 0 < d → positive_at text ≡ Ok (d, rest)
unfolding positive_at
positive_complete text d rest is lt =
    on_ok (literal_at most_literal Literal text) (d, rest) (λ n. if n.0 == 0 then refuse Denominator text else Ok n) (literal_complete most_literal Literal text d rest is)
    ∙ rw (not_zero d lt) refl

denominator_from_sound : (t : Token) (text : List ℕ) (y : Natural) → front text ≡ t → denominator_from t text ≡ Ok y → IsDenominator text y.0 y.1
denominator_from_sound Slash text y is e = let p = positive_sound (behind text) y e in inr (is, p.0, p.1)
denominator_from_sound t text y is e = subst (λ (y : Natural). IsDenominator text y.0 y.1) (ok_is (1, text) y e) (inl (refl, refl))

denominator_sound : (text : List ℕ) (y : Natural) → denominator_at text ≡ Ok y → IsDenominator text y.0 y.1
unfolding denominator_at
denominator_sound text y e = denominator_from_sound (front text) text y refl e

ends_no_slash : (t : Token) (text : List ℕ) → ends_element t ≡ true → denominator_from t text ≡ Ok (1, text)
ends_no_slash Slash text e = absurd cc
ends_no_slash t text e = refl

denominator_complete : (text : List ℕ) (d : ℕ) (rest : List ℕ) → IsDenominator text d rest → ends_element (front rest) ≡ true → denominator_at text ≡ Ok (d, rest)
unfolding denominator_at
denominator_complete text d rest (inl a) ends =
    let e : ends_element (front text) ≡ true = rw (← a.1) ends in
    ends_no_slash (front text) text e ∙ rw (a.0, a.1) refl
denominator_complete text d rest (inr a) ends = ap (λ t. denominator_from t text) a.0 ∙ positive_complete (behind text) d rest a.1 a.2

denominator_within : (text : List ℕ) (d : ℕ) (rest : List ℕ) → IsDenominator text d rest → length rest ≤ length text
denominator_within text d rest (inl a) = rw a.1 (omega arith)
denominator_within text d rest (inr a) = rw a.1.end (omega (arith, behind_within (behind text), behind_within text))

-- ---- a value

abbrev valued : Symbol → List Symbol → Bool
valued s found = list_any (λ w. same_symbol s w) found

abbrev ReadSymbol : Type 0
ReadSymbol = Symbol × List ℕ

new_if : (c : Bool) (text : List ℕ) (x y : ReadSymbol) → (if c then refuse Twice text else Ok x) ≡ Ok y → (c ≡ false) × (x ≡ y)
new_if true text x y e = absurd cc
new_if false text x y e = (refl, ok_is x y e)

new_symbol_sound : (names : Declared) (found : List Symbol) (text : List ℕ) (y : ReadSymbol) → new_symbol_at names found text ≡ Ok y → (symbol_at names text ≡ Ok y) × (valued y.0 found ≡ false)
unfolding new_symbol_at
new_symbol_sound names found text y e =
    let b = bind_ok (symbol_at names text) (λ v. if list_any (λ w. same_symbol v.0 w) found then refuse Twice text else Ok v) y e in
    let n = new_if (valued b.0.0 found) text b.0 y b.2 in
    subst (λ (y : ReadSymbol). (symbol_at names text ≡ Ok y) × (valued y.0 found ≡ false)) n.1 (b.1, n.0)

new_symbol_complete : (names : Declared) (found : List Symbol) (text : List ℕ) (s : Symbol) (rest : List ℕ) → symbol_at names text ≡ Ok (s, rest) → valued s found ≡ false
    → new_symbol_at names found text ≡ Ok (s, rest)
unfolding new_symbol_at
new_symbol_complete names found text s rest e new =
    on_ok (symbol_at names text) (s, rest) (λ v. if list_any (λ w. same_symbol v.0 w) found then refuse Twice text else Ok v) e
    ∙ ap (λ c. if c then refuse Twice text else Ok (s, rest)) new

abbrev ReadFraction : Type 0
ReadFraction = Fraction × List ℕ

-- a numerator and a denominator with this quotient
abbrev IsFractionText : List ℕ → Fraction → List ℕ → Type 0
IsFractionText text f rest = (z : ℤ) × (d : ℕ) × (mid : List ℕ) × IsNumerator text z mid × IsDenominator mid d rest × (f ≡ fraction_of z d)

fraction_sound : (text : List ℕ) (y : ReadFraction) → fraction_at text ≡ Ok y → IsFractionText text y.0 y.1
unfolding fraction_at
fraction_sound text y e =
    let b = bind_ok (numerator_at text) (λ n. denominator_at n.1 >>= λ d. Ok (fraction_of n.0 d.0, d.1)) y e in
    let c = bind_ok (denominator_at b.0.1) (λ d. Ok (fraction_of b.0.0 d.0, d.1)) y b.2 in
    subst (λ (y : ReadFraction). IsFractionText text y.0 y.1) (ok_is (fraction_of b.0.0 c.0.0, c.0.1) y c.2)
    (b.0.0, c.0.0, b.0.1, numerator_sound text b.0 b.1, denominator_sound b.0.1 c.0 c.1, refl)

fraction_complete : (text : List ℕ) (z : ℤ) (d : ℕ) (mid rest : List ℕ) → IsNumerator text z mid → IsDenominator mid d rest → ends_element (front rest) ≡ true
    → fraction_at text ≡ Ok (fraction_of z d, rest)
unfolding fraction_at
fraction_complete text z d mid rest n m ends =
    on_ok (numerator_at text) (z, mid) (λ n. denominator_at n.1 >>= λ d. Ok (fraction_of n.0 d.0, d.1)) (numerator_complete text z mid n)
    ∙ on_ok (denominator_at mid) (d, rest) (λ d. Ok (fraction_of z d.0, d.1)) (denominator_complete mid d rest m ends)

abbrev ReadValue : Type 0
ReadValue = (Symbol × Fraction) × List ℕ

pub value_sound : (names : Declared) (found : List (Symbol × Fraction)) (text : List ℕ) (y : ReadValue) → element_of names found text ≡ Ok y → IsValue names found text y.0 y.1
unfolding value_at
value_sound names found text y e =
    let b = bind_ok (new_symbol_at names (map (λ v. v.0) found) text) (λ v. expected (is_equals (front v.1)) v.1 >>= λ t. fraction_at t >>= λ f. Ok ((v.0, f.0), f.1)) y e in
    let c = bind_ok (expected (is_equals (front b.0.1)) b.0.1) (λ t. fraction_at t >>= λ f. Ok ((b.0.0, f.0), f.1)) y b.2 in
    let d = bind_ok (fraction_at c.0) (λ f. Ok ((b.0.0, f.0), f.1)) y c.2 in
    let s = new_symbol_sound names (map (λ v. v.0) found) text b.0 b.1 in
    let f = fraction_sound c.0 d.0 d.1 in
    subst (λ (y : ReadValue). IsValue names found text y.0 y.1) (ok_is ((b.0.0, d.0.0), d.0.1) y d.2)
    (b.0.0, f.0, f.1, b.0.1, c.0, f.2, s.0, s.1, stands_sound is_equals b.0.1 c.0 c.1, f.3, f.4, ap (λ (q : Fraction). (b.0.0, q)) f.5)

pub value_complete : (names : Declared) (found : List (Symbol × Fraction)) (text : List ℕ) (v : Symbol × Fraction) (rest : List ℕ) → IsValue names found text v rest
    → ends_element (front rest) ≡ true → element_of names found text ≡ Ok (v, rest)
unfolding value_at
value_complete names found text v rest a ends =
    on_ok (new_symbol_at names (map (λ v. v.0) found) text) (a.0, a.3) (λ v. expected (is_equals (front v.1)) v.1 >>= λ t. fraction_at t >>= λ f. Ok ((v.0, f.0), f.1))
    (new_symbol_complete names (map (λ v. v.0) found) text a.0 a.3 a.6 a.7)
    ∙ on_ok (expected (is_equals (front a.3)) a.3) a.4 (λ t. fraction_at t >>= λ f. Ok ((a.0, f.0), f.1)) (stands_complete is_equals a.3 a.4 a.8)
    ∙ on_ok (fraction_at a.4) (fraction_of a.1 a.2, rest) (λ f. Ok ((a.0, f.0), f.1)) (fraction_complete a.4 a.1 a.2 a.5 rest a.9 a.10 ends)
    ∙ ap (λ (v : Symbol × Fraction). Ok (v, rest)) (sym a.11)

pub value_within : (names : Declared) (found : List (Symbol × Fraction)) (text : List ℕ) (v : Symbol × Fraction) (rest : List ℕ) → IsValue names found text v rest → length rest ≤ length text
value_within names found text v rest a =
    omega (arith, symbol_within names text (a.0, a.3) a.6, ap length a.8.1, behind_within a.3, numerator_within a.4 a.1 a.5 a.9, denominator_within a.5 a.2 rest a.10)

pub value_starts : (names : Declared) (found : List (Symbol × Fraction)) (text : List ℕ) (v : Symbol × Fraction) (rest : List ℕ) → IsValue names found text v rest → is_semicolon (front text) ≡ false
value_starts names found text v rest a = ap is_semicolon (symbol_front names text (a.0, a.3) a.6)
