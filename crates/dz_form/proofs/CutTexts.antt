-- Texts that are cut at a mark.
use Rattle.std.proofs.Common.{◌≡◌, ℕ, ◌<◌, ◌+◌, ◌-◌, length, take, drop, get_or, List, [], ◌∷◌, ◌++◌, Bool, true, false, Option, Some, None, refl, sym, ap, subst, ◌∙◌, arith}
use Rattle.std.specs.Prelude.{if◌then◌else◌, ◌==◌, not, codes, nat_lt, position}
use Rattle.std.specs.Str.{bytes_eq}
use Rattle.std.specs.Option.{option_map}
use Rattle.std.specs.List.{list_all, position_or_len}
use Rattle.std.proofs.lemmas.Bool.Decides.{nat_tests, Decides-eqb}
use Rattle.std.proofs.lemmas.List.{take_at, drop_at, drop-drop, drop_more, take-append-drop, length_push, length-append}
use Rattle.std.proofs.lemmas.List.Quantifiers.{position-Some}
use Rattle.std.proofs.lemmas.Slice.Eq.{bytes_eq-Decides}
use Rattle.dz_syntax.specs.Tokens.{is_name_byte}
use Rattle.dz_form.specs.Reading.{split_once, without_bracket}
use Rattle.dz_form.proofs.TextTokens.{both_true}
use Rattle.dz_form.proofs.SymbolTexts.{position_is}

-- what is in two equal options is equal
pub some_is : (A : Type 0) (x y : A) → Some x ≡ Some y → x ≡ y
some_is A x y e = cc

-- ---- what stands before and behind a mark

-- no byte of a text is this mark
abbrev pub lacks : ℕ → List ℕ → Bool
lacks mark text = list_all (λ b. not (b == mark)) text

-- a byte of a name is no other mark, by whether it is the mark
other_by : (mark b : ℕ) (same : Bool) → (b == mark) ≡ same → is_name_byte mark ≡ false → is_name_byte b ≡ true → not same ≡ true
other_by mark b true is e f = let one = (Decides-eqb b mark).0 is in let no : is_name_byte mark ≡ true = rw (← one) f in absurd (let bad : false ≡ true = sym e ∙ no in cc)
other_by mark b false is e f = refl

-- a text of bytes of names lacks a mark that is none
pub name_lacks : (mark : ℕ) (text : List ℕ) → is_name_byte mark ≡ false → list_all is_name_byte text ≡ true → lacks mark text ≡ true
name_lacks mark [] e all = refl
name_lacks mark (b ∷ text) e all =
    let f = both_true (is_name_byte b) (list_all is_name_byte text) all in
    rw (other_by mark b (b == mark) refl e f.0) (name_lacks mark text e f.1)

-- a mark is itself
same_byte : (mark : ℕ) → (mark == mark) ≡ true
same_byte mark = (Decides-eqb mark mark).1 refl

-- the place of the first mark
place_at : (mark : ℕ) (before behind : List ℕ) → lacks mark before ≡ true → position_or_len (λ b. b == mark) (before ++ mark ∷ behind) ≡ length before
place_at mark [] behind all = rw (same_byte mark) refl
place_at mark (b ∷ before) behind all =
    let f = both_true (not (b == mark)) (lacks mark before) all in
    rw (f.0, place_at mark before behind f.1) (omega arith)

-- there is no place where there is no mark
place_none : (mark : ℕ) (text : List ℕ) → lacks mark text ≡ true → position_or_len (λ b. b == mark) text ≡ length text
place_none mark [] all = refl
place_none mark (b ∷ text) all =
    let f = both_true (not (b == mark)) (lacks mark text) all in
    rw (f.0, place_none mark text f.1) (omega arith)

-- a text is cut at its first mark
pub split_once-at : (mark : ℕ) (before behind : List ℕ) → lacks mark before ≡ true → split_once mark (before ++ mark ∷ behind) ≡ Some (before, behind)
split_once-at mark before behind all =
    let text = before ++ mark ∷ behind in
    let n = length before in
    let lt : n < length text = omega (arith, length-append before (mark ∷ behind)) in
    let place = position_is (λ b. b == mark) text n lt (place_at mark before behind all) in
    let first : take n text ≡ before = take_at before (mark ∷ behind) n refl in
    let second : drop (n + 1) text ≡ behind = sym (drop-drop 1 n text) ∙ ap (drop 1) (drop_at before (mark ∷ behind) n refl) in
    ap (option_map (λ at. (take at text, drop (at + 1) text))) place
    ∙ ap (λ (f : List ℕ). Some (f, drop (n + 1) text)) first ∙ ap (λ (b : List ℕ). Some (before, b)) second

-- a text without a mark is not cut
pub split_once-none : (mark : ℕ) (text : List ℕ) → lacks mark text ≡ true → split_once mark text ≡ None
split_once-none mark text all =
    let end : nat_lt (length text) (length text) ≡ false = grind (arith, nat_tests) in
    rw (place_none mark text all, end) refl

-- what a text is that is cut, by the place
cut_at : (mark : ℕ) (text : List ℕ) (p : List ℕ × List ℕ) (place : Option ℕ) → position (λ b. b == mark) text ≡ place → option_map (λ at. (take at text, drop (at + 1) text)) place ≡ Some p
    → text ≡ p.0 ++ mark ∷ p.1
cut_at mark text p None is e = absurd cc
cut_at mark text p (Some at) is e =
    let f = position-Some (λ b. b == mark) text at 0 is in
    let parts = some_is (List ℕ × List ℕ) (take at text, drop (at + 1) text) p e in
    let byte = (Decides-eqb (get_or text at 0) mark).0 f.1 in
    subst (λ (p : List ℕ × List ℕ). text ≡ p.0 ++ mark ∷ p.1) parts
    (sym (take-append-drop at text) ∙ ap (λ (rest : List ℕ). take at text ++ rest) (drop_more text at 0 f.0 ∙ ap (λ (b : ℕ). b ∷ drop (at + 1) text) byte))

-- what a text is that is cut
pub split_once-some : (mark : ℕ) (text : List ℕ) (p : List ℕ × List ℕ) → split_once mark text ≡ Some p → text ≡ p.0 ++ mark ∷ p.1
split_once-some mark text p e = cut_at mark text p (position (λ b. b == mark) text) refl e

-- ---- a closing bracket at the end

-- a text before a closing bracket, by whether it has one
bracket_by : (text inside : List ℕ) (is : Bool) → bytes_eq (drop (length text - 1) text) (codes "]") ≡ is → (if is then Some (take (length text - 1) text) else None) ≡ Some inside → text ≡ inside ++ codes "]"
bracket_by text inside true is e =
    let end = (bytes_eq-Decides (drop (length text - 1) text) (codes "]")).0 is in
    let front = some_is (List ℕ) (take (length text - 1) text) inside e in
    sym (take-append-drop (length text - 1) text) ∙ ap (λ (rest : List ℕ). take (length text - 1) text ++ rest) end ∙ ap (λ (t : List ℕ). t ++ codes "]") front
bracket_by text inside false is e = absurd cc

-- what a text is that ends with a closing bracket
pub without_bracket-some : (text inside : List ℕ) → without_bracket text ≡ Some inside → text ≡ inside ++ codes "]"
without_bracket-some text inside e = bracket_by text inside (bytes_eq (drop (length text - 1) text) (codes "]")) refl e

-- a closing bracket at the end is taken off
pub without_bracket-at : (inside : List ℕ) → without_bracket (inside ++ codes "]") ≡ Some inside
without_bracket-at inside =
    let n : length (inside ++ codes "]") - 1 ≡ length inside = omega (arith, length_push inside 93) in
    rw (n, drop_at inside (codes "]") (length inside) refl, take_at inside (codes "]") (length inside) refl) refl
