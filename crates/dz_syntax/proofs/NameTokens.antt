-- Names: the bytes of a name token are a name, and declaring a new name keeps what is true of all names.
use Rattle.std.proofs.Common.{◌≡◌, ℕ, zero, suc, ◌+◌, take, List, [], ◌∷◌, Bool, true, false, All, refl, sym, ap, ◌∙◌, arith, add-one}
use Rattle.std.specs.Prelude.{if◌then◌else◌, ◌==◌}
use Rattle.std.specs.Char.{is_ascii_digit}
use Rattle.std.specs.List.{list_all, IsDistinct}
use Rattle.std.specs.Cmp.Lexicographic.{nat_list_eq_equiv}
use Rattle.std.proofs.lemmas.Map.Keys.{IsDistinct-push}
use Rattle.std.proofs.lemmas.List.{length_push}
use Rattle.std.proofs.lemmas.List.Elements.{All-append, All-nil}
use Rattle.dz_syntax.specs.declared.names.Group.{Group}
use Rattle.dz_syntax.specs.declared.names.Group.TheVariants.{Independents, Dependents}
use Rattle.dz_syntax.specs.declared.token.Token.{Token}
use Rattle.dz_syntax.specs.declared.token.Token.TheVariants.{Name, Number, Bad}
use Rattle.dz_syntax.specs.Tokens.{is_letter, is_name_byte, front_len, token_of, front, bytes_of, word_or_name, mark_at, mark_of, sized, differs_or_bad}
use Rattle.dz_syntax.specs.Names.{Declared, IsDeclared, IsName, IsUnreserved, HasRoom, begins_with_letter, declared, known, no_names}

-- ---- declared names

-- a list of one name
one_name : (name : List ℕ) → IsName name → All (λ name. IsName name) (name ∷ [])
one_name name is zero d lt = is
one_name name is (suc i) d lt = absurd (omega arith)

-- nothing declared
pub no_names_is : IsDeclared no_names
unfolding IsDistinct
no_names_is = record {
  independents_fit = omega arith;
  independents_are = omega arith;
  dependents_fit = omega arith;
  are_names = All-nil (λ name. IsName name);
  distinct = tt;
}

-- a new name keeps what is true of all names
pub declared_is : (group : Group) (names : Declared) (name : List ℕ) → IsDeclared names → IsName name → known names name ≡ false → HasRoom group 1 names → IsDeclared (declared group names name)
declared_is Independents names name is n new room = record {
  independents_fit = room.0;
  independents_are = omega (arith, length_push names.all name, room.1);
  dependents_fit = omega (arith, length_push names.all name, room.1);
  are_names = All-append (λ name. IsName name) names.all (name ∷ []) is.are_names (one_name name n);
  distinct = IsDistinct-push nat_list_eq_equiv names.all name is.distinct new;
}
declared_is Dependents names name is n new room = record {
  independents_fit = is.independents_fit;
  independents_are = omega (arith, length_push names.all name, is.independents_are);
  dependents_fit = omega (arith, length_push names.all name, room);
  are_names = All-append (λ name. IsName name) names.all (name ∷ []) is.are_names (one_name name n);
  distinct = IsDistinct-push nat_list_eq_equiv names.all name is.distinct new;
}

-- ---- the bytes of a name token

-- one byte more, by whether it passes
passes_by : (test : ℕ → Bool) (b : ℕ) (rest : List ℕ) (passes : Bool) → test b ≡ passes → list_all test (take (front_len test rest) rest) ≡ true
    → list_all test (take (if passes then front_len test rest + 1 else 0) (b ∷ rest)) ≡ true
passes_by test b rest false e more = refl
passes_by test b rest true e more = rw (add-one, e, more) refl

-- the bytes at the front that pass a test pass it
front_passes : (test : ℕ → Bool) (text : List ℕ) → list_all test (take (front_len test text) text) ≡ true
front_passes test [] = refl
front_passes test (b ∷ rest) = passes_by test b rest (test b) refl (front_passes test rest)

-- the token at a letter
pub token_of-letter : (b : ℕ) (rest : List ℕ) → is_letter b ≡ true
    → token_of (b ∷ rest) ≡ (word_or_name (take (front_len is_name_byte (b ∷ rest)) (b ∷ rest)), front_len is_name_byte (b ∷ rest))
unfolding token_of
token_of-letter b rest e = rw e refl

-- the token at a digit
pub token_of-digit : (b : ℕ) (rest : List ℕ) → is_letter b ≡ false → is_ascii_digit b ≡ true → token_of (b ∷ rest) ≡ (Number, front_len is_ascii_digit (b ∷ rest))
unfolding token_of
token_of-digit b rest e f = rw (e, f) refl

-- the token at another byte
pub token_of-mark : (b : ℕ) (rest : List ℕ) → is_letter b ≡ false → is_ascii_digit b ≡ false → token_of (b ∷ rest) ≡ mark_at b rest
unfolding token_of
token_of-mark b rest e f = rw (e, f) refl

-- a mark is no name
mark_is_no_name : (b : ℕ) → mark_of b ≡ Name → ⊥
mark_is_no_name b e = grind arith

-- nor is it with its size
sized_is_no_name : (t : Token) → (t ≡ Name → ⊥) → (sized t).0 ≡ Name → ⊥
sized_is_no_name Bad isnt e = cc
sized_is_no_name t isnt e = isnt e

-- nor is !=
differs_is_no_name : (rest : List ℕ) → (differs_or_bad rest).0 ≡ Name → ⊥
differs_is_no_name [] e = cc
differs_is_no_name (b ∷ rest) e = grind arith

-- a choice between two that are no names is none
either_no_name : (c : Bool) (x y : Token × ℕ) → (x.0 ≡ Name → ⊥) → (y.0 ≡ Name → ⊥) → (if c then x else y).0 ≡ Name → ⊥
either_no_name true x y isnt other e = isnt e
either_no_name false x y isnt other e = other e

-- what begins with no letter and no digit is no name
mark_at_no_name : (b : ℕ) (rest : List ℕ) → (mark_at b rest).0 ≡ Name → ⊥
mark_at_no_name b rest = either_no_name (b == 33) (differs_or_bad rest) (sized (mark_of b)) (differs_is_no_name rest) (sized_is_no_name (mark_of b) (mark_is_no_name b))

letter_begins : (b : ℕ) (rest : List ℕ) → is_letter b ≡ true → begins_with_letter (take (front_len is_name_byte (b ∷ rest)) (b ∷ rest)) ≡ true
letter_begins b rest e = let name : is_name_byte b ≡ true = rw e refl in rw (name, add-one) e

-- the bytes of a name token, by its first byte
name_if : (b : ℕ) (rest : List ℕ) (letter digit : Bool) → is_letter b ≡ letter → is_ascii_digit b ≡ digit → front (b ∷ rest) ≡ Name → IsName (bytes_of (b ∷ rest))
unfolding front bytes_of IsUnreserved
name_if b rest true digit is d e =
    rw (token_of-letter b rest is) (record {
      first = letter_begins b rest is;
      bytes = front_passes is_name_byte (b ∷ rest);
      unreserved = sym (ap (λ (t : Token × ℕ). t.0) (token_of-letter b rest is)) ∙ e;
    })
name_if b rest false true is d e = let no : Number ≡ Name = sym (ap (λ (t : Token × ℕ). t.0) (token_of-digit b rest is d)) ∙ e in absurd cc
name_if b rest false false is d e = absurd (mark_at_no_name b rest (sym (ap (λ (t : Token × ℕ). t.0) (token_of-mark b rest is d)) ∙ e))

-- the bytes of a name token are a name
pub bytes_of_is_name : (text : List ℕ) → front text ≡ Name → IsName (bytes_of text)
unfolding front token_of
bytes_of_is_name [] e = absurd cc
bytes_of_is_name (b ∷ rest) e = name_if b rest (is_letter b) (is_ascii_digit b) refl refl e
