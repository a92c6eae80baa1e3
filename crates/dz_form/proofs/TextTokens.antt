-- The tokens of texts that are put together.
use Rattle.std.proofs.Common.{◌≡◌, ℕ, ◌<◌, ◌≤◌, ◌+◌, ◌^◌, ◌/◌, ◌%◌, length, take, List, [], ◌∷◌, ◌++◌, Bool, true, false, refl, ap, ◌∙◌, arith, add-one}
use Rattle.std.specs.Prelude.{◌&&◌, ◌||◌, codes}
use Rattle.std.specs.Char.{is_ascii_digit}
use Rattle.std.specs.List.{list_all}
use Rattle.std.specs.Fmt.{decimal}
use Rattle.std.proofs.lemmas.Fmt.{decimal_by_steps_wide}
use Rattle.std.proofs.lemmas.Bool.Decides.{nat_tests}
use Rattle.std.proofs.lemmas.List.{take_at, drop_at, length_push}
use Rattle.std.proofs.lemmas.List.Folds.{list_all-append}
use Rattle.dz_syntax.specs.declared.token.Token.{Token}
use Rattle.dz_syntax.specs.declared.token.Token.TheVariants.{Name, Number, Comma, OpenBracket, CloseBracket, Caret, Star, Plus, Minus, Nothing}
use Rattle.dz_syntax.specs.Tokens.{is_letter, is_name_byte, skip_from, front_len, token_of, front, behind, bytes_of, word_or_name}
use Rattle.dz_syntax.specs.Names.{IsName, IsUnreserved}
use Rattle.dz_syntax.specs.Numbers.{number_from, more_digits}
use Rattle.dz_syntax.proofs.NameTokens.{token_of-letter, token_of-digit}

-- whether the first byte of a text passes a test
abbrev pub begins : (ℕ → Bool) → List ℕ → Bool
begins test [] = false
begins test (b ∷ rest) = test b

-- ---- the bytes at the front that pass a test

-- no byte passes where the first one doesn't
front_len-stop : (test : ℕ → Bool) (rest : List ℕ) → begins test rest ≡ false → front_len test rest ≡ 0
front_len-stop test [] stop = refl
front_len-stop test (b ∷ rest) stop = rw stop refl

-- both parts of what holds together
pub both_true : (a b : Bool) → (a && b) ≡ true → (a ≡ true) × (b ≡ true)
both_true true b e = (refl, e)
both_true false b e = absurd cc

-- all bytes of a text pass, and the next one doesn't
pub front_len-append : (test : ℕ → Bool) (text rest : List ℕ) → list_all test text ≡ true → begins test rest ≡ false → front_len test (text ++ rest) ≡ length text
front_len-append test [] rest all stop = front_len-stop test rest stop
front_len-append test (b ∷ text) rest all stop =
    let passes = both_true (test b) (list_all test text) all in
    rw (passes.0, front_len-append test text rest passes.1 stop) (add-one (length text))

-- a digit is a name byte
not_either : (a b : Bool) → (a || b) ≡ false → b ≡ false
not_either true b e = absurd cc
not_either false b e = e

-- what does not begin with a byte of a name does not begin with a digit
pub begins_no_digit : (rest : List ℕ) → begins is_name_byte rest ≡ false → begins is_ascii_digit rest ≡ false
begins_no_digit [] stop = refl
begins_no_digit (b ∷ rest) stop = not_either (is_letter b) (is_ascii_digit b) stop

-- ---- a token, and what is behind it

-- what is known of the token at the front of a text, which is followed by another text
pub record IsToken (t : Token) (bytes rest : List ℕ) : Type 0 where
  pub token : front (bytes ++ rest) ≡ t
  pub bytes_are : bytes_of (bytes ++ rest) ≡ bytes
  pub behind_is : behind (bytes ++ rest) ≡ skip_from false rest
  pub stands : skip_from false (bytes ++ rest) ≡ bytes ++ rest

-- a token, by its size
token_from : (t : Token) (bytes rest : List ℕ) → token_of (bytes ++ rest) ≡ (t, length bytes) → skip_from false (bytes ++ rest) ≡ bytes ++ rest → IsToken t bytes rest
unfolding front bytes_of behind
token_from t bytes rest is stands = record {
  token = ap (λ (x : Token × ℕ). x.0) is;
  bytes_are = rw is (take_at bytes rest (length bytes) refl);
  behind_is = rw (is, drop_at bytes rest (length bytes) refl) refl;
  stands = stands;
}

-- ---- marks

-- a comma
pub comma : (rest : List ℕ) → IsToken Comma (codes ",") rest
unfolding token_of
comma rest = token_from Comma (codes ",") rest refl refl

-- an opening bracket
pub open_bracket : (rest : List ℕ) → IsToken OpenBracket (codes "[") rest
unfolding token_of
open_bracket rest = token_from OpenBracket (codes "[") rest refl refl

-- a closing bracket
pub close_bracket : (rest : List ℕ) → IsToken CloseBracket (codes "]") rest
unfolding token_of
close_bracket rest = token_from CloseBracket (codes "]") rest refl refl

-- the mark of an exponent
pub caret : (rest : List ℕ) → IsToken Caret (codes "^") rest
unfolding token_of
caret rest = token_from Caret (codes "^") rest refl refl

-- the mark of a product
pub star : (rest : List ℕ) → IsToken Star (codes "*") rest
unfolding token_of
star rest = token_from Star (codes "*") rest refl refl

-- the sign of a sum
pub plus : (rest : List ℕ) → IsToken Plus (codes "+") rest
unfolding token_of
plus rest = token_from Plus (codes "+") rest refl refl

-- the sign of a difference
pub minus : (rest : List ℕ) → IsToken Minus (codes "-") rest
unfolding token_of
minus rest = token_from Minus (codes "-") rest refl refl

-- the end of the text
pub nothing : front [] ≡ Nothing
unfolding front token_of
nothing = refl

-- ---- names

-- a letter is no separator, and begins no comment
skip_from-letter : (b : ℕ) (rest : List ℕ) → is_letter b ≡ true → skip_from false (b ∷ rest) ≡ b ∷ rest
skip_from-letter b rest letter = grind (arith, nat_tests)

-- a name, and behind it no byte of a name
pub name_token : (name rest : List ℕ) → IsName name → begins is_name_byte rest ≡ false → IsToken Name name rest
unfolding IsUnreserved
name_token [] rest is stop = absurd (let no = is.first in cc)
name_token (b ∷ name) rest is stop =
    let size = front_len-append is_name_byte (b ∷ name) rest is.bytes stop in
    let token = token_of-letter b (name ++ rest) is.first in
    let word = ap word_or_name (take_at (b ∷ name) rest (length (b ∷ name)) refl) ∙ is.unreserved in
    let all = token ∙ ap (λ (k : ℕ). (word_or_name (take k (b ∷ (name ++ rest))), k)) size ∙ ap (λ (t : Token). (t, length (b ∷ name))) word in
    token_from Name (b ∷ name) rest all (skip_from-letter b (name ++ rest) is.first)

-- ---- numbers

-- nor does a digit
skip_from-digit : (b : ℕ) (rest : List ℕ) → is_ascii_digit b ≡ true → skip_from false (b ∷ rest) ≡ b ∷ rest
skip_from-digit b rest digit = grind (arith, nat_tests)

-- a digit is no letter
digit_no_letter : (b : ℕ) → is_ascii_digit b ≡ true → is_letter b ≡ false
digit_no_letter b digit = grind (arith, nat_tests)

-- digits that spell a number
record Spells (n : ℕ) (digits : List ℕ) : Type 0 where
  are_digits : list_all is_ascii_digit digits ≡ true
  value : number_from 0 digits ≡ n
  some : 0 < length digits

-- the number with one digit more
number_from-push : (value : ℕ) (digits : List ℕ) (digit : ℕ) → number_from value (digits ++ digit ∷ []) ≡ more_digits (number_from value digits) digit
number_from-push value [] digit = refl
number_from-push value (d ∷ digits) digit = number_from-push (more_digits value d) digits digit

-- what is written for a number below ten is a digit
digit_passes : (n : ℕ) → n < 10 → is_ascii_digit (48 + n) ≡ true
digit_passes n lt = grind (arith, nat_tests)

-- one digit
one_spells : (n : ℕ) → n < 10 → Spells n ((48 + n) ∷ [])
one_spells n lt = record { are_digits = rw (digit_passes n lt) refl; value = omega arith; some = omega arith }

-- one digit more
more_spells : (n : ℕ) (digits : List ℕ) → 10 ≤ n → Spells (n / 10) digits → Spells n (digits ++ (48 + n % 10) ∷ [])
more_spells n digits le s = record {
  are_digits = rw (list_all-append, s.are_digits, digit_passes (n % 10) (omega arith)) refl;
  value = rw (number_from-push, s.value) (omega arith);
  some = omega (arith, length_push digits (48 + n % 10));
}

-- the decimal text of a number spells it
decimal_spells : (n : ℕ) → n < 10 ^ 64 → Spells n (decimal n)
decimal_spells = decimal_by_steps_wide Spells one_spells more_spells

-- digits, and behind them no byte of a name
digits_token : (digits rest : List ℕ) → list_all is_ascii_digit digits ≡ true → 0 < length digits → begins is_name_byte rest ≡ false → IsToken Number digits rest
digits_token [] rest all some stop = absurd (omega arith)
digits_token (b ∷ digits) rest all some stop =
    let digit = (both_true (is_ascii_digit b) (list_all is_ascii_digit digits) all).0 in
    let size = front_len-append is_ascii_digit (b ∷ digits) rest all (begins_no_digit rest stop) in
    let token = token_of-digit b (digits ++ rest) (digit_no_letter b digit) digit in
    token_from Number (b ∷ digits) rest (rw (token, size) refl) (skip_from-digit b (digits ++ rest) digit)

-- the digits of a number, and behind them no byte of a name
pub decimal_token : (n : ℕ) (rest : List ℕ) → n < 10 ^ 64 → begins is_name_byte rest ≡ false → IsToken Number (decimal n) rest
decimal_token n rest lt stop = let s = decimal_spells n lt in digits_token (decimal n) rest s.are_digits s.some stop

-- the number that they spell
pub number_from-decimal : (n : ℕ) → n < 10 ^ 64 → number_from 0 (decimal n) ≡ n
number_from-decimal n lt = (decimal_spells n lt).value
