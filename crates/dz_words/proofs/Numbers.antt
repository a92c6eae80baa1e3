-- The digits of numbers.
use Rattle.std.proofs.Common.{◌≡◌, ◌&&◌, ◌<◌, ◌≤◌, ◌^◌, ◌==◌, ℕ, true, false, not, List, [], ◌∷◌, refl, ap, arith, length, nat_le, slice_index, nat_lt, zero, suc}
use Rattle.std.specs.Prelude.{Option, Some, None, Result, Ok, Err, pos}
use Rattle.std.specs.List.{list_all}
use Rattle.std.specs.Char.{digit_value, is_ascii_digit}
use Rattle.std.specs.Fmt.{decimal, digits}
use Rattle.std.specs.Str.Parse.{AllDigits, IsNumeral, ParsesUnsigned, digits_value, signed_digits_value, starts_with_minus, without_leading_plus, without_leading_sign}
use Rattle.std.proofs.lemmas.Bool.{ne_eqb, leb-true, le-leb, lt-ltb}
use Rattle.std.proofs.lemmas.Fmt.{decimal-digits_value, decimal_is_IsNumeral, decimal_nonempty, first_decimal, length-decimal-le, parse-decimal}
use Rattle.std.proofs.lemmas.Str.{digit_value_digit}
use Rattle.std.proofs.lemmas.Str.Parse.{IsNumeralModel, digit_from_value, digits_value_short, numerals_by_value, tells_digits}
use Rattle.clap.specs.Lexer.{without_minus}
use Rattle.clap.specs.Matches.{ReadsOne}
use Rattle.clap.specs.ValueTests.{accepts, is_numeral}
use Rattle.clap.specs.declared.builder.value_parser.ValueParser.TheVariants.{Signed}
use Rattle.dz_words.specs.Shape.{is_number, starts_as_number}
use Rattle.dz_words.proofs.Lists.{both}

-- numbers of at most ten digits
abbrev pub Small : ℕ → Type 0
Small n = n < 10 ^ 10

-- the digits of base ten, as the lemmas of std on digits take them
model : IsNumeralModel (AllDigits 10) (digits_value 10)
model = numerals_by_value (AllDigits 10) tells_digits

-- ---- the test of digits
-- bytes that pass as digits are digits of base ten
all_digits : (ds : List ℕ) → list_all is_ascii_digit ds ≡ true → AllDigits 10 ds
all_digits [] e = tt
all_digits (d ∷ ds) e =
    let parts = both (is_ascii_digit d) (list_all is_ascii_digit ds) e in
    let range = both (nat_le 48 d) (nat_le d 57) parts.0 in
    let low : 48 ≤ d = leb-true _ _ range.0 in
    let high : d ≤ 57 = leb-true _ _ range.1 in
    let value = digit_value_digit d (low, high) in
    (omega arith, all_digits ds parts.1)

-- and digits of base ten pass
are_digits : (ds : List ℕ) → AllDigits 10 ds → list_all is_ascii_digit ds ≡ true
are_digits [] h = refl
are_digits (d ∷ ds) h =
    let range = digit_from_value d h.0 in
    rw (le-leb 48 d range.0, le-leb d 57 range.1) (are_digits ds h.1)

-- digits that pass are those of a small number
pub number_digits : (ds : List ℕ) → is_number ds ≡ true → (decimal (digits_value 10 ds) ≡ ds) × Small (digits_value 10 ds)
number_digits [] e = absurd cc
number_digits (d ∷ ds) e =
    let parts = both (starts_as_number (d ∷ ds)) (nat_le (length (d ∷ ds)) 10 && list_all is_ascii_digit (d ∷ ds)) e in
    let more = both (nat_le (length (d ∷ ds)) 10) (list_all is_ascii_digit (d ∷ ds)) parts.1 in
    let digits = all_digits (d ∷ ds) more.1 in
    let short : length (d ∷ ds) ≤ 10 = leb-true _ _ more.0 in
    let small = digits_value_short model (d ∷ ds) 10 digits short in
    let lead : d ≡ 48 → length (d ∷ ds) ≡ 1 = λ is. alone d ds is parts.0 in
    (decimal-digits_value model (d ∷ ds) digits (omega arith) lead (omega arith), small)
  where
    alone : (d : ℕ) (ds : List ℕ) → d ≡ 48 → starts_as_number (d ∷ ds) ≡ true → length (d ∷ ds) ≡ 1
    alone d [] is e = refl
    alone d (x ∷ ds) is e = let bad : not (48 == 48) ≡ true = rw is at e in absurd cc

-- zero is one digit
zero_digits : decimal 0 ≡ 48 ∷ []
unfolding digits
zero_digits = refl

-- the digits of a small number pass
pub decimal_passes : (n : ℕ) → Small n → is_number (decimal n) ≡ true
decimal_passes n small =
    let numeral = (decimal_is_IsNumeral n (omega arith)).0 in
    let short = length-decimal-le 10 n (omega arith) small (omega arith) in
    rw (le-leb (length (decimal n)) 10 short, are_digits (decimal n) numeral.1) (start n small)
  where
    start : (n : ℕ) → Small n → (starts_as_number (decimal n) && (true && true)) ≡ true
    start zero small = rw zero_digits refl
    start (suc n) small =
        let first = first_decimal (suc n) (omega arith) (omega arith) in
        go (decimal (suc n)) (decimal_nonempty (suc n) (omega arith)) first
      where
        go : (ds : List ℕ) → 0 < length ds → 48 < slice_index ds 0 → (starts_as_number ds && (true && true)) ≡ true
        go [] some first = absurd (omega arith)
        go (d ∷ []) some first = refl
        go (d ∷ x ∷ ds) some first = rw (ne_eqb d 48 (λ e. omega arith)) refl

-- ---- digits have no sign
-- Digits without a sign are left as they are by all that looks for one.
record HasNoSign (ds : List ℕ) : Type 0 where
  minus : starts_with_minus ds ≡ false
  leading_plus : without_leading_plus ds ≡ ds
  leading_sign : without_leading_sign ds ≡ ds
  leading_minus : without_minus ds ≡ ds

-- the digits of a number have no sign
unsigned : (ds : List ℕ) → IsNumeral 10 ds → HasNoSign ds
unsigned [] h = absurd (omega (arith, h.0))
unsigned (d ∷ ds) h =
    let range = digit_from_value d h.1.0 in
    let minus : (d == 45) ≡ false = ne_eqb d 45 (λ e. omega arith) in
    let plus : (d == 43) ≡ false = ne_eqb d 43 (λ e. omega arith) in
    record { minus = minus; leading_plus = rw plus refl; leading_sign = rw (minus, plus) refl; leading_minus = rw minus refl }

-- `clap` reads such digits as they are
pub decimal_unsigned : (n : ℕ) → Small n → without_minus (decimal n) ≡ decimal n
decimal_unsigned n small = (unsigned (decimal n) (decimal_is_IsNumeral n (omega arith)).0).leading_minus

-- digits of base ten pass the test of `clap`
digits_back : (ds : List ℕ) → AllDigits 10 ds → list_all (λ d. nat_lt (digit_value d) 10) ds ≡ true
digits_back [] h = refl
digits_back (d ∷ ds) h = rw (lt-ltb (digit_value d) 10 h.0) (digits_back ds h.1)

-- `clap` takes the digits of a number exactly where it lies in the range
numeral_accepted : (low high n : ℕ) (ds : List ℕ) → HasNoSign ds → IsNumeral 10 ds → digits_value 10 ds ≡ n → n < 2 ^ 63
    → accepts false (Signed (pos low) (pos high)) ds ≡ (nat_le low n && nat_le n high)
numeral_accepted low high n ds sign numeral is small =
    let value : signed_digits_value 10 ds ≡ pos n = rw (sign.minus, sign.leading_plus) (ap pos is) in
    let digits : is_numeral ds ≡ true = rw (lt-ltb 0 (length ds) numeral.0) (digits_back ds numeral.1) in
    rw (value, sign.leading_sign, digits, lt-ltb n (2 ^ 63) small) refl

-- and takes them exactly where their number lies in the range
pub decimal_accepted : (low high n : ℕ) → Small n → accepts false (Signed (pos low) (pos high)) (decimal n) ≡ (nat_le low n && nat_le n high)
decimal_accepted low high n small =
    let numeral = decimal_is_IsNumeral n (omega arith) in
    numeral_accepted low high n (decimal n) (unsigned (decimal n) numeral.0) numeral.0 numeral.1 (omega arith)

-- the digits of a number have it as their value
pub decimal_value : (n : ℕ) → Small n → digits_value 10 (decimal n) ≡ n
decimal_value n small = (decimal_is_IsNumeral n (omega arith)).1

-- a typed getter reads the number
pub reads_decimal : {E : Type 0} (G : List ℕ → Result ℕ E → Type 0) (n : ℕ) (r : Option ℕ) → ((u : List ℕ) (x : Result ℕ E) → G u x → ParsesUnsigned 32 10 u x)
    → n < 2 ^ 32 → ReadsOne G (decimal n) r → r ≡ Some n
reads_decimal {E} G n (Some v) only small read =
    let parsed : ◌≡◌ {A = Result ℕ E} (Ok v) (Ok n) = parse-decimal 32 n (decimal n) (Ok v) small (omega arith) refl (only (decimal n) (Ok v) read) in
    cc
reads_decimal {E} G n None only small read =
    let parsed : ◌≡◌ {A = Result ℕ E} (Err read.0) (Ok n) = parse-decimal 32 n (decimal n) (Err read.0) small (omega arith) refl (only (decimal n) (Err read.0) read.1) in
    absurd cc
