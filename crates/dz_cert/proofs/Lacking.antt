-- The texts of lines have no line feed, their words no blank, and places no colon.
use Rattle.std.proofs.Common.{◌≡◌, ℕ, ◌+◌, ◌<◌, ◌==◌, true, false, not, List, [], ◌∷◌, ◌++◌, refl, arith}
use Rattle.std.specs.Prelude.{codes}
use Rattle.std.specs.Fmt.{decimal}
use Rattle.std.specs.List.{AllByRecursion}
use Rattle.std.proofs.lemmas.Bool.Decides.{nat_tests}
use Rattle.dz_algebra.specs.declared.Limit.{Limit}
use Rattle.dz_algebra.specs.declared.Limit.TheVariants as limits
use Rattle.dz_step.specs.declared.Which.{Which}
use Rattle.dz_step.specs.declared.Which.TheVariants.{Initial, Separant}
use Rattle.dz_cert.specs.declared.words.Word.{Word}
use Rattle.dz_cert.specs.declared.words.Word.TheVariants as words
use Rattle.dz_cert.specs.LineTexts.{which_word}
use Rattle.dz_form.specs.Limits.{limit_word}
use Rattle.dz_cert.specs.Words.{word_text}
use Rattle.dz_rank.specs.declared.symbols.Operator.{Operator}
use Rattle.dz_rank.specs.declared.symbols.Symbol.{Symbol}
use Rattle.dz_syntax.specs.Names.{Declared, IsDeclared}
use Rattle.dz_syntax.specs.Tokens.{is_name_byte}
use Rattle.dz_form.specs.Texts.{operator_text, symbol_text}
use Rattle.dz_form.proofs.CutTexts.{lacks, name_lacks}
use Rattle.dz_form.proofs.TextTokens.{both_true}
use Rattle.dz_cert.proofs.PassedTexts.{IsPassed, decimal_passes, operator_passes, pass-append, symbol_passes}

-- ---- texts
-- a text behind a text
pub lacks-append : (mark : ℕ) (a b : List ℕ) → lacks mark a ≡ true → lacks mark b ≡ true → lacks mark (a ++ b) ≡ true
lacks-append mark a b e f = pass-append (λ b. not (b == mark)) a b e f

-- texts that lack a mark
abbrev pub AllLack : ℕ → List (List ℕ) → Type 0
AllLack mark texts = AllByRecursion (λ t. lacks mark t ≡ true) texts

-- ---- marks
-- a mark that is no byte of a name, no digit, and in none of the texts that stand between names
pub record IsOutside (mark : ℕ) : Type 0 where
  pub name : is_name_byte mark ≡ false
  pub digit : (n : ℕ) → n < 10 → not ((48 + n) == mark) ≡ true
  pub comma : lacks mark (codes ",") ≡ true
  pub minus : lacks mark (codes "-") ≡ true
  pub colon : lacks mark (codes ":") ≡ true
  pub opening : lacks mark (codes "[") ≡ true
  pub closing : lacks mark (codes "]") ≡ true
  pub word : (k : Word) → lacks mark (word_text k) ≡ true
  pub which : (w : Which) → lacks mark (which_word w) ≡ true
  pub limit : (l : Limit) → lacks mark (limit_word l) ≡ true

-- ---- operators and symbols
-- a byte that is no mark, where the mark is no byte of a name
other_byte : (mark b : ℕ) → is_name_byte mark ≡ false → is_name_byte b ≡ true → not (b == mark) ≡ true
other_byte mark b e f = (both_true (not (b == mark)) true (name_lacks mark (b ∷ []) e (rw f refl))).0

-- names, digits and marks of symbols are other bytes
others_pass : (mark : ℕ) → IsOutside mark → IsPassed (λ b. not (b == mark))
others_pass mark out = record { name = λ b e. other_byte mark b out.name e; digit = out.digit; comma = out.comma; minus = out.minus; opening = out.opening; closing = out.closing }

-- an operator
pub operator_text-lacks : (mark : ℕ) (names : Declared) (o : Operator) → IsOutside mark → IsDeclared names → lacks mark (operator_text names o) ≡ true
operator_text-lacks mark names o out d = operator_passes (λ b. not (b == mark)) (others_pass mark out) names d o

-- a symbol
pub symbol_text-lacks : (mark : ℕ) (names : Declared) (v : Symbol) → IsOutside mark → IsDeclared names → lacks mark (symbol_text names v) ≡ true
symbol_text-lacks mark names v out d = symbol_passes (λ b. not (b == mark)) (others_pass mark out) names d v

-- ---- numbers
-- a decimal text
pub decimal-lacks : (mark : ℕ) → ((n : ℕ) → n < 10 → not ((48 + n) == mark) ≡ true) → (n : ℕ) → lacks mark (decimal n) ≡ true
decimal-lacks mark other n = decimal_passes (λ b. not (b == mark)) other n

-- no digit is a colon
no_colon_digit : (n : ℕ) → n < 10 → not ((48 + n) == 58) ≡ true
no_colon_digit n lt = grind (arith, nat_tests)

-- a decimal text has no colon
pub decimal-lacks_colon : (n : ℕ) → lacks 58 (decimal n) ≡ true
decimal-lacks_colon n = decimal-lacks 58 no_colon_digit n

-- ---- blanks and line feeds
-- no digit is a blank
no_blank_digit : (n : ℕ) → n < 10 → not ((48 + n) == 32) ≡ true
no_blank_digit n lt = grind (arith, nat_tests)

-- no word has a blank
no_blank_word : (k : Word) → lacks 32 (word_text k) ≡ true
no_blank_word words.Reduce = refl
no_blank_word words.Weed = refl
no_blank_word words.Add = refl
no_blank_word words.Divide = refl
no_blank_word words.Split = refl
no_blank_word words.Factor = refl
no_blank_word words.Pair = refl
no_blank_word words.Closed = refl
no_blank_word words.Chain = refl
no_blank_word words.Open = refl
no_blank_word words.Spent = refl
no_blank_word words.Pairs = refl
no_blank_word words.Wide = refl
no_blank_word words.Large = refl
no_blank_word words.Separant = refl

-- no multiplier has a blank
no_blank_which : (w : Which) → lacks 32 (which_word w) ≡ true
no_blank_which Initial = refl
no_blank_which Separant = refl

-- no limit has a blank
no_blank_limit : (l : Limit) → lacks 32 (limit_word l) ≡ true
no_blank_limit limits.Order = refl
no_blank_limit limits.Exponent = refl
no_blank_limit limits.Symbols = refl
no_blank_limit limits.Terms = refl
no_blank_limit limits.Polynomials = refl
no_blank_limit limits.Node = refl
no_blank_limit limits.Splits = refl

-- a blank
pub blank_outside : IsOutside 32
blank_outside = record {
  name = refl;
  digit = no_blank_digit;
  comma = refl;
  minus = refl;
  colon = refl;
  opening = refl;
  closing = refl;
  word = no_blank_word;
  which = no_blank_which;
  limit = no_blank_limit;
}

-- no digit is a line feed
no_feed_digit : (n : ℕ) → n < 10 → not ((48 + n) == 10) ≡ true
no_feed_digit n lt = grind (arith, nat_tests)

-- no word has a line feed
no_feed_word : (k : Word) → lacks 10 (word_text k) ≡ true
no_feed_word words.Reduce = refl
no_feed_word words.Weed = refl
no_feed_word words.Add = refl
no_feed_word words.Divide = refl
no_feed_word words.Split = refl
no_feed_word words.Factor = refl
no_feed_word words.Pair = refl
no_feed_word words.Closed = refl
no_feed_word words.Chain = refl
no_feed_word words.Open = refl
no_feed_word words.Spent = refl
no_feed_word words.Pairs = refl
no_feed_word words.Wide = refl
no_feed_word words.Large = refl
no_feed_word words.Separant = refl

-- no multiplier has a line feed
no_feed_which : (w : Which) → lacks 10 (which_word w) ≡ true
no_feed_which Initial = refl
no_feed_which Separant = refl

-- no limit has a line feed
no_feed_limit : (l : Limit) → lacks 10 (limit_word l) ≡ true
no_feed_limit limits.Order = refl
no_feed_limit limits.Exponent = refl
no_feed_limit limits.Symbols = refl
no_feed_limit limits.Terms = refl
no_feed_limit limits.Polynomials = refl
no_feed_limit limits.Node = refl
no_feed_limit limits.Splits = refl

-- a line feed
pub feed_outside : IsOutside 10
feed_outside = record {
  name = refl;
  digit = no_feed_digit;
  comma = refl;
  minus = refl;
  colon = refl;
  opening = refl;
  closing = refl;
  word = no_feed_word;
  which = no_feed_which;
  limit = no_feed_limit;
}
