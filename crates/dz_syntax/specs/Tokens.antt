-- The tokens of a text, and what stands between them.
use Rattle.std.specs.Prelude.{ℕ, Bool, true, false, not, ◌||◌, List, [], ◌∷◌, take, drop, ◌==◌, if◌then◌else◌, codes, ◌+◌}
use Rattle.std.specs.Str.{bytes_eq}
use Rattle.std.specs.Char.{is_ascii_alphabetic, is_ascii_digit}
use Rattle.dz_rank.specs.declared.rankings.Kind.TheVariants.{GrlexA, GrlexB, DegrevA, DegrevB, LexA}
use Rattle.dz_syntax.specs.declared.token.Word.TheVariants as words
use Rattle.dz_syntax.specs.declared.token.Token.{Token}
use Rattle.dz_syntax.specs.declared.token.Token.TheVariants.{Name, Number, Word, Semicolon, Comma, OpenBracket, CloseBracket, OpenParenthesis, CloseParenthesis, Plus, Minus, Star, Caret, Equals, Slash, Differs, Nothing, Bad}

-- space, tab, carriage return and line feed
abbrev pub is_separator : ℕ → Bool
is_separator b = b == 32 || b == 9 || b == 13 || b == 10

-- a letter or _
abbrev pub is_letter : ℕ → Bool
is_letter b = is_ascii_alphabetic b || b == 95

-- a letter, _ or a digit
abbrev pub is_name_byte : ℕ → Bool
is_name_byte b = is_letter b || is_ascii_digit b

-- The text without the separators and comments at its front. A comment goes from # to the end of the line.
abbrev pub skip_from : Bool → List ℕ → List ℕ
skip_from in_comment [] = []
skip_from true (b ∷ rest) = skip_from (not (b == 10)) rest
skip_from false (b ∷ rest) =
    if b == 35 then skip_from true rest
    else if is_separator b then skip_from false rest
    else b ∷ rest

-- the name of a kind, or else a name
abbrev pub kind_or_name : List ℕ → Token
kind_or_name name =
    if bytes_eq name (codes "grlexA") then Word (words.Kind GrlexA)
    else if bytes_eq name (codes "grlexB") then Word (words.Kind GrlexB)
    else if bytes_eq name (codes "degrevA") then Word (words.Kind DegrevA)
    else if bytes_eq name (codes "degrevB") then Word (words.Kind DegrevB)
    else if bytes_eq name (codes "lexA") then Word (words.Kind LexA)
    else Name

-- a reserved word, or else a name
abbrev pub word_or_name : List ℕ → Token
word_or_name name =
    if bytes_eq name (codes "derivations") then Word words.Derivations
    else if bytes_eq name (codes "ranking") then Word words.Ranking
    else if bytes_eq name (codes "equations") then Word words.Equations
    else if bytes_eq name (codes "inequations") then Word words.Inequations
    else if bytes_eq name (codes "questions") then Word words.Questions
    else if bytes_eq name (codes "values") then Word words.Values
    else if bytes_eq name (codes "end") then Word words.End
    else kind_or_name name

-- a mark of one byte
abbrev pub mark_of : ℕ → Token
mark_of b =
    if b == 59 then Semicolon
    else if b == 44 then Comma
    else if b == 91 then OpenBracket
    else if b == 93 then CloseBracket
    else if b == 40 then OpenParenthesis
    else if b == 41 then CloseParenthesis
    else if b == 43 then Plus
    else if b == 45 then Minus
    else if b == 42 then Star
    else if b == 94 then Caret
    else if b == 61 then Equals
    else if b == 47 then Slash
    else Bad

-- a mark with its size: a byte that begins none has size 0
abbrev pub sized : Token → Token × ℕ
sized Bad = (Bad, 0)
sized t = (t, 1)

-- != is one token, and ! alone is none
abbrev pub differs_or_bad : List ℕ → Token × ℕ
differs_or_bad [] = (Bad, 0)
differs_or_bad (b ∷ rest) = if b == 61 then (Differs, 2) else (Bad, 0)

-- the token that is no name and no number
abbrev pub mark_at : ℕ → List ℕ → Token × ℕ
mark_at b rest = if b == 33 then differs_or_bad rest else sized (mark_of b)

-- how many bytes at the front pass a test
abbrev pub front_len : (ℕ → Bool) → List ℕ → ℕ
front_len test [] = 0
front_len test (b ∷ rest) = if test b then front_len test rest + 1 else 0

-- a token, and not the end of the text or a byte that begins none
abbrev pub is_token : Token → Bool
is_token Nothing = false
is_token Bad = false
is_token t = true

-- the token at the front of a text, and how many bytes it has
unfoldable pub token_of : List ℕ → Token × ℕ
token_of [] = (Nothing, 0)
token_of (b ∷ rest) =
    if is_letter b then (word_or_name (take (front_len is_name_byte (b ∷ rest)) (b ∷ rest)), front_len is_name_byte (b ∷ rest))
    else if is_ascii_digit b then (Number, front_len is_ascii_digit (b ∷ rest))
    else mark_at b rest

-- the token at the front of a text
unfoldable pub front : List ℕ → Token
front text = (token_of text).0

-- the text from the next token on
unfoldable pub behind : List ℕ → List ℕ
behind text = skip_from false (drop (token_of text).1 text)

-- the bytes of the token at the front
unfoldable pub bytes_of : List ℕ → List ℕ
bytes_of text = take (token_of text).1 text
