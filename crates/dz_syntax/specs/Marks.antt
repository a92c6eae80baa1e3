-- The words and marks that have to stand at a place, and lists of what commas separate.
use Rattle.std.specs.Prelude.{ℕ, zero, suc, Bool, true, false, List, [], ◌∷◌, ◌++◌, Result, Ok, Option, Some, None}
use Rattle.dz_rank.specs.declared.rankings.Kind.{Kind}
use Rattle.dz_syntax.specs.declared.token.Token.{Token}
use Rattle.dz_syntax.specs.declared.token.Token.TheVariants.{Word, Semicolon, Comma, OpenBracket, CloseBracket, Equals, Differs, Nothing}
use Rattle.dz_syntax.specs.declared.token.Word.TheVariants as words
use Rattle.dz_syntax.specs.declared.fault.Fault.{Fault}
use Rattle.dz_syntax.specs.declared.marks.Section.{Section}
use Rattle.dz_syntax.specs.declared.marks.Section.TheVariants.{Equations, Inequations, Questions}
use Rattle.dz_syntax.specs.Tokens.{front, behind}
use Rattle.dz_algebra.specs.Outcome.{◌>>=◌}
use Rattle.dz_syntax.specs.Faults.{refuse, unexpected_kind}

-- the word before the independents
abbrev pub is_derivations : Token → Bool
is_derivations (Word words.Derivations) = true
is_derivations t = false

-- the word before the blocks
abbrev pub is_ranking : Token → Bool
is_ranking (Word words.Ranking) = true
is_ranking t = false

-- the word with which a list of items begins
abbrev pub is_word_of : Section → Token → Bool
is_word_of Equations (Word words.Equations) = true
is_word_of Inequations (Word words.Inequations) = true
is_word_of Questions (Word words.Questions) = true
is_word_of section t = false

-- the mark between the sides of an item; a question has none
abbrev pub is_relation : Section → Token → Bool
is_relation Equations Equals = true
is_relation Inequations Differs = true
is_relation section t = false

-- the word before the values
abbrev pub is_values : Token → Bool
is_values (Word words.Values) = true
is_values t = false

-- the word at the end
abbrev pub is_end : Token → Bool
is_end (Word words.End) = true
is_end t = false

-- the end of the text
abbrev pub is_nothing : Token → Bool
is_nothing Nothing = true
is_nothing t = false

-- the mark ;
abbrev pub is_semicolon : Token → Bool
is_semicolon Semicolon = true
is_semicolon t = false

-- the mark [
abbrev pub is_open_bracket : Token → Bool
is_open_bracket OpenBracket = true
is_open_bracket t = false

-- the mark ]
abbrev pub is_close_bracket : Token → Bool
is_close_bracket CloseBracket = true
is_close_bracket t = false

-- the mark =
abbrev pub is_equals : Token → Bool
is_equals Equals = true
is_equals t = false

-- the kind of a block, where its word stands here
abbrev pub kind_of : Token → Option Kind
kind_of (Word (words.Kind kind)) = Some kind
kind_of t = None

-- past the token at the front, if it is the one that has to stand here
unfoldable pub expected : Bool → List ℕ → Result (List ℕ) Fault
expected true text = Ok (behind text)
expected false text = refuse (unexpected_kind (front text)) text

-- after an element of a list: a comma and more elements, or the semicolon that ends the list
abbrev pub separated_from : {X : Type 0} → (List X → List ℕ → Result (List X × List ℕ) Fault) → List X → Token → List ℕ → Result (List X × List ℕ) Fault
separated_from more found Comma text = more found (behind text)
separated_from more found t text = do
  text ← expected (is_semicolon t) text
  Ok (found, text)

-- at least one and at most n elements, separated by commas, and the semicolon after them
unfoldable pub separated : {X : Type 0} → (List X → List ℕ → Result (X × List ℕ) Fault) → ℕ → List X → List ℕ → Result (List X × List ℕ) Fault
separated element zero found text = refuse (unexpected_kind (front text)) text
separated element (suc n) found text = do
  x ← element found text
  separated_from (separated element n) (found ++ x.0 ∷ []) (front x.1) x.1
