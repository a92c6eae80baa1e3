-- Reading the lists of equations, inequations and questions.
use Rattle.std.specs.Prelude.{ℕ, ◌+◌, Bool, true, false, List, [], ◌∷◌, ◌++◌, length, Result, Ok}
use Rattle.dz_syntax.specs.declared.fault.Fault.{Fault}
use Rattle.dz_syntax.specs.declared.marks.Section.{Section}
use Rattle.dz_syntax.specs.declared.expression.Op.{Op}
use Rattle.dz_syntax.specs.declared.expression.Op.TheVariants as ops
use Rattle.dz_syntax.specs.Tokens.{front, behind}
use Rattle.dz_syntax.specs.Names.{Declared}
use Rattle.dz_algebra.specs.Outcome.{◌>>=◌}
use Rattle.dz_syntax.specs.Expressions.{State, past, poly_with, inside}
use Rattle.dz_syntax.specs.Marks.{expected, is_word_of, is_relation, is_semicolon, separated}

-- behind the first side of an item: the second side, if the relation stands here
abbrev pub sides_from : Declared → Bool → State → Result (List Op × List ℕ) Fault
sides_from names true s = do
  s ← poly_with names (inside names 64) (past s)
  Ok (s.out ++ ops.Sub ∷ [], s.text)
sides_from names false s = Ok (s.out, s.text)

-- poly [relation poly]
unfoldable pub sides_at : Section → Declared → List ℕ → Result (List Op × List ℕ) Fault
sides_at section names text = do
  s ← poly_with names (inside names 64) (record { out = []; text = text })
  sides_from names (is_relation section (front s.text)) s

-- an item, whatever was found before it
abbrev pub element_of : Section → Declared → List (List Op) → List ℕ → Result (List Op × List ℕ) Fault
element_of section names found text = sides_at section names text

-- [items] ";", where the token at the front is a semicolon or is not
abbrev pub items_from : Section → Declared → Bool → List ℕ → Result (List (List Op) × List ℕ) Fault
items_from section names true text = Ok ([], behind text)
items_from section names false text = separated (element_of section names) (length text + 1) [] text

-- a word and [items] ";"
unfoldable pub section_at : Section → Declared → List ℕ → Result (List (List Op) × List ℕ) Fault
section_at section names text = do
  text ← expected (is_word_of section (front text)) text
  items_from section names (is_semicolon (front text)) text
