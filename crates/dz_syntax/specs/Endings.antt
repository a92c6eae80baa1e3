-- Reading what follows the inequations, in each form.
use Rattle.std.specs.Prelude.{ℕ, ◌+◌, ◌-◌, ◌==◌, Bool, true, false, List, [], ◌∷◌, drop, length, Result, Ok, if◌then◌else◌}
use Rattle.dz_int.specs.Fractions.{Fraction}
use Rattle.dz_rank.specs.declared.symbols.Symbol.{Symbol}
use Rattle.dz_syntax.specs.declared.fault.Fault.{Fault}
use Rattle.dz_syntax.specs.declared.fault.SyntaxKind.TheVariants.{Unexpected}
use Rattle.dz_syntax.specs.declared.marks.Section.TheVariants as sections
use Rattle.dz_syntax.specs.declared.endings.Form.{Form}
use Rattle.dz_syntax.specs.declared.endings.Form.TheVariants.{Plain, Questions, Values, Document, Functions}
use Rattle.dz_syntax.specs.declared.endings.Ending.{Ending}
use Rattle.dz_syntax.specs.declared.expression.Op.{Op}
use Rattle.dz_syntax.specs.Tokens.{front, behind, token_of}
use Rattle.dz_syntax.specs.Names.{Declared}
use Rattle.dz_algebra.specs.Outcome.{◌>>=◌}
use Rattle.dz_syntax.specs.Faults.{refuse}
use Rattle.dz_syntax.specs.Marks.{expected, is_values, is_end, is_nothing, is_semicolon, separated}
use Rattle.dz_syntax.specs.Sections.{section_at}
use Rattle.dz_syntax.specs.Values.{element_of}
use Rattle.dz_syntax.specs.Functions.{element_of as function_of}

-- what a form has besides the system; the document by the place at which it begins, else 0
pub record Rest : Type 0 where
  pub questions : List (List Op)
  pub values : List (Symbol × Fraction)
  pub functions : List (ℕ × List Op)
  pub document : ℕ

-- what was read, in the code's own type
abbrev pub rest_of : Ending → Rest
rest_of e = record { questions = e.questions.items; values = e.values.items; functions = e.functions.items; document = e.document }

-- "end", and nothing behind it
unfoldable pub end_at : List ℕ → Result (List ℕ) Fault
end_at text = do
  text ← expected (is_end (front text)) text
  expected (is_nothing (front text)) text

-- [values] ";", where the token at the front is a semicolon or is not
abbrev pub values_from : Declared → Bool → List ℕ → Result (List (Symbol × Fraction) × List ℕ) Fault
values_from names true text = Ok ([], behind text)
values_from names false text = separated (element_of names) (length text + 1) [] text

-- "values" [values] ";"
unfoldable pub values_at : Declared → List ℕ → Result (List (Symbol × Fraction) × List ℕ) Fault
values_at names text = do
  text ← expected (is_values (front text)) text
  values_from names (is_semicolon (front text)) text

-- [functions] ";", where the token at the front is a semicolon or is not
abbrev pub functions_from : Declared → Bool → List ℕ → Result (List (ℕ × List Op) × List ℕ) Fault
functions_from names true text = Ok ([], behind text)
functions_from names false text = separated (function_of names) (length text + 1) [] text

-- "values" [functions] ";"
unfoldable pub functions_at : Declared → List ℕ → Result (List (ℕ × List Op) × List ℕ) Fault
functions_at names text = do
  text ← expected (is_values (front text)) text
  functions_from names (is_semicolon (front text)) text

-- behind a line feed
abbrev pub line_from : List ℕ → Result (List ℕ) Fault
line_from [] = refuse Unexpected []
line_from (b ∷ rest) = if b == 10 then Ok rest else refuse Unexpected (b ∷ rest)

-- the document: what stands behind "end" and the line feed directly after it
unfoldable pub document_at : List ℕ → Result (List ℕ) Fault
document_at text = do
  after ← expected (is_end (front text)) text
  line_from (drop (token_of text).1 text)

-- what follows the inequations in a form, where the whole text has so many bytes
unfoldable pub rest_at : Form → ℕ → Declared → List ℕ → Result Rest Fault
rest_at Plain total names text = do
  end ← end_at text
  Ok (record { questions = []; values = []; functions = []; document = 0 })
rest_at Questions total names text = do
  q ← section_at sections.Questions names text
  end ← end_at q.1
  Ok (record { questions = q.0; values = []; functions = []; document = 0 })
rest_at Values total names text = do
  v ← values_at names text
  end ← end_at v.1
  Ok (record { questions = []; values = v.0; functions = []; document = 0 })
rest_at Document total names text = do
  document ← document_at text
  Ok (record { questions = []; values = []; functions = []; document = total - length document })
rest_at Functions total names text = do
  f ← functions_at names text
  end ← end_at f.1
  Ok (record { questions = []; values = []; functions = f.0; document = 0 })
