-- One expression that fills a text.
use Rattle.std.specs.Prelude.{◌≡◌, ◌⊎◌, ◌-◌, ℕ, List, [], length, false, Result, Ok, Err}
use Rattle.dz_syntax.specs.declared.token.Token.{Token}
use Rattle.dz_syntax.specs.declared.token.Token.TheVariants.{Nothing}
use Rattle.dz_syntax.specs.declared.fault.Fault.{Fault}
use Rattle.dz_syntax.specs.declared.fault.SyntaxKind.TheVariants.{Memory}
use Rattle.dz_syntax.specs.declared.fault.SyntaxFault.{SyntaxFault}
use Rattle.dz_syntax.specs.declared.expression.Op.{Op}
use Rattle.dz_syntax.specs.Tokens.{front, skip_from}
use Rattle.dz_syntax.specs.Names.{Declared}
use Rattle.dz_algebra.specs.Outcome.{◌>>=◌}
use Rattle.dz_syntax.specs.Expressions.{State, unexpected, poly_with, inside}
use Rattle.dz_syntax.specs.Grammar.{IsPoly, IsInside}

-- the fault with its place, counted from the front of the text
abbrev pub placed : {Y : Type 0} → ℕ → Result Y Fault → Result Y SyntaxFault
placed total (Ok y) = Ok y
placed total (Err f) = Err (record { place = total - f.left; kind = f.kind })

-- What a function gave, seen by view, is the reading or its first fault, unless memory ran out.
abbrev pub Answers : {X Y : Type 0} → (X → Y) → Result X SyntaxFault → Result Y SyntaxFault → Type 0
Answers view (Ok x) read = read ≡ Ok (view x)
Answers view (Err e) read = (e ≡ record { place = 0; kind = Memory }) ⊎ (read ≡ Err e)

-- the steps, where nothing follows
abbrev pub ended_from : Token → State → Result (List Op) Fault
ended_from Nothing s = Ok s.out
ended_from t s = unexpected t s

-- no steps, and the text from its first token on
abbrev pub start : List ℕ → State
start bytes = record { out = []; text = skip_from false bytes }

-- the steps of the one poly that fills the bytes
unfoldable pub item_at : Declared → List ℕ → Result (List Op) Fault
item_at names bytes = do
  s ← poly_with names (inside names 64) (start bytes)
  ended_from (front s.text) s

-- the steps of the one poly that fills the bytes, or the first fault
unfoldable pub item_of : Declared → List ℕ → Result (List Op) SyntaxFault
item_of names bytes = placed (length bytes) (item_at names bytes)

-- the bytes are one poly with these steps
pub record IsItem (names : Declared) (bytes : List ℕ) (o : List Op) : Type 0 where
  pub end : List ℕ
  pub poly : IsPoly names (IsInside names 64) (skip_from false bytes) o end
  pub nothing : front end ≡ Nothing
