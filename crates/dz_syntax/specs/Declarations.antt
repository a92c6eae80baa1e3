-- Reading a list of names that are declared.
use Rattle.std.specs.Prelude.{ℕ, zero, suc, List, Result, Ok, if◌then◌else◌}
use Rattle.dz_syntax.specs.declared.token.Token.{Token}
use Rattle.dz_syntax.specs.declared.token.Token.TheVariants.{Name, Comma}
use Rattle.dz_syntax.specs.declared.fault.Fault.{Fault}
use Rattle.dz_syntax.specs.declared.fault.SyntaxKind.TheVariants.{Twice, Names}
use Rattle.dz_syntax.specs.declared.names.Group.{Group}
use Rattle.dz_syntax.specs.Tokens.{front, behind, bytes_of}
use Rattle.dz_syntax.specs.Names.{Declared, declared, known}
use Rattle.dz_algebra.specs.Outcome.{◌>>=◌}
use Rattle.dz_syntax.specs.Faults.{refuse, unexpected_kind}

-- a new name, where the token at the front is a name
abbrev pub new_name_from : Declared → Token → List ℕ → Result (List ℕ) Fault
new_name_from names Name text = if known names (bytes_of text) then refuse Twice text else Ok (bytes_of text)
new_name_from names t text = refuse (unexpected_kind t) text

-- a name that is not declared yet
unfoldable pub new_name : Declared → List ℕ → Result (List ℕ) Fault
new_name names text = new_name_from names (front text) text

-- after a name
abbrev pub declarations_go_on : (Declared → List ℕ → Result (Declared × List ℕ) Fault) → Declared → Token → List ℕ → Result (Declared × List ℕ) Fault
declarations_go_on more names Comma text = more names (behind text)
declarations_go_on more names t text = Ok (names, text)

-- the names at the front, of which so many may come
unfoldable pub declarations : ℕ → Group → Declared → List ℕ → Result (Declared × List ℕ) Fault
declarations zero group names text = do
  name ← new_name names text
  refuse Names text
declarations (suc left) group names text = do
  name ← new_name names text
  declarations_go_on (declarations left group) (declared group names name) (front (behind text)) (behind text)
