-- Reading an expression from left to right.
use Rattle.std.specs.Prelude.{ℕ, zero, suc, List, [], ◌∷◌, ◌++◌, length, Result, Ok, pos, ◌^◌, ◌-◌}
use Rattle.dz_syntax.specs.declared.token.Token.{Token}
use Rattle.dz_syntax.specs.declared.token.Token.TheVariants.{Name, Number, OpenParenthesis, CloseParenthesis, Plus, Minus, Star, Caret}
use Rattle.dz_syntax.specs.declared.fault.Fault.{Fault}
use Rattle.dz_syntax.specs.declared.fault.SyntaxKind.TheVariants.{Deep, Literal, Exponent}
use Rattle.dz_syntax.specs.declared.expression.Op.{Op}
use Rattle.dz_syntax.specs.declared.expression.Op.TheVariants as ops
use Rattle.dz_syntax.specs.Tokens.{front, behind}
use Rattle.dz_syntax.specs.Names.{Declared}
use Rattle.dz_syntax.specs.Atoms.{literal_at, symbol_at}
use Rattle.dz_algebra.specs.Outcome.{◌>>=◌}
use Rattle.dz_syntax.specs.Faults.{refuse, unexpected_kind}

-- the steps so far, and the text that is left, at a token
pub record State : Type 0 where
  pub out : List Op
  pub text : List ℕ

-- A reader goes on from a state, or stops at the first fault.
abbrev pub Reader : Type 0
Reader = State → Result State Fault

-- past the token at the front
abbrev pub past : State → State
past s = record { out = s.out; text = behind s.text }

-- one step more
abbrev pub put : Op → State → State
put op s = record { out = s.out ++ op ∷ []; text = s.text }

-- a token that may not stand here
abbrev pub unexpected : {A : Type 0} → Token → State → Result A Fault
unexpected t s = refuse (unexpected_kind t) s.text

-- a coefficient is at most this
abbrev pub most_literal : ℕ
most_literal = 2 ^ 127 - 1

-- an exponent is at most this
abbrev pub most_exponent : ℕ
most_exponent = 65535

-- a coefficient
unfoldable pub number_op : Reader
number_op s = do
  n ← literal_at most_literal Literal s.text
  Ok (record { out = s.out ++ ops.Number (pos n.0) ∷ []; text = n.1 })

-- a symbol
unfoldable pub symbol_op : Declared → Reader
symbol_op names s = do
  v ← symbol_at names s.text
  Ok (record { out = s.out ++ ops.Symbol v.0 ∷ []; text = v.1 })

-- an exponent
unfoldable pub exponent_at : Reader
exponent_at s = do
  k ← literal_at most_exponent Exponent s.text
  Ok (record { out = s.out ++ ops.Power k.0 ∷ []; text = k.1 })

-- An atom, where inner reads what begins with a parenthesis.
abbrev pub atom_from : Declared → Reader → Token → Reader
atom_from names inner Number s = number_op s
atom_from names inner Name s = symbol_op names s
atom_from names inner OpenParenthesis s = inner s
atom_from names inner t s = unexpected t s

-- an atom
unfoldable pub atom_with : Declared → Reader → Reader
atom_with names inner s = atom_from names inner (front s.text) s

-- behind an atom: its exponent, if a ^ stands here
abbrev pub power_from : Token → Reader
power_from Caret s = exponent_at (past s)
power_from t s = Ok s

-- atom ["^" number]
unfoldable pub power_with : Declared → Reader → Reader
power_with names inner s = do
  s ← atom_with names inner s
  power_from (front s.text) s

-- { "*" power }
abbrev pub factors_from : Declared → Reader → Reader → Token → Reader
factors_from names more inner Star s = do
  s ← power_with names inner (past s)
  more (put ops.Mul s)
factors_from names more inner t s = Ok s

-- There are at most as many as the text has bytes.
unfoldable pub factors : Declared → Reader → ℕ → Reader
factors names inner zero s = Ok s
factors names inner (suc n) s = factors_from names (λ s. factors names inner n s) inner (front s.text) s

-- power {"*" power}
unfoldable pub product_with : Declared → Reader → Reader
product_with names inner s = do
  s ← power_with names inner s
  factors names inner (length s.text) s

-- { ("+" | "-") product }
abbrev pub sums_from : Declared → Reader → Reader → Token → Reader
sums_from names more inner Plus s = do
  s ← product_with names inner (past s)
  more (put ops.Add s)
sums_from names more inner Minus s = do
  s ← product_with names inner (past s)
  more (put ops.Sub s)
sums_from names more inner t s = Ok s

-- There are at most as many as the text has bytes.
unfoldable pub sums : Declared → Reader → ℕ → Reader
sums names inner zero s = Ok s
sums names inner (suc n) s = sums_from names (λ s. sums names inner n s) inner (front s.text) s

-- the first product, with its sign
abbrev pub first_from : Declared → Reader → Token → Reader
first_from names inner Minus s = do
  s ← product_with names inner (past s)
  Ok (put ops.Negate s)
first_from names inner Plus s = product_with names inner (past s)
first_from names inner t s = product_with names inner s

-- ["+" | "-"] product {("+" | "-") product}
unfoldable pub poly_with : Declared → Reader → Reader
poly_with names inner s = do
  s ← first_from names inner (front s.text) s
  sums names inner (length s.text) s

-- the parenthesis that closes
abbrev pub closed_from : Token → Reader
closed_from CloseParenthesis s = Ok (past s)
closed_from t s = unexpected t s

-- what begins with a parenthesis, inside which n more may open
unfoldable pub inside : Declared → ℕ → Reader
inside names zero s = refuse Deep s.text
inside names (suc n) s = do
  s ← poly_with names (inside names n) (past s)
  closed_from (front s.text) s
