-- The grammar of expressions. A relation says that between two texts, each at a token, stands an expression
-- with these steps.
use Rattle.std.specs.Prelude.{◌≡◌, ◌⊎◌, ◌≤◌, ℕ, zero, suc, List, [], ◌∷◌, ◌++◌, Ok, pos}
use Rattle.dz_syntax.specs.declared.token.Token.{Token}
use Rattle.dz_syntax.specs.declared.token.Token.TheVariants.{Number, OpenParenthesis, CloseParenthesis, Plus, Minus, Star, Caret}
use Rattle.dz_rank.specs.declared.symbols.Symbol.{Symbol}
use Rattle.dz_syntax.specs.declared.expression.Op.{Op}
use Rattle.dz_syntax.specs.declared.expression.Op.TheVariants as ops
use Rattle.dz_syntax.specs.Tokens.{front, behind, bytes_of}
use Rattle.dz_syntax.specs.Numbers.{number_from}
use Rattle.dz_syntax.specs.Names.{Declared}
use Rattle.dz_syntax.specs.Atoms.{symbol_at}
use Rattle.dz_syntax.specs.Expressions.{most_literal, most_exponent}

-- between the texts stands an expression with these steps
abbrev pub Grammar : Type 1
Grammar = List ℕ → List Op → List ℕ → Type 0

-- one number, which is at most this
pub record IsNumber (most : ℕ) (text : List ℕ) (n : ℕ) (rest : List ℕ) : Type 0 where
  pub token : front text ≡ Number
  pub value : number_from 0 (bytes_of text) ≡ n
  pub bound : n ≤ most
  pub end : rest ≡ behind text

-- atom = number | symbol | "(" poly ")"
abbrev pub IsAtom : Declared → Grammar → Grammar
IsAtom names inner text o rest =
    ((n : ℕ) × IsNumber most_literal text n rest × (o ≡ ops.Number (pos n) ∷ []))
    ⊎ ((v : Symbol) × (symbol_at names text ≡ Ok (v, rest)) × (o ≡ ops.Symbol v ∷ []))
    ⊎ ((front text ≡ OpenParenthesis) × inner text o rest)

-- power = atom ["^" number]
abbrev pub IsPower : Declared → Grammar → Grammar
IsPower names inner text o rest =
    IsAtom names inner text o rest
    ⊎ ((base : List Op) × (mid : List ℕ) × (k : ℕ) × IsAtom names inner text base mid × (front mid ≡ Caret)
    × IsNumber most_exponent (behind mid) k rest × (o ≡ base ++ ops.Power k ∷ []))

-- n times "*" power
abbrev pub IsFactors : Declared → Grammar → ℕ → Grammar
IsFactors names inner zero text o rest = (o ≡ []) × (rest ≡ text)
IsFactors names inner (suc n) text o rest =
    (first others : List Op) × (mid : List ℕ) × (front text ≡ Star) × IsPower names inner (behind text) first mid
    × IsFactors names inner n mid others rest × (o ≡ first ++ (ops.Mul ∷ others))

-- product = power {"*" power}
abbrev pub IsProduct : Declared → Grammar → Grammar
IsProduct names inner text o rest =
    (first others : List Op) × (mid : List ℕ) × (n : ℕ) × IsPower names inner text first mid
    × IsFactors names inner n mid others rest × (o ≡ first ++ others)

-- n times a sign and a product
abbrev pub IsSums : Declared → Grammar → ℕ → Grammar
IsSums names inner zero text o rest = (o ≡ []) × (rest ≡ text)
IsSums names inner (suc n) text o rest =
    (first others : List Op) × (mid : List ℕ) × (op : Op)
    × (((front text ≡ Plus) × (op ≡ ops.Add)) ⊎ ((front text ≡ Minus) × (op ≡ ops.Sub)))
    × IsProduct names inner (behind text) first mid × IsSums names inner n mid others rest × (o ≡ first ++ (op ∷ others))

-- the first product of a poly, with its sign
abbrev pub IsFirst : Declared → Grammar → Grammar
IsFirst names inner text o rest =
    IsProduct names inner text o rest
    ⊎ ((front text ≡ Plus) × IsProduct names inner (behind text) o rest)
    ⊎ ((first : List Op) × (front text ≡ Minus) × IsProduct names inner (behind text) first rest × (o ≡ first ++ ops.Negate ∷ []))

-- poly = ["+" | "-"] product {("+" | "-") product}
abbrev pub IsPoly : Declared → Grammar → Grammar
IsPoly names inner text o rest =
    (first others : List Op) × (mid : List ℕ) × (n : ℕ) × IsFirst names inner text first mid
    × IsSums names inner n mid others rest × (o ≡ first ++ others)

-- "(" poly ")" at a parenthesis, inside which n more may open
unfoldable pub IsInside : Declared → ℕ → Grammar
IsInside names zero text o rest = ⊥
IsInside names (suc n) text o rest =
    (mid : List ℕ) × IsPoly names (IsInside names n) (behind text) o mid × (front mid ≡ CloseParenthesis) × (rest ≡ behind mid)

-- how tightly the token behind an expression would bind it: a power ends before what binds less than 3, a product before
-- what binds less than 2, a poly before what binds nothing
abbrev pub binding : Token → ℕ
binding Caret = 3
binding Star = 2
binding Plus = 1
binding Minus = 1
binding t = 0
