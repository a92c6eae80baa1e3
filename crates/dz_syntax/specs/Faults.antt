-- What a reader gives: a value, or the first fault.
use Rattle.std.specs.Prelude.{◌≡◌, ℕ, List, [], codes, length, Result, Ok, Err, ⊤}
use Rattle.dz_syntax.specs.declared.token.Token.{Token}
use Rattle.dz_syntax.specs.declared.token.Token.TheVariants.{Bad}
use Rattle.dz_syntax.specs.declared.fault.Fault.{Fault}
use Rattle.dz_syntax.specs.declared.fault.SyntaxKind.{SyntaxKind}
use Rattle.dz_syntax.specs.declared.fault.SyntaxKind.TheVariants.{BadByte, Unexpected, Unknown, Twice, Literal, Exponent, Names, Deep, Memory, Denominator, Order}
use Rattle.dz_syntax.specs.declared.fault.Stop.{Stop}
use Rattle.dz_syntax.specs.declared.fault.Stop.TheVariants as stops

-- a fault at the token at the front of a text
abbrev pub refuse : {A : Type 0} → SyntaxKind → List ℕ → Result A Fault
refuse k text = Err (record { left = length text; kind = k })

-- a byte that begins no token is bad, and any other token is unexpected
abbrev pub unexpected_kind : Token → SyntaxKind
unexpected_kind Bad = BadByte
unexpected_kind t = Unexpected

-- unless memory ran out, the fault is the one of the reading
abbrev pub Fails : {Y : Type 0} → Stop → Result Y Fault → Type 0
Fails stops.Memory read = ⊤
Fails (stops.Fault f) read = read ≡ Err f

-- What a function gave, seen by view, is what the reading gives, unless memory ran out.
abbrev pub Gives : {X Y : Type 0} → (X → Y) → Result X Stop → Result Y Fault → Type 0
Gives view (Ok x) read = read ≡ Ok (view x)
Gives view (Err e) read = Fails e read

-- what a message says of a fault; nothing where memory ran out
abbrev pub text_of : SyntaxKind → List ℕ
text_of BadByte = codes "bad byte"
text_of Unexpected = codes "unexpected token"
text_of Unknown = codes "unknown name"
text_of Twice = codes "name twice"
text_of Literal = codes "literal too wide"
text_of Exponent = codes "exponent too wide"
text_of Names = codes "too many names"
text_of Deep = codes "too deep"
text_of Memory = []
text_of Denominator = codes "zero denominator"
text_of Order = codes "order too high"
