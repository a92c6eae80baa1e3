-- Reading a polynomial: one item that fills the text, and the value of the item.
use Rattle.std.specs.Prelude.{◌≡◌, ◌⊎◌, ℕ, List, Option, Some, None, Result, Ok, Err}
use Rattle.dz_algebra.specs.Polynomial.{Polynomial}
use Rattle.dz_algebra.specs.Size.{Refusal, wide, large}
use Rattle.dz_algebra.specs.Symbols.{Symbols}
use Rattle.dz_poly.specs.Books.{BookValue, Means}
use Rattle.dz_monomials.specs.declared.PolyStop.{PolyStop}
use Rattle.dz_monomials.specs.declared.PolyStop.TheVariants as stops
use Rattle.dz_rank.specs.declared.symbols.Symbol.{Symbol}
use Rattle.dz_syntax.specs.declared.expression.Op.{Op}
use Rattle.dz_syntax.specs.declared.fault.SyntaxFault.{SyntaxFault}
use Rattle.dz_syntax.specs.declared.fault.SyntaxKind.{SyntaxKind}
use Rattle.dz_syntax.specs.declared.fault.SyntaxKind.TheVariants as kinds
use Rattle.dz_syntax.specs.Items.{item_of}
use Rattle.dz_syntax.specs.Names.{Declared}
use Rattle.dz_form.specs.Values.{item_answer}
use Rattle.dz_form.specs.declared.polynomials.ReadPolyFault.{ReadPolyFault}
use Rattle.dz_form.specs.declared.polynomials.ReadPolyFault.TheVariants.{Memory, Syntax, Wide, Large}

-- why a text is read as no polynomial: it is no item, or an operation of the item is refused
pub data Misread : Type 0 where
  no_item : SyntaxFault → Misread
  no_value : Refusal → Misread

-- the value of an item, or why it has none
abbrev pub value_of : Result (Polynomial Symbol) Refusal → Result (Polynomial Symbol) Misread
value_of (Ok p) = Ok p
value_of (Err e) = Err (no_value e)

-- the value of an item that was read, or why there is none
abbrev pub polynomial_of : Symbols Symbol → Result (List Op) SyntaxFault → Result (Polynomial Symbol) Misread
polynomial_of g (Ok steps) = value_of (item_answer g steps)
polynomial_of g (Err f) = Err (no_item f)

-- the polynomial that a text is read as, or why there is none
unfoldable pub polynomial_at : Symbols Symbol → Declared → List ℕ → Result (Polynomial Symbol) Misread
polynomial_at g names bytes = polynomial_of g (item_of names bytes)

-- why a text is read as no polynomial, as the error of a call
abbrev pub fault_of : Result (Polynomial Symbol) Misread → Option ReadPolyFault
fault_of (Ok p) = None
fault_of (Err (no_item f)) = Some (Syntax f)
fault_of (Err (no_value wide)) = Some Wide
fault_of (Err (no_value (large l))) = Some (Large l)

-- A result is the number of the polynomial that is read, or an error that tells why there is none. Want of memory may come
-- instead.
abbrev pub GivesRead : BookValue → Result ℕ ReadPolyFault → Result (Polynomial Symbol) Misread → Type 0
GivesRead new (Ok p) (Ok q) = Means new p q
GivesRead new (Ok p) (Err e) = ⊥
GivesRead new (Err fault) answer = (fault ≡ Memory) ⊎ (fault_of answer ≡ Some fault)

-- the error of a call for a fault of the text, by the kind of the fault
abbrev pub text_fault_by : SyntaxKind → SyntaxFault → ReadPolyFault
text_fault_by kinds.Memory f = Memory
text_fault_by k f = Syntax f

-- the error of a call for a fault of the text
abbrev pub text_fault : SyntaxFault → ReadPolyFault
text_fault f = text_fault_by f.kind f

-- the error of a call for a value that is refused
abbrev pub value_fault : PolyStop → ReadPolyFault
value_fault stops.Memory = Memory
value_fault stops.Wide = Wide
value_fault (stops.Large l) = Large l
