-- How the program makes derivatives of equations. No public clause cites this file.
use Rattle.std.specs.Prelude.{◌≡◌, ◌<◌, ℕ, suc, ◌-◌, All, List, drop, length, slice_index_or, slice_set, Ok}
use Rattle.dz_poly.specs.Books.{BookValue, Lives, polynomial}
use Rattle.dz_rank.specs.declared.symbols.Operator.{Operator}
use Rattle.dz_diff.specs.Operations.{operator_answer, setting_of}
use Rattle.dz_jet.specs.declared.derivatives.Made.{Made}

-- an operator derives by the i-th independent, and by none behind it
pub record IsLast (t : Operator) (i : ℕ) : Type 0 where
  pub inside : i < length t.counts
  pub takes : 0 < slice_index_or t.counts i 0
  pub zeros : All (λ k. k ≡ 0) (drop (suc i) t.counts)

-- an operator with one derivation less by the i-th independent
abbrev pub lowered : ℕ → Operator → Operator
lowered i t = record { counts = slice_set t.counts i (slice_index_or t.counts i 0 - 1) }

-- the derivative of an equation, by its index, stands in the book
pub record IsMade (book : BookValue) (equations : List ℕ) (m : Made) : Type 0 where
  pub lives : Lives book m.derivative
  pub inside : m.index < length equations
  pub answer : operator_answer (setting_of book.ranking) m.operator (polynomial book (slice_index_or equations m.index 0)) ≡ Ok (polynomial book m.derivative)
