-- What `regularity` answers, in a book.
use Rattle.std.specs.Prelude.{◌≡◌, ⊤, ℕ, ◌∷◌, List}
use Rattle.dz_algebra.specs.Size.{wide, large}
use Rattle.dz_rank.specs.Symbols.{BelongsTo}
use Rattle.dz_rank.specs.declared.rankings.Signature.{Signature}
use Rattle.dz_poly.specs.Books.{BookValue, Lives, polynomial}
use Rattle.dz_monomials.specs.Lists.{AllOf}
use Rattle.dz_diff.specs.States.{LiveAll, polynomials}
use Rattle.dz_diff.specs.Tests.{Polynomials}
use Rattle.dz_regular.specs.Runs.{Course, finished, stopped, passed}
use Rattle.dz_regular.specs.declared.answers.Combine.{Combine}
use Rattle.dz_regular.specs.declared.answers.CombineStop.{CombineStop}
use Rattle.dz_regular.specs.declared.answers.CombineStop.TheVariants.{Memory, Wide, Large, Spent}
use Rattle.dz_regular.specs.declared.answers.Row.{Row}
use Rattle.dz_regular.specs.declared.answers.Regularity.{Regularity}

-- its polynomials stand in the book
pub record LivesRow (book : BookValue) (row : Row) : Type 0 where
  pub rest : Lives book row.rest
  pub cofactor : Lives book row.cofactor
  pub parts : LiveAll book row.parts.items

-- the components of a row
abbrev pub components_in : BookValue → Row → Polynomials
components_in book row = polynomial book row.rest ∷ polynomial book row.cofactor ∷ polynomials book row.parts.items

-- the run came to its end with this row in hand
pub record IsRegularityIn (book : BookValue) (course : Course) (x : Regularity) : Type 0 where
  pub live : LivesRow book x.row
  pub number : ℕ
  pub is_one : course ≡ finished x.run.items (record { number = number; components = components_in book x.row })

-- the run stopped before the combination that is named: it is refused, or passes the budget; want of memory says nothing
abbrev pub IsStopOf : Course → List Combine → CombineStop → Type 0
IsStopOf course run Memory = ⊤
IsStopOf course run (Wide combine) = course ≡ stopped run combine wide
IsStopOf course run (Large limit combine) = course ≡ stopped run combine (large limit)
IsStopOf course run (Spent combine) = course ≡ passed run combine

-- ---- the symbols in answers
-- the symbols of combinations belong to a signature
abbrev pub RunBelongs : Signature → List Combine → Type 0
RunBelongs g run = AllOf (λ (c : Combine). BelongsTo g c.symbol) run

-- and so does that of the one before which a run stops
abbrev pub StopBelongs : Signature → List Combine → CombineStop → Type 0
StopBelongs g run Memory = ⊤
StopBelongs g run (Wide combine) = RunBelongs g run × BelongsTo g combine.symbol
StopBelongs g run (Large limit combine) = RunBelongs g run × BelongsTo g combine.symbol
StopBelongs g run (Spent combine) = RunBelongs g run × BelongsTo g combine.symbol
