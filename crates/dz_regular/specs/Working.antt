-- Rows while a run goes on. No public clause cites this file.
use Rattle.std.specs.Prelude.{◌≡◌, ◌<◌, ◌≤◌, ◌+◌, ℕ, All, map, length, List}
use Rattle.dz_algebra.specs.Parts.{degree}
use Rattle.dz_algebra.specs.Polynomial.{Polynomial}
use Rattle.dz_rank.specs.Rankings.{RankingValue, ranking_cmp}
use Rattle.dz_rank.specs.declared.symbols.Symbol.{Symbol}
use Rattle.dz_terms.specs.Entries.{EntryValue, IsEntry}
use Rattle.dz_regular.specs.Combining.{Multipliers}
use Rattle.dz_regular.specs.Rows.{Numbered, rest_of}
use Rattle.dz_regular.specs.Runs.{Pair, Stage, ended, at_work}
use Rattle.dz_regular.specs.declared.combining.RowMultipliers.{RowMultipliers}
use Rattle.dz_regular.specs.declared.rows.WorkingRow.{WorkingRow}
use Rattle.dz_regular.specs.declared.stages.WorkingPair.{WorkingPair}
use Rattle.dz_regular.specs.declared.stages.WorkingStage.{WorkingStage}
use Rattle.dz_regular.specs.declared.stages.WorkingStage.TheVariants as stages

-- the polynomials of entries
abbrev pub polynomials_of : List EntryValue → List (Polynomial Symbol)
polynomials_of es = map (λ (e : EntryValue). e.terms) es

-- each is an entry
abbrev pub AreEntries : RankingValue → List EntryValue → Type 0
AreEntries r es = All (IsEntry r) es

-- both are entries
pub record AreMultipliers (r : RankingValue) (m : RowMultipliers) : Type 0 where
  pub first : IsEntry r m.first
  pub second : IsEntry r m.second

-- the polynomials of both
abbrev pub multipliers_in : RowMultipliers → Multipliers
multipliers_in m = record { first = m.first.terms; second = m.second.terms }

-- a row with its number
abbrev pub row_in : WorkingRow → Numbered
row_in w = record { number = w.number; components = polynomials_of w.components.items }

-- its components are entries, two more than there are equations
pub record IsRow (r : RankingValue) (n : ℕ) (w : WorkingRow) : Type 0 where
  pub entries : AreEntries r w.components.items
  pub width : length w.components.items ≡ n + 2

-- two rows at work
abbrev pub pair_in : WorkingPair → Pair
pair_in w = record { symbol = w.symbol; first = row_in w.first; second = row_in w.second }

-- both are rows, and the symbol occurs in the rests, in the first to the greater degree
pub record IsPair (r : RankingValue) (n : ℕ) (w : WorkingPair) : Type 0 where
  pub first : IsRow r n w.first
  pub second : IsRow r n w.second
  pub occurs : 0 < degree (ranking_cmp r) w.symbol (rest_of (row_in w.second).components)
  pub ordered : degree (ranking_cmp r) w.symbol (rest_of (row_in w.second).components) ≤ degree (ranking_cmp r) w.symbol (rest_of (row_in w.first).components)

-- where a run is
abbrev pub stage_in : WorkingStage → Stage
stage_in (stages.Ended w) = ended (row_in w)
stage_in (stages.AtWork w) = at_work (pair_in w)

-- its rows are rows
abbrev pub IsStage : RankingValue → ℕ → WorkingStage → Type 0
IsStage r n (stages.Ended w) = IsRow r n w
IsStage r n (stages.AtWork w) = IsPair r n w
