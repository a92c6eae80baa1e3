-- How far a run has come. No public clause cites this file.
use Rattle.std.specs.Prelude.{◌≡◌, ◌≤◌, ◌-◌, ℕ, suc, Result, Ok, Err}
use Rattle.dz_algebra.specs.Symbols.{Symbols}
use Rattle.dz_rank.specs.Rankings.{RankingValue}
use Rattle.dz_rank.specs.declared.symbols.Symbol.{Symbol}
use Rattle.dz_monomials.specs.Ranked.{symbols_under}
use Rattle.dz_monomials.specs.declared.PolyStop.{PolyStop}
use Rattle.dz_monomials.specs.declared.PolyStop.TheVariants as stops
use Rattle.dz_diff.specs.Tests.{Polynomials}
use Rattle.dz_regular.specs.Answers.{IsStopOf}
use Rattle.dz_regular.specs.Runs.{Course, Stage, at_work, finished, run_from}
use Rattle.dz_regular.specs.Working.{pair_in, row_in, stage_in}
use Rattle.dz_regular.specs.declared.answers.Combine.{Combine}
use Rattle.dz_regular.specs.declared.answers.CombineStop.{CombineStop}
use Rattle.dz_regular.specs.declared.answers.CombineStop.TheVariants.{Memory, Wide, Large}
use Rattle.dz_regular.specs.declared.runs.WorkingRun.{WorkingRun}
use Rattle.dz_regular.specs.declared.rows.WorkingRow.{WorkingRow}
use Rattle.dz_regular.specs.declared.stages.WorkingPair.{WorkingPair}
use Rattle.dz_regular.specs.declared.stages.WorkingStage.{WorkingStage}

-- why a combination has no result, as the stop of its run
abbrev pub combine_stop : Combine → PolyStop → CombineStop
combine_stop combine stops.Memory = Memory
combine_stop combine stops.Wide = Wide combine
combine_stop combine (stops.Large limit) = Large limit combine

-- a run has come to a stage, with rounds enough for what is left of its budget
abbrev pub IsAtStage : Symbols Symbol → Polynomials → ℕ → Course → WorkingRun → Stage → Type 0
IsAtStage g equations budget course w stage =
    (k : ℕ) × (w.left ≤ k) × (w.left ≤ budget) × (course ≡ run_from g equations budget (suc k) w.next (budget - w.left) w.run.items stage)

-- it has come to the combination that is next
abbrev pub IsAt : RankingValue → Polynomials → ℕ → Course → WorkingRun → WorkingPair → Type 0
IsAt r equations budget course w pair = IsAtStage (symbols_under r) equations budget course w (at_work (pair_in pair))

-- it has come to the next stage, or stopped
abbrev pub IsAdvance : RankingValue → Polynomials → ℕ → Course → WorkingRun → Result WorkingStage CombineStop → Type 0
IsAdvance r equations budget course w (Ok stage) = IsAtStage (symbols_under r) equations budget course w (stage_in stage)
IsAdvance r equations budget course w (Err stop) = IsStopOf course w.run.items stop

-- it has come to its end, or stopped
abbrev pub IsOutcome : Course → WorkingRun → Result WorkingRow CombineStop → Type 0
IsOutcome course w (Ok row) = course ≡ finished w.run.items (row_in row)
IsOutcome course w (Err stop) = IsStopOf course w.run.items stop
