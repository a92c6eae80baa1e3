-- The answers of `series` and `parametric`: behind the document of a complete tree, what is told of one of its chains.
use Rattle.std.specs.Prelude.{ℕ, ◌-◌, Bool, true, false, slice_get, Option}
use Rattle.dz_rank.specs.Rankings.{RankingValue}
use Rattle.dz_diff.specs.State.{State}
use Rattle.dz_syntax.specs.Names.{Declared}
use Rattle.dz_move.specs.Root.{System}
use Rattle.dz_jet.specs.Jets.{Values}
use Rattle.dz_parametric.specs.Reports.{has_many_cones, parametric_report}
use Rattle.dz_series.specs.SeriesReports.{SeriesReport, done, wide, large, refused, series_report}
use Rattle.dz_words.specs.declared.words.Request.{Request}
use Rattle.dz_run.specs.declared.charting.Chart.{Chart}
use Rattle.dz_run.specs.declared.charting.Chart.TheVariants.{Series, Parametric}
use Rattle.dz_run.specs.declared.ending.Ending.{Ending}
use Rattle.dz_run.specs.declared.ending.Ending.TheVariants.{Done, Wide, Large, Point}
use Rattle.dz_run.specs.Answer.{Answer, continued, point_text, printed, with_chain}
use Rattle.dz_run.specs.Decomposed.{decomposed, worked_chains}

-- the answer of a report on a series; nothing is printed of a point that is refused
abbrev pub report_answer : SeriesReport → Answer
report_answer report = elim report.ending [
  | done ↦ printed report.printed Done
  | wide ↦ printed report.printed Wide
  | large ↦ printed report.printed Large
  | refused words ↦ record { output = report.printed; ending = Point; point = point_text words }
]

-- how a run ends where a chain has too many cones, or not
abbrev pub cones_ending : Bool → Ending
cones_ending true = Large
cones_ending false = Done

-- what is told of the k-th chain
abbrev pub chart_answer : Chart → RankingValue → Declared → ℕ → Values → ℕ → State → Answer
chart_answer Series r names k values order s = report_answer (series_report r names k s values order)
chart_answer Parametric r names k values order s = printed (parametric_report r names k s order) (cones_ending (has_many_cones r s))

-- the same, where there is such a chain
abbrev pub chain_answer : Chart → RankingValue → Declared → ℕ → Values → ℕ → Option State → Answer
chain_answer what r names k values order = with_chain k (chart_answer what r names k values order)

-- the answer to a system and values, of which `parametric` has none
unfoldable pub charted : Chart → RankingValue → Declared → Request → Values → System → Answer
charted what r names q values s =
    continued (decomposed r names q.budget s) (chain_answer what r names q.chain values q.order (slice_get (worked_chains r q.budget s) (q.chain - 1)))
