-- What is printed of a series behind a document, and how that ends (this project's form).
use Rattle.std.specs.Prelude.{ℕ, cond, List, [], ◌++◌, codes, Result, Ok, Err}
use Rattle.std.specs.Fmt.{decimal}
use Rattle.dz_rank.specs.Rankings.{RankingValue}
use Rattle.dz_rank.specs.declared.rankings.Signature.{Signature}
use Rattle.dz_monomials.specs.Ranked.{symbols_under}
use Rattle.dz_diff.specs.State.{State}
use Rattle.dz_syntax.specs.Names.{Declared}
use Rattle.dz_form.specs.Limits.{limit_word}
use Rattle.dz_form.specs.Texts.{symbol_text}
use Rattle.dz_jet.specs.declared.faults.At.{At}
use Rattle.dz_jet.specs.declared.faults.At.TheVariants as ats
use Rattle.dz_jet.specs.declared.faults.JetFault.{JetFault}
use Rattle.dz_jet.specs.declared.faults.JetFault.TheVariants as faults
use Rattle.dz_jet.specs.declared.faults.Part.{Part}
use Rattle.dz_jet.specs.declared.faults.Part.TheVariants.{Equation, Initial, Separant, Inequation}
use Rattle.dz_jet.specs.Jets.{Values, jet_answer, jet_order}
use Rattle.dz_jet.specs.Orderliness.{is_orderly}
use Rattle.dz_series.specs.Series.{SeriesStop, wide_at, fraction_text, series_answer}

-- how a report ends: with all lines; at a value or a coefficient that does not fit; at an operation that is not small;
-- or with a message that the point is refused
pub data SeriesEnding : Type 0 where
  done : SeriesEnding
  wide : SeriesEnding
  large : SeriesEnding
  refused : List ℕ → SeriesEnding

-- what is printed behind the document, and how that ends
pub record SeriesReport : Type 0 where
  pub printed : List ℕ
  pub ending : SeriesEnding

-- ---- the names of what is evaluated
abbrev pub part_text : Part → List ℕ
part_text (Equation i) = codes "equation " ++ decimal i
part_text (Initial i) = codes "initial " ++ decimal i
part_text (Separant i) = codes "separant " ++ decimal i
part_text (Inequation i) = codes "inequation " ++ decimal i

abbrev pub at_text : Declared → At → List ℕ
at_text names (ats.Part part) = part_text part
at_text names (ats.Derivative s) = symbol_text names s

-- ---- reports
-- a report that one line stops
abbrev pub stopped : SeriesEnding → List ℕ → SeriesReport
stopped ending what = record { printed = codes "stopped " ++ what ++ codes "\nend\n"; ending = ending }

-- nothing is printed of a point that is refused
abbrev pub unprinted : List ℕ → SeriesReport
unprinted message = record { printed = []; ending = refused message }

-- the report of a fault; want of memory is the answer of no jet
abbrev pub fault_report : Declared → JetFault → SeriesReport
fault_report names faults.Memory = unprinted []
fault_report names faults.NotOrderly = unprinted (codes "the ranking is not orderly")
fault_report names (faults.Missing s) = unprinted (symbol_text names s ++ codes " has no value")
fault_report names (faults.NotFree s) = unprinted (symbol_text names s ++ codes " is not free")
fault_report names (faults.OffChain i v) = unprinted (part_text (Equation i) ++ codes " is " ++ fraction_text v)
fault_report names (faults.Vanishes part) = unprinted (part_text part ++ codes " vanishes")
fault_report names (faults.Wide at) = stopped wide (codes "wide " ++ at_text names at)
fault_report names (faults.Large s limit) = stopped large (codes "large " ++ limit_word limit ++ codes " " ++ symbol_text names s)

-- the report of the lines of the k-th chain's jet of order m, or of the first coefficient that does not fit
abbrev pub lines_report : Declared → ℕ → ℕ → Result (List ℕ) SeriesStop → SeriesReport
lines_report names k m (Ok lines) = record {
  printed = codes "series chain " ++ decimal k ++ codes " order " ++ decimal m ++ codes "\n" ++ lines ++ codes "end\n";
  ending = done;
}
lines_report names k m (Err (wide_at s)) = stopped wide (codes "wide " ++ symbol_text names s)

-- the report of a jet, or of its fault
abbrev pub jet_report : Declared → Signature → ℕ → ℕ → Result Values JetFault → SeriesReport
jet_report names g k m (Ok jet) = lines_report names k m (series_answer names g jet)
jet_report names g k m (Err e) = fault_report names e

-- the report of the k-th chain from these values up to order n
unfoldable pub series_report : RankingValue → Declared → ℕ → State → Values → ℕ → SeriesReport
series_report r names k s known n = cond (is_orderly r)
    (jet_report names r.signature k (jet_order (symbols_under r) s n) (jet_answer r s known n))
    (fault_report names faults.NotOrderly)
