-- The worked texts, by computation.
use Rattle.std.specs.Fmt.{digits}
use Rattle.std.proofs.Common.{refl}
use Rattle.dz_algebra.specs.Derivation.{polynomial_derivative}
use Rattle.dz_algebra.specs.Norm.{gcd}
use Rattle.dz_algebra.specs.Polynomial.{polynomial_one}
use Rattle.dz_algebra.specs.Size.{support, fits, refusal, operation}
use Rattle.dz_rank.specs.Rankings.{ranking_cmp}
use Rattle.dz_monomials.specs.Ranked.{symbol_rate}
use Rattle.dz_form.specs.Texts.{symbol_text}
use Rattle.dz_jet.specs.Jets.{value_answer, jet_order, jet_answer}
use Rattle.dz_parametric.specs.Orders.{derivatives_to}
use Rattle.dz_jet.specs.Orderliness.{is_orderly}
use Rattle.dz_series.specs.Examples.{ReportExamples, SeriesExamples}
use Rattle.dz_series.specs.Series.{series_answer}
use Rattle.dz_series.specs.SeriesReports.{series_report}

pub series_examples : SeriesExamples
unfolding digits gcd symbol_text series_answer
series_examples = record { conic_series = refl; half_series = refl; plane_series = refl; zero_series = refl; wide_series = refl }

pub report_examples : ReportExamples
unfolding polynomial_derivative digits gcd polynomial_one support fits refusal operation ranking_cmp symbol_rate symbol_text value_answer derivatives_to jet_order jet_answer is_orderly series_answer series_report
report_examples = record { conic_report = refl; not_orderly = refl; lacks = refl; too_much = refl; off = refl; singular = refl; too_wide = refl }
