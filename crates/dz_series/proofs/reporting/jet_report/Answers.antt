use Rattle.std.proofs.Common.{◌∙◌, sym, ap, subst}
use Rattle.dz_syntax.specs.Names.{signature_of}
use Rattle.dz_series.specs.Series.{series_answer}
use Rattle.dz_series.specs.SeriesStops.{IsStopOf}
use Rattle.dz_series.proofs.SeriesCoefficients.{wide_belongs}
use Rattle.dz_series.proofs.reporting.jet_report.Goals as goal

pub stopped_wide-requires : goal.stopped_wide-requires
stopped_wide-requires c =
    let names = c.args.names.now in
    let g = signature_of names in
    wide_belongs names g c.args.jet.now.values c.in-Err-Wide.symbol c.requires.belong (ap (series_answer names g) (sym c.values.ensures) ∙ subst (λ e. IsStopOf e (series_answer names g c.values.result.now)) c.in-Err-Wide.field-0-is (c.in-Err-Wide.ensures.fault names g))
