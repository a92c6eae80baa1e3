use Rattle.std.proofs.Common.{refl}
use Rattle.dz_series.specs.Series.{series_line}
use Rattle.dz_parametric.proofs.Listings.{listed_more}
use Rattle.dz_series.proofs.writing.push_series_lines.Goals as goal

pub dependents-preserved : goal.dependents-preserved
dependents-preserved c =
    listed_more (series_line c.args.names.now c.args.values.now) c.args.into.now.items c.dependents.into.items c.push_series_line.new.into.items _ c.dependents.u c.dependents.invariant c.in_ok-push_series_line.ensures refl
