-- The endings that a call answers.
use Rattle.dz_series.specs.SeriesReports.{SeriesEnding, SeriesReport, done, wide, large, refused}
use Rattle.dz_series.specs.declared.reporting.Report.{Report}
use Rattle.dz_series.specs.declared.reporting.SeriesEnd.{SeriesEnd}
use Rattle.dz_series.specs.declared.reporting.SeriesEnd.TheVariants.{Done, Wide, Large, Refused}

-- what an ending of the code means
abbrev pub ending_of : SeriesEnd → SeriesEnding
ending_of Done = done
ending_of Wide = wide
ending_of Large = large
ending_of (Refused message) = refused message.items

-- and a report
abbrev pub report_of : Report → SeriesReport
report_of report = record { printed = report.printed.items; ending = ending_of report.end }
