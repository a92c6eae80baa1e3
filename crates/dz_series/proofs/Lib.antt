pub mod ExampleProofs
pub mod SeriesTexts
pub mod SeriesCoefficients
pub mod ReportAnswers
