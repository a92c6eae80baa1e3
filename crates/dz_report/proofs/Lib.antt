pub mod AskedReports
pub mod Reported
pub mod RunReports
pub mod VanishingLines
pub mod PreparedReports
