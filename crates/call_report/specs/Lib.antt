pub mod ReportMeaning
