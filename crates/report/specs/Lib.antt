-- The report's text, and what `report` answers.
pub mod Lines
pub mod Report
