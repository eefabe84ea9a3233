pub mod TableLemmas
pub mod ChecksLemmas
mod Common
pub mod DecisionLemmas
pub mod LineLemmas
pub mod QuoteLemmas
pub mod ReadLemmas
pub mod RemarkLemmas
pub mod ReportLemmas
pub mod TextLemmas
pub mod TraceLemmas
pub mod TracedSoFar
