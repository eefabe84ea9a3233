pub mod Common
pub mod DoneLemmas
pub mod ListLemmas
pub mod LeadLemmas
