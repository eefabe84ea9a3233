pub mod ReceiptsLemmas
pub mod CellStateLemmas
pub mod AuditLemmas
pub mod PlanLemmas
mod Common
pub mod FaultLemmas
pub mod LeastLemmas
pub mod CellLemmas
