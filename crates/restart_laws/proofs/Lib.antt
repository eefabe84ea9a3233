mod Common
pub mod LaterLemmas
pub mod RunLemmas
pub mod ModemLemmas
pub mod CoreLemmas
pub mod BarLemmas
pub mod TextLemmas
pub mod PlantLemmas
pub mod SavedLemmas
pub mod FileLemmas
pub mod BegunLemmas
pub mod ReadyLemmas
pub mod ProcessLemmas
pub mod NumberLemmas
