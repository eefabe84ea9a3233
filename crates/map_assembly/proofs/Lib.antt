mod Common
pub mod SayLemmas
pub mod FaultLemmas
pub mod ReadLemmas
pub mod BackLemmas
pub mod TilingLemmas
pub mod OrderLemmas
pub mod PartLemmas
pub mod OwnLemmas
pub mod MapLemmas
pub mod SortLemmas
pub mod LastLemmas
pub mod StateLemmas
pub mod NewLemmas
pub mod GoneLemmas
pub mod ApartLemmas
