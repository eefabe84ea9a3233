mod Common
pub mod First
pub mod KeptLemmas
pub mod AskedLemmas
pub mod RefusalLemmas
pub mod WithinLemmas
