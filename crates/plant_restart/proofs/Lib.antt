mod Common
pub mod NameLemmas
pub mod RestartLemmas
pub mod RefusalLemmas
pub mod SaveLemmas
pub mod RestoreLemmas
pub mod ChangeLemmas
pub mod NoticeLemmas
