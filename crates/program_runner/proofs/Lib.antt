mod Common
mod WithoutOptions
mod StateLemmas
mod HeadLemmas
mod RestoreLemmas
mod SnapshotLemmas
