mod NoteLemmas
mod ServiceLemmas
