mod SegmentLemmas
mod WriteLemmas
