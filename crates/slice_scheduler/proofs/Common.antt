-- The names that several proofs of this crate cite, passed on from one place. Declares nothing.
pub use Rattle.grant_policy.specs.declared.policy.Policy.{Policy}
pub use Rattle.param_sets.specs.Need.{need_of_kind, need_of}
pub use Rattle.param_sets.specs.Units.{minislots_of, UnitSizes, reserve_of}
pub use Rattle.param_sets.specs.declared.scheduling.Scheduling.{Scheduling}
pub use Rattle.param_sets.specs.declared.scheduling.Scheduling.TheVariants.{BestEffort, NonRealTimePolling, RealTimePolling, UnsolicitedGrant}
pub use Rattle.slice_scheduler.specs.Awards.{goes_before, award_of, awards_of, grant_of, wanted_before, granted_share}
pub use Rattle.slice_scheduler.specs.Claims.{claim_of, claims_of, room_of, base_of, taken_of}
pub use Rattle.slice_scheduler.specs.Due.{is_due, due_pieces, pieces_when_due, iuc_of, due_minislots, minislots_when_due}
pub use Rattle.slice_scheduler.specs.Schedule.{by_rank, award_pieces, pieces_of, idle, spans_from, minislots_in, spans_of, pending_of, granted_of, elements_of, ranked_below}
pub use Rattle.slice_scheduler.specs.Servable.{AsksWhereItMay, elements_needed, Ascends, SfidsAscend, need_at, total_need, IsOfItsKind}
pub use Rattle.slice_scheduler.specs.Tiles.{Tiles, IsTiled}
pub use Rattle.slice_scheduler.specs.Wanted.{IsClaim, asking, HasMinislots, AreBuckets, award_with, served}
pub use Rattle.slice_scheduler.specs.declared.award.Award.{Award}
pub use Rattle.slice_scheduler.specs.declared.claim.Claim.{Claim}
pub use Rattle.slice_scheduler.specs.declared.flowing.AtFields.{AtFields}
pub use Rattle.slice_scheduler.specs.declared.flowing.Flowing.{Flowing}
pub use Rattle.slice_scheduler.specs.declared.piece.Piece.{Piece}
pub use Rattle.slice_scheduler.specs.declared.span.Span.{Span}
pub use Rattle.std.proofs.Math.Nat.{div-zero, zero-div, min-eq_left}
pub use Rattle.std.proofs.lemmas.Bool.{lt-ltb, le-ltb, eq-eqb, ne_eqb, cases_eq, eqb-true, le-leb, lt-leb}
pub use Rattle.std.proofs.lemmas.Bool.Decides.{nat_tests}
pub use Rattle.std.proofs.lemmas.Grind.{flat_map-append, div_ceil_times}
pub use Rattle.std.proofs.lemmas.List.{take_more, map-append, append-nil, length-append, length-map, length-replicate, get_or-map, take_all, append_assoc, map_more, get_or-set_same, get_or-set_other, length-set, get_or-replicate, replicate_more}
pub use Rattle.std.proofs.lemmas.List.Elements.{filter-append, All-push, All-append, All-from_recursion, recursion_from_All}
pub use Rattle.std.proofs.lemmas.List.Sums.{sum_by-cons, length-filter, sum_by-append, count_by-le-length, sum_by_more}
pub use Rattle.std.specs.List.{flat_map, AllByRecursion, Contains}
pub use Rattle.std.specs.Prelude.{nat_lt, ◌==◌, nat_le, filter, slice_index}
