-- A schedule from its steps.
use Rattle.std.proofs.Common.{◌≡◌, ℕ, ◌<◌, List, ◌++◌, ap, ◌∙◌, subst, arith, map, filter}
use Rattle.std.specs.List.Sorted.{IsPermutation, IsNonDecreasingBy}
use Rattle.slice_scheduler.proofs.Common.{nat_lt, AllByRecursion, flat_map, Policy, Piece, Claim, Award, AtFields, Flowing, due_pieces, claim_of, claims_of, room_of, award_of, awards_of, by_rank, award_pieces, pieces_of, pending_of, granted_of, SfidsAscend, Ascends, IsClaim, asking, served}
use Rattle.slice_scheduler.specs.Schedule.{ranked_below}
use Rattle.slice_scheduler.proofs.SumLemmas.{recursion-weaker, recursion-filter, recursion-map}
use Rattle.slice_scheduler.proofs.RankLemmas.{Ascends-filter, Ascends-map}
use Rattle.slice_scheduler.proofs.ShareLemmas.{served-by_rank}
use Rattle.slice_scheduler.proofs.AskingLemmas.{counts, asking-awards, asking-pieces, asking-pending, asking-granted}
use Rattle.slice_scheduler.proofs.OrderLemmas.{grants-sorted}
use Rattle.slice_scheduler.proofs.TotalLemmas.{claims-ascend}

module _ (policy : Policy) (at : AtFields) (flows : List Flowing) (ascend : SfidsAscend flows) (sound : AllByRecursion (λ (f : Flowing). IsClaim (claim_of policy at f)) flows) where
  -- the claims of the flows that ask, as they are served
  pub awards-are : {room : ℕ} → room ≡ room_of at flows → served room (ranked_below (λ (c : Claim). c.rank) 64 (claims_of policy at (asking flows))) ≡ by_rank (filter counts (awards_of policy at flows))
  awards-are is =
      ap (λ (n : ℕ). served n (ranked_below (λ (c : Claim). c.rank) 64 (claims_of policy at (asking flows)))) is
      ∙ (served-by_rank (room_of at flows) (claims_of policy at (asking flows))
      (recursion-map IsClaim (claim_of policy at) (asking flows) (recursion-filter (λ f. IsClaim (claim_of policy at f)) (λ f. nat_lt 0 f.backlog) flows sound))
      (claims-ascend policy at (asking flows) (Ascends-filter (λ (f : Flowing). f.sfid) (λ f. nat_lt 0 f.backlog) flows ascend))
      ∙ ap (λ (given : List Award). by_rank given) (asking-awards policy at flows))

  module _ {awards : List Award} (are : awards ≡ by_rank (filter counts (awards_of policy at flows))) where
    pub pieces-are : {due pieces : List Piece} → due ≡ flat_map (due_pieces at) flows → pieces ≡ due ++ flat_map (award_pieces at) awards → pieces ≡ pieces_of policy at flows
    pieces-are is put =
        put ∙ (ap (λ (ps : List Piece). ps ++ flat_map (award_pieces at) awards) is
        ∙ ap (λ (ps : List Piece). flat_map (due_pieces at) flows ++ ps) (ap (λ (given : List Award). flat_map (award_pieces at) given) are ∙ asking-pieces at (awards_of policy at flows)))

    pub pending-are : map (λ (a : Award). a.sid) (filter (λ (a : Award). nat_lt a.grant a.backlog) awards) ≡ pending_of policy at flows
    pending-are =
        ap (λ (given : List Award). map (λ (a : Award). a.sid) (filter (λ (a : Award). nat_lt a.grant a.backlog) given)) are
        ∙ ap (map (λ (a : Award). a.sid)) (asking-pending (awards_of policy at flows))

    pub granted-are : {grants : List (ℕ × ℕ)} → IsPermutation (map (λ (a : Award). (a.sfid, a.grant)) (filter (λ (a : Award). nat_lt 0 a.grant) awards)) grants → IsNonDecreasingBy (λ (z : ℕ × ℕ). z.0) grants
        → grants ≡ granted_of policy at flows
    granted-are {grants} all rise =
        let each : List Award = awards_of policy at flows in
        let rising : Ascends (λ (a : Award). a.sfid) each = Ascends-map (λ (a : Award). a.sfid) (award_of (room_of at flows) (claims_of policy at flows)) (claims_of policy at flows) (claims-ascend policy at flows ascend) in
        let ranked : AllByRecursion (λ (a : Award). a.rank < 64) each =
        recursion-map (λ (a : Award). a.rank < 64) (award_of (room_of at flows) (claims_of policy at flows)) (claims_of policy at flows)
        (recursion-map (λ (c : Claim). c.rank < 64) (claim_of policy at) flows (recursion-weaker (λ f. IsClaim (claim_of policy at f)) (λ f. (claim_of policy at f).rank < 64) (λ f h. omega (arith, h.rank)) flows sound)) in
        grants-sorted (filter counts each) grants (Ascends-filter (λ (a : Award). a.sfid) counts each rising) (recursion-filter (λ (a : Award). a.rank < 64) counts each ranked)
        (subst (λ (given : List Award). IsPermutation (map (λ (a : Award). (a.sfid, a.grant)) (filter (λ (a : Award). nat_lt 0 a.grant) given)) grants) are all) rise
        ∙ ap (map (λ (a : Award). (a.sfid, a.grant))) (asking-granted each)
