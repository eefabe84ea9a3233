-- A machine as it is opened.
use Rattle.std.proofs.Common.{◌≡◌, ℕ, ◌+◌, ◌≤◌, Bool, true, false, cond, List, [], ◌∷◌, length, Option, Some, None, IfSome, IsSome, is_some, count_by, sum_by, refl, sym, ap, ◌∙◌, subst, arith}
use Rattle.std.specs.List.Sorted.{IsStrictlySortedBy}
use Rattle.operator_model.proofs.Common.{false≢true, All-nil, sum_by-cons, none-some, flow_of, Modem, IsFree, least_free_of, need_if, SetsFields, ConstsFields, Provision, RowFields, sets_of_encoding, OpenedFlow, opened_sfids, opened_sids, opened_sid, and_under, and_opened, all_opened, opened_flows, need_of_sets, need_of_provision, admits, count_of, IsRowOf, Flow, sfids_of, sids_of, committed_minislots, committed_elements, opened_flow, opened_state, operator, IsSoundFlow, HasItsFlow, IsSound}
use Rattle.operator_model.proofs.OrderLemmas.{length-insert}
use Rattle.operator_model.proofs.FlowsLemmas.{AreFlows, put-AreFlows}
use Rattle.operator_model.proofs.FreshLemmas.{MayPut-fresh, sid_count, length-sids, minislots-put, elements-put}
use Rattle.operator_model.proofs.RoomLemmas.{is_given, given-free}
use Rattle.operator_model.proofs.ProvisionedLemmas.{AreFit, by_flow, as_flows, same_sfids, same_sids, flows-insert}

-- ---- flow by flow

-- there is room for so many flows more, of which so many have a SID, and for what they commit
record HasRoom (consts : ConstsFields) (row : RowFields) (flows : List (ℕ × Flow)) (n s m e : ℕ) : Type 0 where
  are : AreFlows row consts.channel.first_frame flows
  few : length flows + n ≤ row.flows
  sids : length (sids_of flows) + s ≤ count_of row.sids
  minislots : committed_minislots consts.units flows + m ≤ row.budget
  elements : committed_elements consts.units flows + e ≤ row.elements

-- a flow that is opened has a SID where a set is admitted, and a free one
record IsOpenedSid (row : RowFields) (used : List ℕ) (admitted : Bool) (sid : Option ℕ) : Type 0 where
  free : IfSome sid (IsFree row.sids used)
  has : admitted ≡ true → IsSome sid
  count : sid_count sid ≤ cond {A = ℕ} admitted 1 0

given_sid : (row : RowFields) (used : List ℕ) → IsSome (least_free_of row.sids used) → IsOpenedSid row used true (least_free_of row.sids used)
given_sid row used some = by (least_free_of row.sids used) refl some
  where
    by : (o : Option ℕ) → least_free_of row.sids used ≡ o → IsSome o → IsOpenedSid row used true o
    by None is some = absurd (false≢true some)
    by (Some n) is some = record { free = given-free row.sids used n is; has = λ _. refl; count = omega arith }

module _ (consts : ConstsFields) (row : RowFields) where
  abbrev flows_of : List (ℕ × OpenedFlow) → List (ℕ × Flow)
  flows_of entries = as_flows consts.channel.first_frame entries

  module _ (entries : List (ℕ × OpenedFlow)) (n s m e : ℕ) where
    sid_of_sets : (b : Bool) → length (sids_of (flows_of entries)) + (cond {A = ℕ} b 1 0 + s) ≤ count_of row.sids → IsOpenedSid row (sids_of (flows_of entries)) b (cond b (least_free_of row.sids (opened_sids entries)) None)
    sid_of_sets true room =
        subst (λ (used : List ℕ). IsOpenedSid row (sids_of (flows_of entries)) true (least_free_of row.sids used)) (same_sids consts.channel.first_frame entries)
        (given_sid row (sids_of (flows_of entries)) (is_given row.sids (sids_of (flows_of entries)) (omega arith)))
    sid_of_sets false room = record { free = tt; has = λ no. absurd (false≢true no); count = omega arith }

    one_opened : (modem : Modem) (sets : SetsFields) → AreFit sets
        → HasRoom consts row (flows_of entries) (1 + n) (cond {A = ℕ} (is_some sets.admitted) 1 0 + s) ((need_if consts.units sets.admitted).minislots + m) ((need_if consts.units sets.admitted).elements + e)
        → HasRoom consts row (flows_of (and_under row entries modem sets (least_free_of row.sfids (opened_sfids entries)))) n s m e
    one_opened modem sets fit room = by (least_free_of row.sfids (opened_sfids entries)) refl
      where
        v : OpenedFlow
        v = record { modem = modem; sid = opened_sid row entries sets; sets = sets }

        sid : IsOpenedSid row (sids_of (flows_of entries)) (is_some sets.admitted) (opened_sid row entries sets)
        sid = sid_of_sets (is_some sets.admitted) room.sids

        by : (o : Option ℕ) → least_free_of row.sfids (opened_sfids entries) ≡ o → HasRoom consts row (flows_of (and_under row entries modem sets o)) n s m e
        by None is = record { are = room.are; few = omega (arith, room.few); sids = omega (arith, room.sids); minislots = omega (arith, room.minislots); elements = omega (arith, room.elements) }
        by (Some k) is =
            let flow : Flow = opened_flow consts.channel.first_frame v in
            let sound : IsSoundFlow consts.channel.first_frame flow = record { nested = fit.nested; kinds = fit.kinds; has_sid = sid.has; no_backlog = λ _. refl; start = omega arith; since = omega arith; pending = tt } in
            let free : IsFree row.sfids (sfids_of (flows_of entries)) k = given-free row.sfids (sfids_of (flows_of entries)) k (ap (least_free_of row.sfids) (same_sfids consts.channel.first_frame entries) ∙ is) in
            let longer = length-insert (flows_of entries) k flow in
            let may = MayPut-fresh row consts.channel.first_frame (flows_of entries) k flow (free.first_at_most, free.at_most_last) sid.free sound (omega (arith, room.few, longer)) in
            subst (λ (fs : List (ℕ × Flow)). HasRoom consts row fs n s m e) (sym (flows-insert consts.channel.first_frame entries k v)) (record {
              are = put-AreFlows room.are may;
              few = omega (arith, room.few, longer);
              sids = omega (arith, room.sids, sid.count, length-sids (flows_of entries) k flow);
              minislots = omega (arith, room.minislots, minislots-put consts.units (flows_of entries) k flow room.are.ascending);
              elements = omega (arith, room.elements, elements-put consts.units (flows_of entries) k flow room.are.ascending);
            })

    -- a provisioned flow of these sets, or of none
    and_one : (modem : Modem) (sets : Option SetsFields) → IfSome sets AreFit
        → HasRoom consts row (flows_of entries) (1 + n) (cond {A = ℕ} (admits sets) 1 0 + s) ((need_of_sets consts.units sets).minislots + m) ((need_of_sets consts.units sets).elements + e)
        → HasRoom consts row (flows_of (and_opened row entries modem sets)) n s m e
    and_one modem None fit room = record { are = room.are; few = omega (arith, room.few); sids = omega (arith, room.sids); minislots = omega (arith, room.minislots); elements = omega (arith, room.elements) }
    and_one modem (Some sets) fit room = one_opened modem sets fit room

  abbrev sids_for : List Provision → ℕ
  sids_for ps = count_by (λ p. admits (sets_of_encoding consts p.encoding)) ps

  abbrev minislots_for : List Provision → ℕ
  minislots_for ps = sum_by (λ p. (need_of_provision consts p).minislots) ps

  abbrev elements_for : List Provision → ℕ
  elements_for ps = sum_by (λ p. (need_of_provision consts p).elements) ps

  all : (entries : List (ℕ × OpenedFlow)) (ps : List Provision) → HasRoom consts row (flows_of entries) (length ps) (sids_for ps) (minislots_for ps) (elements_for ps) → HasRoom consts row (flows_of (all_opened consts row entries ps)) 0 0 0 0
  all entries [] room = room
  all entries (p ∷ ps) room =
      all (and_opened row entries p.modem (sets_of_encoding consts p.encoding)) ps
      (and_one entries (length ps) (sids_for ps) (minislots_for ps) (elements_for ps) p.modem (sets_of_encoding consts p.encoding) (by_flow consts (flow_of p.encoding)) (record {
        are = room.are;
        few = omega (arith, room.few);
        sids = omega (arith, room.sids, sum_by-cons (λ (q : Provision). cond {A = ℕ} (admits (sets_of_encoding consts q.encoding)) 1 0) p ps);
        minislots = omega (arith, room.minislots, sum_by-cons (λ (q : Provision). (need_of_provision consts q).minislots) p ps);
        elements = omega (arith, room.elements, sum_by-cons (λ (q : Provision). (need_of_provision consts q).elements) p ps);
      }))

  none : AreFlows row consts.channel.first_frame []
  unfolding IsStrictlySortedBy
  none = record {
    ascending = tt;
    sfids = All-nil _;
    sids = All-nil _;
    own_sids = λ sid a b at_a. absurd (none-some sid at_a);
    each = All-nil (IsSoundFlow consts.channel.first_frame);
    few = omega arith;
  }

  pub opened_sound : IsRowOf consts row → 1 ≤ row.slice.length → IsSound (operator consts row (opened_state consts row))
  opened_sound is some =
      let last = all [] row.provisions (record {
        are = none;
        few = omega (arith, is.fits.flows);
        sids = omega (arith, is.fits.sids);
        minislots = omega (arith, is.fits.minislots);
        elements = omega (arith, is.fits.elements);
      }) in
      record {
        ascending = last.are.ascending;
        sfids = last.are.sfids;
        sids = last.are.sids;
        own_sids = last.are.own_sids;
        flows = last.are.each;
        few_flows = last.are.few;
        few_kept = omega arith;
        few_heard = omega arith;
        waiting = All-nil (HasItsFlow (flows_of (opened_flows consts row)));
        own_flows = λ i j d lt within. absurd (omega arith);
        elements = omega (arith, last.elements);
        minislots = omega (arith, last.minislots);
        share = record { some = some; behind_head = is.behind_head; within_frame = is.within_frame; budget = is.budget };
        next = tt;
      }
