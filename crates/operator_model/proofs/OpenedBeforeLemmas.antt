-- An operator as it is opened before a frame is sound.
use Rattle.std.proofs.Common.{◌≡◌, ℕ, ◌≤◌, List, Result, Ok, Err, IsSome, count_by, sum_by, refl, sym, subst, arith}
use Rattle.operator_model.proofs.Common.{All-weaker, flow_of, ConstsFields, Provision, RowFields, sets_of_flow, sets_of_encoding, need_of_sets, need_of_provision, admits, IsProvision, IsRowOf, operator, consts_from, opened_before, IsSound}
use Rattle.operator_model.proofs.OpenedLemmas.{opened_sound}

module _ (frame : ℕ) (consts : ConstsFields) where
  -- no set depends on where a plant begins
  same_flow : (r : Result _ _) → sets_of_flow (consts_from frame consts) r ≡ sets_of_flow consts r
  same_flow (Err fault) = refl
  same_flow (Ok stated) = refl

  same_sets : (bytes : List ℕ) → sets_of_encoding (consts_from frame consts) bytes ≡ sets_of_encoding consts bytes
  same_sets bytes = same_flow (flow_of bytes)

  row_before : (row : RowFields) → IsRowOf consts row → IsRowOf (consts_from frame consts) row
  row_before row is =
      let sids : count_by (λ (p : Provision). admits (sets_of_encoding (consts_from frame consts) p.encoding)) row.provisions ≡ count_by (λ (p : Provision). admits (sets_of_encoding consts p.encoding)) row.provisions =
      λ k. count_by (λ (p : Provision). admits (same_sets p.encoding k)) row.provisions in
      let minislots : sum_by (λ (p : Provision). (need_of_provision (consts_from frame consts) p).minislots) row.provisions ≡ sum_by (λ (p : Provision). (need_of_provision consts p).minislots) row.provisions =
      λ k. sum_by (λ (p : Provision). (need_of_sets consts.units (same_sets p.encoding k)).minislots) row.provisions in
      let elements : sum_by (λ (p : Provision). (need_of_provision (consts_from frame consts) p).elements) row.provisions ≡ sum_by (λ (p : Provision). (need_of_provision consts p).elements) row.provisions =
      λ k. sum_by (λ (p : Provision). (need_of_sets consts.units (same_sets p.encoding k)).elements) row.provisions in
      record {
        keys = is.keys;
        behind_head = is.behind_head;
        within_frame = is.within_frame;
        provisions = All-weaker (IsProvision consts row) (IsProvision (consts_from frame consts) row)
            (λ p h. record { mine = h.mine; sets = subst (λ s. IsSome s) (sym (same_sets p.encoding)) h.sets }) row.provisions is.provisions;
        budget = is.budget;
        fits = record {
          flows = is.fits.flows;
          sfids = is.fits.sfids;
          sids = omega (arith, sids, is.fits.sids);
          minislots = omega (arith, minislots, is.fits.minislots);
          elements = omega (arith, elements, is.fits.elements);
        };
      }

  pub opened_before_sound : (row : RowFields) → IsRowOf consts row → 1 ≤ row.slice.length → IsSound (operator consts row (opened_before frame consts row))
  opened_before_sound row is some =
      let s = opened_sound (consts_from frame consts) row (row_before row is) some in
      record {
        ascending = s.ascending;
        sfids = s.sfids;
        sids = s.sids;
        own_sids = s.own_sids;
        flows = s.flows;
        few_flows = s.few_flows;
        few_kept = s.few_kept;
        few_heard = s.few_heard;
        waiting = s.waiting;
        own_flows = s.own_flows;
        elements = s.elements;
        minislots = s.minislots;
        share = record { some = s.share.some; behind_head = s.share.behind_head; within_frame = s.share.within_frame; budget = s.share.budget };
        next = tt;
      }
