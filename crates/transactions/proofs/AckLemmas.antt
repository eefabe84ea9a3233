-- What begins and acknowledgements keep of the entries.
use Rattle.std.proofs.Common.{◌≡◌, ℕ, ◌<◌, ◌≤◌, Bool, true, false, cond, List, [], ◌∷◌, ◌++◌, length, get_or, set, map, count_by, Option, Some, None, is_some, option_map, refl, sym, ap, ◌∙◌, arith, inl, inr, Bor}
use Rattle.transactions.proofs.Common.{find, position, cases_Bool, and_parts, eqb-true, true≢false, length-set, length_push, All-push, All-set, sum_by_push, sum_by-set, position-Some, Kind, Modem, KeptEntry, Waits, IsLasting, is_of, waits_for, begun_entry, held_entry, entry_after_ack, OneEach, HasTicks, IsHeldUnsent, IsKept}
use Rattle.std.specs.Option.{option_copied}
use Rattle.std.proofs.lemmas.Slice.Eq.{bytes_eq-Decides}
use Rattle.transactions.proofs.ListLemmas.{count_by-none, count_by-weaker, find-position, find-no_position, none_changed, one_changed}

-- an entry that is of a modem and a transaction ID names both
same_test : (modem : Modem) (tid : ℕ) (e : KeptEntry) (entries : List KeptEntry) → is_of modem tid e ≡ true → count_by (is_of modem tid) entries ≡ count_by (is_of e.modem e.tid) entries
same_test modem tid e entries same =
    let parts = and_parts _ _ same in
    let address : e.modem.0 ≡ modem.0 = (bytes_eq-Decides e.modem.0 modem.0).0 parts.0 in
    let number : e.tid ≡ tid = eqb-true e.tid tid parts.1 in
    λ i. count_by (is_of (record { 0 = sym address i }) (sym number i)) entries

-- a new pair keeps the pairs apart
pub OneEach-push : (entries : List KeptEntry) (e : KeptEntry) → find (is_of e.modem e.tid) entries ≡ None → OneEach entries → OneEach (entries ++ e ∷ [])
OneEach-push entries e free one modem tid =
    let count = sum_by_push (λ x. cond (is_of modem tid x) 1 0) entries e in
    let before = one modem tid in
    elim (cases_Bool (is_of modem tid e)) [
      | inl same ↦
          let none : count_by (is_of modem tid) entries ≡ 0 = same_test modem tid e entries same ∙ count_by-none (is_of e.modem e.tid) entries free in
          let here : cond {A = ℕ} (is_of modem tid e) 1 0 ≡ 1 = ap (λ (b : Bool). cond {A = ℕ} b 1 0) same in
          omega arith
      | inr other ↦
          let here : cond {A = ℕ} (is_of modem tid e) 1 0 ≡ 0 = ap (λ (b : Bool). cond {A = ℕ} b 1 0) other in
          omega arith
    ]

-- an entry of a free pair that was kept before, into room that is there
pub IsKept-put_back : {times : Waits} {capacity : ℕ} {entries : List KeptEntry} {reserved : ℕ} (e : KeptEntry) → find (is_of e.modem e.tid) entries ≡ None → length entries < capacity → HasTicks e → IsHeldUnsent e
    → IsKept capacity times entries reserved → IsKept capacity times (entries ++ e ∷ []) reserved
IsKept-put_back {entries = entries} e free few ticking held kept = record {
  lasting = kept.lasting;
  within = omega (arith, length_push entries e);
  room = kept.room;
  ticking = All-push HasTicks entries e kept.ticking ticking;
  held = All-push IsHeldUnsent entries e kept.held held;
  one_each = OneEach-push entries e free kept.one_each;
}

-- a new entry of a free pair, into room that is there
module _ (times : Waits) (modem : Modem) (tid : ℕ) (kind : Kind) (reply : List ℕ) (sfid : ℕ) where
  HasTicks-begun : (waits : Bool) → IsLasting times → HasTicks (begun_entry times modem tid kind reply sfid waits)
  HasTicks-begun true lasting = lasting.ack_wait
  HasTicks-begun false lasting = lasting.hold

  IsHeldUnsent-begun : (waits : Bool) → IsHeldUnsent (begun_entry times modem tid kind reply sfid waits)
  IsHeldUnsent-begun true idle = absurd (true≢false idle)
  IsHeldUnsent-begun false idle = refl

  pub IsKept-begin : (waits : Bool) {capacity : ℕ} {entries : List KeptEntry} {reserved : ℕ} → find (is_of modem tid) entries ≡ None → length entries < capacity → IsKept capacity times entries reserved → IsKept capacity times (entries ++ begun_entry times modem tid kind reply sfid waits ∷ []) reserved
  IsKept-begin waits {entries = entries} free few kept =
      let e = begun_entry times modem tid kind reply sfid waits in
      record {
        lasting = kept.lasting;
        within = omega (arith, length_push entries e);
        room = kept.room;
        ticking = All-push HasTicks entries e kept.ticking (HasTicks-begun waits kept.lasting);
        held = All-push IsHeldUnsent entries e kept.held (IsHeldUnsent-begun waits);
        one_each = OneEach-push entries e free kept.one_each;
      }

-- an entry that is held in another's place, of the same pair
pub IsKept-hold : {capacity : ℕ} {entries : List KeptEntry} {reserved : ℕ} (waits : Waits) (i : ℕ) (e : KeptEntry) → i < length entries → e ≡ get_or entries i e → IsKept capacity waits entries reserved → IsKept capacity waits (set entries i (held_entry waits e)) reserved
IsKept-hold {entries = entries} waits i e lt here kept = record {
  lasting = kept.lasting;
  within = omega (arith, length-set entries i (held_entry waits e));
  room = kept.room;
  ticking = All-set HasTicks entries i (held_entry waits e) kept.lasting.hold kept.ticking;
  held = All-set IsHeldUnsent entries i (held_entry waits e) (λ _. refl) kept.held;
  one_each = λ modem tid.
      let written = sum_by-set (λ x. cond (is_of modem tid x) 1 0) entries i (held_entry waits e) e lt in
      let same : cond {A = ℕ} (is_of modem tid (get_or entries i e)) 1 0 ≡ cond {A = ℕ} (is_of modem tid e) 1 0 = ap (λ (x : KeptEntry). cond {A = ℕ} (is_of modem tid x) 1 0) (sym here) in
      omega (arith, same, kept.one_each modem tid);
}

module _ (waits : Waits) (modem : Modem) (tid : ℕ) (kind : Kind) (entries : List KeptEntry) (one : OneEach entries) where
  -- at most one entry waits for an acknowledgement
  one_waits : count_by (waits_for modem tid kind) entries ≤ 1
  one_waits =
      omega (arith, one modem tid, count_by-weaker (waits_for modem tid kind) (is_of modem tid) (λ e waits. (and_parts _ _ (and_parts _ _ waits).0).0) entries)

  -- the acknowledgement of the entry at a place is a write there
  pub acknowledged_at : (i : ℕ) (e : KeptEntry) → position (waits_for modem tid kind) entries ≡ Some i → e ≡ get_or entries i e → map (entry_after_ack waits modem tid kind) entries ≡ set entries i (held_entry waits e)
  acknowledged_at i e found here =
      let at = position-Some (waits_for modem tid kind) entries i e found in
      one_changed (waits_for modem tid kind) (held_entry waits) entries i e one_waits at.0 at.1
      ∙ ap (λ (x : KeptEntry). set entries i (held_entry waits x)) (sym here)

-- where none waits, nothing changes
pub acknowledged_none : (waits : Waits) (modem : Modem) (tid : ℕ) (kind : Kind) (entries : List KeptEntry) → position (waits_for modem tid kind) entries ≡ None → map (entry_after_ack waits modem tid kind) entries ≡ entries
acknowledged_none waits modem tid kind entries none =
    none_changed (waits_for modem tid kind) (held_entry waits) entries
    (count_by-none (waits_for modem tid kind) entries (find-no_position (waits_for modem tid kind) entries none))

-- the SFID that is found
pub sfid_at : (modem : Modem) (tid : ℕ) (kind : Kind) (entries : List KeptEntry) (i : ℕ) (e : KeptEntry) → position (waits_for modem tid kind) entries ≡ Some i → e ≡ get_or entries i e → option_map (λ (x : KeptEntry). x.sfid) (find (waits_for modem tid kind) entries) ≡ Some e.sfid
sfid_at modem tid kind entries i e found here =
    ap (option_map (λ (x : KeptEntry). x.sfid)) (find-position (waits_for modem tid kind) entries i e found ∙ ap Some (sym here))

pub sfid_none : (modem : Modem) (tid : ℕ) (kind : Kind) (entries : List KeptEntry) → position (waits_for modem tid kind) entries ≡ None → option_map (λ (x : KeptEntry). x.sfid) (find (waits_for modem tid kind) entries) ≡ None
sfid_none modem tid kind entries none =
    ap (option_map (λ (x : KeptEntry). x.sfid)) (find-no_position (waits_for modem tid kind) entries none)

-- a look-up that found nothing
pub none_found : {found : Option KeptEntry} (r : Option (Bor KeptEntry)) → is_some r ≡ false → option_copied r ≡ found → found ≡ None
none_found None none same = sym same
none_found (Some x) none same = absurd (true≢false none)

pub none_is : {A : Type 0} {r : Option A} → is_some r ≡ false → r ≡ None
none_is {r = None} none = refl
none_is {r = Some x} none = absurd (true≢false none)
