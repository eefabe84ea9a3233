use Rattle.std.proofs.Common.{map, All}
use Rattle.plant_workers.proofs.ReceiptsLemmas.Common.{view_of, HasOwnParts, EachStands, NoneIsShort, IsFirstStrayed, IsFirstShort, IsFirstMapStrayed}
use Rattle.plant_workers.specs.declared.receipts.run_fault.RunFault.TheVariants.{Strayed, Short, MapStrayed}
use Rattle.plant_workers.proofs.ReceiptsLemmas.SettleLemmas.{none_strays_at, settled, not_settled, strayed_iff, strayed_not, short_iff, short_not, moved, only_memory, only_memory_short, at_some, at_none}
use Rattle.plant_workers.proofs.receipts.settling.settle.Goals as goal

pub returns-in-Some-clause-not_settled : goal.returns-in-Some-clause-not_settled
returns-in-Some-clause-not_settled g c = λ _.
    not_settled (map view_of c.args.books.items) c.args.receipts.items c.args.maps.items (Strayed c.in-Some.op c.in-Some.index)
    (moved c.deref.result.now c.args.books.items c.deref-2.result.now c.args.receipts.items c.deref.ensures.value c.deref-2.ensures.value (λ bs rs. IsFirstStrayed (map view_of bs) rs c.in-Some.op c.in-Some.index) c.in-Some.ensures)

pub returns-in-Some-clause-strayed : goal.returns-in-Some-clause-strayed
returns-in-Some-clause-strayed g c =
    strayed_iff (map view_of c.args.books.items) c.args.receipts.items c.in-Some.op c.in-Some.index
    (moved c.deref.result.now c.args.books.items c.deref-2.result.now c.args.receipts.items c.deref.ensures.value c.deref-2.ensures.value (λ bs rs. IsFirstStrayed (map view_of bs) rs c.in-Some.op c.in-Some.index) c.in-Some.ensures)

pub returns-in-Some-first_short-clause-fault : goal.returns-in-Some-first_short-clause-fault
returns-in-Some-first_short-clause-fault g c = λ _. (
  (none_strays_at (map view_of c.args.books.items) c.args.receipts.items (moved c.deref.result.now c.args.books.items c.deref-2.result.now c.args.receipts.items c.deref.ensures.value c.deref-2.ensures.value (λ bs rs. EachStands (map view_of bs) rs) c.in_default.ensures)),
  (moved c.deref-3.result.now c.args.books.items c.deref-4.result.now c.args.receipts.items c.deref-3.ensures.value c.deref-4.ensures.value (λ bs rs. IsFirstShort (map view_of bs) rs c.in-Some-first_short.op) c.in-Some-first_short.ensures),
)

pub returns-in-Some-first_short-clause-not_settled : goal.returns-in-Some-first_short-clause-not_settled
returns-in-Some-first_short-clause-not_settled g c = λ _.
    not_settled (map view_of c.args.books.items) c.args.receipts.items c.args.maps.items (Short c.in-Some-first_short.op) (
      (none_strays_at (map view_of c.args.books.items) c.args.receipts.items (moved c.deref.result.now c.args.books.items c.deref-2.result.now c.args.receipts.items c.deref.ensures.value c.deref-2.ensures.value (λ bs rs. EachStands (map view_of bs) rs) c.in_default.ensures)),
      (moved c.deref-3.result.now c.args.books.items c.deref-4.result.now c.args.receipts.items c.deref-3.ensures.value c.deref-4.ensures.value (λ bs rs. IsFirstShort (map view_of bs) rs c.in-Some-first_short.op) c.in-Some-first_short.ensures),
    )

pub returns-in-Some-first_short-clause-strayed : goal.returns-in-Some-first_short-clause-strayed
returns-in-Some-first_short-clause-strayed g c =
    strayed_not (map view_of c.args.books.items) c.args.receipts.items _ (λ i k e. cc)
    (none_strays_at (map view_of c.args.books.items) c.args.receipts.items (moved c.deref.result.now c.args.books.items c.deref-2.result.now c.args.receipts.items c.deref.ensures.value c.deref-2.ensures.value (λ bs rs. EachStands (map view_of bs) rs) c.in_default.ensures))

pub returns-in_err-frame-clause-strayed : goal.returns-in_err-frame-clause-strayed
returns-in_err-frame-clause-strayed g c =
    strayed_not (map view_of c.args.books.items) c.args.receipts.items c.from_residual.result (only_memory c.from_residual.result c.from_residual.ensures.1)
    (none_strays_at (map view_of c.args.books.items) c.args.receipts.items (moved c.deref.result.now c.args.books.items c.deref-2.result.now c.args.receipts.items c.deref.ensures.value c.deref-2.ensures.value (λ bs rs. EachStands (map view_of bs) rs) c.in_default.ensures))

pub returns-in-Some-2-clause-fault : goal.returns-in-Some-2-clause-fault
returns-in-Some-2-clause-fault g c = λ _. (
  (none_strays_at (map view_of c.args.books.items) c.args.receipts.items (moved c.deref.result.now c.args.books.items c.deref-2.result.now c.args.receipts.items c.deref.ensures.value c.deref-2.ensures.value (λ bs rs. EachStands (map view_of bs) rs) c.in_default.ensures)),
  (moved c.deref-3.result.now c.args.books.items c.deref-4.result.now c.args.receipts.items c.deref-3.ensures.value c.deref-4.ensures.value (λ bs rs. NoneIsShort (map view_of bs) rs) c.in_default-first_short.ensures),
  (moved c.deref-5.result.now c.args.books.items c.deref-6.result.now c.args.maps.items c.deref-5.ensures.value c.deref-6.ensures.value (λ bs ms. IsFirstMapStrayed (map view_of bs) ms c.in-Some-2.frame) (at_some (All (HasOwnParts (map view_of c.deref-5.result.now)) c.deref-6.result.now) (IsFirstMapStrayed (map view_of c.deref-5.result.now) c.deref-6.result.now) c.in_ok-frame.field-0 c.in-Some-2.frame c.in-Some-2.is c.in_ok-frame.ensures)),
)

pub returns-in-Some-2-clause-not_settled : goal.returns-in-Some-2-clause-not_settled
returns-in-Some-2-clause-not_settled g c = λ _.
    not_settled (map view_of c.args.books.items) c.args.receipts.items c.args.maps.items (MapStrayed c.in-Some-2.frame) (
      (none_strays_at (map view_of c.args.books.items) c.args.receipts.items (moved c.deref.result.now c.args.books.items c.deref-2.result.now c.args.receipts.items c.deref.ensures.value c.deref-2.ensures.value (λ bs rs. EachStands (map view_of bs) rs) c.in_default.ensures)),
      (moved c.deref-3.result.now c.args.books.items c.deref-4.result.now c.args.receipts.items c.deref-3.ensures.value c.deref-4.ensures.value (λ bs rs. NoneIsShort (map view_of bs) rs) c.in_default-first_short.ensures),
      (moved c.deref-5.result.now c.args.books.items c.deref-6.result.now c.args.maps.items c.deref-5.ensures.value c.deref-6.ensures.value (λ bs ms. IsFirstMapStrayed (map view_of bs) ms c.in-Some-2.frame) (at_some (All (HasOwnParts (map view_of c.deref-5.result.now)) c.deref-6.result.now) (IsFirstMapStrayed (map view_of c.deref-5.result.now) c.deref-6.result.now) c.in_ok-frame.field-0 c.in-Some-2.frame c.in-Some-2.is c.in_ok-frame.ensures)),
    )

pub returns-in-Some-2-clause-strayed : goal.returns-in-Some-2-clause-strayed
returns-in-Some-2-clause-strayed g c =
    strayed_not (map view_of c.args.books.items) c.args.receipts.items _ (λ i k e. cc)
    (none_strays_at (map view_of c.args.books.items) c.args.receipts.items (moved c.deref.result.now c.args.books.items c.deref-2.result.now c.args.receipts.items c.deref.ensures.value c.deref-2.ensures.value (λ bs rs. EachStands (map view_of bs) rs) c.in_default.ensures))

pub returns-clause-ok : goal.returns-clause-ok
returns-clause-ok g c =
    settled (map view_of c.args.books.items) c.args.receipts.items c.args.maps.items
    (moved c.deref.result.now c.args.books.items c.deref-2.result.now c.args.receipts.items c.deref.ensures.value c.deref-2.ensures.value (λ bs rs. EachStands (map view_of bs) rs) c.in_default.ensures)
    (moved c.deref-3.result.now c.args.books.items c.deref-4.result.now c.args.receipts.items c.deref-3.ensures.value c.deref-4.ensures.value (λ bs rs. NoneIsShort (map view_of bs) rs) c.in_default-first_short.ensures)
    (moved c.deref-5.result.now c.args.books.items c.deref-6.result.now c.args.maps.items c.deref-5.ensures.value c.deref-6.ensures.value (λ bs ms. All (HasOwnParts (map view_of bs)) ms) (at_none (All (HasOwnParts (map view_of c.deref-5.result.now)) c.deref-6.result.now) (IsFirstMapStrayed (map view_of c.deref-5.result.now) c.deref-6.result.now) c.in_ok-frame.field-0 c.in_default-2.is c.in_ok-frame.ensures))

pub returns-clause-strayed : goal.returns-clause-strayed
returns-clause-strayed g c =
    strayed_not (map view_of c.args.books.items) c.args.receipts.items _ (λ i k e. cc)
    (none_strays_at (map view_of c.args.books.items) c.args.receipts.items (moved c.deref.result.now c.args.books.items c.deref-2.result.now c.args.receipts.items c.deref.ensures.value c.deref-2.ensures.value (λ bs rs. EachStands (map view_of bs) rs) c.in_default.ensures))

pub returns-in-Some-clause-short : goal.returns-in-Some-clause-short
returns-in-Some-clause-short g c =
    short_not (map view_of c.args.books.items) c.args.receipts.items c.args.maps.items _ (λ i e. cc)
    (λ i first. first.0 c.in-Some.op c.in-Some.index ((moved c.deref.result.now c.args.books.items c.deref-2.result.now c.args.receipts.items c.deref.ensures.value c.deref-2.ensures.value (λ bs rs. IsFirstStrayed (map view_of bs) rs c.in-Some.op c.in-Some.index) c.in-Some.ensures)).strays)

pub returns-in-Some-first_short-clause-short : goal.returns-in-Some-first_short-clause-short
returns-in-Some-first_short-clause-short g c =
    short_iff (map view_of c.args.books.items) c.args.receipts.items c.args.maps.items c.in-Some-first_short.op
    (none_strays_at (map view_of c.args.books.items) c.args.receipts.items (moved c.deref.result.now c.args.books.items c.deref-2.result.now c.args.receipts.items c.deref.ensures.value c.deref-2.ensures.value (λ bs rs. EachStands (map view_of bs) rs) c.in_default.ensures))
    (moved c.deref-3.result.now c.args.books.items c.deref-4.result.now c.args.receipts.items c.deref-3.ensures.value c.deref-4.ensures.value (λ bs rs. IsFirstShort (map view_of bs) rs c.in-Some-first_short.op) c.in-Some-first_short.ensures)

pub returns-in_err-frame-clause-short : goal.returns-in_err-frame-clause-short
returns-in_err-frame-clause-short g c =
    short_not (map view_of c.args.books.items) c.args.receipts.items c.args.maps.items c.from_residual.result (only_memory_short c.from_residual.result c.from_residual.ensures.1)
    (λ i first. (moved c.deref-3.result.now c.args.books.items c.deref-4.result.now c.args.receipts.items c.deref-3.ensures.value c.deref-4.ensures.value (λ bs rs. NoneIsShort (map view_of bs) rs) c.in_default-first_short.ensures) i first.1.short)

pub returns-in-Some-2-clause-short : goal.returns-in-Some-2-clause-short
returns-in-Some-2-clause-short g c =
    short_not (map view_of c.args.books.items) c.args.receipts.items c.args.maps.items _ (λ i e. cc)
    (λ i first. (moved c.deref-3.result.now c.args.books.items c.deref-4.result.now c.args.receipts.items c.deref-3.ensures.value c.deref-4.ensures.value (λ bs rs. NoneIsShort (map view_of bs) rs) c.in_default-first_short.ensures) i first.1.short)

pub returns-clause-short : goal.returns-clause-short
returns-clause-short g c =
    short_not (map view_of c.args.books.items) c.args.receipts.items c.args.maps.items _ (λ i e. cc)
    (λ i first. (moved c.deref-3.result.now c.args.books.items c.deref-4.result.now c.args.receipts.items c.deref-3.ensures.value c.deref-4.ensures.value (λ bs rs. NoneIsShort (map view_of bs) rs) c.in_default-first_short.ensures) i first.1.short)
