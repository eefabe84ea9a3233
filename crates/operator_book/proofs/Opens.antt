-- The provisioned flows that are put are those that the plant file opens.
use Rattle.std.proofs.Common.{◌≡◌, ℕ, List, [], ◌∷◌, map, Option, Some, None, Result, Ok, Err, refl, sym, ap, ◌∙◌}
use Rattle.operator_book.proofs.Common.{is_some, if◌then◌else◌, cons_option, Ordering, Less, Equal, Greater, nat_cmp, match_ordering, insert_entry, least_free_of, Modem, SetsFields, ConstsFields, RowFields, Flow, sfids_of, sids_of, with_flow, opened_flow, consts_from, opened_before}
use Rattle.tlv24.specs.Flow.{flow_of}
use Rattle.plant.specs.declared.provision.Provision.{Provision}
use Rattle.plant.specs.Provisioned.{OpenedFlow, sets_of_flow, sets_of_encoding, opened_sfids, opened_sids, opened_sid, and_under, and_opened, all_opened}
use Rattle.operator_book.specs.Opening.{sid_for, put_under, put_opened, put_provision, put_provisions}

-- the flows as they are opened in this frame
abbrev as_flow : ℕ → (ℕ × OpenedFlow) → ℕ × Flow
as_flow frame entry = (entry.0, opened_flow frame entry.1)

abbrev as_flows : ℕ → List (ℕ × OpenedFlow) → List (ℕ × Flow)
as_flows frame os = map (as_flow frame) os

same_sfids : (frame : ℕ) (os : List (ℕ × OpenedFlow)) → sfids_of (as_flows frame os) ≡ opened_sfids os
same_sfids frame [] = refl
same_sfids frame (o ∷ os) = ap (λ (xs : List ℕ). o.0 ∷ xs) (same_sfids frame os)

same_sids : (frame : ℕ) (os : List (ℕ × OpenedFlow)) → sids_of (as_flows frame os) ≡ opened_sids os
same_sids frame [] = refl
same_sids frame (o ∷ os) = ap (λ (xs : List ℕ). cons_option o.1.sid xs) (same_sids frame os)

by_order : (frame sfid : ℕ) (o : OpenedFlow) (e : ℕ × OpenedFlow) (os : List (ℕ × OpenedFlow)) (order : Ordering)
    → insert_entry nat_cmp (as_flows frame os) sfid (opened_flow frame o) ≡ as_flows frame (insert_entry nat_cmp os sfid o)
    → match_ordering order ((sfid, opened_flow frame o) ∷ as_flows frame (e ∷ os)) ((e.0, opened_flow frame o) ∷ as_flows frame os) (as_flow frame e ∷ insert_entry nat_cmp (as_flows frame os) sfid (opened_flow frame o))
    ≡ as_flows frame (match_ordering order ((sfid, o) ∷ e ∷ os) ((e.0, o) ∷ os) (e ∷ insert_entry nat_cmp os sfid o))
by_order frame sfid o e os Less rest = refl
by_order frame sfid o e os Equal rest = refl
by_order frame sfid o e os Greater rest = ap (λ (xs : List (ℕ × Flow)). as_flow frame e ∷ xs) rest

put_map : (frame sfid : ℕ) (o : OpenedFlow) (os : List (ℕ × OpenedFlow)) → insert_entry nat_cmp (as_flows frame os) sfid (opened_flow frame o) ≡ as_flows frame (insert_entry nat_cmp os sfid o)
put_map frame sfid o [] = refl
put_map frame sfid o (e ∷ os) = by_order frame sfid o e os (nat_cmp sfid e.0) (put_map frame sfid o os)

same_sid : (frame : ℕ) (row : RowFields) (os : List (ℕ × OpenedFlow)) (sets : SetsFields) → sid_for row (as_flows frame os) sets ≡ opened_sid row os sets
same_sid frame row os sets = ap (λ (sids : List ℕ). if is_some sets.admitted then least_free_of row.sids sids else None) (same_sids frame os)

under : (frame : ℕ) (row : RowFields) (os : List (ℕ × OpenedFlow)) (modem : Modem) (sets : SetsFields) (sfid : Option ℕ)
    → put_under frame row (as_flows frame os) modem sets sfid ≡ as_flows frame (and_under row os modem sets sfid)
under frame row os modem sets None = refl
under frame row os modem sets (Some sfid) =
    ap (λ (sid : Option ℕ). with_flow sfid (opened_flow frame (record { modem = modem; sid = sid; sets = sets })) (as_flows frame os)) (same_sid frame row os sets)
    ∙ put_map frame sfid (record { modem = modem; sid = opened_sid row os sets; sets = sets }) os

one_opened : (frame : ℕ) (row : RowFields) (os : List (ℕ × OpenedFlow)) (modem : Modem) (sets : Option SetsFields)
    → put_opened frame row (as_flows frame os) modem sets ≡ as_flows frame (and_opened row os modem sets)
one_opened frame row os modem None = refl
one_opened frame row os modem (Some sets) =
    ap (λ (sfids : List ℕ). put_under frame row (as_flows frame os) modem sets (least_free_of row.sfids sfids)) (same_sfids frame os)
    ∙ under frame row os modem sets (least_free_of row.sfids (opened_sfids os))

-- no set depends on where a plant begins
same_flow : (frame : ℕ) (consts : ConstsFields) (r : Result _ _) → sets_of_flow (consts_from frame consts) r ≡ sets_of_flow consts r
same_flow frame consts (Err fault) = refl
same_flow frame consts (Ok stated) = refl

same_sets : (frame : ℕ) (consts : ConstsFields) (bytes : List ℕ) → sets_of_encoding consts bytes ≡ sets_of_encoding (consts_from frame consts) bytes
same_sets frame consts bytes = sym (same_flow frame consts (flow_of bytes))

all_put : (frame : ℕ) (consts : ConstsFields) (row : RowFields) (os : List (ℕ × OpenedFlow)) (provisions : List Provision)
    → put_provisions frame consts row (as_flows frame os) provisions ≡ as_flows frame (all_opened (consts_from frame consts) row os provisions)
unfolding put_provision
all_put frame consts row os [] = refl
all_put frame consts row os (p ∷ provisions) =
    ap (λ (sets : Option SetsFields). put_provisions frame consts row (put_opened frame row (as_flows frame os) p.modem sets) provisions) (same_sets frame consts p.encoding)
    ∙ (ap (λ (flows : List (ℕ × Flow)). put_provisions frame consts row flows provisions) (one_opened frame row os p.modem (sets_of_encoding (consts_from frame consts) p.encoding))
    ∙ all_put frame consts row (and_opened row os p.modem (sets_of_encoding (consts_from frame consts) p.encoding)) provisions)

pub provisions_open : (frame : ℕ) (consts : ConstsFields) (row : RowFields) → put_provisions frame consts row [] row.provisions ≡ (opened_before frame consts row).flows
provisions_open frame consts row = all_put frame consts row [] row.provisions
