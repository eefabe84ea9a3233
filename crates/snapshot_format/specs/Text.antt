-- The text of a snapshot (implementation-specific).
use Rattle.std.specs.Prelude.{ℕ, Bool, true, false, List, [], ◌∷◌, ◌++◌, length, Option, Some, None, codes}
use Rattle.std.specs.List.{flat_map}
use Rattle.std.specs.Fmt.{decimal}
use Rattle.hex.specs.Hex.{encode_upper}
use Rattle.dsx_messages.specs.declared.kind.Kind.{Kind}
use Rattle.dsx_messages.specs.declared.kind.Kind.TheVariants.{Dsa, Dsc, Dsd}
use Rattle.dsx_messages.specs.declared.modem.Modem.{Modem}
use Rattle.param_sets.specs.declared.param_set.ParamFields.{ParamFields}
use Rattle.param_sets.specs.declared.sets.SetsFields.{SetsFields}
use Rattle.param_sets.specs.Scheduling.{scheduling_number}
use Rattle.transactions.specs.declared.entry.KeptEntry.{KeptEntry}
use Rattle.transactions.specs.declared.entry.ResponseState.{ResponseState}
use Rattle.transactions.specs.declared.entry.ResponseState.TheVariants.{Waiting, Held}
use Rattle.flow_table.specs.declared.flow.Pending.{Pending}
use Rattle.operator_model.specs.declared.heard.Heard.{Heard}
use Rattle.operator_model.specs.declared.heard.Heard.TheVariants.{Message, Request}
use Rattle.operator_model.specs.declared.heard.Arrival.{Arrival}
use Rattle.operator_model.specs.declared.share.Share.{Share}
use Rattle.operator_model.specs.declared.share.NextShare.{NextShare}
use Rattle.snapshot_format.specs.declared.saved.SavedFlow.{SavedFlow}
use Rattle.snapshot_format.specs.declared.saved.SavedOperator.{SavedOperator}
use Rattle.snapshot_format.specs.declared.saved.Snapshot.{Snapshot}
use Rattle.snapshot_format.specs.Checksum.{adler_32, line_count}

-- ---- fields

-- an address, 12 upper-case hexadecimal digits
abbrev pub address_field : Modem → List ℕ
address_field modem = encode_upper modem.0

-- bytes in upper-case hexadecimal; `-` for none
abbrev pub bytes_text : List ℕ → List ℕ
bytes_text [] = codes "-"
bytes_text (b ∷ bytes) = encode_upper (b ∷ bytes)

-- the twelve parameters, a comma after each but the last
unfoldable pub params_text : ParamFields → List ℕ
params_text set =
    decimal (scheduling_number set.scheduling) ++ (codes "," ++ (decimal set.priority ++ (codes "," ++ (decimal set.max_sustained_rate ++ (codes "," ++ (decimal set.max_burst ++ (codes ","
    ++ (decimal set.min_reserved_rate ++ (codes "," ++ (decimal set.request_policy ++ (codes "," ++ (decimal set.polling_interval ++ (codes "," ++ (decimal set.poll_jitter ++ (codes ","
    ++ (decimal set.grant_size ++ (codes "," ++ (decimal set.grant_interval ++ (codes "," ++ (decimal set.grant_jitter ++ (codes "," ++ (decimal set.grants_per_interval ++ codes " "))))))))))))))))))))))

-- a parameter set, or `-` for the null set
unfoldable pub optional_set_text : Option ParamFields → List ℕ
optional_set_text None = codes "- "
optional_set_text (Some set) = codes "=" ++ params_text set

-- the provisioned, the admitted and the active set
unfoldable pub sets_text : SetsFields → List ℕ
sets_text sets = optional_set_text sets.provisioned ++ (optional_set_text sets.admitted ++ optional_set_text sets.active)

-- a SID, or `-` for none
unfoldable pub sid_text : Option ℕ → List ℕ
sid_text None = codes "- "
sid_text (Some sid) = codes "=" ++ (decimal sid ++ codes " ")

-- `1` for true, `0` for false
abbrev pub flag_text : Bool → List ℕ
flag_text false = codes "0 "
flag_text true = codes "1 "

-- the sets that wait, and whether the SID came with them; `-` where none wait
unfoldable pub pending_record : Option Pending → List ℕ
pending_record None = codes "- "
pending_record (Some pending) = codes "=" ++ (flag_text pending.sid_is_new ++ sets_text pending.sets)

-- ---- records

-- `flow sfid modem sid sets pending start backlog since`
unfoldable pub flow_text : SavedFlow → List ℕ
flow_text saved =
    codes "flow " ++ (decimal saved.sfid ++ (codes " " ++ (address_field saved.flow.modem ++ (codes " " ++ (sid_text saved.flow.sid ++ (sets_text saved.flow.sets ++ (pending_record saved.flow.pending
    ++ (decimal saved.flow.start ++ (codes " " ++ (decimal saved.flow.backlog ++ (codes " " ++ (decimal saved.flow.since ++ 10 ∷ []))))))))))))

-- the kind of a transaction: `dsa`, `dsc` or `dsd`
abbrev pub kind_text : Kind → List ℕ
kind_text Dsa = codes "dsa"
kind_text Dsc = codes "dsc"
kind_text Dsd = codes "dsd"

-- the state of a cached response: `waiting` or `held`
abbrev pub state_text : ResponseState → List ℕ
state_text Waiting = codes "waiting"
state_text Held = codes "held"

-- `response modem tid kind sfid state ticks resends reply`
unfoldable pub entry_text : KeptEntry → List ℕ
entry_text entry =
    codes "response " ++ (address_field entry.modem ++ (codes " " ++ (decimal entry.tid ++ (codes " " ++ (kind_text entry.kind ++ (codes " " ++ (decimal entry.sfid ++ (codes " " ++ (state_text entry.standing ++ (codes " "
    ++ (decimal entry.ticks_left ++ (codes " " ++ (decimal entry.resends_left ++ (codes " " ++ (bytes_text entry.reply ++ 10 ∷ [])))))))))))))))

-- `message modem bytes`, or `request modem sid minislots`
abbrev pub heard_text : Modem → Heard → List ℕ
heard_text modem (Message bytes) = codes "message " ++ (address_field modem ++ (codes " " ++ (bytes_text bytes ++ 10 ∷ [])))
heard_text modem (Request sid minislots) = codes "request " ++ (address_field modem ++ (codes " " ++ (decimal sid ++ (codes " " ++ (decimal minislots ++ 10 ∷ [])))))

-- an entry of the inbox, on a line
unfoldable pub arrival_text : Arrival → List ℕ
arrival_text arrival = heard_text arrival.modem arrival.heard

-- `start length budget`
unfoldable pub share_text : Share → List ℕ
share_text share = decimal share.slice.start ++ (codes " " ++ (decimal share.slice.length ++ (codes " " ++ (decimal share.budget ++ 10 ∷ []))))

-- `next =from start length budget`, or `next -`
unfoldable pub next_text : Option NextShare → List ℕ
next_text None = codes "next -" ++ 10 ∷ []
next_text (Some next) = codes "next =" ++ (decimal next.from ++ (codes " " ++ share_text next.share))

-- `operator name flows responses arrivals`
unfoldable pub head_text : SavedOperator → List ℕ
head_text saved =
    codes "operator " ++ (saved.name ++ (codes " " ++ (decimal (length saved.flows) ++ (codes " " ++ (decimal (length saved.kept) ++ (codes " " ++ (decimal (length saved.inbox) ++ 10 ∷ [])))))))

-- an operator: its head, its slice, the share that waits, its flows, its cached responses and its inbox
unfoldable pub operator_text : SavedOperator → List ℕ
operator_text saved =
    head_text saved ++ (codes "slice " ++ (share_text saved.share ++ (next_text saved.next ++ (flat_map flow_text saved.flows ++ (flat_map entry_text saved.kept ++ flat_map arrival_text saved.inbox)))))

-- ---- the whole

-- the format with its version and the length of the plant file; that file; a line of dashes; the frame, and how many operators there are
unfoldable pub opening_text : Snapshot → List ℕ
opening_text saved =
    codes "melfjits-snapshot 1 " ++ (decimal (length saved.plant) ++ (10 ∷ (saved.plant ++ (codes "---" ++ (10 ∷ (codes "frame " ++ (decimal saved.frame ++ (codes " " ++ (decimal (length saved.operators) ++ 10 ∷ [])))))))))

-- all lines but the last
unfoldable pub body_text : Snapshot → List ℕ
body_text saved = opening_text saved ++ flat_map operator_text saved.operators

-- how many lines are before the last one, and the checksum of their text
unfoldable pub closing_line : List ℕ → List ℕ
closing_line body = codes "end " ++ (decimal (line_count body) ++ (codes " " ++ (decimal (adler_32 body) ++ 10 ∷ [])))

-- the whole text of a snapshot: its body, and the closing line with the number of lines and the checksum
abbrev pub text_of_snapshot : Snapshot → List ℕ
text_of_snapshot saved = body_text saved ++ closing_line (body_text saved)
