-- In the text of a snapshot no line of three dashes is but the one after the plant file.
use Rattle.std.proofs.Common.{◌≡◌, ◌≢◌, ℕ, zero, suc, ◌+◌, ◌%◌, ◌<◌, ◌^◌, ◌&&◌, Bool, true, false, List, [], ◌∷◌, ◌++◌, length, Option, Some, None, refl, sym, ap, subst, ◌∙◌, arith, rules, codes, append_assoc}
use Rattle.restart_laws.proofs.Common.{IfSome, slice_index, flat_map, list_all, Kind, Dsa, Dsc, Dsd, Modem, SetsFields, KeptEntry, Pending, Heard, Arrival, Share, NextShare, SavedFlow, SavedOperator, Snapshot, IsSet, AreSets, IsPending, IsSavedFlow, IsSavedEntry, IsHeard, IsSavedArrival, IsSavedShare, IsSavedNext, IsSavedOperator, IsSnapshot}
use Rattle.std.specs.Fmt.{decimal}
use Rattle.std.specs.Char.{digit_value, is_ascii_alphanumeric}
use Rattle.std.specs.Str.Parse.{AllDigits}
use Rattle.std.proofs.lemmas.Fmt.{decimal_is_IsNumeral}
use Rattle.hex.specs.Hex.{encode_upper, encode_with, upper_digits}
use Rattle.param_sets.specs.declared.scheduling.Scheduling.{Scheduling}
use Rattle.param_sets.specs.declared.scheduling.Scheduling.TheVariants.{BestEffort, NonRealTimePolling, RealTimePolling, UnsolicitedGrant}
use Rattle.param_sets.specs.declared.param_set.ParamFields.{ParamFields}
use Rattle.param_sets.specs.Scheduling.{scheduling_number}
use Rattle.transactions.specs.declared.entry.ResponseState.{ResponseState}
use Rattle.transactions.specs.declared.entry.ResponseState.TheVariants.{Waiting, Held}
use Rattle.operator_model.specs.declared.heard.Heard.TheVariants.{Message, Request}
use Rattle.snapshot_format.specs.Checksum.{adler_after, adler_32, line_count}
use Rattle.snapshot_format.specs.Text.{address_field, bytes_text, params_text, optional_set_text, sets_text, sid_text, flag_text, pending_record, flow_text, kind_text, state_text, entry_text, heard_text, arrival_text, share_text, next_text, head_text, operator_text, opening_text, body_text, closing_line, text_of_snapshot}
use Rattle.restart_laws.proofs.BarLemmas.{bar, IsPassed, IsRestOfLine, HasNoBreak, IsBeforeBar, line_end, goes_on, line_passed, both_passed, each_passed, none_after, passed_before, before_more}

-- ---- fields

digits_none : (digits : List ℕ) → AllDigits 10 digits → HasNoBreak digits
digits_none [] all = tt
digits_none (d ∷ digits) all = ((λ e. let same : digit_value d ≡ digit_value 10 = ap digit_value e in let lt = all.0 in omega (arith, same, lt)), digits_none digits all.1)

wide : (n : ℕ) → n < 2 ^ 64 → HasNoBreak (decimal n)
wide n small = digits_none (decimal n) (decimal_is_IsNumeral n small).0.1

long : (n : ℕ) → n < 2 ^ 32 → HasNoBreak (decimal n)
long n small = wide n (omega (arith, small))

short : (n : ℕ) → n < 2 ^ 16 → HasNoBreak (decimal n)
short n small = wide n (omega (arith, small))

byte : (n : ℕ) → n < 2 ^ 8 → HasNoBreak (decimal n)
byte n small = wide n (omega (arith, small))

none_at : (bytes : List ℕ) → HasNoBreak bytes → (i : ℕ) → slice_index bytes i ≢ 10
none_at [] none i = λ e. omega (arith, e)
none_at (b ∷ bytes) none zero = none.0
none_at (b ∷ bytes) none (suc i) = none_at bytes none.1 i

hex_digits : HasNoBreak upper_digits
hex_digits = search rules

hex : (bytes : List ℕ) → HasNoBreak (encode_upper bytes)
unfolding encode_with
hex [] = tt
hex (b ∷ bytes) = (none_at upper_digits hex_digits _, (none_at upper_digits hex_digits _, hex bytes))

bytes_none : (bytes : List ℕ) → HasNoBreak (bytes_text bytes)
bytes_none [] = search rules
bytes_none (b ∷ bytes) = hex (b ∷ bytes)

letters : (name : List ℕ) → list_all is_ascii_alphanumeric name ≡ true → HasNoBreak name
letters [] all = tt
letters (c ∷ name) all = by (is_ascii_alphanumeric c) refl all (letters name)
  where
    by : (t : Bool) → is_ascii_alphanumeric c ≡ t → (t && list_all is_ascii_alphanumeric name) ≡ true → (list_all is_ascii_alphanumeric name ≡ true → HasNoBreak name) → HasNoBreak (c ∷ name)
    by true e h more = ((λ same. let letter : false ≡ true = ap is_ascii_alphanumeric (sym same) ∙ e in cc), more h)
    by false e h more = absurd cc

space : HasNoBreak (codes " ")
space = search rules

comma : HasNoBreak (codes ",")
comma = search rules

-- ---- sets

kind_none : (s : Scheduling) → scheduling_number s < 2 ^ 8
kind_none BestEffort = omega arith
kind_none NonRealTimePolling = omega arith
kind_none RealTimePolling = omega arith
kind_none UnsolicitedGrant = omega arith

params_none : (set : ParamFields) → IsSet set → HasNoBreak (params_text set)
unfolding params_text
params_none set is =
    none_after (decimal (scheduling_number set.scheduling)) _ (byte (scheduling_number set.scheduling) (kind_none set.scheduling)) (none_after (codes ",") _ comma
    (none_after (decimal set.priority) _ (byte set.priority is.priority) (none_after (codes ",") _ comma
    (none_after (decimal set.max_sustained_rate) _ (long set.max_sustained_rate is.max_sustained_rate) (none_after (codes ",") _ comma
    (none_after (decimal set.max_burst) _ (long set.max_burst is.max_burst) (none_after (codes ",") _ comma
    (none_after (decimal set.min_reserved_rate) _ (long set.min_reserved_rate is.min_reserved_rate) (none_after (codes ",") _ comma
    (none_after (decimal set.request_policy) _ (long set.request_policy is.request_policy) (none_after (codes ",") _ comma
    (none_after (decimal set.polling_interval) _ (long set.polling_interval is.polling_interval) (none_after (codes ",") _ comma
    (none_after (decimal set.poll_jitter) _ (long set.poll_jitter is.poll_jitter) (none_after (codes ",") _ comma
    (none_after (decimal set.grant_size) _ (short set.grant_size is.grant_size) (none_after (codes ",") _ comma
    (none_after (decimal set.grant_interval) _ (long set.grant_interval is.grant_interval) (none_after (codes ",") _ comma
    (none_after (decimal set.grant_jitter) _ (long set.grant_jitter is.grant_jitter) (none_after (codes ",") _ comma
    (none_after (decimal set.grants_per_interval) (codes " ") (byte set.grants_per_interval is.grants_per_interval) space))))))))))))))))))))))

set_none : (set : Option ParamFields) → IfSome set IsSet → HasNoBreak (optional_set_text set)
unfolding optional_set_text
set_none None is = search rules
set_none (Some set) is = ((λ e. omega (arith, e)), params_none set is)

sets_none : (sets : SetsFields) → AreSets sets → HasNoBreak (sets_text sets)
unfolding sets_text
sets_none sets are =
    none_after (optional_set_text sets.provisioned) _ (set_none sets.provisioned are.provisioned)
    (none_after (optional_set_text sets.admitted) _ (set_none sets.admitted are.admitted) (set_none sets.active are.active))

-- ---- a flow

sid_none : (sid : Option ℕ) → IfSome sid (λ n. n < 2 ^ 16) → HasNoBreak (sid_text sid)
unfolding sid_text
sid_none None is = search rules
sid_none (Some sid) is = ((λ e. omega (arith, e)), none_after (decimal sid) (codes " ") (short sid is) space)

flag_none : (flag : Bool) → HasNoBreak (flag_text flag)
flag_none false = search rules
flag_none true = search rules

pending_none : (pending : Option Pending) → IfSome pending IsPending → HasNoBreak (pending_record pending)
unfolding pending_record
pending_none None is = search rules
pending_none (Some pending) is = ((λ e. omega (arith, e)), none_after (flag_text pending.sid_is_new) _ (flag_none pending.sid_is_new) (sets_none pending.sets is))

flow_passed : (saved : SavedFlow) → IsSavedFlow saved → IsPassed (flow_text saved)
unfolding flow_text
flow_passed saved is =
    line_passed 102 (λ e. omega (arith, e)) (λ e. omega (arith, e)) (goes_on (codes "low ") (search rules)
    (goes_on (decimal saved.sfid) (long saved.sfid is.sfid) (goes_on (codes " ") space
    (goes_on (address_field saved.flow.modem) (hex saved.flow.modem.0) (goes_on (codes " ") space
    (goes_on (sid_text saved.flow.sid) (sid_none saved.flow.sid is.sid)
    (goes_on (sets_text saved.flow.sets) (sets_none saved.flow.sets is.sets)
    (goes_on (pending_record saved.flow.pending) (pending_none saved.flow.pending is.pending)
    (goes_on (decimal saved.flow.start) (long saved.flow.start is.start) (goes_on (codes " ") space
    (goes_on (decimal saved.flow.backlog) (short saved.flow.backlog is.backlog) (goes_on (codes " ") space
    (goes_on (decimal saved.flow.since) (long saved.flow.since is.since) line_end)))))))))))))

-- ---- a cached response, and what was received

kind_name : (kind : Kind) → HasNoBreak (kind_text kind)
kind_name Dsa = search rules
kind_name Dsc = search rules
kind_name Dsd = search rules

state_name : (state : ResponseState) → HasNoBreak (state_text state)
state_name Waiting = search rules
state_name Held = search rules

entry_passed : (entry : KeptEntry) → IsSavedEntry entry → IsPassed (entry_text entry)
unfolding entry_text
entry_passed entry is =
    line_passed 114 (λ e. omega (arith, e)) (λ e. omega (arith, e)) (goes_on (codes "esponse ") (search rules)
    (goes_on (address_field entry.modem) (hex entry.modem.0) (goes_on (codes " ") space
    (goes_on (decimal entry.tid) (short entry.tid is.tid) (goes_on (codes " ") space
    (goes_on (kind_text entry.kind) (kind_name entry.kind) (goes_on (codes " ") space
    (goes_on (decimal entry.sfid) (long entry.sfid is.sfid) (goes_on (codes " ") space
    (goes_on (state_text entry.standing) (state_name entry.standing) (goes_on (codes " ") space
    (goes_on (decimal entry.ticks_left) (short entry.ticks_left is.ticks) (goes_on (codes " ") space
    (goes_on (decimal entry.resends_left) (byte entry.resends_left is.resends) (goes_on (codes " ") space
    (goes_on (bytes_text entry.reply) (bytes_none entry.reply) line_end))))))))))))))))

heard_passed : (modem : Modem) (heard : Heard) → IsHeard heard → IsPassed (heard_text modem heard)
heard_passed modem (Message bytes) is =
    line_passed 109 (λ e. omega (arith, e)) (λ e. omega (arith, e)) (goes_on (codes "essage ") (search rules)
    (goes_on (address_field modem) (hex modem.0) (goes_on (codes " ") space (goes_on (bytes_text bytes) (bytes_none bytes) line_end))))
heard_passed modem (Request sid minislots) is =
    line_passed 114 (λ e. omega (arith, e)) (λ e. omega (arith, e)) (goes_on (codes "equest ") (search rules)
    (goes_on (address_field modem) (hex modem.0) (goes_on (codes " ") space
    (goes_on (decimal sid) (short sid is.0) (goes_on (codes " ") space (goes_on (decimal minislots) (short minislots is.1) line_end))))))

arrival_passed : (arrival : Arrival) → IsSavedArrival arrival → IsPassed (arrival_text arrival)
unfolding arrival_text
arrival_passed arrival is = heard_passed arrival.modem arrival.heard is.heard

-- ---- an operator

share_rest : (share : Share) → IsSavedShare share → IsRestOfLine (share_text share)
unfolding share_text
share_rest share is =
    let some = is.slice.some in
    goes_on (decimal share.slice.start) (short share.slice.start (omega (arith, is.slice.in_range))) (goes_on (codes " ") space
    (goes_on (decimal share.slice.length) (short share.slice.length (omega (arith, is.slice.in_range))) (goes_on (codes " ") space
    (goes_on (decimal share.budget) (short share.budget is.budget) line_end))))

slice_passed : (share : Share) → IsSavedShare share → IsPassed (codes "slice " ++ share_text share)
slice_passed share is = line_passed 115 (λ e. omega (arith, e)) (λ e. omega (arith, e)) (goes_on (codes "lice ") (search rules) (share_rest share is))

next_passed : (next : Option NextShare) → IfSome next IsSavedNext → IsPassed (next_text next)
unfolding next_text
next_passed None is = line_passed 110 (λ e. omega (arith, e)) (λ e. omega (arith, e)) (goes_on (codes "ext -") (search rules) line_end)
next_passed (Some next) is =
    line_passed 110 (λ e. omega (arith, e)) (λ e. omega (arith, e)) (goes_on (codes "ext =") (search rules)
    (goes_on (decimal next.from) (long next.from is.from) (goes_on (codes " ") space (share_rest next.share is.share))))

head_passed : (saved : SavedOperator) → IsSavedOperator saved → IsPassed (head_text saved)
unfolding head_text
head_passed saved is =
    line_passed 111 (λ e. omega (arith, e)) (λ e. omega (arith, e)) (goes_on (codes "perator ") (search rules)
    (goes_on saved.name (letters saved.name is.name.letters) (goes_on (codes " ") space
    (goes_on (decimal (length saved.flows)) (short (length saved.flows) is.few_flows) (goes_on (codes " ") space
    (goes_on (decimal (length saved.kept)) (short (length saved.kept) is.few_kept) (goes_on (codes " ") space
    (goes_on (decimal (length saved.inbox)) (short (length saved.inbox) is.few_heard) line_end))))))))

operator_passed : (saved : SavedOperator) → IsSavedOperator saved → IsPassed (operator_text saved)
unfolding operator_text
operator_passed saved is =
    both_passed (head_text saved) (codes "slice " ++ (share_text saved.share ++ (next_text saved.next ++ (flat_map flow_text saved.flows ++ (flat_map entry_text saved.kept ++ flat_map arrival_text saved.inbox))))) (head_passed saved is)
    (both_passed (codes "slice " ++ share_text saved.share) (next_text saved.next ++ (flat_map flow_text saved.flows ++ (flat_map entry_text saved.kept ++ flat_map arrival_text saved.inbox))) (slice_passed saved.share is.share)
    (both_passed (next_text saved.next) (flat_map flow_text saved.flows ++ (flat_map entry_text saved.kept ++ flat_map arrival_text saved.inbox)) (next_passed saved.next is.next)
    (both_passed (flat_map flow_text saved.flows) (flat_map entry_text saved.kept ++ flat_map arrival_text saved.inbox) (each_passed IsSavedFlow flow_text flow_passed saved.flows is.flows)
    (both_passed (flat_map entry_text saved.kept) (flat_map arrival_text saved.inbox) (each_passed IsSavedEntry entry_text entry_passed saved.kept is.kept)
    (each_passed IsSavedArrival arrival_text arrival_passed saved.inbox is.inbox)))))

-- ---- the whole

adler_small : (low high : ℕ) (bytes : List ℕ) → low < 65521 → high < 65521 → adler_after low high bytes < 2 ^ 32
adler_small low high [] a b = omega arith
adler_small low high (x ∷ bytes) a b = adler_small ((low + x) % 65521) ((high + (low + x) % 65521) % 65521) bytes (omega arith) (omega arith)

sum_small : (bytes : List ℕ) → adler_32 bytes < 2 ^ 32
unfolding adler_32
sum_small bytes = adler_small 1 0 bytes (omega arith) (omega arith)

closing_passed : (body : List ℕ) → line_count body < 2 ^ 32 → IsPassed (closing_line body)
unfolding closing_line
closing_passed body few =
    line_passed 101 (λ e. omega (arith, e)) (λ e. omega (arith, e)) (goes_on (codes "nd ") (search rules)
    (goes_on (decimal (line_count body)) (long (line_count body) few) (goes_on (codes " ") space
    (goes_on (decimal (adler_32 body)) (long (adler_32 body) (sum_small body)) line_end))))

-- the line with the version and the length of the plant file
abbrev pub version_line : Snapshot → List ℕ
version_line saved = codes "melfjits-snapshot 1 " ++ (decimal (length saved.plant) ++ 10 ∷ [])

-- all lines after the plant file and its line of dashes
abbrev pub state_lines : Snapshot → List ℕ
state_lines saved =
    codes "frame " ++ (decimal saved.frame ++ (codes " " ++ (decimal (length saved.operators) ++ (10 ∷ (flat_map operator_text saved.operators ++ closing_line (body_text saved))))))

version_passed : (saved : Snapshot) → IsSnapshot saved → IsPassed (version_line saved)
version_passed saved is =
    line_passed 109 (λ e. omega (arith, e)) (λ e. omega (arith, e)) (goes_on (codes "elfjits-snapshot 1 ") (search rules)
    (goes_on (decimal (length saved.plant)) (long (length saved.plant) is.plant) line_end))

frame_passed : (saved : Snapshot) → IsSnapshot saved → IsPassed (codes "frame " ++ (decimal saved.frame ++ (codes " " ++ (decimal (length saved.operators) ++ 10 ∷ []))))
frame_passed saved is =
    line_passed 102 (λ e. omega (arith, e)) (λ e. omega (arith, e)) (goes_on (codes "rame ") (search rules)
    (goes_on (decimal saved.frame) (long saved.frame is.frame) (goes_on (codes " ") space
    (goes_on (decimal (length saved.operators)) (short (length saved.operators) is.few) line_end))))

pub states_before : (saved : Snapshot) → IsSnapshot saved → IsBeforeBar (state_lines saved)
states_before saved is =
    let whole : (codes "frame " ++ (decimal saved.frame ++ (codes " " ++ (decimal (length saved.operators) ++ 10 ∷ [])))) ++ (flat_map operator_text saved.operators ++ closing_line (body_text saved)) ≡ state_lines saved = simp append_assoc in
    subst IsBeforeBar whole
    (passed_before ((codes "frame " ++ (decimal saved.frame ++ (codes " " ++ (decimal (length saved.operators) ++ 10 ∷ [])))) ++ (flat_map operator_text saved.operators ++ closing_line (body_text saved)))
    (both_passed (codes "frame " ++ (decimal saved.frame ++ (codes " " ++ (decimal (length saved.operators) ++ 10 ∷ [])))) (flat_map operator_text saved.operators ++ closing_line (body_text saved)) (frame_passed saved is)
    (both_passed (flat_map operator_text saved.operators) (closing_line (body_text saved)) (each_passed IsSavedOperator operator_text operator_passed saved.operators is.operators)
    (closing_passed (body_text saved) is.lines))))

pub front_before : (saved : Snapshot) → IsSnapshot saved → IsBeforeBar saved.plant → IsBeforeBar (version_line saved ++ saved.plant)
front_before saved is before = before_more (version_line saved) saved.plant (version_passed saved is) before

-- the text is these two with the line of dashes between them
pub text_parts : (saved : Snapshot) → text_of_snapshot saved ≡ (version_line saved ++ saved.plant) ++ bar (state_lines saved)
unfolding body_text opening_text
text_parts saved = simp append_assoc
