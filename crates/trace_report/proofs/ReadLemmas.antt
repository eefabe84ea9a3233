-- What a reader of a trace finds.
use Rattle.std.proofs.Common.{◌≡◌, ◌≢◌, ◌==◌, ℕ, ◌+◌, ◌-◌, ◌^◌, ◌<◌, ◌≤◌, Bool, true, false, List, [], ◌∷◌, ◌++◌, arith, Option, Some, None, refl, sym, ap, subst, ◌∙◌, append_assoc, append-nil, codes}
use Rattle.trace_report.proofs.Common.{filter, decimal, AllByRecursion, slice_get_within, HasNoBreak, Decision, is_check_line, IsOtherLine, with_ends, HasNoCheckLine, check_lines, check_line, IsDecisionText, IsTraceText}
use Rattle.trace_report.specs.declared.table.check.Check.{Check}
use Rattle.trace_report.specs.declared.table.check.Check.TheVariants as checks
use Rattle.trace_report.specs.declared.table.check.MessageCheck.{MessageCheck}
use Rattle.trace_report.specs.declared.table.check.MessageCheck.TheVariants as message_checks
use Rattle.trace_report.specs.table.Table.{table}
use Rattle.trace_report.specs.table.Messages.{message_table}
use Rattle.line_service.specs.script.Lines.{parts_from, parts_of}
use Rattle.trace_report.specs.declared.decision.Decision.TheVariants as decisions
use Rattle.trace_report.specs.Names.{message_check_name, check_name}
use Rattle.trace_report.specs.Reading.{AreDecisionLines, TraceIsRead}
use Rattle.trace_report.proofs.LineLemmas.{line_first}
use Rattle.trace_report.proofs.RemarkLemmas.{no_break_both, no_break_decimal, no_break_of}
use Rattle.trace_report.proofs.TextLemmas.{text_remark}

-- ---- the lines of a text

taken : (line : List ℕ) (lines : List (List ℕ)) (t : Bool) → is_check_line line ≡ t → filter is_check_line (line ∷ lines) ≡ elim t [ true ↦ line ∷ filter is_check_line lines | false ↦ filter is_check_line lines ]
taken line lines true e = rw e refl
taken line lines false e = rw e refl

-- one line more, and what is taken of it
line_read : (line rest : List ℕ) (t : Bool) → HasNoBreak line → is_check_line line ≡ t
    → check_lines ((line ++ 10 ∷ []) ++ rest) ≡ elim t [ true ↦ line ∷ check_lines rest | false ↦ check_lines rest ]
unfolding parts_of
line_read line rest t none is =
    ap (λ (bytes : List ℕ). filter is_check_line (parts_from 10 [] bytes)) (append_assoc line (10 ∷ []) rest)
    ∙ ap (filter is_check_line) (line_first [] line rest none)
    ∙ taken line (parts_from 10 [] rest) t is

-- of lines that are not those of checks nothing is taken
others_read : (lines : List (List ℕ)) (rest : List ℕ) → AllByRecursion IsOtherLine lines → check_lines (with_ends lines ++ rest) ≡ check_lines rest
others_read [] rest others = refl
others_read (line ∷ lines) rest others =
    ap check_lines (append_assoc (line ++ 10 ∷ []) (with_ends lines) rest)
    ∙ line_read line (with_ends lines ++ rest) false others.0.one others.0.no_check
    ∙ others_read lines rest others.1

remark_read : (remark rest : List ℕ) → HasNoCheckLine remark → check_lines (remark ++ rest) ≡ check_lines rest
remark_read remark rest none = ap (λ (x : List ℕ). check_lines (x ++ rest)) none.remark_is ∙ others_read none.lines rest none.others

-- ---- the line of a decision

message_name : (check : MessageCheck) → HasNoBreak (message_check_name check)
message_name message_checks.Unread = no_break_of (codes "unread") refl
message_name message_checks.OfCmts = no_break_of (codes "transaction of the CMTS") refl
message_name message_checks.Repeated = no_break_of (codes "repeated") refl
message_name message_checks.KeptFull = no_break_of (codes "transactions full") refl
message_name message_checks.Faulty = no_break_of (codes "faulty") refl
message_name message_checks.Judged = no_break_of (codes "judged") refl

request_name : (check : Check) → HasNoBreak (check_name check)
request_name checks.UnknownClass = no_break_of (codes "unknown class") refl
request_name checks.NoEncoding = no_break_of (codes "no encoding") refl
request_name checks.IdentifiersDiffer = no_break_of (codes "identifiers differ") refl
request_name checks.NotTogether = no_break_of (codes "not together") refl
request_name checks.NoIdentifier = no_break_of (codes "no identifier") refl
request_name checks.UnknownFlow = no_break_of (codes "unknown flow") refl
request_name checks.NotOwner = no_break_of (codes "not owner") refl
request_name checks.FlowWaits = no_break_of (codes "flow waits") refl
request_name checks.WrongSetType = no_break_of (codes "wrong set type") refl
request_name checks.NoParameterSet = no_break_of (codes "no parameter set") refl
request_name checks.ActiveNotWithin = no_break_of (codes "active not within admitted") refl
request_name checks.AdmittedNotWithin = no_break_of (codes "admitted not within provisioned") refl
request_name checks.FlowsFull = no_break_of (codes "flows full") refl
request_name checks.NoSfidFree = no_break_of (codes "no SFID free") refl
request_name checks.NoSidFree = no_break_of (codes "no SID free") refl
request_name checks.ElementsOver = no_break_of (codes "elements over") refl
request_name checks.MinislotsOver = no_break_of (codes "minislots over") refl
request_name checks.Accepted = no_break_of (codes "accepted") refl

-- a line with its end, as it is read
abbrev IsCheckText : List ℕ → Type 0
IsCheckText text = (line : List ℕ) × (text ≡ line ++ 10 ∷ []) × HasNoBreak line × (is_check_line line ≡ true)

numbered : (number : ℕ) (name : List ℕ) → number < 2 ^ 64 → HasNoBreak name → IsCheckText (check_line number name)
numbered number name small none = (
  codes "  check " ++ (decimal number ++ (codes ", " ++ name)),
  ap (λ (t : List ℕ). codes "  check " ++ t) (sym (append_assoc (decimal number) (codes ", " ++ name) (10 ∷ []))),
  no_break_both (codes "  check ") (decimal number ++ (codes ", " ++ name)) (no_break_of (codes "  check ") refl)
      (no_break_both (decimal number) (codes ", " ++ name) (no_break_decimal number small) (no_break_both (codes ", ") name (no_break_of (codes ", ") refl) none)),
  refl,
)

decision_text : (decision : Decision) (text : List ℕ) → IsDecisionText (Some decision) text → IsCheckText text
decision_text (decisions.Message check) text told =
    let few : told.0 < 6 = slice_get_within message_table told.0 check told.1 in
    subst IsCheckText (sym told.2) (numbered told.0 (message_check_name check) (omega (arith, few)) (message_name check))
decision_text (decisions.Request check) text told =
    let few : told.0 - 5 < 18 = slice_get_within table (told.0 - 5) check told.2 in
    subst IsCheckText (sym told.3) (numbered told.0 (check_name check) (omega (arith, few)) (request_name check))

-- ---- the whole trace

read : (decisions : List (Option Decision)) (text : List ℕ) → IsTraceText decisions text → AreDecisionLines decisions (check_lines text)
unfolding parts_of
read [] text is = ap check_lines (sym (append-nil text)) ∙ remark_read text [] is
read (None ∷ more) text (remark, line, rest, same, none, told, others) =
    let left : check_lines text ≡ check_lines rest =
    ap check_lines (same ∙ ap (λ (l : List ℕ). remark ++ (l ++ rest)) told) ∙ remark_read remark rest none in
    subst (AreDecisionLines more) (sym left) (read more rest others)
read (Some decision ∷ more) text (remark, line, rest, same, none, told, others) =
    let own = decision_text decision line told in
    let left : check_lines text ≡ own.0 ∷ check_lines rest =
    ap check_lines (same ∙ ap (λ (l : List ℕ). remark ++ (l ++ rest)) own.1)
    ∙ (remark_read remark ((own.0 ++ 10 ∷ []) ++ rest) none ∙ line_read own.0 rest true own.2 own.3) in
    subst (AreDecisionLines (Some decision ∷ more)) (sym left) (subst (IsDecisionText (Some decision)) own.1 told, read more rest others)

pub trace_read : TraceIsRead
trace_read decisions text last is none = read decisions (text ++ last) (text_remark decisions text last is none)
