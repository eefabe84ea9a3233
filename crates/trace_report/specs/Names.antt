-- The names of checks in a trace (implementation-specific).
use Rattle.std.specs.Prelude.{ℕ, List, codes}
use Rattle.trace_report.specs.declared.table.check.Check.{Check}
use Rattle.trace_report.specs.declared.table.check.Check.TheVariants as checks
use Rattle.trace_report.specs.declared.table.check.MessageCheck.{MessageCheck}
use Rattle.trace_report.specs.declared.table.check.MessageCheck.TheVariants as message_checks
use Rattle.trace_report.specs.declared.decision.Decision.{Decision}
use Rattle.trace_report.specs.declared.decision.Decision.TheVariants as decisions

-- the name of each check of a message
abbrev pub message_check_name : MessageCheck → List ℕ
message_check_name message_checks.Unread = codes "unread"
message_check_name message_checks.OfCmts = codes "transaction of the CMTS"
message_check_name message_checks.Repeated = codes "repeated"
message_check_name message_checks.KeptFull = codes "transactions full"
message_check_name message_checks.Faulty = codes "faulty"
message_check_name message_checks.Judged = codes "judged"

-- the name of each check of a request
abbrev pub check_name : Check → List ℕ
check_name checks.UnknownClass = codes "unknown class"
check_name checks.NoEncoding = codes "no encoding"
check_name checks.IdentifiersDiffer = codes "identifiers differ"
check_name checks.NotTogether = codes "not together"
check_name checks.NoIdentifier = codes "no identifier"
check_name checks.UnknownFlow = codes "unknown flow"
check_name checks.NotOwner = codes "not owner"
check_name checks.FlowWaits = codes "flow waits"
check_name checks.WrongSetType = codes "wrong set type"
check_name checks.NoParameterSet = codes "no parameter set"
check_name checks.ActiveNotWithin = codes "active not within admitted"
check_name checks.AdmittedNotWithin = codes "admitted not within provisioned"
check_name checks.FlowsFull = codes "flows full"
check_name checks.NoSfidFree = codes "no SFID free"
check_name checks.NoSidFree = codes "no SID free"
check_name checks.ElementsOver = codes "elements over"
check_name checks.MinislotsOver = codes "minislots over"
check_name checks.Accepted = codes "accepted"

-- the name of the check that decides
abbrev pub decision_name : Decision → List ℕ
decision_name (decisions.Message check) = message_check_name check
decision_name (decisions.Request check) = check_name check
