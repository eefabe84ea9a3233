-- The table of checks: the first that holds decides (CM-SP-MULPIv3.1, 11.2.2 and 11.2.3; the order is implementation-specific).
-- The checks are written from the words of docs/RULES.md. The machine has the same checks as a cascade in `operator_model`, so a slip in
-- one of the two is noticed.
use Rattle.std.specs.Prelude.{List, [], ◌∷◌}
use Rattle.dsx_messages.specs.declared.modem.Modem.{Modem}
use Rattle.operator_model.specs.declared.verdict.Verdict.{Verdict}
use Rattle.operator_model.specs.State.{Operator}
use Rattle.lists.specs.First.{IsFirst}
use Rattle.trace_report.specs.table.Said.{Said}
use Rattle.trace_report.specs.table.Holding.{CheckApplies}
use Rattle.trace_report.specs.table.Answering.{AnswersCheck}
use Rattle.trace_report.specs.declared.table.check.Check.{Check}
use Rattle.trace_report.specs.declared.table.check.Check.TheVariants.{UnknownClass, NoEncoding, IdentifiersDiffer, NotTogether, NoIdentifier, UnknownFlow, NotOwner, FlowWaits, WrongSetType, NoParameterSet, ActiveNotWithin, AdmittedNotWithin, FlowsFull, NoSfidFree, NoSidFree, ElementsOver, MinislotsOver, Accepted}

-- the checks 5 to 22 of docs/RULES.md, in their order
abbrev pub table : List Check
table =
    UnknownClass ∷ NoEncoding ∷ IdentifiersDiffer ∷ NotTogether ∷ NoIdentifier ∷ UnknownFlow ∷ NotOwner ∷ FlowWaits
    ∷ WrongSetType
    ∷ NoParameterSet ∷ ActiveNotWithin ∷ AdmittedNotWithin ∷ FlowsFull ∷ NoSfidFree ∷ NoSidFree ∷ ElementsOver
    ∷ MinislotsOver ∷ Accepted ∷ []

-- this check of a request applies, none before it does, and this is its answer
pub record IsDecidedBy (op : Operator) (modem : Modem) (said : Said) (check : Check) (answer : Verdict) : Type 0 where
  pub first : IsFirst (λ c. CheckApplies c op modem said) table check
  pub answers : AnswersCheck check op modem said answer
