-- The table, check by check.
use Rattle.std.proofs.Common.{◌≡◌, List, [], ◌∷◌, ◌++◌}
use Rattle.trace_report.proofs.TableLemmas.Common.{AllByRecursion, All-from_recursion, Modem, Verdict, Operator, Said, CheckApplies, AnswersCheck, table, IsDecidedBy, Check, UnknownClass, NoEncoding, IdentifiersDiffer, NotTogether, NoIdentifier, UnknownFlow, NotOwner, FlowWaits, WrongSetType, NoParameterSet, ActiveNotWithin, AdmittedNotWithin, FlowsFull, NoSfidFree, NoSidFree, ElementsOver, MinislotsOver}

-- the checks of which encodings stand together, with that of the identifier, and up to those of the flow
abbrev pub of_shape : List Check
of_shape = UnknownClass ∷ NoEncoding ∷ IdentifiersDiffer ∷ NotTogether ∷ []

abbrev pub of_encodings : List Check
of_encodings = of_shape ++ NoIdentifier ∷ []

abbrev pub up_to_flow : List Check
up_to_flow = of_encodings ++ UnknownFlow ∷ NotOwner ∷ FlowWaits ∷ []

-- the checks of the sets, and those of the room
abbrev pub of_sets : List Check
of_sets = WrongSetType ∷ NoParameterSet ∷ ActiveNotWithin ∷ AdmittedNotWithin ∷ []

abbrev pub asking : List Check
asking = of_sets ++ FlowsFull ∷ NoSfidFree ∷ NoSidFree ∷ ElementsOver ∷ MinislotsOver ∷ []

abbrev pub up_to_sets : List Check
up_to_sets = up_to_flow ++ of_sets

abbrev pub up_to_room : List Check
up_to_room = up_to_flow ++ asking

module _ (op : Operator) (modem : Modem) (said : Said) where
  abbrev pub Fails : Check → Type 0
  Fails check = ¬ CheckApplies check op modem said

  abbrev pub IsDecided : Verdict → Type 0
  IsDecided answer = (check : Check) × IsDecidedBy op modem said check answer

  pub decided_by : (before : List Check) (check : Check) (after : List Check) (answer : Verdict)
      → table ≡ before ++ check ∷ after → AllByRecursion Fails before → CheckApplies check op modem said → AnswersCheck check op modem said answer → IsDecidedBy op modem said check answer
  decided_by before check after answer split none holds answers = record {
    first = record { before = before; after = after; split = split; none = All-from_recursion Fails before none; holds = holds };
    answers = answers;
  }

  pub decided : (before : List Check) (check : Check) (after : List Check) (answer : Verdict)
      → table ≡ before ++ check ∷ after → AllByRecursion Fails before → CheckApplies check op modem said → AnswersCheck check op modem said answer → IsDecided answer
  decided before check after answer split none holds answers = (check, decided_by before check after answer split none holds answers)
