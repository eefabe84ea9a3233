-- The first check whose test is true is the one that decides.
use Rattle.std.proofs.Common.{◌≡◌, Bool, true, false, List, [], ◌∷◌, ◌++◌, Option, Some, unwrap_or, refl, sym, ap, ◌∙◌, subst}
use Rattle.trace_report.proofs.ChecksLemmas.Common.{find, MatchOption, if◌then◌else◌, AllByRecursion, true≢false, Modem, Operator, IsSound, IsFirst, Said, said_by, CheckApplies, Check, find-first, first_one, test_of}
use Rattle.dsx_messages.specs.declared.message.Request.{Request}
use Rattle.operator_model.specs.Verdict.{verdict}
use Rattle.trace_report.specs.table.Table.{table, IsDecidedBy}
use Rattle.trace_report.specs.declared.table.check.Check.TheVariants as checks
use Rattle.trace_report.proofs.TableLemmas.RequestLemmas.{request-decided}
use Rattle.trace_report.proofs.ChecksLemmas.HoldLemmas.{right}

-- the last of a list is found where it passes and no other does
last_found : (p : Check → Bool) (checks : List Check) (last : Check) → p last ≡ true → (o : Option Check) → o ≡ find p checks → find p (checks ++ last ∷ []) ≡ Some (unwrap_or o last)
last_found p [] last passes o is = rw passes (ap (λ (x : Option Check). Some (unwrap_or x last)) (sym is))
last_found p (check ∷ checks) last passes o is = by (last_found p checks last passes o) (p check) refl
  where
    by : (o ≡ find p checks → find p (checks ++ last ∷ []) ≡ Some (unwrap_or o last)) → (b : Bool) → p check ≡ b → find p (check ∷ checks ++ last ∷ []) ≡ Some (unwrap_or o last)
    by later true here = rw here (ap (λ (x : Option Check). Some (unwrap_or x last)) (sym (is ∙ ap (λ (c : Bool). if c then Some check else find p checks) here)))
    by later false not_here = rw not_here (later (is ∙ ap (λ (c : Bool). if c then Some check else find p checks) not_here))

-- the checks but the last
abbrev pub but_last : List Check
but_last =
    checks.UnknownClass ∷ checks.NoEncoding ∷ checks.IdentifiersDiffer ∷ checks.NotTogether ∷ checks.NoIdentifier ∷ checks.UnknownFlow ∷ checks.NotOwner ∷ checks.FlowWaits
    ∷ checks.WrongSetType ∷ checks.NoParameterSet ∷ checks.ActiveNotWithin ∷ checks.AdmittedNotWithin ∷ checks.FlowsFull ∷ checks.NoSfidFree ∷ checks.NoSidFree ∷ checks.ElementsOver
    ∷ checks.MinislotsOver ∷ []

module _ (op : Operator) (modem : Modem) (said : Said) where
  pub found_at_last : (o : Option Check) → o ≡ find (test_of op modem said) but_last → find (test_of op modem said) table ≡ Some (unwrap_or o checks.Accepted)
  found_at_last o is = last_found (test_of op modem said) but_last checks.Accepted refl o is

  abbrev pub holds_so : Check → Type 0
  holds_so check = CheckApplies check op modem said

  abbrev pub test : Check → Bool
  test check = test_of op modem said check

  pub first_found : (check : Check) → find test table ≡ Some check → IsFirst holds_so table check
  first_found check is =
      subst (λ (o : Option Check). MatchOption o (AllByRecursion (λ c. ¬ holds_so c) table) (IsFirst holds_so table)) is
      (find-first holds_so test (λ c is_true. (right op modem said c).0 is_true) (λ c is_false holds. true≢false (sym ((right op modem said c).1 holds) ∙ is_false)) table)

pub found_decides : (op : Operator) (modem : Modem) (request : Request) → IsSound op → (check : Check) → find (test op modem (said_by request)) table ≡ Some check
    → IsDecidedBy op modem (said_by request) check (verdict op modem request)
found_decides op modem request sound check is =
    let decided = request-decided op modem request sound in
    let same : decided.0 ≡ check = first_one (holds_so op modem (said_by request)) table decided.0 check decided.1.first (first_found op modem (said_by request) check is) in
    subst (λ (c : Check). IsDecidedBy op modem (said_by request) c (verdict op modem request)) same decided.1
