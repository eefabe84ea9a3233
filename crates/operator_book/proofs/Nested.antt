-- What `Sets` refuses is what the checks refuse.
use Rattle.std.proofs.Common.{◌≡◌, ℕ, Option, ap, subst}
use Rattle.operator_book.proofs.Common.{Some, None, Result, Ok, Err, FlowFields, RejectAuthorizationFailure, ParamFields, SetsFields, Refusal}
use Rattle.dsx_messages.specs.declared.reply.ReplyFields.{ReplyFields}
use Rattle.param_sets.specs.Sets.{sets_unless}
use Rattle.operator_model.specs.declared.verdict.Transaction.{Transaction}
use Rattle.operator_model.specs.declared.verdict.AskedSets.{AskedSets}
use Rattle.operator_model.specs.Asked.{refusal_naming, nested_unless, failing_active, failing_admitted, nested_sets}
use Rattle.operator_book.specs.Over.{asked_sets_over}

abbrev IsMade : Result SetsFields Refusal → Type 0
IsMade (Ok sets) = Unit {0}
IsMade (Err r) = ⊥

abbrev IsRefused : Result SetsFields Refusal → Type 0
IsRefused (Ok sets) = ⊥
IsRefused (Err r) = Unit {0}

abbrev made : SetsFields → Result SetsFields ReplyFields
made sets = Ok sets

abbrev refused : ReplyFields → Result SetsFields ReplyFields
refused reply = Err reply

abbrev subtype_in : Result SetsFields Refusal → ℕ
subtype_in (Ok sets) = 0
subtype_in (Err r) = r.subtype

abbrev sets_in : Result SetsFields Refusal → SetsFields
sets_in (Ok sets) = sets
sets_in (Err r) = record { provisioned = None; admitted = None; active = None }

unless_ok : (t : Transaction) (first : FlowFields) (provisioned : Option ParamFields) (asked : AskedSets) (x : Option ℕ) (sets : SetsFields)
    → sets_unless x RejectAuthorizationFailure (record { provisioned = provisioned; admitted = asked.admitted; active = asked.active }) ≡ Ok sets
    → nested_unless t first provisioned asked None x ≡ Ok sets
unless_ok t first provisioned asked None sets e = ap (λ (x : Result SetsFields Refusal). made (sets_in x)) e
unless_ok t first provisioned asked (Some n) sets e = absurd (subst (λ (x : Result SetsFields Refusal). IsRefused x) e tt)

unless_err : (t : Transaction) (first : FlowFields) (provisioned : Option ParamFields) (asked : AskedSets) (x : Option ℕ) (r : Refusal)
    → sets_unless x RejectAuthorizationFailure (record { provisioned = provisioned; admitted = asked.admitted; active = asked.active }) ≡ Err r
    → nested_unless t first provisioned asked None x ≡ Err (refusal_naming t RejectAuthorizationFailure first r.subtype)
unless_err t first provisioned asked None r e = absurd (subst (λ (x : Result SetsFields Refusal). IsMade x) e tt)
unless_err t first provisioned asked (Some n) r e =
    ap (λ (x : Result SetsFields Refusal). refused (refusal_naming t RejectAuthorizationFailure first (subtype_in x))) e

pub nested_ok : (t : Transaction) (first : FlowFields) (sets : SetsFields) (asked : AskedSets) (after : SetsFields)
    → failing_active asked.active asked.admitted ≡ None → asked_sets_over sets asked ≡ Ok after → nested_sets t first sets.provisioned asked ≡ Ok after
unfolding nested_sets
nested_ok t first sets asked after active over =
    rw active (unless_ok t first sets.provisioned asked (failing_admitted asked.admitted sets.provisioned) after over)

pub nested_err : (t : Transaction) (first : FlowFields) (sets : SetsFields) (asked : AskedSets) (r : Refusal)
    → failing_active asked.active asked.admitted ≡ None → asked_sets_over sets asked ≡ Err r
    → nested_sets t first sets.provisioned asked ≡ Err (refusal_naming t RejectAuthorizationFailure first r.subtype)
unfolding nested_sets
nested_err t first sets asked r active over =
    rw active (unless_err t first sets.provisioned asked (failing_admitted asked.admitted sets.provisioned) r over)
