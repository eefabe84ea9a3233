-- Confirmation codes: which number means which code is this profile's (implementation-specific).
use Rattle.std.specs.Prelude.{ℕ}
use Rattle.dsx_messages.specs.declared.code.Code.{Code}
use Rattle.dsx_messages.specs.declared.code.Code.TheVariants.{Okay, RejectOther, RejectUnrecognizedSetting, RejectTemporary, RejectPermanent, RejectNotOwner, RejectFlowNotFound, RejectRequiredParameterNotPresent, RejectUnknownTransaction, RejectDuplicateReference, RejectMultipleUpstreamFlows, RejectInvalidForContext, RejectAuthorizationFailure}

-- the number of each confirmation code (Annex C, C.4)
abbrev pub code_number : Code → ℕ
code_number Okay = 0
code_number RejectOther = 1
code_number RejectUnrecognizedSetting = 2
code_number RejectTemporary = 3
code_number RejectPermanent = 4
code_number RejectNotOwner = 5
code_number RejectFlowNotFound = 6
code_number RejectRequiredParameterNotPresent = 8
code_number RejectUnknownTransaction = 10
code_number RejectDuplicateReference = 18
code_number RejectMultipleUpstreamFlows = 19
code_number RejectInvalidForContext = 23
code_number RejectAuthorizationFailure = 24
