use Rattle.std.proofs.Common.{length}
use Rattle.dsx_messages.specs.Survey.{IsSurveyedUpTo}
use Rattle.dsx_messages.proofs.reading.survey_of.Given as goal

abbrev pub invariant-loop-first : goal.invariant-loop-first
invariant-loop-first l = IsSurveyedUpTo l.list l.rest l.left_out l.flows

abbrev pub decreases-loop-first : goal.decreases-loop-first
decreases-loop-first l = length l.rest
