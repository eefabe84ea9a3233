-- Which messages were read so far.
use Rattle.std.proofs.Common.{◌≡◌, ℕ, ◌+◌, List, [], drop}
use Rattle.line_service.specs.script.Messages.{messages_after}

-- the messages of the lines before the place; the others go on after them
pub record IsSaidSoFar (lines messages : List (List ℕ)) (number place : ℕ) : Type 0 where
  pub number_is : number ≡ place + 1
  pub goes_on : messages_after number messages (drop place lines) ≡ messages_after 1 [] lines
