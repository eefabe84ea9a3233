-- An output is fetched (implementation-specific).
use Rattle.std.specs.Prelude.{◌≡◌, ◌≢◌, ◌⊎◌, ℕ, List, [], ◌∷◌, length, take}
use Rattle.run_model.specs.declared.step.Out.{Out}
use Rattle.channel_c.specs.declared.channel.OpenChannel.{OpenChannel}
use Rattle.channel_c.specs.declared.head.OutputHead.{OutputHead}
use Rattle.channel_c.specs.declared.grants.Grant.{Grant}
use Rattle.channel_c.specs.Output.{head_of, bytes_of, grants_of, Fits}
use Rattle.channel_c.specs.Waiting.{view_of, text_of, waiting_of, IsSame}

-- The output that waited first is fetched: the head is its own, the buffers begin with its bytes and its grants, and the others wait.
pub record IsFetched (head : OutputHead) (bytes : List ℕ) (grants : List Grant) (old new : OpenChannel) : Type 0 where
  pub out : Out
  pub waiting_is : waiting_of old ≡ out ∷ waiting_of new
  pub view_is : view_of new ≡ view_of old
  pub text_is : text_of new ≡ text_of old
  pub head_is : head ≡ head_of out
  pub bytes_are : take (length (bytes_of out)) bytes ≡ bytes_of out
  pub grants_are : take (length (grants_of out)) grants ≡ grants_of out

-- the head is that of the output that waits first, which does not fit
pub record IsTooLong (head : OutputHead) (bytes : List ℕ) (grants : List Grant) (old : OpenChannel) : Type 0 where
  pub out : Out
  pub rest : List Out
  pub waiting_is : waiting_of old ≡ out ∷ rest
  pub head_is : head ≡ head_of out
  pub not_fitting : ¬ Fits out bytes grants

-- 0: an output is fetched. 3: it does not fit, and nothing changes. 4: none waits, and nothing changes.
pub record FetchEnds (code : ℕ) (head : OutputHead) (old_bytes bytes : List ℕ) (old_grants grants : List Grant) (old new : OpenChannel) : Type 0 where
  pub fetched : code ≡ 0 → IsFetched head bytes grants old new
  pub too_long : code ≡ 3 → IsTooLong head old_bytes old_grants old
  pub none_waits : code ≡ 4 → waiting_of old ≡ []
  pub same : code ≢ 0 → IsSame old new
  pub codes : (code ≡ 0) ⊎ ((code ≡ 3) ⊎ (code ≡ 4))
