-- What is written for an input of which the first bytes are read before the others.
use Rattle.std.proofs.Common.{◌≡◌, ◌≢◌, ℕ, Bool, true, false, MatchBool, List, ◌++◌, Option, Some, None, sym, ap, subst, ◌∙◌}
use Rattle.program_runner.proofs.Common.{option_append, Appends, Asked, WhereKnown, is_snapshot_head, IsWordAnswer, IsRunAnswer, IsCommandAnswer, IsHeadRead, IsResumeAnswer, IsRestoreAnswer, is_run}
use Rattle.plant_script.specs.Reaching.{AnswersWords}

-- ---- the bytes that were read, and the others after them

-- the first bytes show what the input begins with
shown : (input rest head : List ℕ) (b : Bool) → IsHeadRead input rest head → is_snapshot_head head ≡ b → is_snapshot_head input ≡ b
shown input rest head b read is = read.shows ∙ is

whole_is : (input rest head : List ℕ) (whole : Option (List ℕ)) → IsHeadRead input rest head → whole ≡ option_append (Some head) (Some rest) → whole ≡ Some input
whole_is input rest head whole read is = is ∙ ap (λ (bytes : List ℕ). Some bytes) (sym read.input_is)

when_true : (A B : Type 0) (b : Bool) → b ≡ true → A → MatchBool b A B
when_true A B b is a = subst (λ (t : Bool). MatchBool t A B) (sym is) a

when_false : (A B : Type 0) (b : Bool) → b ≡ false → B → MatchBool b A B
when_false A B b is a = subst (λ (t : Bool). MatchBool t A B) (sym is) a

-- `restore` of a snapshot
pub restore_resumed : (known left whole : Option (List ℕ)) (head : List ℕ) (status : ℕ) (old new : Option (List ℕ)) → WhereKnown known left (λ input rest. IsHeadRead input rest head)
    → is_snapshot_head head ≡ true → whole ≡ option_append (Some head) left → IsResumeAnswer whole status old new → IsRestoreAnswer known status old new
restore_resumed None left whole head status old new read is same answers = λ not_six. tt
restore_resumed (Some input) None whole head status old new read is same answers = absurd read
restore_resumed (Some input) (Some rest) whole head status old new read is same answers =
    let here = subst (λ (bytes : Option (List ℕ)). IsResumeAnswer bytes status old new) (whole_is input rest head whole read same) answers in
    λ not_six. when_true _ _ (is_snapshot_head input) (shown input rest head true read is) (here not_six)

-- `run` of an input that is not a snapshot
pub run_performed : (words : List (List ℕ)) (known left whole : Option (List ℕ)) (head : List ℕ) (status : ℕ) (old new : Option (List ℕ)) → WhereKnown known left (λ input rest. IsHeadRead input rest head)
    → is_snapshot_head head ≡ false → whole ≡ option_append (Some head) left → (status ≢ 6 → AnswersWords words whole status (λ text. Appends old new text)) → IsRunAnswer words known status old new
run_performed words None left whole head status old new read other same answers = tt
run_performed words (Some input) None whole head status old new read other same answers = absurd read
run_performed words (Some input) (Some rest) whole head status old new read other same answers =
    when_false _ _ (is_snapshot_head input) (shown input rest head false read other)
    (record { answered = subst (λ (bytes : Option (List ℕ)). status ≢ 6 → AnswersWords words bytes status (λ text. Appends old new text)) (whole_is input rest head whole read same) answers })

-- ---- the command

pub as_run : (asked : Asked) (words : List (List ℕ)) (read : Option (List ℕ)) (status : ℕ) (old new : Option (List ℕ)) → is_run asked ≡ true
    → IsRunAnswer words read status old new → IsCommandAnswer asked words read status old new
as_run asked words read status old new is answers = when_true _ _ (is_run asked) is answers

pub as_word : (asked : Asked) (words : List (List ℕ)) (read : Option (List ℕ)) (status : ℕ) (old new : Option (List ℕ)) → is_run asked ≡ false
    → IsWordAnswer asked words read status old new → IsCommandAnswer asked words read status old new
as_word asked words read status old new other answers = when_false _ _ (is_run asked) other answers
