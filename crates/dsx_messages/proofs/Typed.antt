-- What a message says by its type byte.
use Rattle.std.proofs.Common.{◌≡◌, ℕ, ◌-◌, ◌≤◌, List, [], ◌∷◌, length, get_or, take, drop, Result, Ok, Err, ◌∙◌, ap, sym, subst, arith}
use Rattle.dsx_messages.proofs.Common.{take_all, Message, MessageFault, Gives, message_cause, message_of, BringsFlows}
use Rattle.dsx_messages.specs.declared.fault.MessageFault.TheVariants as faults

-- what follows the type byte
abbrev body_of : List ℕ → List ℕ
body_of bytes = take (length bytes - 1) (drop 1 bytes)

spelled_by : (bytes : List ℕ) (mtype : ℕ) → 1 ≤ length bytes → get_or bytes 0 0 ≡ mtype → mtype ∷ body_of bytes ≡ bytes
spelled_by [] mtype some is = absurd (omega arith)
spelled_by (first ∷ body) mtype some is =
    ap (λ n. n ∷ body_of (first ∷ body)) (sym is) ∙ ap (λ b. first ∷ b) (take_all (length (first ∷ body) - 1) body (omega arith))

pub gives_by : (bytes : List ℕ) (mtype : ℕ) (r : Result Message MessageFault) → 1 ≤ length bytes → get_or bytes 0 0 ≡ mtype → Gives message_cause (λ message. message) r (message_of (mtype ∷ body_of bytes)) → Gives message_cause (λ message. message) r (message_of bytes)
gives_by bytes mtype r some is gives = subst (λ (b : List ℕ). Gives message_cause (λ message. message) r (message_of b)) (spelled_by bytes mtype some is) gives

pub brings_by : (bytes : List ℕ) (mtype : ℕ) → 1 ≤ length bytes → get_or bytes 0 0 ≡ mtype → BringsFlows (mtype ∷ body_of bytes) → BringsFlows bytes
brings_by bytes mtype some is brings = subst BringsFlows (spelled_by bytes mtype some is) brings

-- a result that is what the bytes say
pub gives_it : (r said : Result Message MessageFault) → r ≡ said → Gives message_cause (λ message. message) r said
gives_it (Ok message) said e = sym e
gives_it (Err faults.Empty) said e = sym e
gives_it (Err (faults.NotOurs mtype)) said e = sym e
gives_it (Err faults.Short) said e = sym e
gives_it (Err (faults.Tlv tid kind id fault)) said e = sym e
gives_it (Err (faults.LeftOut tid kind found)) said e = sym e
gives_it (Err faults.NoMemory) said e = tt
