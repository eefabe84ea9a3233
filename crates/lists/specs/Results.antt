-- What a reader does with a result (implementation-specific).
use Rattle.std.specs.Prelude.{◌≡◌, Option, Some, None, Result, Ok, Err}

-- one reading after another: the first fault ends them
infixl 10 ◌>>=◌
abbrev pub ◌>>=◌ : {A B E : Type 0} → Result A E → (A → Result B E) → Result B E
(Ok x) >>= f = f x
(Err fault) >>= f = Err fault

-- a result whose value is seen by view
abbrev pub result_map : {A B E : Type 0} → (A → B) → Result A E → Result B E
result_map view (Ok x) = Ok (view x)
result_map view (Err fault) = Err fault

-- reading ends by this fault; None: memory ran out, which says nothing of what is read
abbrev pub Fails : {B G : Type 0} → Option G → Result B G → Type 0
Fails None read = Unit {0}
Fails (Some fault) read = read ≡ Err fault

-- What a function returned, seen by view, is what reading gives. cause is the fault of reading that a function's fault stands for:
-- None where memory ran out.
abbrev pub Gives : {A B F G : Type 0} → (F → Option G) → (A → B) → Result A F → Result B G → Type 0
Gives cause view (Ok x) read = read ≡ Ok (view x)
Gives cause view (Err fault) read = Fails (cause fault) read
