-- What is written for a command without an option.
use Rattle.std.proofs.Common.{◌≡◌, ◌≢◌, [], ℕ, List, Bool, true, false, not, ◌||◌, MatchBool, cond, is_some, Option, None, Some, option_map, IfSome, refl, sym, subst, ap, ◌∙◌, inl, inr}
use Rattle.program_runner.proofs.Common.{Appends, memory_line, IsProgramAnswer, IsAskedAnswer, IsWordAnswer, IsRunAnswer, IsCommandAnswer, is_run, is_snapshot_head, IsResumeAnswer, IsRestoreAnswer, Asked, Order, order, service, asked_of, bare_texts, Reading, GivesLine, bare_order, bare_service, command, help, help_or_wrong, version, wrong, OptionTexts, is_bare, texts_of}
use Rattle.command_line.specs.declared.asked.CommandLine.{CommandLine}
use Rattle.command_line.specs.CommandLine.{GivesFault}
use Rattle.command_line.specs.declared.asked.LineFault.{LineFault}
use Rattle.command_line.specs.declared.asked.LineFault.TheVariants as line
use Rattle.command_line.specs.declared.asked.ServiceWord.{ServiceWord}
use Rattle.command_line.specs.declared.asked.ServiceWord.TheVariants.{Resume, Restore, Snapshot}
use Rattle.command_line.specs.declared.options.OutputFormat.{OutputFormat}
use Rattle.command_line.specs.declared.options.OutputFormat.TheVariants.{Plain, JsonLines}
use Rattle.command_line.specs.declared.options.ProgramOptions.{ProgramOptions}
use Rattle.command_line.specs.declared.options.UnknownKeyHandling.{UnknownKeyHandling}
use Rattle.command_line.specs.declared.options.UnknownKeyHandling.TheVariants.{Warn, Refuse}
use Rattle.command_line.specs.Options.{is_json, is_strict}
use Rattle.program_runner.specs.Answered.{WritesLineFault, words_line}
use Rattle.program_runner.specs.Resume.{WritesHelp}
use Rattle.program_runner.specs.Version.{version_text}
use Rattle.state_service.specs.declared.resumed.begin_fault.BeginFault.TheVariants as begin_faults

-- ---- no option

not_or : (a b : Bool) → not (a || b) ≡ true → (a ≡ false) × (not b ≡ true)
not_or false b is = (refl, is)
not_or true b is = absurd (let no : false ≡ true = is in cc)

plain : (output : OutputFormat) → is_json output ≡ false → output ≡ Plain
plain Plain is = refl
plain JsonLines is = absurd (let no : true ≡ false = is in cc)

warned : (unknown : UnknownKeyHandling) → is_strict unknown ≡ false → unknown ≡ Warn
warned Warn is = refl
warned Refuse is = absurd (let no : true ≡ false = is in cc)

no_value : {X Y : Type 0} (f : X → Y) (value : Option X) → is_some (option_map f value) ≡ false → value ≡ None
no_value f None is = refl
no_value f (Some value) is = absurd (let no : true ≡ false = is in cc)

-- options of which none is found
pub bare_options : (options : ProgramOptions) → is_bare (texts_of options) ≡ true
    → (options.input ≡ None) × (options.output ≡ Plain) × (options.unknown_keys ≡ Warn) × (options.state ≡ None)
bare_options options bare =
    let after_input = not_or (is_some (texts_of options).input) _ bare in
    let after_json = not_or (is_json options.output) _ after_input.1 in
    let after_strict = not_or (is_strict options.unknown_keys) _ after_json.1 in
    let after_state = not_or (is_some (texts_of options).state) _ after_strict.1 in
    (no_value _ options.input after_input.0, plain options.output after_json.0, warned options.unknown_keys after_strict.0, no_value _ options.state after_state.0)

-- what is answered to words that are those of the command
pub asked_answered : (asked : Asked) (words : List (List ℕ)) (read : Option (List ℕ)) (status : ℕ) (old new : Option (List ℕ)) → words ≡ bare_texts asked
    → IsCommandAnswer asked words read status old new → IsAskedAnswer asked read status old new
asked_answered asked words read status old new same answers = subst (λ (all : List (List ℕ)). IsCommandAnswer asked all read status old new) same answers

-- ---- out of memory

-- what holds of each input holds of a known one
if_known : (read : Option (List ℕ)) (P : List ℕ → Type 0) → ((input : List ℕ) → P input) → IfSome read P
if_known None P holds = tt
if_known (Some input) P holds = holds input

-- no word was read: the line of a failed allocation is written alone
out_of_memory : (words : List (List ℕ)) (read : Option (List ℕ)) (status : ℕ) (old new : Option (List ℕ))
    → (status ≢ 6 → (status ≡ 5) × Appends old new memory_line) → IsProgramAnswer words read status old new
out_of_memory words read status old new wrote = record {
  answered = λ not_six. record {
    served = λ order names not_five. absurd (not_five (wrote not_six).0);
    refused = λ wrong not_five. absurd (not_five (wrote not_six).0);
    helped = λ help not_five. absurd (not_five (wrote not_six).0);
    memory = λ five. ([], (wrote not_six).1, inl refl);
  };
}

-- each service answers so, and so does `run`, whatever is read
either : {A B : Type 0} (t : Bool) → A → B → MatchBool t A B
either true a b = a
either false a b = b

module _ (words : List (List ℕ)) (read : Option (List ℕ)) (status : ℕ) (old new : Option (List ℕ)) (wrote : status ≢ 6 → (status ≡ 5) × Appends old new memory_line) where
  resume_out_of_memory : IsResumeAnswer read status old new
  resume_out_of_memory = λ not_six. if_known read _ (λ input. inr (begin_faults.NoMemory, tt, (wrote not_six).0, (wrote not_six).1))

  restore_out_of_memory : IsRestoreAnswer read status old new
  restore_out_of_memory = λ not_six. if_known read _ (λ input. either (is_snapshot_head input) (inr (begin_faults.NoMemory, tt, (wrote not_six).0, (wrote not_six).1)) (inr (wrote not_six)))

  pub run_out_of_memory : IsRunAnswer words read status old new
  run_out_of_memory = if_known read _ (λ input. either (is_snapshot_head input) resume_out_of_memory (out_of_memory words read status old new wrote))

  word_out_of_memory : (asked : Asked) → IsWordAnswer asked words read status old new
  word_out_of_memory (order o) = out_of_memory words read status old new wrote
  word_out_of_memory (service Resume) = resume_out_of_memory
  word_out_of_memory (service Restore) = restore_out_of_memory
  word_out_of_memory (service Snapshot) = λ not_six. if_known read _ (λ input. inr (inr (inr (begin_faults.NoMemory, tt, (wrote not_six).0, (wrote not_six).1))))

  command_out_of_memory : (asked : Asked) → IsCommandAnswer asked words read status old new
  command_out_of_memory asked = either (is_run asked) run_out_of_memory (word_out_of_memory asked)

-- no command was performed
pub asked_out_of_memory : (asked : Asked) (read : Option (List ℕ)) (status : ℕ) (old new : Option (List ℕ)) → (status ≢ 6 → (status ≡ 5) × Appends old new memory_line)
    → IsAskedAnswer asked read status old new
asked_out_of_memory asked read status old new wrote = command_out_of_memory (bare_texts asked) read status old new wrote asked

-- ---- what words name

-- a line that words give, where they name an order or a service without an option
pub named_line : (r : Reading) (line : CommandLine) (o : Order) → bare_order r ≡ Some o → GivesLine r line
    → (asked_of line.word ≡ order o) × (is_bare (texts_of line.options) ≡ true)
named_line (command (order p) options) line o is gives = by (is_bare options) refl is
  where
    by : (t : Bool) → is_bare options ≡ t → cond t (Some p) None ≡ Some o → (asked_of line.word ≡ order o) × (is_bare (texts_of line.options) ≡ true)
    by true bare same = (gives.0 ∙ ap order (let found : p ≡ o = cc in found), ap is_bare gives.1 ∙ bare)
    by false bare same = absurd (let no = same in cc)
named_line (command (service s) options) line o is gives = cc
named_line help line o is gives = absurd gives
named_line version line o is gives = absurd gives
named_line wrong line o is gives = absurd gives
named_line help_or_wrong line o is gives = absurd gives

pub served_line : (r : Reading) (line : CommandLine) (s : ServiceWord) → bare_service r ≡ Some s → GivesLine r line
    → (asked_of line.word ≡ service s) × (is_bare (texts_of line.options) ≡ true)
served_line (command (service p) options) line s is gives = by (is_bare options) refl is
  where
    by : (t : Bool) → is_bare options ≡ t → cond t (Some p) None ≡ Some s → (asked_of line.word ≡ service s) × (is_bare (texts_of line.options) ≡ true)
    by true bare same = (gives.0 ∙ ap service (let found : p ≡ s = cc in found), ap is_bare gives.1 ∙ bare)
    by false bare same = absurd (let no = same in cc)
served_line (command (order o) options) line s is gives = cc
served_line help line s is gives = absurd gives
served_line version line s is gives = absurd gives
served_line wrong line s is gives = absurd gives
served_line help_or_wrong line s is gives = absurd gives

-- ---- words without a command

-- words that give a command are refused only for memory
command_fault : (asked : Asked) (options : OptionTexts) (f : LineFault) → GivesFault f (command asked options) → f ≡ line.NoMemory
command_fault asked options (line.Help text) gives = absurd gives
command_fault asked options line.Version gives = absurd gives
command_fault asked options line.Wrong gives = absurd gives
command_fault asked options (line.Options why) gives = absurd gives
command_fault asked options line.NoMemory gives = refl

named_fault : (r : Reading) (f : LineFault) (o : Order) → bare_order r ≡ Some o → GivesFault f r → f ≡ line.NoMemory
named_fault (command asked options) f o is gives = command_fault asked options f gives
named_fault help f o is gives = cc
named_fault version f o is gives = cc
named_fault wrong f o is gives = cc
named_fault help_or_wrong f o is gives = cc

served_fault : (r : Reading) (f : LineFault) (s : ServiceWord) → bare_service r ≡ Some s → GivesFault f r → f ≡ line.NoMemory
served_fault (command asked options) f s is gives = command_fault asked options f gives
served_fault help f s is gives = cc
served_fault version f s is gives = cc
served_fault wrong f s is gives = cc
served_fault help_or_wrong f s is gives = cc

module _ (f : LineFault) (json : Bool) (read : Option (List ℕ)) (status : ℕ) (old new : Option (List ℕ)) (wrote : status ≢ 6 → WritesLineFault f json status old new) where
  memory_wrote : f ≡ line.NoMemory → status ≢ 6 → (status ≡ 5) × Appends old new memory_line
  memory_wrote is not_six = subst (λ (g : LineFault). WritesLineFault g json status old new) is (wrote not_six)

  pub fault_named : (r : Reading) (o : Order) → bare_order r ≡ Some o → GivesFault f r → IsAskedAnswer (order o) read status old new
  fault_named r o is gives = asked_out_of_memory (order o) read status old new (memory_wrote (named_fault r f o is gives))

  pub fault_served : (r : Reading) (s : ServiceWord) → bare_service r ≡ Some s → GivesFault f r → IsAskedAnswer (service s) read status old new
  fault_served r s is gives = asked_out_of_memory (service s) read status old new (memory_wrote (served_fault r f s is gives))

pub fault_refused : (f : LineFault) (json : Bool) (status : ℕ) (old new : Option (List ℕ)) → (status ≢ 6 → WritesLineFault f json status old new) → GivesFault f wrong
    → json ≡ false → status ≢ 5 → status ≢ 6 → (status ≡ 2) × Appends old new words_line
fault_refused (line.Help text) json status old new wrote gives no_object not_five not_six = absurd gives
fault_refused line.Version json status old new wrote gives no_object not_five not_six = absurd gives
fault_refused line.Wrong json status old new wrote gives no_object not_five not_six = wrote not_six no_object
fault_refused (line.Options why) json status old new wrote gives no_object not_five not_six = wrote not_six
fault_refused line.NoMemory json status old new wrote gives no_object not_five not_six = absurd (not_five (wrote not_six).0)

pub fault_helped : (f : LineFault) (json : Bool) (status : ℕ) (old new : Option (List ℕ)) → (status ≢ 6 → WritesLineFault f json status old new) → GivesFault f help
    → status ≢ 5 → status ≢ 6 → WritesHelp status old new
fault_helped (line.Help text) json status old new wrote gives not_five not_six = wrote not_six
fault_helped line.Version json status old new wrote gives not_five not_six = absurd gives
fault_helped line.Wrong json status old new wrote gives not_five not_six = absurd gives
fault_helped (line.Options why) json status old new wrote gives not_five not_six = absurd gives
fault_helped line.NoMemory json status old new wrote gives not_five not_six = absurd (not_five (wrote not_six).0)

pub fault_version : (f : LineFault) (json : Bool) (status : ℕ) (old new : Option (List ℕ)) → (status ≢ 6 → WritesLineFault f json status old new) → GivesFault f version
    → status ≢ 5 → status ≢ 6 → (status ≡ 0) × Appends old new version_text
fault_version (line.Help text) json status old new wrote gives not_five not_six = absurd gives
fault_version line.Version json status old new wrote gives not_five not_six = wrote not_six
fault_version line.Wrong json status old new wrote gives not_five not_six = absurd gives
fault_version (line.Options why) json status old new wrote gives not_five not_six = absurd gives
fault_version line.NoMemory json status old new wrote gives not_five not_six = absurd (not_five (wrote not_six).0)
