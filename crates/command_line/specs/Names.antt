-- The commands and options of the program, and how they are written (implementation-specific, except for the names `one`, `check`,
-- `run`, `threads` and `history`).
use Rattle.std.specs.Prelude.{ℕ, Bool, true, false, cond, List, Option, Some, None, codes, bytes_eq}
use Rattle.command_line.specs.declared.names.CommandName.{CommandName}
use Rattle.command_line.specs.declared.names.CommandName.TheVariants.{One, Check, Run, Threads, Capture, Serve, Trace, History, Resume, Restore, Snapshot}
use Rattle.command_line.specs.declared.names.OptionName.{OptionName}
use Rattle.command_line.specs.declared.names.OptionName.TheVariants.{Input, Json, Strict, State, SnapshotEvery}

-- how a command is written
abbrev pub name_text : CommandName → List ℕ
name_text One = codes "one"
name_text Check = codes "check"
name_text Run = codes "run"
name_text Threads = codes "threads"
name_text Capture = codes "capture"
name_text Serve = codes "serve"
name_text Trace = codes "trace"
name_text History = codes "history"
name_text Resume = codes "resume"
name_text Restore = codes "restore"
name_text Snapshot = codes "snapshot"

-- the command of this name
abbrev pub name_of : List ℕ → Option CommandName
name_of w = cond (bytes_eq w (codes "one")) (Some One)
    (cond (bytes_eq w (codes "check")) (Some Check)
    (cond (bytes_eq w (codes "run")) (Some Run)
    (cond (bytes_eq w (codes "threads")) (Some Threads)
    (cond (bytes_eq w (codes "capture")) (Some Capture)
    (cond (bytes_eq w (codes "serve")) (Some Serve)
    (cond (bytes_eq w (codes "trace")) (Some Trace)
    (cond (bytes_eq w (codes "history")) (Some History)
    (cond (bytes_eq w (codes "resume")) (Some Resume)
    (cond (bytes_eq w (codes "restore")) (Some Restore)
    (cond (bytes_eq w (codes "snapshot")) (Some Snapshot) None))))))))))

-- without its two hyphens
abbrev pub option_text : OptionName → List ℕ
option_text Input = codes "input"
option_text Json = codes "json"
option_text Strict = codes "strict"
option_text State = codes "state"
option_text SnapshotEvery = codes "snapshot-every"

-- the option has a value
abbrev pub has_value : OptionName → Bool
has_value Input = true
has_value Json = false
has_value Strict = false
has_value State = true
has_value SnapshotEvery = true

-- the command has the option
abbrev pub has_option : OptionName → CommandName → Bool
has_option Input _ = true
has_option Json Run = true
has_option Json Serve = true
has_option Json Check = true
has_option Json Trace = true
has_option Strict Check = true
has_option State Serve = true
has_option SnapshotEvery Serve = true
has_option _ _ = false
