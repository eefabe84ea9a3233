-- The exit statuses (implementation-specific).
use Rattle.std.specs.Prelude.{ℕ}
use Rattle.plant_script.specs.declared.status.Status.{Status}
use Rattle.plant_script.specs.declared.status.Status.TheVariants.{Success, WrongArguments, InvalidPlant, InvalidLine, OutOfMemory, IoError, Strayed}

-- the number of each exit status; definitions say numbers, and the code has the enum `Status`
abbrev pub status_code : Status → ℕ
status_code Success = 0
status_code WrongArguments = 2
status_code InvalidPlant = 3
status_code InvalidLine = 4
status_code OutOfMemory = 5
status_code IoError = 6
status_code Strayed = 7
