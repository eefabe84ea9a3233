-- What is written where the steps of a run ended, and where there is no answer (implementation-specific).
use Rattle.std.specs.Prelude.{ℕ, List, [], ◌∷◌, ◌++◌, codes}
use Rattle.std.specs.Fmt.{decimal}
use Rattle.line_service.specs.declared.steps_end.StepsEnd.{StepsEnd}
use Rattle.line_service.specs.declared.steps_end.StepsEnd.TheVariants.{Done, Refused, NoMemory}
use Rattle.plant_script.specs.declared.input.AnswerFault.{AnswerFault}
use Rattle.plant_script.specs.declared.input.AnswerFault.TheVariants as answer_faults
use Rattle.plant_script.specs.Run.{memory_line, io_line}

-- the exit status of a run whose steps ended so: 0 done, 4 a refused line, 5 out of memory
abbrev pub status_of : StepsEnd → ℕ
status_of Done = 0
status_of (Refused number) = 4
status_of NoMemory = 5

-- the last line of a run whose steps ended so, if there is one
abbrev pub line_of : StepsEnd → List ℕ
line_of Done = []
line_of (Refused number) = codes "fault: line " ++ (decimal number ++ 10 ∷ [])
line_of NoMemory = memory_line

-- ---- no answer

-- the exit status where there is no answer: 5 out of memory, 6 the input cannot be read
abbrev pub fault_status : AnswerFault → ℕ
fault_status answer_faults.Memory = 5
fault_status answer_faults.Io = 6

-- the line where there is no answer
abbrev pub fault_line : AnswerFault → List ℕ
fault_line answer_faults.Memory = memory_line
fault_line answer_faults.Io = io_line
