-- A core as it is opened (implementation-specific).
use Rattle.std.specs.Prelude.{[], map, length, replicate}
use Rattle.plant.specs.declared.consts.ConstsFields.{ConstsFields}
use Rattle.plant.specs.declared.operator_row.RowFields.{RowFields}
use Rattle.plant.specs.declared.plant.PlantFields.{PlantFields}
use Rattle.operator_model.specs.Replay.{BookView, opened_book}
use Rattle.map_assembly.specs.Part.{quota_of}
use Rattle.map_assembly.specs.Gathering.{Gathering, gathering_of}
use Rattle.run_model.specs.Starts.{Start}
use Rattle.run_model.specs.IsStateAfter.{CoreView}

-- each operator's book is opened, no frame waits, and nothing is gathered
abbrev pub opened_core : PlantFields → CoreView
opened_core plant = record {
  plant = plant;
  books = map (opened_book plant.consts) plant.rows;
  queues = replicate (length plant.rows) [];
  gathering = gathering_of plant;
}

-- ---- a core as it is resumed

-- an operator's book in which nothing was done since the start
abbrev pub started_book : ConstsFields → Start → RowFields → BookView
started_book consts start row = record { row = row; consts = consts; state = start.state row; history = [] }

-- nothing is put since the start: the slices are those in force, and those that wait are given already
abbrev pub gathering_from : PlantFields → Start → Gathering
gathering_from plant start = record {
  channel = plant.consts.channel;
  quotas = map quota_of plant.rows;
  slices = map (λ row. (start.state row).share.slice) plant.rows;
  reslicings = start.waiting;
  queues = replicate (length plant.rows) [];
  next = start.frame;
}

-- each operator's book is as it starts, no frame waits, and nothing is gathered
abbrev pub started_core : PlantFields → Start → CoreView
started_core plant start = record {
  plant = plant;
  books = map (started_book plant.consts start) plant.rows;
  queues = replicate (length plant.rows) [];
  gathering = gathering_from plant start;
}
