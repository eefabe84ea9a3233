-- What the seats of a cell's table know: the first one, and those that come from splits and joins (implementation-specific).
use Rattle.std.specs.Prelude.{◌≡◌, ℕ, ◌+◌, ◌-◌, true, false, ◌||◌, List, [], ◌∷◌, None, Some, Option}
use mathlib.Core.Option.{some}
use lib.ListN.{get_elem?}
use Rattle.atomic_table.specs.Table.{State, Me, Step}
use Rattle.grant_policy.specs.declared.policy.Policy.TheVariants.{Strict}
use Rattle.plant_passes.specs.declared.view.Origin.{Origin}
use Rattle.plant_passes.specs.declared.view.Knowledge.{Knowledge}
use Rattle.plant_passes.specs.declared.view.BookParts.{BookParts}
use Rattle.plant_passes.specs.Runs.{origin_of}
use Rattle.plant_passes.specs.Histories.{mark_entries, longer}

-- the serving word of a closed cell
abbrev pub closing_mark : ℕ
closing_mark = 18446744073709551615

-- what the slot of a cell has: its book, where no seat has taken the book out of it
abbrev pub CellSlot : Type 0 → Type 0
CellSlot X = Option (BookParts X)

-- the table of a cell at one time: its two words, its slot, and what each seat knows
abbrev pub CellState : Type 0 → Type 0
CellState X = State (CellSlot X) (Knowledge X)

-- a seat at one time: what it knows, and the slots that it has taken out, each with its value
abbrev pub SeatNow : Type 0 → Type 0
SeatNow X = Me (CellSlot X) (Knowledge X)

-- a step on the table of a cell
abbrev pub CellStep : Type 0 → Type 0
CellStep X = Step (CellSlot X)

-- an origin that nothing reads
pub no_origin : Origin
no_origin = record {
  consts = record {
    channel = record {
      frame_minislots = 0;
      head = 0;
      id = 0;
      ucd_count = 0;
      backoffs = record { ranging_start = 0; ranging_end = 0; data_start = 0; data_end = 0 };
      first_frame = 0;
    };
    units = record { frame_us = 0; bytes_per_minislot = 0 };
    short_max = 0;
    timers = record { ack_wait = 0; resends = 0; hold = 0 };
    classes = [];
  };
  row = record {
    name = [];
    slice = record { start = 0; length = 0 };
    sfids = record { first = 0; last = 0 };
    sids = record { first = 0; last = 0 };
    flows = 0;
    transactions = 0;
    inbox = 0;
    budget = 0;
    elements = 0;
    policy = Strict;
    modems = [];
    provisions = [];
  };
}

module _ {X : Type 0} where
  -- what a seat knows
  abbrev pub knowledge : SeatNow X → Knowledge X
  knowledge now = now.0

  -- the slots that a seat has taken out
  abbrev pub hand : SeatNow X → List (ℕ × CellSlot X)
  hand now = now.1

  -- among all seats, the one with this number knows this
  abbrev pub Knows : List (Knowledge X) → ℕ → Knowledge X → Type 0
  Knows seats seat known = get_elem? seats seat ≡ some known

  -- the passes that all seats count for, added up
  abbrev pub passes_of : List (Knowledge X) → ℕ
  passes_of [] = 0
  passes_of (known ∷ seats) = known.passes + passes_of seats

  -- the first seat of a table round this book, which gives so many passes
  abbrev pub opener : BookParts X → ℕ → Knowledge X
  opener book passes = record {
    number = 0;
    passes = passes;
    opens = true;
    closed = false;
    ended_cell = false;
    origin = origin_of book.kept.book;
    seen = mark_entries 0 book.kept.book.history;
    reported = [];
    made = [];
    ticket = None;
    holds_book = false;
    ranking = Some book.ranking;
  }

  -- the opener after it has given a pass
  abbrev pub after_giving : Knowledge X → Knowledge X
  after_giving known = record known { passes = known.passes - 1 }

  -- the pass that it gives: it has seen what the opener has, and made nothing
  abbrev pub new_pass : Knowledge X → Knowledge X
  new_pass known = record known {
    number = known.passes;
    passes = 1;
    opens = false;
    closed = false;
    ended_cell = false;
    reported = [];
    made = [];
    ticket = None;
    holds_book = false;
  }

  -- what a pass reports of itself to another: what it has seen, and whether the cell is closed
  abbrev pub copy_of : Knowledge X → Knowledge X
  copy_of known = record known {
    number = 0;
    passes = 0;
    opens = false;
    ended_cell = false;
    reported = [];
    made = [];
    ticket = None;
    holds_book = false;
  }

  -- a seat that another was joined to: it counts for the passes of both, and both histories were reported to it
  abbrev pub joint : Knowledge X → Knowledge X → Knowledge X
  joint known other = record known {
    passes = known.passes + other.passes;
    closed = known.closed || other.closed;
    seen = longer known.seen other.seen;
    reported = known.seen ∷ other.seen ∷ known.reported;
  }

  -- the seat that was joined to another: it counts for no pass
  abbrev pub no_pass : Knowledge X
  no_pass = record {
    number = 0;
    passes = 0;
    opens = false;
    closed = false;
    ended_cell = false;
    origin = no_origin;
    seen = [];
    reported = [];
    made = [];
    ticket = None;
    holds_book = false;
    ranking = None;
  }
