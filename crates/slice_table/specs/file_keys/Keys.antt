-- The keys of a plant file in their order (implementation-specific).
use Rattle.std.specs.Prelude.{ℕ, suc, List, [], ◌∷◌, ◌++◌, map}
use Rattle.toml.specs.Data.{Items, no_items, item, Members}
use Rattle.slice_table.specs.declared.plant_key.Field.{Field}
use Rattle.slice_table.specs.declared.plant_key.Field.TheVariants.{FrameMinislots, Head, FrameUs, BytesPerMinislot, ShortMax, Channel, UcdCount, RangingStart, RangingEnd, DataStart, DataEnd, AckWait, Resends, Hold, FirstFrame, Name, Encoding, Slice, Sfids, Sids, Flows, Transactions, Inbox, Budget, Elements, Policy, Step, Modems, Flow, Modem}
use Rattle.slice_table.specs.declared.plant_key.Place.{Place}
use Rattle.slice_table.specs.declared.plant_key.Place.TheVariants as place
use Rattle.slice_table.specs.declared.plant_key.Key.{Key}
use Rattle.slice_table.specs.declared.plant_key.Key.TheVariants.{Classes, Operators, Table, Entry}
use Rattle.slice_table.specs.file_keys.Held.{value_of_key, items_in}

-- of the table `plant`
abbrev pub plant_fields : List Field
plant_fields =
    FrameMinislots ∷ Head ∷ FrameUs ∷ BytesPerMinislot ∷ ShortMax ∷ Channel ∷ UcdCount ∷ RangingStart ∷ RangingEnd ∷ DataStart
    ∷ DataEnd ∷ AckWait ∷ Resends ∷ Hold ∷ FirstFrame ∷ []

-- of a class
abbrev pub class_fields : List Field
class_fields = Name ∷ Encoding ∷ []

-- of an operator
abbrev pub operator_fields : List Field
operator_fields =
    Name ∷ Slice ∷ Sfids ∷ Sids ∷ Flows ∷ Transactions ∷ Inbox ∷ Budget ∷ Elements ∷ Policy ∷ Step ∷ Modems ∷ Flow ∷ []

-- of a provisioned flow
abbrev pub flow_fields : List Field
flow_fields = Modem ∷ Encoding ∷ []

-- a table, and then its keys
abbrev pub keys_at : Place → List Field → List Key
keys_at place fields = Table place ∷ map (Entry place) fields

-- the keys of each item of an array, whose number is counted on from n
abbrev pub in_turn : (ℕ → List Key) → ℕ → Items → List Key
in_turn keys n no_items = []
in_turn keys n (item d ds) = keys n ++ in_turn keys (suc n) ds

-- a class's table and its keys
abbrev pub class_keys : ℕ → List Key
class_keys class = keys_at (place.Class class) class_fields

-- a provisioned flow's table and its keys
abbrev pub flow_keys : ℕ → ℕ → List Key
flow_keys operator flow = keys_at (place.Flow operator flow) flow_fields

-- an operator's own keys, and then those of its provisioned flows
abbrev pub operator_keys : Members → ℕ → List Key
operator_keys document operator =
    keys_at (place.Operator operator) operator_fields
    ++ in_turn (flow_keys operator) 0 (items_in (value_of_key document (Entry (place.Operator operator) Flow)))

-- the table `plant`, then each class, then each operator with its flows
abbrev pub keys_of : Members → List Key
keys_of document =
    keys_at place.Plant plant_fields
    ++ (Classes ∷ in_turn class_keys 0 (items_in (value_of_key document Classes)))
    ++ (Operators ∷ in_turn (operator_keys document) 0 (items_in (value_of_key document Operators)))
