-- What a reader finds in a capture file (implementation-specific: pcap 2.4).
use Rattle.std.specs.Prelude.{ℕ, zero, suc, ◌+◌, true, false, List, [], ◌∷◌, length, take, drop, slice_range, nat_lt}
use Rattle.std.specs.Int.{w32, from_le_bytes}

-- how many bytes of a frame the record at the head of the bytes keeps
abbrev pub kept_in : List ℕ → ℕ
kept_in bytes = from_le_bytes w32 (slice_range bytes 8 12)

-- the frames of at most so many records, one after the other: each after 16 bytes, up to the end
abbrev pub records_in : ℕ → List ℕ → List (List ℕ)
records_in zero bytes = []
records_in (suc more) bytes =
    elim (nat_lt 15 (length bytes)) [
      | true ↦ take (kept_in bytes) (drop 16 bytes) ∷ records_in more (drop (16 + kept_in bytes) bytes)
      | false ↦ []
    ]

-- what a reader finds that goes from record to record: the frames of a file, whose header takes 24 bytes
abbrev pub frames_of_file : ℕ → List ℕ → List (List ℕ)
frames_of_file most bytes = records_in most (drop 24 bytes)
