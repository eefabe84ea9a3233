use Rattle.pcap_capture.proofs.Common.{◌≡◌, ℕ, zero, suc, ◌+◌, ◌*◌, ◌<◌, ◌≤◌, ◌/◌, ◌%◌, ◌^◌, List, [], ◌∷◌, ◌++◌, length, take, drop, Bool, true, false, Option, Some, None, nat_lt, refl, IfSome, filter_map, cons_option, AllByRecursion, take-append_seam, drop-append_seam, drop-append-add, lt-ltb, Clock, Packet, frame_of, kept_in, records_in, frames_of_file, IsAddressed}
use Rattle.std.proofs.Common.{arith, sym, ◌∙◌, ap, subst}
use Rattle.std.proofs.lemmas.Nat.{from_le_bytes-to_le_bytes_4}
use Rattle.pcap_capture.specs.File.{word_bytes, record_of, packet_frame, next_after, records_from, file_of}
use Rattle.pcap_capture.proofs.HeldLemmas.{short_frame}

-- what stands before a frame in its record
head_of : ℕ → ℕ → List ℕ
head_of micros count = word_bytes (micros / 1000000 % 4294967296) ++ (word_bytes (micros % 1000000) ++ (word_bytes count ++ word_bytes count))

kept_is : (micros : ℕ) (frame rest : List ℕ) → length frame < 2 ^ 32 → kept_in (record_of micros (Some frame) ++ rest) ≡ length frame
unfolding word_bytes
kept_is micros frame rest h = from_le_bytes-to_le_bytes_4 (length frame) h

long_is : (micros : ℕ) (frame rest : List ℕ) → nat_lt 15 (length (record_of micros (Some frame) ++ rest)) ≡ true
unfolding word_bytes
long_is micros frame rest = lt-ltb 15 _ (omega arith)

behind_head : (micros : ℕ) (frame rest : List ℕ) → drop 16 (record_of micros (Some frame) ++ rest) ≡ frame ++ rest
unfolding word_bytes
behind_head micros frame rest = refl

behind_record : (micros : ℕ) (frame rest : List ℕ) → drop (16 + length frame) (record_of micros (Some frame) ++ rest) ≡ rest
unfolding word_bytes head_of
behind_record micros frame rest =
    drop-append-add (head_of micros (length frame)) (frame ++ rest) (length frame) ∙ drop-append_seam frame rest

one_read : (more : ℕ) (bytes frame rest : List ℕ) → nat_lt 15 (length bytes) ≡ true → take (kept_in bytes) (drop 16 bytes) ≡ frame
    → drop (16 + kept_in bytes) bytes ≡ rest → records_in (suc more) bytes ≡ frame ∷ records_in more rest
one_read more bytes frame rest long kept left =
    let P : Bool → Type 0 =
    λ b. (elim b as (λ v. List (List ℕ)) [ true ↦ take (kept_in bytes) (drop 16 bytes) ∷ records_in more (drop (16 + kept_in bytes) bytes) | false ↦ [] ])
    ≡ frame ∷ records_in more rest in
    subst P (sym long) (rw (kept, left))

-- the first record is read, and what follows it
first_read : (more micros : ℕ) (frame rest : List ℕ) → length frame < 2 ^ 32
    → records_in (suc more) (record_of micros (Some frame) ++ rest) ≡ frame ∷ records_in more rest
first_read more micros frame rest h =
    let k : kept_in (record_of micros (Some frame) ++ rest) ≡ length frame = kept_is micros frame rest h in
    one_read more (record_of micros (Some frame) ++ rest) frame rest (long_is micros frame rest)
    (rw (k, behind_head micros frame rest) (take-append_seam frame rest))
    (rw k (behind_record micros frame rest))

none_read : (fuel : ℕ) → records_in fuel [] ≡ []
none_read zero = refl
none_read (suc fuel) = refl

-- a packet with no frame leaves nothing, another its frame
packet_read : (fuel micros : ℕ) (frame : Option (List ℕ)) (rest : List ℕ) (frames : List (List ℕ)) → IfSome frame (λ f. length f < 2 ^ 32)
    → ((more : ℕ) → fuel ≤ more → records_in more rest ≡ frames) → (more : ℕ) → suc fuel ≤ more
    → records_in more (record_of micros frame ++ rest) ≡ cons_option frame frames
packet_read fuel micros None rest frames short later more h = later more (omega arith)
packet_read fuel micros (Some f) rest frames short later zero h = absurd (omega arith)
packet_read fuel micros (Some f) rest frames short later (suc more) h =
    first_read more micros f rest short ∙ ap (λ (l : List (List ℕ)). f ∷ l) (later more (omega arith))

pub all_read : (us next : ℕ) (packets : List Packet) → AllByRecursion IsAddressed packets → (more : ℕ) → length packets ≤ more
    → records_in more (records_from us next packets) ≡ filter_map frame_of packets
all_read us next [] all more h = none_read more
all_read us next (packet ∷ packets) all more h =
    packet_read (length packets) (packet_frame next packet * us) (frame_of packet) (records_from us (next_after next packet) packets)
    (filter_map frame_of packets) (short_frame packet all.0) (all_read us (next_after next packet) packets all.1) more h

pub file_read : (clock : Clock) (packets : List Packet) → AllByRecursion IsAddressed packets
    → frames_of_file (length packets) (file_of clock packets) ≡ filter_map frame_of packets
file_read clock packets all = all_read clock.frame_us clock.first_frame packets all (length packets) (omega arith)
