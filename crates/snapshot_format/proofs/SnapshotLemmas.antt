-- A snapshot that was written is read again.
use Rattle.std.proofs.Common.{◌≡◌, ℕ, ◌+◌, ◌-◌, ◌%◌, ◌<◌, ◌^◌, false, nat_lt, List, [], ◌∷◌, ◌++◌, length, take, Result, Ok, refl, ap, subst, ◌∙◌, append_assoc, arith, codes, length-append}
use Rattle.snapshot_format.proofs.Common.{flat_map, decimal, digit_value, eq-eqb, le-ltb, take_at, drop_at, SnapshotFault, Snapshot, Gives, IsSnapshot}
use Rattle.snapshot_format.specs.Fields.{take_literal}
use Rattle.snapshot_format.specs.Checksum.{adler_after, adler_32, line_count}
use Rattle.snapshot_format.specs.Text.{operator_text, opening_text, body_text, closing_line, text_of_snapshot}
use Rattle.snapshot_format.specs.Snapshot.{take_version, take_plant, take_frame, take_body, take_end, checked_end, snapshot_of, snapshot_cause}
use Rattle.snapshot_format.proofs.SetLemmas.{long_back, short_back}
use Rattle.snapshot_format.proofs.RecordLemmas.{operators_back}

space : 10 < digit_value 32
space = omega arith

line_end : 10 < digit_value 10
line_end = omega arith

-- ---- the checksum is of 32 bits

adler_small : (low high : ℕ) (bytes : List ℕ) → low < 65521 → high < 65521 → adler_after low high bytes < 2 ^ 32
adler_small low high [] a b = omega arith
adler_small low high (x ∷ bytes) a b = adler_small ((low + x) % 65521) ((high + (low + x) % 65521) % 65521) bytes (omega arith) (omega arith)

sum_small : (bytes : List ℕ) → adler_32 bytes < 2 ^ 32
unfolding adler_32
sum_small bytes = adler_small 1 0 bytes (omega arith) (omega arith)

-- ---- all lines but the last

frame_back : (frame count : ℕ) (rest : List ℕ) → frame < 2 ^ 32 → count < 2 ^ 16
    → take_frame (codes "frame " ++ (decimal frame ++ 32 ∷ (decimal count ++ 10 ∷ rest))) ≡ Ok ((frame, count), rest)
unfolding take_frame take_literal
frame_back frame count rest small few = rw (long_back 32 frame (decimal count ++ 10 ∷ rest) space small, short_back 10 count rest line_end few) refl

plant_back : (plant rest : List ℕ) → length plant < 2 ^ 32
    → take_plant (codes "melfjits-snapshot 1 " ++ (decimal (length plant) ++ 10 ∷ (plant ++ (codes "---" ++ 10 ∷ rest)))) ≡ Ok (plant, rest)
unfolding take_plant take_version take_literal
plant_back plant rest small =
    let t1 : List ℕ = codes "---" ++ 10 ∷ rest in
    let long : nat_lt (length (plant ++ t1)) (length plant) ≡ false = le-ltb _ _ (omega (arith, length-append plant t1)) in
    rw (long_back 10 (length plant) (plant ++ t1) line_end small, long, take_at plant t1 (length plant) refl, drop_at plant t1 (length plant) refl) refl

body_back : (saved : Snapshot) (rest : List ℕ) → IsSnapshot saved → take_body (body_text saved ++ rest) ≡ Ok (saved, rest)
unfolding take_body body_text opening_text
body_back saved rest is =
    let t2 : List ℕ = flat_map operator_text saved.operators ++ rest in
    let t1 : List ℕ = codes "frame " ++ (decimal saved.frame ++ 32 ∷ (decimal (length saved.operators) ++ 10 ∷ t2)) in
    let whole : body_text saved ++ rest ≡ codes "melfjits-snapshot 1 " ++ (decimal (length saved.plant) ++ 10 ∷ (saved.plant ++ (codes "---" ++ 10 ∷ t1))) = simp append_assoc in
    ap take_body whole
    ∙ rw (
      plant_back saved.plant t1 is.plant,
      frame_back saved.frame (length saved.operators) t2 is.frame is.few,
      operators_back saved.operators rest is.operators is.own_names,
    ) refl

-- ---- the last line

end_back : (body : List ℕ) → line_count body < 2 ^ 32 → take_end (closing_line body) ≡ Ok ((line_count body, adler_32 body), [])
unfolding take_end closing_line take_literal
end_back body few = rw (long_back 32 (line_count body) (decimal (adler_32 body) ++ 10 ∷ []) space few, long_back 10 (adler_32 body) [] line_end (sum_small body)) refl

checked_back : (body : List ℕ) → line_count body < 2 ^ 32 → checked_end body (closing_line body) ≡ Ok []
unfolding checked_end
checked_back body few = rw (end_back body few, eq-eqb (line_count body) (line_count body) refl, eq-eqb (adler_32 body) (adler_32 body) refl) refl

-- ---- the whole

front : (body end : List ℕ) → take (length (body ++ end) - length end) (body ++ end) ≡ body
front body end = take_at body end (length (body ++ end) - length end) (let sum = length-append body end in omega (arith, sum))

pub snapshot_back : (saved : Snapshot) → IsSnapshot saved → snapshot_of (text_of_snapshot saved) ≡ Ok saved
snapshot_back saved is =
    rw (body_back saved (closing_line (body_text saved)) is, front (body_text saved) (closing_line (body_text saved)), checked_back (body_text saved) is.lines) refl

pub read_back : (text : List ℕ) (answer : Result Snapshot SnapshotFault) → Gives snapshot_cause (λ saved. saved) answer (snapshot_of text) → (saved : Snapshot) → IsSnapshot saved → text ≡ text_of_snapshot saved → Gives snapshot_cause (λ saved. saved) answer (Ok saved)
read_back text answer exact saved is e = subst (λ (said : Result Snapshot SnapshotFault). Gives snapshot_cause (λ saved. saved) answer said) (ap snapshot_of e ∙ snapshot_back saved is) exact
