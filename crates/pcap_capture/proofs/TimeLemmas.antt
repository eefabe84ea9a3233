use Rattle.pcap_capture.proofs.Common.{◌≡◌, ℕ, zero, suc, ◌+◌, ◌*◌, List, [], ◌∷◌, ◌++◌, map, length, refl, flat_map, range_with_len, map-append, filter_map-append, flat_map-append, PlantFields, Message, Request, Step, Out, maps_in, IsTraceOf, Clock, Packet, Sent, Reply, Map, frame_of, record_of, records_from, file_of, file_header, CaptureView, Turn, sent_in, told_in, packets_of, CapturesRun}
use Rattle.std.proofs.Common.{arith, sym, ◌∙◌, ap}
use Rattle.operator_model.specs.declared.output.Output.TheVariants as outputs
use Rattle.map_assembly.specs.declared.map_bytes.MapBytes.{MapBytes}
use Rattle.run_model.specs.declared.step.Step.TheVariants as steps
use Rattle.run_model.specs.declared.step.Out.TheVariants as outs
use Rattle.pcap_capture.specs.Times.{counted_from}

-- the frame of a MAP
abbrev frame_told : Packet → List ℕ
frame_told (Map frame bytes) = frame ∷ []
frame_told (Sent modem bytes) = []
frame_told (Reply modem bytes) = []

-- ---- packets

first_is : (a n f : ℕ) (frames : List ℕ) → f ∷ frames ≡ range_with_len a n → f ≡ a
first_is a zero f frames e = cc
first_is a (suc n) f frames e = cc

-- of a range of numbers, those behind the first
abbrev behind : ℕ → ℕ
behind zero = zero
behind (suc n) = n

rest_is : (a n f : ℕ) (frames : List ℕ) → f ∷ frames ≡ range_with_len a n → frames ≡ range_with_len (a + 1) (behind n)
rest_is a zero f frames e = cc
rest_is a (suc n) f frames e = cc

counted : (us first count n : ℕ) (packets : List Packet) → flat_map frame_told packets ≡ range_with_len (first + count) n
    → records_from us (first + count) packets ≡ counted_from us first count packets
counted us first count n [] e = refl
counted us first count n (Sent modem bytes ∷ packets) e =
    ap (λ (l : List ℕ). record_of ((first + count) * us) (frame_of (Sent modem bytes)) ++ l) (counted us first count n packets e)
counted us first count n (Reply modem bytes ∷ packets) e =
    ap (λ (l : List ℕ). record_of ((first + count) * us) (frame_of (Reply modem bytes)) ++ l) (counted us first count n packets e)
counted us first count n (Map frame bytes ∷ packets) e =
    let f : frame ≡ first + count = first_is (first + count) n frame (flat_map frame_told packets) e in
    let g : first + count + 1 ≡ first + (count + 1) = omega arith in
    let r : flat_map frame_told packets ≡ range_with_len (first + (count + 1)) (behind n) =
    rest_is (first + count) n frame (flat_map frame_told packets) e ∙ ap (λ (a : ℕ). range_with_len a (behind n)) g in
    ap (λ (a : ℕ). record_of (a * us) (frame_of (Map frame bytes)) ++ records_from us (a + 1) packets) f
    ∙ ap (λ (l : List ℕ). record_of ((first + count) * us) (frame_of (Map frame bytes)) ++ l)
    (ap (λ (a : ℕ). records_from us a packets) g ∙ counted us first (count + 1) (behind n) packets r)

-- ---- runs

none_sent : (step : Step) → flat_map frame_told (sent_in step) ≡ []
none_sent (steps.Arrive modem (Message bytes)) = refl
none_sent (steps.Arrive modem (Request sid minislots)) = refl
none_sent (steps.Work op) = refl
none_sent (steps.Tick op) = refl
none_sent (steps.Collect op) = refl
none_sent (steps.Reslice from rows) = refl

frames_of_outs : (told : List Out) → flat_map frame_told (flat_map told_in told) ≡ map (λ (m : MapBytes). m.frame) (maps_in told)
frames_of_outs [] = refl
frames_of_outs (outs.Of op (outputs.Reply modem bytes) ∷ told) = frames_of_outs told
frames_of_outs (outs.Of op (outputs.Silent modem cause) ∷ told) = frames_of_outs told
frames_of_outs (outs.Of op (outputs.Frame number elements) ∷ told) = frames_of_outs told
frames_of_outs (outs.Map made ∷ told) = ap (λ (l : List ℕ). made.frame ∷ l) (frames_of_outs told)

frames_of_turns : (turns : List Turn)
    → flat_map frame_told (flat_map packets_of turns) ≡ map (λ (m : MapBytes). m.frame) (maps_in (flat_map (λ turn. turn.outs) turns))
frames_of_turns [] = refl
frames_of_turns (turn ∷ turns) =
    simp (flat_map-append, filter_map-append, map-append, none_sent turn.step, frames_of_outs turn.outs, frames_of_turns turns)

pub times_counted : (plant : PlantFields) (steps : List Step) (outs : List Out) (captured : CaptureView) → IsTraceOf plant steps outs
    → CapturesRun plant steps outs captured
    → file_of captured.clock captured.packets
    ≡ file_header ++ counted_from plant.consts.units.frame_us plant.consts.channel.first_frame 0 captured.packets
times_counted plant steps outs captured shown run =
    let first : ℕ = plant.consts.channel.first_frame in
    let us : ℕ = plant.consts.units.frame_us in
    let z : first + 0 ≡ first = omega arith in
    let frames : flat_map frame_told captured.packets ≡ range_with_len (first + 0) (length (maps_in outs)) =
    ap (λ (l : List Packet). flat_map frame_told l) run.packets_are ∙ (frames_of_turns run.turns
    ∙ (ap (λ (l : List Out). map (λ (m : MapBytes). m.frame) (maps_in l)) run.outs_are
    ∙ (shown.maps.frames ∙ ap (λ (a : ℕ). range_with_len a (length (maps_in outs))) (sym z)))) in
    ap (λ (clock : Clock). file_of clock captured.packets) run.clock_is
    ∙ ap (λ (l : List ℕ). file_header ++ l)
    (ap (λ (a : ℕ). records_from us a captured.packets) (sym z) ∙ counted us first 0 (length (maps_in outs)) captured.packets frames)
