use Rattle.pcap_capture.proofs.Common.{◌≡◌, ℕ, List, [], ◌∷◌, ◌++◌, map, filter, not, refl, flat_map, map-append, flat_map-append, filter-append, PlantFields, Message, Request, Step, Out, target, IsTold, Clock, Packet, file_of, CaptureView, Turn, opened_capture, with_packets, sent_in, told_in, packets_of, HaveOwnOutputs, CapturesRun, IsCaptureOf, HoldsRun, is_sent}
use Rattle.std.proofs.Common.{sym, ◌∙◌, ap, subst, append_assoc, append-nil}
use Rattle.operator_model.specs.declared.output.Output.TheVariants as outputs
use Rattle.run_model.specs.declared.step.Step.TheVariants as steps
use Rattle.run_model.specs.declared.step.Out.TheVariants as outs

pub opened_run : (plant : PlantFields) → CapturesRun plant [] [] (opened_capture plant.consts)
opened_run plant = record { turns = []; steps_are = refl; outs_are = refl; own = tt; clock_is = refl; packets_are = refl }

-- a list of one more at the end
flat_map_last : {X Y : Type 0} (f : X → List Y) (xs : List X) (x : X) → flat_map f (xs ++ x ∷ []) ≡ flat_map f xs ++ f x
flat_map_last f xs x = flat_map-append f xs (x ∷ []) ∙ ap (λ ys. flat_map f xs ++ ys) (append-nil (f x))

-- one turn more, whose outputs are its own after the steps of all turns
own_more : (plant : PlantFields) (before : List Step) (turns : List Turn) (turn : Turn) → HaveOwnOutputs plant before turns
    → IsTold plant (before ++ map (λ (t : Turn). t.step) turns) turn.step (target plant turn.step) turn.outs
    → HaveOwnOutputs plant before (turns ++ turn ∷ [])
own_more plant before [] turn own told =
    (subst (λ (s : List Step). IsTold plant s turn.step (target plant turn.step) turn.outs) (append-nil before) told, tt)
own_more plant before (first ∷ turns) turn own told = (
  own.0,
  own_more plant (before ++ first.step ∷ []) turns turn own.1
      (subst (λ (s : List Step). IsTold plant s turn.step (target plant turn.step) turn.outs)
      (sym (append_assoc before (first.step ∷ []) (map (λ (t : Turn). t.step) turns))) told),
)

pub step_run : (plant : PlantFields) (steps : List Step) (outs : List Out) (step : Step) (now : List Out) (old mid new : CaptureView)
    → CapturesRun plant steps outs old → IsTold plant steps step (target plant step) now → mid ≡ with_packets old (sent_in step)
    → new ≡ with_packets mid (flat_map told_in now) → CapturesRun plant (steps ++ step ∷ []) (outs ++ now) new
step_run plant steps outs step now old mid new run told mid_is new_is =
    let turn : Turn = record { step = step; outs = now } in
    record {
      turns = run.turns ++ turn ∷ [];
      steps_are = map-append (λ (t : Turn). t.step) run.turns (turn ∷ []) ∙ ap (λ (l : List Step). l ++ step ∷ []) run.steps_are;
      outs_are = flat_map_last (λ (t : Turn). t.outs) run.turns turn ∙ ap (λ (l : List Out). l ++ now) run.outs_are;
      own = own_more plant [] run.turns turn run.own
          (subst (λ (s : List Step). IsTold plant s step (target plant step) now) (sym run.steps_are) told);
      clock_is = ap (λ (c : CaptureView). c.clock) new_is ∙ (ap (λ (c : CaptureView). c.clock) mid_is ∙ run.clock_is);
      packets_are =
          ap (λ (c : CaptureView). c.packets) new_is ∙ (ap (λ (c : CaptureView). c.packets ++ flat_map told_in now) mid_is
          ∙ (append_assoc old.packets (sent_in step) (flat_map told_in now)
          ∙ (ap (λ (l : List Packet). l ++ packets_of turn) run.packets_are ∙ sym (flat_map_last packets_of run.turns turn))));
    }

sent_of_step : (step : Step) → filter is_sent (sent_in step) ≡ sent_in step
sent_of_step (steps.Arrive modem (Message bytes)) = refl
sent_of_step (steps.Arrive modem (Request sid minislots)) = refl
sent_of_step (steps.Work op) = refl
sent_of_step (steps.Tick op) = refl
sent_of_step (steps.Collect op) = refl
sent_of_step (steps.Reslice from rows) = refl

told_of_step : (step : Step) → filter (λ packet. not (is_sent packet)) (sent_in step) ≡ []
told_of_step (steps.Arrive modem (Message bytes)) = refl
told_of_step (steps.Arrive modem (Request sid minislots)) = refl
told_of_step (steps.Work op) = refl
told_of_step (steps.Tick op) = refl
told_of_step (steps.Collect op) = refl
told_of_step (steps.Reslice from rows) = refl

sent_of_out : (out : Out) → filter is_sent (told_in out) ≡ []
sent_of_out (outs.Of op (outputs.Reply modem bytes)) = refl
sent_of_out (outs.Of op (outputs.Silent modem cause)) = refl
sent_of_out (outs.Of op (outputs.Frame number elements)) = refl
sent_of_out (outs.Map made) = refl

told_of_out : (out : Out) → filter (λ packet. not (is_sent packet)) (told_in out) ≡ told_in out
told_of_out (outs.Of op (outputs.Reply modem bytes)) = refl
told_of_out (outs.Of op (outputs.Silent modem cause)) = refl
told_of_out (outs.Of op (outputs.Frame number elements)) = refl
told_of_out (outs.Map made) = refl

sent_of_outs : (told : List Out) → filter is_sent (flat_map told_in told) ≡ []
sent_of_outs [] = refl
sent_of_outs (out ∷ told) = filter-append is_sent (told_in out) (flat_map told_in told) ∙ rw (sent_of_out out) (sent_of_outs told)

told_of_outs : (told : List Out) → filter (λ packet. not (is_sent packet)) (flat_map told_in told) ≡ flat_map told_in told
told_of_outs [] = refl
told_of_outs (out ∷ told) =
    filter-append (λ packet. not (is_sent packet)) (told_in out) (flat_map told_in told) ∙ rw (told_of_out out, told_of_outs told)

sent_of_turns : (turns : List Turn) → filter is_sent (flat_map packets_of turns) ≡ flat_map sent_in (map (λ turn. turn.step) turns)
sent_of_turns [] = refl
sent_of_turns (turn ∷ turns) =
    simp (filter-append, sent_of_step turn.step, sent_of_outs turn.outs, sent_of_turns turns, append-nil)

told_of_turns : (turns : List Turn)
    → filter (λ packet. not (is_sent packet)) (flat_map packets_of turns) ≡ flat_map told_in (flat_map (λ turn. turn.outs) turns)
told_of_turns [] = refl
told_of_turns (turn ∷ turns) =
    simp (filter-append, flat_map-append, told_of_step turn.step, told_of_outs turn.outs, told_of_turns turns)

pub holds_run : (plant : PlantFields) (steps : List Step) (outs : List Out) (bytes : List ℕ) → IsCaptureOf plant steps outs bytes
    → HoldsRun plant.consts steps outs bytes
holds_run plant steps outs bytes it = record {
  packets = it.captured.packets;
  bytes_are = it.bytes_are ∙ ap (λ (clock : Clock). file_of clock it.captured.packets) it.of_run.clock_is;
  sent = ap (filter is_sent) it.of_run.packets_are ∙ sent_of_turns it.of_run.turns ∙ ap (λ (l : List Step). flat_map sent_in l) it.of_run.steps_are;
  told = ap (filter (λ packet. not (is_sent packet))) it.of_run.packets_are ∙ told_of_turns it.of_run.turns ∙ ap (λ (l : List Out). flat_map told_in l) it.of_run.outs_are;
}
