-- The output that waits first.
use Rattle.std.proofs.Common.{◌≡◌, ◌≢◌, ℕ, ◌+◌, ◌≤◌, List, [], ◌∷◌, length, take, drop, get_or, Option, Some, None, ◌⊎◌, inl, inr, refl, sym, ap, ap₂, ◌∙◌}
use Rattle.std.proofs.lemmas.Bool.{eqb-false}
use Rattle.std.proofs.lemmas.List.{drop_more, drop_all}
use Rattle.std.proofs.lemmas.Option.{slice_get_within, slice_get-get_or, same_Some}
use Rattle.std.specs.Prelude.{slice_get}
use Rattle.run_model.specs.declared.step.Out.{Out}
use Rattle.plant_core.specs.live.LiveView.{live_view}
use Rattle.channel_c.specs.declared.channel.OpenChannel.{OpenChannel}
use Rattle.channel_c.specs.declared.head.OutputHead.{OutputHead}
use Rattle.channel_c.specs.declared.grants.Grant.{Grant}
use Rattle.channel_c.specs.Output.{head_of, bytes_of, grants_of, Fits}
use Rattle.channel_c.specs.Fetched.{FetchEnds}
use Rattle.channel_c.specs.Waiting.{view_of, text_of, waiting_of, IsSame}

first_of : (xs : List Out) (i : ℕ) (x : Out) → slice_get xs i ≡ Some x → drop i xs ≡ x ∷ drop (i + 1) xs
first_of xs i x is =
    let within = slice_get_within xs i x is in
    let same : x ≡ get_or xs i x = same_Some x (get_or xs i x) (sym is ∙ slice_get-get_or xs i x within) in
    drop_more xs i x within ∙ ap (λ (y : Out). y ∷ drop (i + 1) xs) (sym same)

pub fetch_none : (head : OutputHead) (bytes : List ℕ) (grants : List Grant) (channel : OpenChannel) → length channel.outs.items ≤ channel.fetched → FetchEnds 4 head bytes bytes grants grants channel channel
fetch_none head bytes grants channel all = record {
  fetched = λ zero. absurd (eqb-false 4 0 refl zero);
  too_long = λ three. absurd (eqb-false 4 3 refl three);
  none_waits = λ _. drop_all channel.fetched channel.outs.items all;
  same = λ _. record { view_is = refl; waiting_is = refl; text_is = refl };
  codes = inr (inr refl);
}

pub fetch_short : (out : Out) (bytes bytes' : List ℕ) (grants grants' : List Grant) (channel : OpenChannel) → slice_get channel.outs.items channel.fetched ≡ Some out → ¬ Fits out bytes grants
    → FetchEnds 3 (head_of out) bytes bytes' grants grants' channel channel
fetch_short out bytes bytes' grants grants' channel is long = record {
  fetched = λ zero. absurd (eqb-false 3 0 refl zero);
  too_long = λ _. record { out = out; rest = drop (channel.fetched + 1) channel.outs.items; waiting_is = first_of channel.outs.items channel.fetched out is; head_is = refl; not_fitting = long };
  none_waits = λ four. absurd (eqb-false 3 4 refl four);
  same = λ _. record { view_is = refl; waiting_is = refl; text_is = refl };
  codes = inr (inl refl);
}

pub fetch_done : (out : Out) (bytes bytes' : List ℕ) (grants grants' : List Grant) (old new : OpenChannel) → slice_get old.outs.items old.fetched ≡ Some out → new.core ≡ old.core → text_of new ≡ text_of old → new.outs.items ≡ old.outs.items
    → new.fetched ≡ old.fetched + 1 → take (length (bytes_of out)) bytes' ≡ bytes_of out → take (length (grants_of out)) grants' ≡ grants_of out → FetchEnds 0 (head_of out) bytes bytes' grants grants' old new
fetch_done out bytes bytes' grants grants' old new is core text outs more its_bytes its_grants = record {
  fetched = λ _. record {
    out = out;
    waiting_is = first_of old.outs.items old.fetched out is ∙ ap (λ (os : List Out). out ∷ os) (sym (ap₂ (λ (n : ℕ) (os : List Out). drop n os) more outs));
    view_is = ap live_view core;
    text_is = text;
    head_is = refl;
    bytes_are = its_bytes;
    grants_are = its_grants;
  };
  too_long = λ three. absurd (eqb-false 0 3 refl three);
  none_waits = λ four. absurd (eqb-false 0 4 refl four);
  same = λ other. absurd (other refl);
  codes = inl refl;
}
