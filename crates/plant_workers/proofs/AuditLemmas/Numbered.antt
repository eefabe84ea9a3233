-- Frames that are numbered one after the other.
use Rattle.std.proofs.Common.{◌≡◌, ℕ, zero, suc, ◌+◌, ◌≤◌, List, [], ◌∷◌, ◌++◌, length, take, Some, ap, ◌∙◌}
use Rattle.plant_workers.proofs.AuditLemmas.Common.{slice_get, length-take-le, slice_get_within, AreNumbered, Numbered, IsMissed}
use Rattle.run_model.proofs.Fits.{number_at}
use Rattle.plant_workers.proofs.AuditLemmas.Differing.{get_append, differ_here, differ_end, flipped}

pub take_numbered : (n count : ℕ) (frames : List Numbered) → AreNumbered n frames → AreNumbered n (take count frames)
take_numbered n zero frames h = tt
take_numbered n (suc count) [] h = tt
take_numbered n (suc count) (frame ∷ frames) h = (h.0, take_numbered (n + 1) count frames h.1)

-- something else is put
pub missed_here : (first : ℕ) (puts due rest : List Numbered) (n : ℕ) (put : Numbered) → n ≤ length due → puts ≡ take n due ++ put ∷ rest → (slice_get due n ≡ Some put → ⊥) → AreNumbered first puts
    → IsMissed first puts due put.0
missed_here first puts due rest n put le e ne numbered = record {
  place = n;
  frame_is = number_at first n puts put numbered (ap (λ (ps : List Numbered). slice_get ps n) e ∙ get_append (take n due) rest put n (length-take-le n due le));
  differ = flipped due puts n (differ_here due puts rest n put le e ne);
}

-- no more is put
pub missed_end : (first : ℕ) (puts due : List Numbered) (n : ℕ) (frame : Numbered) → puts ≡ take n due → slice_get due n ≡ Some frame → AreNumbered first due → IsMissed first puts due frame.0
missed_end first puts due n frame e there numbered = record {
  place = n;
  frame_is = number_at first n due frame numbered there;
  differ = flipped due puts n (differ_end due puts n (slice_get_within due n frame there) e);
}
