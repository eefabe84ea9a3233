-- What the bytes of a MAP say, and their first fault, from how their elements are judged.
use Rattle.std.proofs.Common.{◌≡◌, ◌≢◌, ◌↔◌, ℕ, List, length, drop, IfErr, Result, Ok, Err, refl, sym, ap, ◌∙◌, subst, arith}
use Rattle.map_assembly.specs.declared.view.MapView.{MapView}
use Rattle.map_assembly.proofs.Common.{MapSpan, elements_in, MapFault, Short, Count, Backward, NoNull, AfterNull, NoMemory, header_in, elements_behind, IsCounted, MapReads, ElementsSay, IsFirstMapFault, MapIsRead, count_before_null, spans_in, pending_in}
use Rattle.map_assembly.proofs.SayLemmas.{judged_says, say_judged, say_spans, say_pending}
use Rattle.map_assembly.proofs.FaultLemmas.{judged_fault, fault_judged}

never : (f : MapFault) (n : ℕ) (r : Result ℕ MapFault) → r ≡ Err f → r ≡ Ok n → ⊥
never f n r p q = cc

same_view : (a b : MapView) → a.header ≡ b.header → a.spans ≡ b.spans → a.pending ≡ b.pending → a ≡ b
same_view a b p q r = λ i. record { header = p i; spans = q i; pending = r i }

-- elements that are judged well say what is read
pub reads_made : (bytes : List ℕ) (n : ℕ) (view : MapView) → IsCounted bytes → count_before_null 0 0 (elements_behind bytes) ≡ Ok n
    → view.header ≡ header_in bytes → view.spans ≡ spans_in (elements_behind bytes) → view.pending ≡ pending_in (elements_behind bytes) → MapReads bytes view
reads_made bytes n view counted well header spans pending = record {
  counted = counted;
  header = header;
  elements =
      subst (λ (sids : List ℕ). ElementsSay (elements_behind bytes) view.spans sids) (sym pending)
      (subst (λ (ss : List MapSpan). ElementsSay (elements_behind bytes) ss (pending_in (elements_behind bytes))) (sym spans) (judged_says 0 0 (elements_behind bytes) n well));
}

wants : (r : Result MapView MapFault) (view : MapView) (fault : MapFault) → MapIsRead r view → r ≡ Err fault → fault ≢ NoMemory → ⊥
wants (Ok v) view fault is e ne = cc
wants (Err f) view fault is e ne = ne cc

-- bytes say one thing at most
pub reads_once : (bytes : List ℕ) (a b : MapView) → MapReads bytes a → MapReads bytes b → a ≡ b
reads_once bytes a b p q = same_view a b (p.header ∙ sym q.header)
    (sym (say_spans (elements_behind bytes) a.spans a.pending p.elements) ∙ say_spans (elements_behind bytes) b.spans b.pending q.elements)
    (sym (say_pending (elements_behind bytes) a.spans a.pending p.elements) ∙ say_pending (elements_behind bytes) b.spans b.pending q.elements)

-- the first fault of counted bytes is the one at which judging ends
fault_is : (bytes : List ℕ) (f : MapFault) → IsCounted bytes → count_before_null 0 0 (elements_behind bytes) ≡ Err f → IsFirstMapFault bytes f
fault_is bytes Short counted h = absurd (judged_fault (elements_behind bytes) Short h)
fault_is bytes Count counted h = absurd (judged_fault (elements_behind bytes) Count h)
fault_is bytes (Backward at) counted h = (counted, judged_fault (elements_behind bytes) (Backward at) h)
fault_is bytes NoNull counted h = (counted, judged_fault (elements_behind bytes) NoNull h)
fault_is bytes (AfterNull at) counted h = (counted, judged_fault (elements_behind bytes) (AfterNull at) h)
fault_is bytes NoMemory counted h = absurd (judged_fault (elements_behind bytes) NoMemory h)

fault_judges : (bytes : List ℕ) (f : MapFault) → IsCounted bytes → IsFirstMapFault bytes f → count_before_null 0 0 (elements_behind bytes) ≡ Err f
fault_judges bytes Short counted h = absurd (omega (arith, h, counted))
fault_judges bytes Count counted h = absurd (h.1 counted)
fault_judges bytes (Backward at) counted h = fault_judged (elements_behind bytes) (Backward at) h.1
fault_judges bytes NoNull counted h = fault_judged (elements_behind bytes) NoNull h.1
fault_judges bytes (AfterNull at) counted h = fault_judged (elements_behind bytes) (AfterNull at) h.1
fault_judges bytes NoMemory counted h = absurd h

same_fault : (f g : MapFault) (r : Result ℕ MapFault) → r ≡ Err f → r ≡ Err g → f ≡ g
same_fault f g r p q = cc

-- ---- how many spans there are, or the first fault

abbrev pub IsFault : List ℕ → MapFault → Type 0
IsFault bytes told = (fault : MapFault) → (told ≡ fault) ↔ IsFirstMapFault bytes fault

pub judged_badly : (bytes body : List ℕ) (r : Result ℕ MapFault) → IsCounted bytes → body ≡ drop 16 bytes → r ≡ count_before_null 0 0 (elements_in body) → IfErr r (IsFault bytes)
judged_badly bytes body (Ok n) counted e h = tt
judged_badly bytes body (Err f) counted e h =
    let at : count_before_null 0 0 (elements_behind bytes) ≡ Err f = sym (h ∙ ap (λ (b : List ℕ). count_before_null 0 0 (elements_in b)) e) in
    λ fault. (
      λ p. subst (λ (g : MapFault). IsFirstMapFault bytes g) p (fault_is bytes f counted at),
      λ p. same_fault f fault (count_before_null 0 0 (elements_behind bytes)) at (fault_judges bytes fault counted p),
    )

-- ---- what is read

-- bytes that say something have no fault
reads_no_fault : (bytes : List ℕ) (view : MapView) (f : MapFault) → MapReads bytes view → IsFirstMapFault bytes f → ⊥
reads_no_fault bytes view f reads p =
    never f (length view.spans) (count_before_null 0 0 (elements_behind bytes)) (fault_judges bytes f reads.counted p) (say_judged (elements_behind bytes) view.spans view.pending reads.elements)

pub fault_reads_nothing : (bytes : List ℕ) (f : MapFault) (r : Result MapView MapFault) → IsFault bytes f → (view : MapView) → MapReads bytes view → MapIsRead r view
fault_reads_nothing bytes f r is view reads = absurd (reads_no_fault bytes view f reads ((is f).0 refl))

pub fault_is_no_want : (bytes : List ℕ) (f : MapFault) (r : Result MapView MapFault) → r ≡ Err f → IsFault bytes f → r ≡ Err NoMemory → (view : MapView) × MapReads bytes view
fault_is_no_want bytes f r at is e = let same : f ≡ NoMemory = cc in absurd ((is NoMemory).0 same)

pub well_says : (bytes : List ℕ) (n : ℕ) → IsCounted bytes → count_before_null 0 0 (elements_behind bytes) ≡ Ok n → (view : MapView) × MapReads bytes view
well_says bytes n counted h =
    let view : MapView = record { header = header_in bytes; spans = spans_in (elements_behind bytes); pending = pending_in (elements_behind bytes) } in
    (view, reads_made bytes n view counted h refl refl refl)

-- where the bytes say something, the answer is no other fault than want of memory
pub well_has_no_fault : (bytes : List ℕ) (n : ℕ) (r : Result MapView MapFault) (view : MapView) → IsCounted bytes → count_before_null 0 0 (elements_behind bytes) ≡ Ok n → MapIsRead r view
    → (fault : MapFault) → fault ≢ NoMemory → (r ≡ Err fault) ↔ IsFirstMapFault bytes fault
well_has_no_fault bytes n r view counted h is fault ne = (
  λ e. absurd (wants r view fault is e ne),
  λ p. absurd (never fault n (count_before_null 0 0 (elements_behind bytes)) (fault_judges bytes fault counted p) h),
)
