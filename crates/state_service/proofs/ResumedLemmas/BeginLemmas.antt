-- What a text before the lines says, and why it says nothing.
use Rattle.std.proofs.Common.{◌≡◌, ℕ, List, Bool, true, false, MatchBool, Option, Some, None, IfSome, IfErr, Result, Ok, Err, refl, sym, subst}
use Rattle.state_service.proofs.ResumedLemmas.Common.{IsUtf8, is_utf8, IsUtf8-from_is_utf8, PlantFields, Snapshot, is_snapshot_head, front_text, GoesOnFrom, BeginsAnew, IsBeginning, IsSavedFile, IsPlantFile, IsFileFault, IsTextFault, IsRestoringFault, IsBeginFault}
use Rattle.snapshot_format.specs.Snapshot.{snapshot_of}
use Rattle.state_service.specs.declared.resumed.begin_fault.BeginFault.{BeginFault}
use Rattle.state_service.specs.declared.resumed.begin_fault.BeginFault.TheVariants.{NotText, InvalidSnapshot, InvalidPlant, NotRestored, NoMemory}

-- bytes that are no text
pub no_text : (file : List ℕ) → ¬ IsUtf8 file → is_utf8 file ≡ false
no_text file other = by (is_utf8 file) refl where
  by : (t : Bool) → is_utf8 file ≡ t → t ≡ false
  by true is = absurd (other (IsUtf8-from_is_utf8 file is))
  by false is = refl

-- a fault of the plant file is one of the text
pub file_fault : (text file : List ℕ) (fault : BeginFault) → IsPlantFile text file → IsFileFault file fault → IsTextFault text fault
file_fault text file NotText is has = (file, is, has)
file_fault text file (InvalidSnapshot number wrong) is has = absurd has
file_fault text file (InvalidPlant why) is has = (file, is, has)
file_fault text file (NotRestored why) is has = absurd has
file_fault text file NoMemory is has = tt

-- the plant file of a snapshot
pub saved_file : (text : List ℕ) (saved : Snapshot) → is_snapshot_head text ≡ true → snapshot_of text ≡ Ok saved → IsPlantFile text saved.plant
saved_file text saved head is = subst (λ (b : Bool). MatchBool b (IsSavedFile text saved.plant) (saved.plant ≡ text)) (sym head) (saved, is, refl)

-- the text itself
pub own_file : (text : List ℕ) → is_snapshot_head text ≡ false → IsPlantFile text text
own_file text head = subst (λ (b : Bool). MatchBool b (IsSavedFile text text) (text ≡ text)) (sym head) refl

pub goes_on : (text : List ℕ) (plant : PlantFields) (saved : Snapshot) → is_snapshot_head text ≡ true → GoesOnFrom text plant saved → IsBeginning text plant saved
goes_on text plant saved head is = subst (λ (b : Bool). MatchBool b (GoesOnFrom text plant saved) (BeginsAnew text plant saved)) (sym head) is

pub anew : (text : List ℕ) (plant : PlantFields) (saved : Snapshot) → is_snapshot_head text ≡ false → BeginsAnew text plant saved → IsBeginning text plant saved
anew text plant saved head is = subst (λ (b : Bool). MatchBool b (GoesOnFrom text plant saved) (BeginsAnew text plant saved)) (sym head) is

pub state_fault : (text : List ℕ) (plant : PlantFields) (saved : Snapshot) (fault : BeginFault) → IsBeginning text plant saved → IsRestoringFault plant saved fault → IsBeginFault text fault
state_fault text plant saved NotText begins is = absurd is
state_fault text plant saved (InvalidSnapshot number wrong) begins is = absurd is
state_fault text plant saved (InvalidPlant why) begins is = absurd is
state_fault text plant saved (NotRestored why) begins is = record { plant = plant; saved = saved; begins = begins; refused = is }
state_fault text plant saved NoMemory begins is = tt

-- ---- the text is read

-- a fault of the text that was read
pub fault_read : {T : Type 0} (known : Option (List ℕ)) (text : List ℕ) (r : Result T BeginFault) → IfSome known (λ input. text ≡ front_text input) → IfErr r (IsTextFault text)
    → IfErr r (λ fault. IfSome known (λ input. IsTextFault (front_text input) fault))
fault_read known text (Ok begun) is why = tt
fault_read None text (Err fault) is why = tt
fault_read (Some input) text (Err fault) is why = subst (λ (t : List ℕ). IsTextFault t fault) is why
