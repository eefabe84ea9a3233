-- What a device's clauses say of one call more.
use Rattle.std.proofs.Common.{◌≡◌, ◌⊎◌, inl, inr, ⊎_elim, ℕ, ◌+◌, Bool, true, false, List, [], ◌∷◌, ◌++◌, length, take, drop, Vec, Result, Ok, Err, sym, subst, ◌∙◌, ap, arith, if◌then◌else◌}
use Rattle.std.specs.declared.alloc.Global.{Global}
use Rattle.line_journal.specs.declared.device.DeviceError.{DeviceError}
use Rattle.line_journal.specs.declared.device.DeviceError.TheVariants.{Failed, Full}
use Rattle.line_journal.specs.Device.{Torn, Cut, Follows, Only, HasCause}
use Rattle.journal_file.specs.declared.calls.FileCall.TheVariants.{RefuseRead, Write, Truncate, Sync, Replace}
use Rattle.journal_file.specs.Disk.{FileEvent, file_content, MayLeave, is_failure, failures}
use Rattle.journal_file.proofs.Noted.{content_is, leaves_now, failures_now}

-- ---- of the outcome

module _ {T : Type 0} (events later : List FileEvent) (event : FileEvent) (is : later ≡ events ++ event ∷ []) where
  -- a call that succeeded
  pub no_cause : (x : T) → HasCause (failures events) (failures later) (Ok x)
  no_cause x = record {
    later = omega (arith, failures_now events later event is);
    failed = λ (e : ◌≡◌ {A = Result T DeviceError} (Ok x) (Err Failed)). cc;
    not_full = λ (e : ◌≡◌ {A = Result T DeviceError} (Ok x) (Err Full)). cc;
  }

  -- and one that failed
  pub has_cause : is_failure event.0 ≡ true → HasCause {T = T} (failures events) (failures later) (Err Failed)
  has_cause fails =
      let more : failures later ≡ failures events + 1 = failures_now events later event is ∙ ap (λ (b : Bool). failures events + (if b then 1 else 0)) fails in
      record {
        later = omega (arith, more);
        failed = λ e. omega (arith, more);
        not_full = λ (e : ◌≡◌ {A = Result T DeviceError} (Err Failed) (Err Full)). cc;
      }

-- ---- of what a crash may leave

module _ (events later : List FileEvent) (bytes : Vec ℕ Global) where
  pub refused_read : later ≡ events ++ (RefuseRead, bytes) ∷ [] → (c : List ℕ) → MayLeave later c → MayLeave events c
  refused_read is c left = leaves_now events later (RefuseRead, bytes) is c left

  pub torn : (at : ℕ) (done : Bool) (given : List ℕ) → later ≡ events ++ (Write at done, bytes) ∷ [] → bytes.items ≡ given → Follows (Torn at (length given)) (MayLeave events) (MayLeave later)
  torn at done given is same = λ c left.
      let was = leaves_now events later (Write at done, bytes) is c left in
      (was.0, was.1, subst (λ (l : List ℕ). Torn at (length l) was.0 c) same was.2)

  pub cut : (len : ℕ) (done : Bool) → later ≡ events ++ (Truncate len done, bytes) ∷ [] → Follows (Cut len) (MayLeave events) (MayLeave later)
  cut len done is c left = leaves_now events later (Truncate len done, bytes) is c left

  -- a sync that succeeded
  pub synced : (done : Bool) (file : List ℕ) → done ≡ true → file ≡ file_content events → later ≡ events ++ (Sync done, bytes) ∷ [] → Only file (MayLeave later)
  synced done file ok same is c left =
      let so = subst (λ (b : Bool). later ≡ events ++ (Sync b, bytes) ∷ []) ok is in
      (leaves_now events later (Sync true, bytes) so c left).1 ∙ sym same

  pub sync_adds_none : (done : Bool) → later ≡ events ++ (Sync done, bytes) ∷ [] → (c : List ℕ) → MayLeave later c → MayLeave events c
  sync_adds_none true is c left = (leaves_now events later (Sync true, bytes) is c left).0
  sync_adds_none false is c left = leaves_now events later (Sync false, bytes) is c left

  -- a replacement that succeeded, and one that failed
  pub replaced : later ≡ events ++ (Replace true, bytes) ∷ [] → (given : List ℕ) → bytes.items ≡ given → Only given (MayLeave later)
  replaced is given same c left = leaves_now events later (Replace true, bytes) is c left ∙ same

  pub not_replaced : later ≡ events ++ (Replace false, bytes) ∷ [] → (given : List ℕ) → bytes.items ≡ given → (c : List ℕ) → MayLeave later c → MayLeave events c ⊎ (c ≡ given)
  not_replaced is given same c left = ⊎_elim (λ old. inl old) (λ new. inr (new ∙ same)) (leaves_now events later (Replace false, bytes) is c left)

-- ---- of what a read returns

module _ (events later : List FileEvent) (bytes : Vec ℕ Global) (file : List ℕ) (same : file ≡ file_content events) where
  pub same_written : (at : ℕ) (done : Bool) (given new : List ℕ) → bytes.items ≡ given → new ≡ take at file ++ given ++ drop (at + length given) file
      → later ≡ events ++ (Write at done, bytes) ∷ [] → new ≡ file_content later
  same_written at done given new are wrote is =
      wrote ∙ ap (λ (l : List ℕ). take at file ++ l ++ drop (at + length l) file) (sym are)
      ∙ ap (λ (l : List ℕ). take at l ++ bytes.items ++ drop (at + length bytes.items) l) same
      ∙ sym (content_is events later (Write at done, bytes) is)

  pub same_cut : (len : ℕ) (done : Bool) (new : List ℕ) → new ≡ take len file → later ≡ events ++ (Truncate len done, bytes) ∷ [] → new ≡ file_content later
  same_cut len done new are is = are ∙ ap (λ (l : List ℕ). take len l) same ∙ sym (content_is events later (Truncate len done, bytes) is)

  pub same_synced : (done : Bool) → later ≡ events ++ (Sync done, bytes) ∷ [] → file ≡ file_content later
  same_synced done is = same ∙ sym (content_is events later (Sync done, bytes) is)

  pub same_refused : later ≡ events ++ (RefuseRead, bytes) ∷ [] → file ≡ file_content later
  same_refused is = same ∙ sym (content_is events later (RefuseRead, bytes) is)

  pub same_kept : later ≡ events ++ (Replace false, bytes) ∷ [] → file ≡ file_content later
  same_kept is = same ∙ sym (content_is events later (Replace false, bytes) is)

pub same_new : (events later : List FileEvent) (bytes : Vec ℕ Global) → later ≡ events ++ (Replace true, bytes) ∷ [] → bytes.items ≡ file_content later
same_new events later bytes is = sym (content_is events later (Replace true, bytes) is)
