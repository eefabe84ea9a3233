-- What each operator has put that is in no MAP, with what it puts later: the MAPs take its parts from there, one each.
use Rattle.std.proofs.Common.{◌≡◌, ℕ, zero, suc, ◌+◌, ◌<◌, ◌≤◌, true, false, ltb, List, [], ◌∷◌, ◌++◌, length, map, drop, append_assoc, append-nil, Option, Some, None, ◌⊎◌, inl, inr, refl, sym, ap, ◌∙◌, subst, arith}
use Rattle.plant_workers.proofs.AuditLemmas.Common.{slice_get, slice_set, range_with_len, cases_eq, eq-eqb, ne_eqb, cond-true, and_parts, length-set, length-map, none-some, same_Some, slice_get_within, Minislots, ElementsFields, MapBytes, Gathering, queue_of, is_last, with_part, is_whole, fronts, frame_slices, frame_parts, put_fault, after_put, gathering_after_reslice, IsGathering, IsMapOf, IsPutResult, is_put, after_other, slice_of, get_same, Numbered, parts_slices, Placing, Put, Reslice, puts_of, map_if_made, HaveMade}
use Rattle.plant.specs.declared.consts.Channel.{Channel}
use Rattle.map_assembly.specs.declared.quota.Quota.{Quota}
use Rattle.map_assembly.proofs.LastLemmas.{length-fronts}

-- the parts that an operator put, in order
abbrev pub parts_of : ℕ → List Placing → List ElementsFields
parts_of i placings = map (λ (put : Numbered). put.1) (puts_of i placings)

-- an operator's parts that are in no MAP, and those that it puts later
abbrev pub ahead : Gathering → ℕ → List Placing → List ElementsFields
ahead g i later = queue_of g.queues i ++ parts_of i later

-- the MAP at place k of those that come: its parts stand at that place of what each operator has ahead
pub record IsMapAt (g : Gathering) (later : List Placing) (k : ℕ) (made : MapBytes) : Type 0 where
  pub parts : List ElementsFields
  pub frame_is : made.frame ≡ g.next + k
  pub one_each : length parts ≡ length g.queues
  pub own : (i : ℕ) (part : ElementsFields) → slice_get parts i ≡ Some part → slice_get (ahead g i later) k ≡ Some part
  pub map_is : IsMapOf g.channel made.frame g.quotas (map (λ part. part.slice) parts) parts made.bytes

-- what the placings give: MAPs of the next frames in order, and of each operator so many parts less are ahead
pub record IsGiven (g : Gathering) (later : List Placing) (maps : List MapBytes) (after : Gathering) : Type 0 where
  pub frames : map (λ m. m.frame) maps ≡ range_with_len g.next (length maps)
  pub each : (k : ℕ) (made : MapBytes) → slice_get maps k ≡ Some made → IsMapAt g later k made
  pub enough : (i : ℕ) → i < length g.queues → length maps ≤ length (ahead g i later)
  pub left : (i : ℕ) → i < length g.queues → queue_of after.queues i ≡ drop (length maps) (ahead g i later)
  pub one_each : length after.queues ≡ length g.queues

-- ---- queues

pub queue_at : (queues : List (List ElementsFields)) (i : ℕ) (queue : List ElementsFields) → slice_get queues i ≡ Some queue → queue_of queues i ≡ queue
queue_at [] i queue e = let f : ◌≡◌ {A = Option (List ElementsFields)} None (Some queue) = e in absurd (none-some queue f)
queue_at (q ∷ queues) zero queue e = same_Some q queue e
queue_at (q ∷ queues) (suc i) queue e = queue_at queues i queue e

queue_else : (queues : List (List ElementsFields)) (op k : ℕ) (q : List ElementsFields) → (k ≡ op → ⊥) → queue_of (slice_set queues op q) k ≡ queue_of queues k
queue_else [] op k q ne = refl
queue_else (x ∷ queues) zero zero q ne = absurd (ne refl)
queue_else (x ∷ queues) zero (suc k) q ne = refl
queue_else (x ∷ queues) (suc op) zero q ne = refl
queue_else (x ∷ queues) (suc op) (suc k) q ne = queue_else queues op k q (λ e. ne (ap suc e))

-- the first part of an operator of which each has one, and the others
pub record IsSplit (queues : List (List ElementsFields)) (i : ℕ) : Type 0 where
  pub first : ElementsFields
  pub rest : List ElementsFields
  pub queue_is : queue_of queues i ≡ first ∷ rest
  pub front_is : slice_get (fronts queues) i ≡ Some first
  pub rest_is : queue_of (map (λ queue. drop 1 queue) queues) i ≡ rest

pub split_at : (queues : List (List ElementsFields)) (i : ℕ) → is_whole queues ≡ true → i < length queues → IsSplit queues i
split_at [] i whole lt = absurd (omega (arith, lt))
split_at ([] ∷ queues) i whole lt = let wrong : false ≡ true = whole in absurd (cc)
split_at ((p ∷ ps) ∷ queues) zero whole lt = record { first = p; rest = ps; queue_is = refl; front_is = refl; rest_is = refl }
split_at ((p ∷ ps) ∷ queues) (suc i) whole lt =
    let rest = split_at queues i (and_parts (ltb 0 (length (p ∷ ps))) (is_whole queues) whole).1 (omega (arith, lt)) in
    record { first = rest.first; rest = rest.rest; queue_is = rest.queue_is; front_is = rest.front_is; rest_is = rest.rest_is }

parts_here : (i op frame : ℕ) (part : ElementsFields) (later : List Placing) → i ≡ op → parts_of i (Put op frame part ∷ later) ≡ part ∷ parts_of i later
parts_here i op frame part later same = rw (eq-eqb op i (sym same)) refl

parts_else : (i op frame : ℕ) (part : ElementsFields) (later : List Placing) → (i ≡ op → ⊥) → parts_of i (Put op frame part ∷ later) ≡ parts_of i later
parts_else i op frame part later other = rw (ne_eqb op i (λ e. other (sym e))) refl

module _ (g : Gathering) (op frame : ℕ) (part : ElementsFields) (later : List Placing) (is : IsGathering g) (fits : put_fault g op frame part ≡ None) where
  abbrev with_it : List (List ElementsFields)
  with_it = with_part g.queues op part

  op_within : op < length g.queues
  op_within = let put = is_put g op frame part fits in omega (arith, put.op_is, is.one_each)

  pub with_length : length with_it ≡ length g.queues
  with_length = length-set g.queues op (queue_of g.queues op ++ part ∷ [])

  pub queue_here : (i : ℕ) → i ≡ op → queue_of with_it i ≡ queue_of g.queues i ++ part ∷ []
  queue_here i same =
      queue_at with_it i (queue_of g.queues i ++ part ∷ [])
      (ap (slice_get with_it) same ∙ (get_same g.queues op (queue_of g.queues op ++ part ∷ []) op_within
      ∙ ap (λ (k : ℕ). let o : Option (List ElementsFields) = Some (queue_of g.queues k ++ part ∷ []) in o) (sym same)))

  pub queue_elsewhere : (i : ℕ) → (i ≡ op → ⊥) → queue_of with_it i ≡ queue_of g.queues i
  queue_elsewhere i other = queue_else g.queues op i (queue_of g.queues op ++ part ∷ []) other

  -- a part that is put moves from what comes later to what is put
  pub moved : (i : ℕ) → queue_of with_it i ++ parts_of i later ≡ ahead g i (Put op frame part ∷ later)
  moved i = by (cases_eq i op)
    where
      by : (i ≡ op) ⊎ (i ≡ op → ⊥) → queue_of with_it i ++ parts_of i later ≡ ahead g i (Put op frame part ∷ later)
      by (inl same) =
          ap (λ (q : List ElementsFields). q ++ parts_of i later) (queue_here i same)
          ∙ (append_assoc (queue_of g.queues i) (part ∷ []) (parts_of i later)
          ∙ ap (λ (ps : List ElementsFields). queue_of g.queues i ++ ps) (sym (parts_here i op frame part later same)))
      by (inr other) =
          ap (λ (q : List ElementsFields). q ++ parts_of i later) (queue_elsewhere i other)
          ∙ ap (λ (ps : List ElementsFields). queue_of g.queues i ++ ps) (sym (parts_else i op frame part later other))

  -- where it is the last of its frame, each operator's first part ahead goes into the MAP
  pub record IsTaken (i : ℕ) : Type 0 where
    pub first : ElementsFields
    pub front_is : slice_get (frame_parts g op part) i ≡ Some first
    pub ahead_is : ahead g i (Put op frame part ∷ later) ≡ first ∷ (queue_of (map (λ queue. drop 1 queue) with_it) i ++ parts_of i later)

  pub taken : is_last g op part ≡ true → (i : ℕ) → i < length g.queues → IsTaken i
  taken whole i lt =
      let split = split_at with_it i whole (omega (arith, lt, with_length)) in
      record {
        first = split.first;
        front_is = split.front_is;
        ahead_is = sym (moved i) ∙ (ap (λ (q : List ElementsFields). q ++ parts_of i later) split.queue_is
            ∙ ap (λ (q : List ElementsFields). split.first ∷ (q ++ parts_of i later)) (sym split.rest_is));
      }

-- ---- one placing, and what comes after it

-- what comes stays what it is where the same is ahead
given_on : (g h : Gathering) (later further : List Placing) (maps : List MapBytes) (after : Gathering) → h.next ≡ g.next → h.channel ≡ g.channel → h.quotas ≡ g.quotas → length h.queues ≡ length g.queues
    → ((i : ℕ) → ahead h i later ≡ ahead g i further) → IsGiven h later maps after → IsGiven g further maps after
given_on g h later further maps after next channel quotas long same given = record {
  frames = given.frames ∙ ap (λ (n : ℕ). range_with_len n (length maps)) next;
  each = λ k made e.
      let m = given.each k made e in
      record {
        parts = m.parts;
        frame_is = m.frame_is ∙ ap (λ (n : ℕ). n + k) next;
        one_each = m.one_each ∙ long;
        own = λ i part f. ap (λ (ps : List ElementsFields). slice_get ps k) (sym (same i)) ∙ m.own i part f;
        map_is =
            subst (λ (l : Channel). IsMapOf l made.frame g.quotas (map (λ (p : ElementsFields). p.slice) m.parts) m.parts made.bytes) channel
            (subst (λ (ss : List Quota). IsMapOf h.channel made.frame ss (map (λ (p : ElementsFields). p.slice) m.parts) m.parts made.bytes) quotas m.map_is);
      };
  enough = λ i lt. subst (λ (ps : List ElementsFields). length maps ≤ length ps) (same i) (given.enough i (omega (arith, lt, long)));
  left = λ i lt. given.left i (omega (arith, lt, long)) ∙ ap (λ (ps : List ElementsFields). drop (length maps) ps) (same i);
  one_each = given.one_each ∙ long;
}

-- the part gives a MAP
module _ (g : Gathering) (op frame : ℕ) (part : ElementsFields) (later : List Placing) (rest : List MapBytes) (after : Gathering) (is : IsGathering g) (fits : put_fault g op frame part ≡ None)
    (made : MapBytes) (whole : is_last g op part ≡ true) (next : frame ≡ g.next) (frame_is : made.frame ≡ frame)
    (map_is : IsMapOf g.channel frame g.quotas (frame_slices g frame) (frame_parts g op part) made.bytes)
    (given : IsGiven (record g { queues = map (λ queue. drop 1 queue) (with_part g.queues op part); next = g.next + 1 }) later rest after) where
  abbrev further : List Placing
  further = Put op frame part ∷ later

  dropped_length : length (map (λ queue. drop 1 queue) (with_part g.queues op part)) ≡ length g.queues
  dropped_length = length-map (with_part g.queues op part) (λ (queue : List ElementsFields). drop 1 queue) ∙ with_length g op frame part later is fits

  take_first : (i : ℕ) → i < length g.queues → IsTaken g op frame part later is fits i
  take_first i lt = taken g op frame part later is fits whole i lt

  front_within : (i : ℕ) (p : ElementsFields) → slice_get (frame_parts g op part) i ≡ Some p → i < length g.queues
  front_within i p e =
      let within = slice_get_within (frame_parts g op part) i p e in
      let long = length-fronts (with_part g.queues op part) whole in
      let same = with_length g op frame part later is fits in
      omega (arith, within, long, same)

  first_map : IsMapAt g further 0 made
  first_map = record {
    parts = frame_parts g op part;
    frame_is = omega (arith, next, frame_is);
    one_each = length-fronts (with_part g.queues op part) whole ∙ with_length g op frame part later is fits;
    own = λ i p e.
        let first = take_first i (front_within i p e) in
        ap (λ (ps : List ElementsFields). slice_get ps 0) first.ahead_is ∙ (sym first.front_is ∙ e);
    map_is =
        subst (λ (n : ℕ). IsMapOf g.channel n g.quotas (map (λ (p : ElementsFields). p.slice) (frame_parts g op part)) (frame_parts g op part) made.bytes) (sym frame_is)
        (subst (λ (ms : List Minislots). IsMapOf g.channel frame g.quotas ms (frame_parts g op part) made.bytes) (sym (parts_slices g op frame part is fits whole)) map_is);
  }

  map_behind : (k : ℕ) (m : MapBytes) → slice_get rest k ≡ Some m → IsMapAt g further (suc k) m
  map_behind k m e =
      let there = given.each k m e in
      record {
        parts = there.parts;
        frame_is = there.frame_is ∙ omega arith;
        one_each = there.one_each ∙ dropped_length;
        own = λ i p f.
            let within = slice_get_within there.parts i p f in
            let first = take_first i (omega (arith, within, there.one_each, dropped_length)) in
            ap (λ (ps : List ElementsFields). slice_get ps (suc k)) first.ahead_is ∙ there.own i p f;
        map_is = there.map_is;
      }

  each_map : (k : ℕ) (m : MapBytes) → slice_get (made ∷ rest) k ≡ Some m → IsMapAt g further k m
  each_map zero m e = subst (IsMapAt g further 0) (same_Some made m e) first_map
  each_map (suc k) m e = map_behind k m e

  pub given_made : IsGiven g further (made ∷ rest) after
  given_made = record {
    frames = ap (λ (ns : List ℕ). made.frame ∷ ns) given.frames
        ∙ ap (λ (n : ℕ). n ∷ range_with_len (g.next + 1) (length rest)) (frame_is ∙ next);
    each = each_map;
    enough = λ i lt.
        let first = take_first i lt in
        let long = ap length first.ahead_is in
        let more = given.enough i (omega (arith, lt, dropped_length)) in
        omega (arith, long, more);
    left = λ i lt.
        given.left i (omega (arith, lt, dropped_length))
        ∙ ap (λ (ps : List ElementsFields). drop (suc (length rest)) ps) (sym (take_first i lt).ahead_is);
    one_each = given.one_each ∙ dropped_length;
  }

nothing_given : (g : Gathering) → IsGiven g [] [] g
nothing_given g = record {
  frames = refl;
  each = λ k made e. let f : ◌≡◌ {A = Option MapBytes} None (Some made) = e in absurd (none-some made f);
  enough = λ i lt. omega arith;
  left = λ i lt. sym (append-nil (queue_of g.queues i));
  one_each = refl;
}

given_put : (g : Gathering) (op frame : ℕ) (part : ElementsFields) (later : List Placing) (made : Option MapBytes) (rest : List MapBytes) (after : Gathering) → IsGathering g → put_fault g op frame part ≡ None
    → IsPutResult g op frame part made → IsGiven (after_put g op part) later rest after → IsGiven g (Put op frame part ∷ later) (map_if_made made ++ rest) after
given_put g op frame part later None rest after is fits waits given =
    let h : Gathering = record g { queues = with_part g.queues op part } in
    given_on g h later (Put op frame part ∷ later) rest after refl refl refl (with_length g op frame part later is fits) (moved g op frame part later is fits)
    (subst (λ (x : Gathering). IsGiven x later rest after) (sym (after_other g op part waits)) given)
given_put g op frame part later (Some made) rest after is fits answer given =
    let h : Gathering = record g { queues = map (λ (queue : List ElementsFields). drop 1 queue) (with_part g.queues op part); next = g.next + 1 } in
    given_made g op frame part later rest after is fits made answer.0 answer.1 answer.2 answer.3
    (subst (λ (x : Gathering). IsGiven x later rest after) (cond-true (is_last g op part) h (record g { queues = with_part g.queues op part }) answer.0) given)

-- whatever is placed gives MAPs of the next frames, with the operators' parts in order
pub given_by : (g : Gathering) (later : List Placing) (maps : List MapBytes) (after : Gathering) → HaveMade g later maps after → IsGiven g later maps after
given_by g [] maps after h =
    subst (λ (ms : List MapBytes). IsGiven g [] ms after) (sym h.0) (subst (λ (x : Gathering). IsGiven g [] [] x) (sym h.1) (nothing_given g))
given_by g (Put op frame part ∷ later) maps after h =
    subst (λ (ms : List MapBytes). IsGiven g (Put op frame part ∷ later) ms after) (sym h.5)
    (given_put g op frame part later h.0 h.1 after h.2 h.3 h.4 (given_by (after_put g op part) later h.1 after h.6))
given_by g (Reslice from rows ∷ later) maps after h =
    given_on g (gathering_after_reslice g from (map slice_of rows)) later (Reslice from rows ∷ later) maps after refl refl refl refl (λ i. refl)
    (given_by (gathering_after_reslice g from (map slice_of rows)) later maps after h.2)
