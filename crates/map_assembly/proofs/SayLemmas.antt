-- Elements that are judged well say their spans and their grants pending, and nothing else.
use Rattle.std.proofs.Common.{◌≡◌, ℕ, ◌-◌, ◌+◌, ◌≤◌, List, [], ◌∷◌, ◌++◌, length, map, Bool, true, false, Result, Ok, Err, ltb, eqb, refl, sym, ap, ◌∙◌, arith}
use Rattle.map_assembly.proofs.Common.{AllByRecursion, and_parts, eqb-true, ltb-false, le-ltb, MapElement, MapSpan, MapFault, Backward, NoNull, AfterNull, is_null, element_of_span, null_at, first_offset, AreJoined, is_pending, ElementsSay, count_before_null, judged_behind, next_offset, span_to, spans_in, behind_null, pending_in}

null-is : (e : MapElement) → is_null e ≡ true → e ≡ null_at e.offset
null-is e h =
    let p : (eqb e.sid 0 ≡ true) × (eqb e.iuc 7 ≡ true) = and_parts (eqb e.sid 0) (eqb e.iuc 7) h in
    λ i. record { sid = eqb-true e.sid 0 p.0 i; iuc = eqb-true e.iuc 7 p.1 i; offset = e.offset }

-- ---- what is judged well

never : (f : MapFault) (n : ℕ) (r : Result ℕ MapFault) → r ≡ Err f → r ≡ Ok n → ⊥
never f n r p q = cc

behind_says : (spans end at : ℕ) (es : List MapElement) (n : ℕ) → judged_behind spans end at es ≡ Ok n → AllByRecursion (λ e. is_pending end e ≡ true) es
behind_says spans end at [] n h = tt
behind_says spans end at (e ∷ es) n h = by (is_pending end e) refl (λ k. behind_says spans end (at + 1) es n k)
  where
    by : (t : Bool) → is_pending end e ≡ t → (judged_behind spans end (at + 1) es ≡ Ok n → AllByRecursion (λ e. is_pending end e ≡ true) es) → (is_pending end e ≡ true) × AllByRecursion (λ e. is_pending end e ≡ true) es
    by true p more = (p, more (rw p at h))
    by false p more = absurd (never (AfterNull at) n (judged_behind spans end at (e ∷ es)) (rw p) h)

next_judged : (at least : ℕ) (es : List MapElement) (n : ℕ) → count_before_null at least es ≡ Ok n → least ≤ next_offset es
next_judged at least [] n h = absurd (never NoNull n (count_before_null at least []) refl h)
next_judged at least (e ∷ es) n h = by (ltb e.offset least) refl
  where
    by : (t : Bool) → ltb e.offset least ≡ t → least ≤ e.offset
    by true p = absurd (never (Backward at) n (count_before_null at least (e ∷ es)) (rw p) h)
    by false p = ltb-false e.offset least p

starts : (es : List MapElement) (spans : List MapSpan) (end : ℕ) (behind : List MapElement) → es ≡ map element_of_span spans ++ null_at end ∷ behind → first_offset end spans ≡ next_offset es
starts es [] end behind h = sym (ap next_offset h)
starts es (s ∷ spans) end behind h = sym (ap next_offset h)

-- one element more in front
and_span : (e : MapElement) (es : List MapElement) → e.offset + 1 ≤ next_offset es → is_null e ≡ false → ElementsSay es (spans_in es) (pending_in es) → ElementsSay (e ∷ es) (span_to (next_offset es) e ∷ spans_in es) (pending_in es)
and_span e es above no_null say =
    let next : first_offset say.end (spans_in es) ≡ next_offset es = starts es (spans_in es) say.end say.behind say.split in
    record {
      end = say.end;
      behind = say.behind;
      split = ap (λ (xs : List MapElement). e ∷ xs) say.split;
      joined = (omega arith, omega arith, say.joined);
      no_null = (no_null, say.no_null);
      grants = say.grants;
      pending = say.pending;
    }

pub judged_says : (at least : ℕ) (es : List MapElement) (n : ℕ) → count_before_null at least es ≡ Ok n → ElementsSay es (spans_in es) (pending_in es)
judged_says at least [] n h = absurd (never NoNull n (count_before_null at least []) refl h)
judged_says at least (e ∷ es) n h = by (ltb e.offset least) (is_null e) refl refl (λ k. judged_says (at + 1) (e.offset + 1) es n k)
  where
    by : (t u : Bool) → ltb e.offset least ≡ t → is_null e ≡ u → (count_before_null (at + 1) (e.offset + 1) es ≡ Ok n → ElementsSay es (spans_in es) (pending_in es))
        → ElementsSay (e ∷ es) (spans_in (e ∷ es)) (pending_in (e ∷ es))
    by true u p q more = absurd (never (Backward at) n (count_before_null at least (e ∷ es)) (rw p) h)
    by false true p q more =
        rw q
        (record {
          end = e.offset;
          behind = es;
          split = ap (λ (x : MapElement). x ∷ es) (null-is e q);
          joined = tt;
          no_null = tt;
          grants = behind_says at e.offset (at + 1) es n (rw (p, q) at h);
          pending = refl;
        })
    by false false p q more =
        let rest : count_before_null (at + 1) (e.offset + 1) es ≡ Ok n = rw (p, q) at h in
        rw q (and_span e es (next_judged (at + 1) (e.offset + 1) es n rest) q (more rest))

-- ---- what says something is judged well, and says nothing else

said_behind : (spans end at : ℕ) (es : List MapElement) → AllByRecursion (λ e. is_pending end e ≡ true) es → judged_behind spans end at es ≡ Ok spans
said_behind spans end at [] h = refl
said_behind spans end at (e ∷ es) h = rw h.0 (said_behind spans end (at + 1) es h.1)

said_judged : (at least end : ℕ) (spans : List MapSpan) (behind : List MapElement) → least ≤ first_offset end spans → AreJoined end spans → AllByRecursion (λ s. is_null (element_of_span s) ≡ false) spans → AllByRecursion (λ e. is_pending end e ≡ true) behind
    → count_before_null at least (map element_of_span spans ++ null_at end ∷ behind) ≡ Ok (at + length spans)
said_judged at least end [] behind le joined no_null grants =
    rw (le-ltb end least le) (said_behind at end (at + 1) behind grants ∙ ap (λ (n : ℕ). Ok n) (omega arith))
said_judged at least end (s ∷ spans) behind le joined no_null grants =
    rw (le-ltb s.start least le, no_null.0)
    (said_judged (at + 1) (s.start + 1) end spans behind (omega (arith, joined.0, joined.1)) joined.2 no_null.1 grants ∙ ap (λ (n : ℕ). Ok n) (omega arith))

said_next : (end : ℕ) (spans : List MapSpan) (behind : List MapElement) → next_offset (map element_of_span spans ++ null_at end ∷ behind) ≡ first_offset end spans
said_next end [] behind = refl
said_next end (s ∷ spans) behind = refl

said_spans : (end : ℕ) (spans : List MapSpan) (behind : List MapElement) → AreJoined end spans → AllByRecursion (λ s. is_null (element_of_span s) ≡ false) spans
    → spans_in (map element_of_span spans ++ null_at end ∷ behind) ≡ spans
said_spans end [] behind joined no_null = refl
said_spans end (s ∷ spans) behind joined no_null =
    let len : next_offset (map element_of_span spans ++ null_at end ∷ behind) - s.start ≡ s.len = omega (arith, said_next end spans behind, joined.1) in
    rw no_null.0
    (ap (λ (n : ℕ). let t : MapSpan = record { sid = s.sid; iuc = s.iuc; start = s.start; len = n } in t ∷ spans_in (map element_of_span spans ++ null_at end ∷ behind)) len
    ∙ ap (λ (ss : List MapSpan). s ∷ ss) (said_spans end spans behind joined.2 no_null.1))

said_behind_null : (end : ℕ) (spans : List MapSpan) (behind : List MapElement) → AllByRecursion (λ s. is_null (element_of_span s) ≡ false) spans
    → behind_null (map element_of_span spans ++ null_at end ∷ behind) ≡ behind
said_behind_null end [] behind no_null = refl
said_behind_null end (s ∷ spans) behind no_null = rw no_null.0 (said_behind_null end spans behind no_null.1)

pub say_judged : (es : List MapElement) (spans : List MapSpan) (sids : List ℕ) → ElementsSay es spans sids → count_before_null 0 0 es ≡ Ok (length spans)
say_judged es spans sids say = ap (count_before_null 0 0) say.split ∙ (said_judged 0 0 say.end spans say.behind (omega arith) say.joined say.no_null say.grants ∙ ap (λ (n : ℕ). Ok n) (omega arith))

pub say_spans : (es : List MapElement) (spans : List MapSpan) (sids : List ℕ) → ElementsSay es spans sids → spans_in es ≡ spans
say_spans es spans sids say = ap spans_in say.split ∙ said_spans say.end spans say.behind say.joined say.no_null

pub say_pending : (es : List MapElement) (spans : List MapSpan) (sids : List ℕ) → ElementsSay es spans sids → pending_in es ≡ sids
say_pending es spans sids say = ap pending_in say.split ∙ (ap (map (λ (e : MapElement). e.sid)) (said_behind_null say.end spans say.behind say.no_null) ∙ sym say.pending)
