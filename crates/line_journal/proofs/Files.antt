-- What a write and a cut at the end of a file may leave, whatever stands in front.
use Rattle.std.proofs.Common.{◌≡◌, ℕ, zero, suc, ◌+◌, ◌-◌, ◌≤◌, List, [], ◌∷◌, ◌++◌, length, get_or, take, drop, sym, ◌∙◌, ap, arith, append_assoc, length-append, length-drop, take-append-drop}
use Rattle.line_journal.proofs.Common.{take_at, drop_at, drop_more, take_all, drop_all, append-nil, IsOverwritten, Torn, Cut}

take_past : (xs ys : List ℕ) (m n : ℕ) → m ≡ length xs + n → take m (xs ++ ys) ≡ xs ++ take n ys
take_past [] ys m n is = let same : m ≡ n = omega arith in ap (λ (k : ℕ). take k ys) same
take_past (x ∷ xs) ys zero n is = absurd (omega arith)
take_past (x ∷ xs) ys (suc m) n is = ap (λ (l : List ℕ). x ∷ l) (take_past xs ys m n (omega arith))

module _ (front : List ℕ) (gate : ℕ) (size : gate ≡ length front) where
  shut_size : length (front ++ 45 ∷ []) ≡ gate + 1
  shut_size = omega (arith, size, length-append front (45 ∷ []))

  -- the closed gate stands in each outcome of a write behind it
  pub torn_behind : (n : ℕ) (c : List ℕ) → Torn (gate + 1) n (front ++ 45 ∷ []) c → c ≡ front ++ 45 ∷ drop (gate + 1) c
  torn_behind n c torn =
      let same : take (gate + 1) c ≡ front ++ 45 ∷ [] = torn.before ∙ take_all _ _ (omega (arith, shut_size)) in
      sym (take-append-drop (gate + 1) c) ∙ ap (λ (l : List ℕ). l ++ drop (gate + 1) c) same ∙ append_assoc front (45 ∷ []) (drop (gate + 1) c)

  pub written_behind : (bytes c : List ℕ) → IsOverwritten (front ++ 45 ∷ []) (gate + 1) bytes c → c ≡ front ++ 45 ∷ bytes
  written_behind bytes c holds =
      holds
      ∙ ap (λ (l : List ℕ). l ++ bytes ++ drop (gate + 1 + length bytes) (front ++ 45 ∷ [])) (take_all _ _ (omega (arith, shut_size)))
      ∙ ap (λ (l : List ℕ). (front ++ 45 ∷ []) ++ bytes ++ l) (drop_all (gate + 1 + length bytes) (front ++ 45 ∷ []) (omega (arith, shut_size)))
      ∙ append-nil ((front ++ 45 ∷ []) ++ bytes)
      ∙ append_assoc front (45 ∷ []) bytes

  back : (bytes : List ℕ) → drop (gate + 1) (front ++ 45 ∷ bytes) ≡ bytes
  back bytes = ap (λ (l : List ℕ). drop (gate + 1) l) (sym (append_assoc front (45 ∷ []) bytes)) ∙ drop_at (front ++ 45 ∷ []) bytes (gate + 1) shut_size

  -- what is behind the gate stands in each outcome of a write of the gate
  pub torn_gate : (bytes c : List ℕ) → Torn gate 1 (front ++ 45 ∷ bytes) c → c ≡ front ++ get_or c gate 0 ∷ bytes
  torn_gate bytes c torn =
      let long = length-append front (45 ∷ bytes) in
      let rest : drop gate c ≡ get_or c gate 0 ∷ bytes =
      drop_more c gate 0 (omega (arith, size, long, torn.no_shorter)) ∙ ap (λ (l : List ℕ). get_or c gate 0 ∷ l) (torn.after ∙ back bytes) in
      sym (take-append-drop gate c) ∙ ap (λ (l : List ℕ). l ++ drop gate c) (torn.before ∙ take_at front (45 ∷ bytes) gate (sym size)) ∙ ap (λ (l : List ℕ). front ++ l) rest

  pub written_gate : (byte : ℕ) (bytes c : List ℕ) → IsOverwritten (front ++ 45 ∷ bytes) gate (byte ∷ []) c → c ≡ front ++ byte ∷ bytes
  written_gate byte bytes c holds =
      holds
      ∙ ap (λ (l : List ℕ). l ++ (byte ∷ []) ++ drop (gate + 1) (front ++ 45 ∷ bytes)) (take_at front (45 ∷ bytes) gate (sym size))
      ∙ ap (λ (l : List ℕ). front ++ (byte ∷ []) ++ l) (back bytes)
      ∙ append_assoc front (byte ∷ []) bytes

  -- a cut leaves some front of what was behind
  pub any_cut : (end c : List ℕ) → Cut gate (front ++ end) c → c ≡ front ++ take (length c - gate) end
  any_cut end c cut = sym cut.front ∙ take_past front end (length c) (length c - gate) (omega (arith, cut.no_shorter, size))

  pub cut_done : (end : List ℕ) → take gate (front ++ end) ≡ front
  cut_done end = take_at front end gate (sym size)

  -- a write of one byte at the end leaves one byte at most
  pub torn_end : (c : List ℕ) → Torn gate 1 front c → (c ≡ front ++ drop gate c) × (length (drop gate c) ≤ 1)
  torn_end c torn =
      let same : take gate c ≡ front = torn.before ∙ take_all gate front (omega (arith, size)) in (
        sym (take-append-drop gate c) ∙ ap (λ (l : List ℕ). l ++ drop gate c) same,
        omega (arith, length-drop gate c, size, torn.no_longer),
      )

  pub written_end : (c : List ℕ) → IsOverwritten front gate (45 ∷ []) c → c ≡ front ++ 45 ∷ []
  written_end c holds =
      holds
      ∙ ap (λ (l : List ℕ). l ++ (45 ∷ []) ++ drop (gate + 1) front) (take_all gate front (omega (arith, size)))
      ∙ ap (λ (l : List ℕ). front ++ (45 ∷ []) ++ l) (drop_all (gate + 1) front (omega (arith, size)))
      ∙ append-nil (front ++ 45 ∷ [])
