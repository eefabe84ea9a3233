use Rattle.std.proofs.Common.{◌≡◌, ◌≢◌, ℕ, false, nat_eq, refl, sym, ap, ◌∙◌, arith}
use Rattle.tlv24.proofs.Common.{nat_tests, option_map, word, long, byte, low_bits, name_of, errored_of}
use Rattle.tlv24.proofs.Values.{one_lem, other_lem, named, IsNameAtRight}
use Rattle.tlv24.proofs.read.set_field.Goals as goal

-- a subtype is not two numbers
differs : (kind subtype : ℕ) → kind ≡ 4 → kind ≡ subtype → (nat_eq subtype 4 ≡ false) → ⊥
differs kind subtype four same apart = grind (arith, nat_tests, four, same, apart)

pub returns-in-4 : goal.returns-in-4
returns-in-4 c before stated fine =
    let kind = c.args.subtype in
    let value = c.args.value.now in
    let n : IsNameAtRight value = named before kind value c.in-4.is fine in
    let others = λ (subtype : ℕ) (other : kind ≢ subtype). sym (other_lem before subtype kind value other) in
    record {
      reference = stated.reference ∙ ap (option_map word) (others 1 (λ e. differs kind 1 c.in-4.is e refl));
      sfid = stated.sfid ∙ ap (option_map long) (others 2 (λ e. differs kind 2 c.in-4.is e refl));
      sid = stated.sid ∙ ap (option_map low_bits) (others 3 (λ e. differs kind 3 c.in-4.is e refl));
      class_name = c.class_name-fields.ensures n.long_enough n.short_enough n.ends ∙ sym (ap (option_map name_of) (one_lem before 4 kind value c.in-4.is refl fine));
      errored = stated.errored ∙ ap (option_map errored_of) (others 5 (λ e. differs kind 5 c.in-4.is e refl));
      set_type = stated.set_type ∙ ap (option_map byte) (others 6 (λ e. differs kind 6 c.in-4.is e refl));
      traffic_priority = stated.traffic_priority ∙ ap (option_map byte) (others 7 (λ e. differs kind 7 c.in-4.is e refl));
      max_sustained_rate = stated.max_sustained_rate ∙ ap (option_map long) (others 8 (λ e. differs kind 8 c.in-4.is e refl));
      max_burst = stated.max_burst ∙ ap (option_map long) (others 9 (λ e. differs kind 9 c.in-4.is e refl));
      min_reserved_rate = stated.min_reserved_rate ∙ ap (option_map long) (others 10 (λ e. differs kind 10 c.in-4.is e refl));
      scheduling_type = stated.scheduling_type ∙ ap (option_map byte) (others 15 (λ e. differs kind 15 c.in-4.is e refl));
      request_policy = stated.request_policy ∙ ap (option_map long) (others 16 (λ e. differs kind 16 c.in-4.is e refl));
      polling_interval = stated.polling_interval ∙ ap (option_map long) (others 17 (λ e. differs kind 17 c.in-4.is e refl));
      poll_jitter = stated.poll_jitter ∙ ap (option_map long) (others 18 (λ e. differs kind 18 c.in-4.is e refl));
      grant_size = stated.grant_size ∙ ap (option_map word) (others 19 (λ e. differs kind 19 c.in-4.is e refl));
      grant_interval = stated.grant_interval ∙ ap (option_map long) (others 20 (λ e. differs kind 20 c.in-4.is e refl));
      grant_jitter = stated.grant_jitter ∙ ap (option_map long) (others 21 (λ e. differs kind 21 c.in-4.is e refl));
      grants_per_interval = stated.grants_per_interval ∙ ap (option_map byte) (others 22 (λ e. differs kind 22 c.in-4.is e refl));
    }
