use Rattle.std.proofs.Common.{ℕ, List, subst, sym}
use Rattle.tlv24.proofs.Common.{option_map, w16, w32, to_be_bytes, FlowFields, spelled, IsFlowEncoding, single, terminated_name, spelled_error, under, tlvs_of}
use Rattle.tlv24.proofs.Written.{at_first, and_then, all_spelled, FitTheirBytes, written_says}
use Rattle.tlv24.proofs.write.write_flow.Goals as goal

pub returns-clause-spelling : goal.returns-clause-spelling
returns-clause-spelling c =
    let m = c.get_fields-fields.result in
    let to_1 = at_first c.new-out.result.items c.put_word.new.out.items (under 1 (option_map (to_be_bytes w16) m.reference)) c.in_ok-put_word.ensures.bytes in
    let to_2 = and_then _ _ c.put_long.new.out.items _ (under 2 (option_map (to_be_bytes w32) m.sfid)) to_1 c.in_ok-put_long.ensures.bytes in
    let to_3 = and_then _ _ c.put_word-2.new.out.items _ (under 3 (option_map (to_be_bytes w16) m.sid)) to_2 c.in_ok-put_word-2.ensures.bytes in
    let to_4 = and_then _ _ c.put_class_name.new.out.items _ (under 4 (option_map terminated_name m.class_name)) to_3 c.in_ok-put_class_name.ensures.bytes in
    let to_5 = and_then _ _ c.put_errored.new.out.items _ (under 5 (option_map spelled_error m.errored)) to_4 c.in_ok-put_errored.ensures in
    let to_6 = and_then _ _ c.put_byte.new.out.items _ (under 6 (option_map single m.set_type)) to_5 c.in_ok-put_byte.ensures in
    let to_7 = and_then _ _ c.put_byte-2.new.out.items _ (under 7 (option_map single m.traffic_priority)) to_6 c.in_ok-put_byte-2.ensures in
    let to_8 = and_then _ _ c.put_long-2.new.out.items _ (under 8 (option_map (to_be_bytes w32) m.max_sustained_rate)) to_7 c.in_ok-put_long-2.ensures.bytes in
    let to_9 = and_then _ _ c.put_long-3.new.out.items _ (under 9 (option_map (to_be_bytes w32) m.max_burst)) to_8 c.in_ok-put_long-3.ensures.bytes in
    let to_10 = and_then _ _ c.put_long-4.new.out.items _ (under 10 (option_map (to_be_bytes w32) m.min_reserved_rate)) to_9 c.in_ok-put_long-4.ensures.bytes in
    let to_15 = and_then _ _ c.put_byte-3.new.out.items _ (under 15 (option_map single m.scheduling_type)) to_10 c.in_ok-put_byte-3.ensures in
    let to_16 = and_then _ _ c.put_long-5.new.out.items _ (under 16 (option_map (to_be_bytes w32) m.request_policy)) to_15 c.in_ok-put_long-5.ensures.bytes in
    let to_17 = and_then _ _ c.put_long-6.new.out.items _ (under 17 (option_map (to_be_bytes w32) m.polling_interval)) to_16 c.in_ok-put_long-6.ensures.bytes in
    let to_18 = and_then _ _ c.put_long-7.new.out.items _ (under 18 (option_map (to_be_bytes w32) m.poll_jitter)) to_17 c.in_ok-put_long-7.ensures.bytes in
    let to_19 = and_then _ _ c.put_word-3.new.out.items _ (under 19 (option_map (to_be_bytes w16) m.grant_size)) to_18 c.in_ok-put_word-3.ensures.bytes in
    let to_20 = and_then _ _ c.put_long-8.new.out.items _ (under 20 (option_map (to_be_bytes w32) m.grant_interval)) to_19 c.in_ok-put_long-8.ensures.bytes in
    let to_21 = and_then _ _ c.put_long-9.new.out.items _ (under 21 (option_map (to_be_bytes w32) m.grant_jitter)) to_20 c.in_ok-put_long-9.ensures.bytes in
    let to_22 = and_then _ _ c.put_byte-4.new.out.items _ (under 22 (option_map single m.grants_per_interval)) to_21 c.in_ok-put_byte-4.ensures in
    all_spelled c.new-out.result.items c.put_byte-4.new.out.items m c.args.flow.now c.new-out.ensures.items c.get_fields-fields.ensures.value to_22

pub returns-clause-encoding : goal.returns-clause-encoding
returns-clause-encoding c =
    let m = c.get_fields-fields.result in
    let fit : FitTheirBytes m = record {
      reference = c.put_word.ensures.fits;
      sfid = c.put_long.ensures.fits;
      class_name = c.put_class_name.ensures.valid;
      max_sustained_rate = c.put_long-2.ensures.fits;
      max_burst = c.put_long-3.ensures.fits;
      min_reserved_rate = c.put_long-4.ensures.fits;
      request_policy = c.put_long-5.ensures.fits;
      polling_interval = c.put_long-6.ensures.fits;
      poll_jitter = c.put_long-7.ensures.fits;
      grant_size = c.put_word-3.ensures.fits;
      grant_interval = c.put_long-8.ensures.fits;
      grant_jitter = c.put_long-9.ensures.fits;
    } in
    subst (λ (b : List ℕ). IsFlowEncoding b c.args.flow.now) (sym (returns-clause-spelling c))
    (subst (λ (x : FlowFields). IsFlowEncoding (spelled (tlvs_of x)) x) c.get_fields-fields.ensures.value
    (written_says m c.get_fields-fields.ensures.in_range fit))
