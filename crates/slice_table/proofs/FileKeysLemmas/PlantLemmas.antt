-- The reading of the table `plant`.
use Rattle.std.proofs.Common.{◌≡◌, ◌↔◌, ℕ, codes, List, [], ◌∷◌, ◌++◌, inl, inr, Option, Some, None, Ok, refl, sym, ap, ◌∙◌, subst}
use Rattle.slice_table.proofs.FileKeysLemmas.Common.{map, Data, table, Members, get_member, ◌>>=◌, Field, Table, Entry, PlantResult, required_value, at_field, number_at, number_of_key, table_of, SaysNumberIn, number_in_is, table_said, under, field_in, table_in, standing_at, value_of_key, keys_at, plant_fields, IsNumber, IsNumberIn, OfPlant, number, IsAtFault, IsMissing}
use Rattle.slice_table.specs.declared.plant_key.Field.TheVariants as field
use Rattle.slice_table.specs.declared.plant_key.Place.TheVariants as place
use Rattle.slice_table.specs.ReadConsts.{units_at, backoffs_at, timers_at, plant_keys_at, plant_keys_of}
use Rattle.slice_table.proofs.FileKeysLemmas.ListLemmas.{some_same, first-here, first-behind}
use Rattle.slice_table.proofs.FileKeysLemmas.FoundLemmas.{Found, found_bind, found_key}
use Rattle.slice_table.proofs.FileKeysLemmas.KeyLemmas.{held_in, HasNumber, found_table, found_number, found_number_in}

module _ (document : Members) where
  module _ (ms : Members) (at : standing_at document place.Plant ≡ Some (table ms)) where
    -- some keys of the table, and then others
    among : {A B : Type 0} (fields more : List Field) (r : PlantResult A) (f : A → PlantResult B) → Found document (map (Entry place.Plant) fields) r
        → ((x : A) → r ≡ Ok x → Found document (map (Entry place.Plant) more) (f x))
        → Found document (map (Entry place.Plant) fields ++ map (Entry place.Plant) more) (r >>= f)
    among fields more r f found rest = found_bind document (map (Entry place.Plant) fields) (map (Entry place.Plant) more) r f found rest

    -- a key of the table has to be there where it has no default
    plant_number : (f : Field) → ((d : Data) → OfPlant document f d ↔ IsNumberIn f d) → Found document (Entry place.Plant f ∷ []) (number_of_key place.Plant f ms)
    plant_number f has = found_number_in document place.Plant f ms at ((λ h. h), (λ h. h)) has

    found_units : Found document (Entry place.Plant field.FrameUs ∷ Entry place.Plant field.BytesPerMinislot ∷ []) (units_at ms)
    unfolding units_at
    found_units =
        found_bind document (Entry place.Plant field.FrameUs ∷ []) (Entry place.Plant field.BytesPerMinislot ∷ []) (number_of_key place.Plant field.FrameUs ms) _
        (plant_number field.FrameUs (λ d. ((λ h. h), (λ h. h))))
        (λ frame_us is. found_bind document (Entry place.Plant field.BytesPerMinislot ∷ []) [] (number_of_key place.Plant field.BytesPerMinislot ms) _
        (plant_number field.BytesPerMinislot (λ d. ((λ h. h), (λ h. h)))) (λ bytes is. tt))

    found_backoffs : Found document (map (Entry place.Plant) (field.RangingStart ∷ field.RangingEnd ∷ field.DataStart ∷ field.DataEnd ∷ [])) (backoffs_at ms)
    unfolding backoffs_at
    found_backoffs =
        found_bind document (Entry place.Plant field.RangingStart ∷ []) (map (Entry place.Plant) (field.RangingEnd ∷ field.DataStart ∷ field.DataEnd ∷ []))
        (number_of_key place.Plant field.RangingStart ms) _
        (plant_number field.RangingStart (λ d. ((λ h. h), (λ h. h))))
        (λ one is. found_bind document (Entry place.Plant field.RangingEnd ∷ []) (map (Entry place.Plant) (field.DataStart ∷ field.DataEnd ∷ []))
        (number_of_key place.Plant field.RangingEnd ms) _
        (plant_number field.RangingEnd (λ d. ((λ h. h), (λ h. h))))
        (λ two is. found_bind document (Entry place.Plant field.DataStart ∷ []) (map (Entry place.Plant) (field.DataEnd ∷ []))
        (number_of_key place.Plant field.DataStart ms) _
        (plant_number field.DataStart (λ d. ((λ h. h), (λ h. h))))
        (λ three is. found_bind document (Entry place.Plant field.DataEnd ∷ []) [] (number_of_key place.Plant field.DataEnd ms) _
        (plant_number field.DataEnd (λ d. ((λ h. h), (λ h. h)))) (λ four is. tt))))

    found_timers : Found document (map (Entry place.Plant) (field.AckWait ∷ field.Resends ∷ field.Hold ∷ [])) (timers_at ms)
    unfolding timers_at
    found_timers =
        found_bind document (Entry place.Plant field.AckWait ∷ []) (map (Entry place.Plant) (field.Resends ∷ field.Hold ∷ []))
        (number_of_key place.Plant field.AckWait ms) _
        (plant_number field.AckWait (λ d. ((λ h. h), (λ h. h))))
        (λ one is. found_bind document (Entry place.Plant field.Resends ∷ []) (map (Entry place.Plant) (field.Hold ∷ []))
        (number_of_key place.Plant field.Resends ms) _
        (plant_number field.Resends (λ d. ((λ h. h), (λ h. h))))
        (λ two is. found_bind document (Entry place.Plant field.Hold ∷ []) [] (number_of_key place.Plant field.Hold ms) _
        (plant_number field.Hold (λ d. ((λ h. h), (λ h. h)))) (λ three is. tt)))

    -- the head is within the frame that stands
    head_number : (frame : ℕ) → number_of_key place.Plant field.FrameMinislots ms ≡ Ok frame → HasNumber document (Entry place.Plant field.Head) 0 frame
    head_number frame is d = (
      (λ may. subst (λ (n : ℕ). IsNumber 0 n d) (same may.0 may.1) may.2),
      (λ is_number. (frame, stands, is_number)),
    )
      where
        said : SaysNumberIn ms field.FrameMinislots frame → at_field field.FrameMinislots ms ≡ Some (number frame)
        said s = elim s [
          | inl none ↦ let e : ◌≡◌ {A = Option ℕ} None (Some frame) = none.1 in cc
          | inr some ↦ some.held
        ]

        stands : value_of_key document (Entry place.Plant field.FrameMinislots) ≡ Some (number frame)
        stands = held_in document place.Plant field.FrameMinislots ms at ∙ said ((number_in_is place.Plant field.FrameMinislots ms frame).0 is)

        same : (n : ℕ) → value_of_key document (Entry place.Plant field.FrameMinislots) ≡ Some (number n) → n ≡ frame
        same n other = let e : number n ≡ number frame = some_same (number n) (number frame) (sym other ∙ stands) in cc

    found_plant_keys : Found document (map (Entry place.Plant) plant_fields) (plant_keys_at ms)
    unfolding plant_keys_at
    found_plant_keys =
        among (field.FrameMinislots ∷ []) (field.Head ∷ field.FrameUs ∷ field.BytesPerMinislot ∷ field.ShortMax ∷ field.Channel ∷ field.UcdCount ∷ field.RangingStart ∷ field.RangingEnd ∷ field.DataStart ∷ field.DataEnd ∷ field.AckWait ∷ field.Resends ∷ field.Hold ∷ field.FirstFrame ∷ []) (number_of_key place.Plant field.FrameMinislots ms) _ (plant_number field.FrameMinislots (λ d. ((λ h. h), (λ h. h))))
        (λ frame is. among (field.Head ∷ []) (field.FrameUs ∷ field.BytesPerMinislot ∷ field.ShortMax ∷ field.Channel ∷ field.UcdCount ∷ field.RangingStart ∷ field.RangingEnd ∷ field.DataStart ∷ field.DataEnd ∷ field.AckWait ∷ field.Resends ∷ field.Hold ∷ field.FirstFrame ∷ []) (number_at place.Plant field.Head 0 frame ms) _ (found_number document place.Plant field.Head 0 frame ms at refl (head_number frame is))
        (λ head is. among (field.FrameUs ∷ field.BytesPerMinislot ∷ []) (field.ShortMax ∷ field.Channel ∷ field.UcdCount ∷ field.RangingStart ∷ field.RangingEnd ∷ field.DataStart ∷ field.DataEnd ∷ field.AckWait ∷ field.Resends ∷ field.Hold ∷ field.FirstFrame ∷ []) (units_at ms) _ (found_units)
        (λ units is. among (field.ShortMax ∷ []) (field.Channel ∷ field.UcdCount ∷ field.RangingStart ∷ field.RangingEnd ∷ field.DataStart ∷ field.DataEnd ∷ field.AckWait ∷ field.Resends ∷ field.Hold ∷ field.FirstFrame ∷ []) (number_of_key place.Plant field.ShortMax ms) _ (plant_number field.ShortMax (λ d. ((λ h. h), (λ h. h))))
        (λ short_max is. among (field.Channel ∷ []) (field.UcdCount ∷ field.RangingStart ∷ field.RangingEnd ∷ field.DataStart ∷ field.DataEnd ∷ field.AckWait ∷ field.Resends ∷ field.Hold ∷ field.FirstFrame ∷ []) (number_of_key place.Plant field.Channel ms) _ (plant_number field.Channel (λ d. ((λ h. h), (λ h. h))))
        (λ channel is. among (field.UcdCount ∷ []) (field.RangingStart ∷ field.RangingEnd ∷ field.DataStart ∷ field.DataEnd ∷ field.AckWait ∷ field.Resends ∷ field.Hold ∷ field.FirstFrame ∷ []) (number_of_key place.Plant field.UcdCount ms) _ (plant_number field.UcdCount (λ d. ((λ h. h), (λ h. h))))
        (λ ucd_count is. among (field.RangingStart ∷ field.RangingEnd ∷ field.DataStart ∷ field.DataEnd ∷ []) (field.AckWait ∷ field.Resends ∷ field.Hold ∷ field.FirstFrame ∷ []) (backoffs_at ms) _ (found_backoffs)
        (λ backoffs is. among (field.AckWait ∷ field.Resends ∷ field.Hold ∷ []) (field.FirstFrame ∷ []) (timers_at ms) _ (found_timers)
        (λ timers is. among (field.FirstFrame ∷ []) [] (number_of_key place.Plant field.FirstFrame ms) _ (plant_number field.FirstFrame (λ d. ((λ h. h), (λ h. h)))) (λ first_frame is. tt)))))))))

  -- where there is no table `plant`, its first key is missing
  by_plant : (o : Option Data) → get_member (codes "plant") document ≡ o
      → Found document (keys_at place.Plant plant_fields)
      (required_value (Entry place.Plant field.FrameMinislots) o >>= λ d. table_of place.Plant d >>= λ table. plant_keys_at table)
  by_plant None at =
      let missing : IsMissing document (Entry place.Plant field.FrameMinislots) = (ap (λ (o : Option Data). field_in field.FrameMinislots (table_in o)) at, refl) in (
        Entry place.Plant field.FrameMinislots,
        first-behind (IsAtFault document) (Table place.Plant ∷ []) (map (Entry place.Plant) plant_fields) (Entry place.Plant field.FrameMinislots)
            (found_key document {A = ℕ} (Table place.Plant) None (Ok 0) at (λ h. h)) (first-here (IsAtFault document) (Entry place.Plant field.FrameMinislots) _ (inl missing)),
        inl (missing, refl),
      )
  by_plant (Some d) at =
      found_bind document (Table place.Plant ∷ []) (map (Entry place.Plant) plant_fields) (table_of place.Plant d) _ (found_table document place.Plant d at)
      (λ ms is. found_plant_keys ms (under (get_member (codes "plant") document) d (table ms) at (table_said place.Plant d ms is)))

  pub found_plant : Found document (keys_at place.Plant plant_fields) (plant_keys_of document)
  unfolding plant_keys_of
  found_plant = by_plant (get_member (codes "plant") document) refl
