-- Every detail that goes with a kind and a code is read.
use Rattle.std.proofs.Common.{◌≡◌, ◌≢◌, ℕ, ◌<◌, ◌^◌, List, Option, Some, None, refl, subst}
use Rattle.dsx_messages.proofs.Common.{Kind, Dsa, Dsc, IsDetailSpelling}
use Rattle.dsx_messages.specs.declared.code.Code.{Code}
use Rattle.dsx_messages.specs.declared.code.Code.TheVariants.{Okay}
use Rattle.dsx_messages.specs.declared.reply.FlowId.TheVariants.{Reference, Sfid}
use Rattle.dsx_messages.specs.declared.reply.Detail.{Detail}
use Rattle.dsx_messages.specs.declared.reply.Detail.TheVariants.{Nothing, Given, Errored}
use Rattle.dsx_messages.specs.Spelling.{tail_of}
use Rattle.dsx_messages.specs.Widths.{FitsDetail}

module _ (tail : List ℕ) (result : Option Detail) where
  pub every_accepted_addition : (kind : Kind) (code : Code) → kind ≡ Dsa → code ≡ Okay
      → ((reference sfid sid : ℕ) → reference < 2 ^ 16 → sfid < 2 ^ 32 → sid < 16384 → tail ≡ tail_of Dsa Okay (Given (Some reference) sfid (Some sid)) → result ≡ Some (Given (Some reference) sfid (Some sid)))
      → (detail : Detail) → IsDetailSpelling kind code tail detail → FitsDetail detail → result ≡ Some detail
  every_accepted_addition kind code is_kind is_code given detail told fits =
      by_detail given detail (subst (λ (x : Code). IsDetailSpelling Dsa x tail detail) is_code (subst (λ (k : Kind). IsDetailSpelling k code tail detail) is_kind told)) fits
    where
      by_detail : ((reference sfid sid : ℕ) → reference < 2 ^ 16 → sfid < 2 ^ 32 → sid < 16384 → tail ≡ tail_of Dsa Okay (Given (Some reference) sfid (Some sid)) → result ≡ Some (Given (Some reference) sfid (Some sid)))
          → (detail : Detail) → IsDetailSpelling Dsa Okay tail detail → FitsDetail detail → result ≡ Some detail
      by_detail given Nothing told fits = absurd (told.goes refl)
      by_detail given (Errored id subtype) told fits = absurd (told.goes.0 refl)
      by_detail given (Given None sfid sid) told fits = absurd told.goes
      by_detail given (Given (Some reference) sfid None) told fits = absurd told.goes
      by_detail given (Given (Some reference) sfid (Some sid)) told fits = given reference sfid sid fits.0 fits.1 told.goes.1 told.spelling

  pub every_accepted_change : (kind : Kind) (code : Code) → kind ≡ Dsc → code ≡ Okay
      → ((sfid : ℕ) → sfid < 2 ^ 32 → tail ≡ tail_of Dsc Okay (Given None sfid None) → result ≡ Some (Given None sfid None))
      → ((sfid sid : ℕ) → sfid < 2 ^ 32 → sid < 16384 → tail ≡ tail_of Dsc Okay (Given None sfid (Some sid)) → result ≡ Some (Given None sfid (Some sid)))
      → (detail : Detail) → IsDetailSpelling kind code tail detail → FitsDetail detail → result ≡ Some detail
  every_accepted_change kind code is_kind is_code alone with_sid detail told fits =
      by_detail alone with_sid detail (subst (λ (x : Code). IsDetailSpelling Dsc x tail detail) is_code (subst (λ (k : Kind). IsDetailSpelling k code tail detail) is_kind told)) fits
    where
      by_detail : ((sfid : ℕ) → sfid < 2 ^ 32 → tail ≡ tail_of Dsc Okay (Given None sfid None) → result ≡ Some (Given None sfid None))
          → ((sfid sid : ℕ) → sfid < 2 ^ 32 → sid < 16384 → tail ≡ tail_of Dsc Okay (Given None sfid (Some sid)) → result ≡ Some (Given None sfid (Some sid)))
          → (detail : Detail) → IsDetailSpelling Dsc Okay tail detail → FitsDetail detail → result ≡ Some detail
      by_detail alone with_sid Nothing told fits = absurd (told.goes refl)
      by_detail alone with_sid (Errored id subtype) told fits = absurd (told.goes.0 refl)
      by_detail alone with_sid (Given (Some reference) sfid sid) told fits = absurd told.goes
      by_detail alone with_sid (Given None sfid None) told fits = alone sfid fits.1 told.spelling
      by_detail alone with_sid (Given None sfid (Some sid)) told fits = with_sid sfid sid fits.1 told.goes.1 told.spelling

  pub every_refused_addition : (kind : Kind) (code : Code) → kind ≡ Dsa → code ≢ Okay
      → (tail ≡ tail_of Dsa code Nothing → result ≡ Some Nothing)
      → ((subtype : ℕ) → tail ≡ tail_of Dsa code (Errored None subtype) → result ≡ Some (Errored None subtype))
      → ((reference subtype : ℕ) → reference < 2 ^ 16 → tail ≡ tail_of Dsa code (Errored (Some (Reference reference)) subtype) → result ≡ Some (Errored (Some (Reference reference)) subtype))
      → (detail : Detail) → IsDetailSpelling kind code tail detail → FitsDetail detail → result ≡ Some detail
  every_refused_addition kind code is_kind refuses nothing alone referenced detail told fits =
      by_detail code refuses nothing alone referenced detail (subst (λ (k : Kind). IsDetailSpelling k code tail detail) is_kind told) fits
    where
      by_detail : (code : Code) → code ≢ Okay
          → (tail ≡ tail_of Dsa code Nothing → result ≡ Some Nothing)
          → ((subtype : ℕ) → tail ≡ tail_of Dsa code (Errored None subtype) → result ≡ Some (Errored None subtype))
          → ((reference subtype : ℕ) → reference < 2 ^ 16 → tail ≡ tail_of Dsa code (Errored (Some (Reference reference)) subtype) → result ≡ Some (Errored (Some (Reference reference)) subtype))
          → (detail : Detail) → IsDetailSpelling Dsa code tail detail → FitsDetail detail → result ≡ Some detail
      by_detail code refuses nothing alone referenced Nothing told fits = nothing told.spelling
      by_detail code refuses nothing alone referenced (Errored None subtype) told fits = alone subtype told.spelling
      by_detail code refuses nothing alone referenced (Errored (Some (Reference reference)) subtype) told fits = referenced reference subtype fits.0 told.spelling
      by_detail code refuses nothing alone referenced (Errored (Some (Sfid sfid)) subtype) told fits = absurd told.goes.1
      by_detail code refuses nothing alone referenced (Given None sfid sid) told fits = absurd told.goes
      by_detail code refuses nothing alone referenced (Given (Some reference) sfid None) told fits = absurd told.goes
      by_detail code refuses nothing alone referenced (Given (Some reference) sfid (Some sid)) told fits = absurd (refuses told.goes.0)

  pub every_refused_change : (kind : Kind) (code : Code) → kind ≡ Dsc → code ≢ Okay
      → (tail ≡ tail_of Dsc code Nothing → result ≡ Some Nothing)
      → ((subtype : ℕ) → tail ≡ tail_of Dsc code (Errored None subtype) → result ≡ Some (Errored None subtype))
      → ((sfid subtype : ℕ) → sfid < 2 ^ 32 → tail ≡ tail_of Dsc code (Errored (Some (Sfid sfid)) subtype) → result ≡ Some (Errored (Some (Sfid sfid)) subtype))
      → (detail : Detail) → IsDetailSpelling kind code tail detail → FitsDetail detail → result ≡ Some detail
  every_refused_change kind code is_kind refuses nothing alone numbered detail told fits =
      by_detail code refuses nothing alone numbered detail (subst (λ (k : Kind). IsDetailSpelling k code tail detail) is_kind told) fits
    where
      by_detail : (code : Code) → code ≢ Okay
          → (tail ≡ tail_of Dsc code Nothing → result ≡ Some Nothing)
          → ((subtype : ℕ) → tail ≡ tail_of Dsc code (Errored None subtype) → result ≡ Some (Errored None subtype))
          → ((sfid subtype : ℕ) → sfid < 2 ^ 32 → tail ≡ tail_of Dsc code (Errored (Some (Sfid sfid)) subtype) → result ≡ Some (Errored (Some (Sfid sfid)) subtype))
          → (detail : Detail) → IsDetailSpelling Dsc code tail detail → FitsDetail detail → result ≡ Some detail
      by_detail code refuses nothing alone numbered Nothing told fits = nothing told.spelling
      by_detail code refuses nothing alone numbered (Errored None subtype) told fits = alone subtype told.spelling
      by_detail code refuses nothing alone numbered (Errored (Some (Reference reference)) subtype) told fits = absurd told.goes.1
      by_detail code refuses nothing alone numbered (Errored (Some (Sfid sfid)) subtype) told fits = numbered sfid subtype fits.0 told.spelling
      by_detail code refuses nothing alone numbered (Given (Some reference) sfid sid) told fits = absurd told.goes
      by_detail code refuses nothing alone numbered (Given None sfid sid) told fits = absurd (refuses told.goes.0)
