-- A deletion is decided.
use Rattle.std.proofs.Common.{◌≡◌, ℕ, [], None, Result, Ok, Err, refl, arith}
use Rattle.trace_report.proofs.TableLemmas.Common.{MatchResult, AllByRecursion, Modem, Dsd, ReplyFields, Flow, flow_at, Refused, Operator, IsSound, transaction, free_flow, Said, said_by, Admits, Activates, EncodingAsksFor, NamesUnknownClass, GivesNoSet, Accepted}
use Rattle.dsx_messages.specs.declared.message.Request.TheVariants as requests
use Rattle.operator_model.specs.Verdict.{deletion_verdict, verdict}
use Rattle.trace_report.proofs.TableLemmas.ListLemmas.{contains-nothing, none_any, all_append}
use Rattle.trace_report.proofs.TableLemmas.TableLemmas.{of_encodings, up_to_flow, asking, up_to_room, Fails, IsDecided, decided}
use Rattle.trace_report.proofs.TableLemmas.FlowLemmas.{IsFound, free-found}

module _ (op : Operator) (sound : IsSound op) (modem : Modem) (tid sfid : ℕ) where
  abbrev said : Said
  said = said_by (requests.Dsd tid sfid)

  -- it has no encodings
  no_encodings : AllByRecursion (Fails op modem said) of_encodings
  no_encodings = (
    none_any (NamesUnknownClass op.consts.classes) [] tt,
    (
      λ h. h.0 refl,
      (
        λ h. contains-nothing h.0 h.2,
        (
          λ h. absurd (omega (arith, h.0)),
          (none_any (λ _. None ≡ None) [] tt, tt),
        ),
      ),
    ),
  )

  -- it asks for nothing
  nothing_asked : AllByRecursion (Fails op modem said) up_to_flow → AllByRecursion (Fails op modem said) up_to_room
  nothing_asked none =
      all_append (Fails op modem said) up_to_flow asking none (
        (λ h. cc),
        (
          none_any (GivesNoSet op.consts) [] tt,
          (
            (λ h. none_any (λ e. Activates e × EncodingAsksFor op.consts e h.0) [] tt h.2),
            (
              (λ h. none_any (λ e. Admits e × EncodingAsksFor op.consts e h.1) [] tt h.4),
              (
                (λ h. cc),
                (
                  (λ h. cc),
                  (
                    (λ h. none_any (λ e. Admits e × EncodingAsksFor op.consts e h.1) [] tt h.3),
                    (
                      (λ h. h.1 refl),
                      ((λ h. h.1 refl), tt),
                    ),
                  ),
                ),
              ),
            ),
          ),
        ),
      )

  pub deletion-decided : IsDecided op modem said (verdict op modem (requests.Dsd tid sfid))
  unfolding verdict
  deletion-decided = go (free_flow (transaction modem Dsd tid) (flow_at sfid op.state.flows)) (free-found op modem said sound.ascending no_encodings sfid refl (λ n is. cc))
    where
      go : (r : Result Flow ReplyFields) → MatchResult r (IsFound op modem said sfid) (λ reply. IsDecided op modem said (Refused reply)) → IsDecided op modem said (deletion_verdict tid sfid r)
      go (Err reply) is = is
      go (Ok flow) found = decided op modem said up_to_room Accepted [] _ refl (nothing_asked found.none) tt (record { sfid = sfid; named = refl; is = refl })
