-- What a change of one flow keeps of it.
use Rattle.std.proofs.Common.{◌<◌, ◌≡◌, ℕ, ◌+◌, ◌-◌, ◌==◌, ◌≤◌, Bool, true, false, cond, Option, Some, None, IfSome, IsSome, is_some, refl, sym, ap, ◌∙◌, subst, arith}
use Rattle.operator_model.proofs.Common.{none-some, IfSome_then, true≢false, cond_both, UnitSizes, need_if, SetsFields, Flow, Pending, asks_for_grants, pending_admitted, with_pending, flow_after_ack, without_pending, taken_back, flow_after_request, flow_after_grant, IsSoundFlow, IsSoundPending}
use Rattle.operator_model.proofs.FlowsLemmas.{CommitsLess}

-- a flow in another's place: its SID is the other's or none, it is sound, and it has committed no more
pub record MayFollow (units : UnitSizes) (frame : ℕ) (old v : Flow) : Type 0 where
  pub sid : (n : ℕ) → v.sid ≡ Some n → old.sid ≡ Some n
  pub sound : IsSoundFlow frame v
  pub less : CommitsLess units v old

-- ---- one flow

same-CommitsLess : (units : UnitSizes) (old : Flow) → CommitsLess units old old
same-CommitsLess units old = record { minislots = omega arith; elements = omega arith }

no_sid_or : (b : Bool) (sid : Option ℕ) (n : ℕ) → cond b sid None ≡ Some n → sid ≡ Some n
no_sid_or true sid n is = is
no_sid_or false sid n is = absurd (none-some n is)

or_no_sid : (b : Bool) (sid : Option ℕ) (n : ℕ) → cond b None sid ≡ Some n → sid ≡ Some n
or_no_sid true sid n is = absurd (none-some n is)
or_no_sid false sid n is = is

module _ (units : UnitSizes) (frame : ℕ) (old : Flow) (sound : IsSoundFlow frame old) where
  pub follow-taken_back : MayFollow units frame old (taken_back old)
  follow-taken_back = by old.pending sound.pending
    where
      has_sid : (pending : Pending) → IsSoundPending old pending → (b : Bool) → pending.sid_is_new ≡ b → IsSome old.sets.admitted → IsSome (cond b None old.sid)
      has_sid pending h true new some = absurd (true≢false (sym some ∙ ap is_some (h.new_sid new)))
      has_sid pending h false new some = sound.has_sid some

      by : (o : Option Pending) → IfSome o (IsSoundPending old) → MayFollow units frame old (without_pending old o)
      by None h = record { sid = λ n is. is; sound = sound; less = same-CommitsLess units old }
      by (Some pending) h = record {
        sid = or_no_sid pending.sid_is_new old.sid;
        sound = record {
          nested = sound.nested;
          kinds = sound.kinds;
          no_backlog = sound.no_backlog;
          has_sid = has_sid pending h pending.sid_is_new refl;
          start = sound.start;
          since = sound.since;
          pending = tt;
        };
        less = record { minislots = omega arith; elements = omega arith };
      }

  pub follow-acknowledged : MayFollow units frame old (flow_after_ack frame old)
  follow-acknowledged = by old.pending refl sound.pending
    where
      has_sid : (pending : Pending) → IsSoundPending old pending → IsSome pending.sets.admitted → IsSome (cond (is_some pending.sets.admitted) old.sid None)
      has_sid pending h some = subst (λ (b : Bool). IsSome (cond b old.sid None)) (sym some) (h.has_sid some)

      by : (o : Option Pending) → old.pending ≡ o → IfSome o (IsSoundPending old) → MayFollow units frame old (with_pending frame old o)
      by None is h = record { sid = λ n is. is; sound = sound; less = same-CommitsLess units old }
      by (Some pending) is h = record {
        sid = no_sid_or (is_some pending.sets.admitted) old.sid;
        sound = record {
          nested = h.nested;
          kinds = h.kinds;
          no_backlog = λ no. ap (λ (b : Bool). cond b old.backlog 0) no;
          has_sid = has_sid pending h;
          start = omega arith;
          since = sound.since;
          pending = tt;
        };
        less = record {
          minislots = omega (arith, ap (λ (o : Option Pending). (need_if units (pending_admitted o)).minislots) is);
          elements = omega (arith, ap (λ (o : Option Pending). (need_if units (pending_admitted o)).elements) is);
        };
      }

  as_before : (v : Flow) → v.sets ≡ old.sets → v.sid ≡ old.sid → IfSome old.pending (IsSoundPending v)
  as_before v sets sid = IfSome_then old.pending sound.pending (λ pending h. record {
    nested = h.nested;
    kinds = h.kinds;
    provisioned = h.provisioned ∙ ap (λ (s : SetsFields). s.provisioned) (sym sets);
    new_sid = λ new. ap (λ (s : SetsFields). s.admitted) sets ∙ h.new_sid new;
    has_sid = λ some. ap is_some sid ∙ h.has_sid some;
  })

  pub follow-requested : (minislots : ℕ) → asks_for_grants old.sets.active ≡ true → MayFollow units frame old (flow_after_request minislots frame old)
  follow-requested minislots asks = record {
    sid = λ n is. is;
    sound = record { nested = sound.nested; kinds = sound.kinds; has_sid = sound.has_sid; no_backlog = λ no. absurd (true≢false (sym asks ∙ no)); start = sound.start; since = cond_both (old.backlog == 0) frame old.since (λ n. n ≤ frame) (λ _. omega arith) (λ _. sound.since); pending = as_before (flow_after_request minislots frame old) refl refl };
    less = record { minislots = omega arith; elements = omega arith };
  }

  pub follow-granted : (minislots earlier : ℕ) → earlier < frame → MayFollow units frame old (flow_after_grant minislots earlier old)
  follow-granted minislots earlier lt = record {
    sid = λ n is. is;
    sound = record { nested = sound.nested; kinds = sound.kinds; has_sid = sound.has_sid; no_backlog = λ no. omega (arith, sound.no_backlog no); start = sound.start; since = cond_both (old.backlog - minislots == 0) old.since (earlier + 1) (λ n. n ≤ frame) (λ _. sound.since) (λ _. omega arith); pending = as_before (flow_after_grant minislots earlier old) refl refl };
    less = record { minislots = omega arith; elements = omega arith };
  }
