use Rattle.std.proofs.Common.{List, map, subst}
use Rattle.plant_restart.proofs.Common.{Contains, RowFields, live_view, SavedOperator, saved_by_name, HasNoRow, HaveRows, IsRestarted, IsRestartFault}
use Rattle.plant_restart.proofs.RestoreLemmas.{have_rows, unknown, not_unknown, not_restored, restore_memory}
use Rattle.plant_restart.proofs.restoring.restore.Goals as goal

pub returns-in-Err-clause-fault : goal.returns-in-Err-clause-fault
returns-in-Err-clause-fault c =
    let saved = c.args.saved.now in
    unknown c.args.plant saved.frame saved.operators c.in-Err.name
    (subst (λ (ops : List SavedOperator). Contains (map (λ (one : SavedOperator). one.name) ops) c.in-Err.name) c.as_slice-operators.ensures c.in-Err.ensures.stranger)
    (subst (λ (rows : List RowFields). HasNoRow rows c.in-Err.name) c.rows.ensures.value c.in-Err.ensures.no_row)

pub returns-in-Err-clause-only : goal.returns-in-Err-clause-only
returns-in-Err-clause-only c = λ have can.
    let saved = c.args.saved.now in
    absurd (not_unknown c.args.plant saved.frame saved.operators c.in-Err.name
    (subst (λ (ops : List SavedOperator). Contains (map (λ (one : SavedOperator). one.name) ops) c.in-Err.name) c.as_slice-operators.ensures c.in-Err.ensures.stranger)
    (subst (λ (rows : List RowFields). HasNoRow rows c.in-Err.name) c.rows.ensures.value c.in-Err.ensures.no_row) have)

pub returns-in-Ok-clause-ok : goal.returns-in-Ok-clause-ok
returns-in-Ok-clause-ok c =
    let saved = c.args.saved.now in
    subst (λ (ops : List SavedOperator). IsRestarted c.args.plant saved.frame (map (saved_by_name saved.frame) ops) (live_view c.in-Ok.core)) c.as_slice-operators.ensures c.in-Ok.ensures.ok

pub returns-in-Ok-clause-names : goal.returns-in-Ok-clause-names
returns-in-Ok-clause-names c =
    let saved = c.args.saved.now in
    have_rows c.args.plant saved.frame saved.operators
    (subst (λ (ops : List SavedOperator). HaveRows c.args.plant.rows (map (λ (one : SavedOperator). one.name) ops)) c.as_slice-operators.ensures
    (subst (λ (rows : List RowFields). HaveRows rows (map (λ (one : SavedOperator). one.name) c.as_slice-operators.result.now)) c.rows.ensures.value c.in_default.ensures.ok))

pub returns-in-Err-restart-clause-fault : goal.returns-in-Err-restart-clause-fault
returns-in-Err-restart-clause-fault c =
    let saved = c.args.saved.now in
    not_restored c.args.plant saved.frame saved.operators c.in-Err-restart.why
    (subst (λ (ops : List SavedOperator). HaveRows c.args.plant.rows (map (λ (one : SavedOperator). one.name) ops)) c.as_slice-operators.ensures
    (subst (λ (rows : List RowFields). HaveRows rows (map (λ (one : SavedOperator). one.name) c.as_slice-operators.result.now)) c.rows.ensures.value c.in_default.ensures.ok))
    (subst (λ (ops : List SavedOperator). IsRestartFault c.args.plant saved.frame (map (saved_by_name saved.frame) ops) c.in-Err-restart.why) c.as_slice-operators.ensures c.in-Err-restart.ensures.fault)

pub returns-in-Err-restart-clause-only : goal.returns-in-Err-restart-clause-only
returns-in-Err-restart-clause-only c = λ have can.
    let saved = c.args.saved.now in
    restore_memory c.args.plant saved.frame saved.operators c.in-Err-restart.why can
    (subst (λ (ops : List SavedOperator). IsRestartFault c.args.plant saved.frame (map (saved_by_name saved.frame) ops) c.in-Err-restart.why) c.as_slice-operators.ensures c.in-Err-restart.ensures.fault)
