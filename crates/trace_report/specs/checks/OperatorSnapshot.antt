-- What is kept of an operator next to its state (implementation-specific; for inner functions).
use Rattle.std.specs.Prelude.{◌≡◌, ℕ, List, Option}
use Rattle.param_sets.specs.declared.param_set.ParamFields.{ParamFields}
use Rattle.flow_table.specs.declared.flow.Flow.{Flow}
use Rattle.flow_table.specs.Table.{sfids_of, sids_of}
use Rattle.operator_model.specs.State.{Operator}
use Rattle.operator_model.specs.Sound.{IsSound}
use Rattle.trace_report.specs.table.Said.{Said}
use Rattle.trace_report.specs.checks.Asking.{subjects_of, encoding_sets}
use Rattle.trace_report.specs.declared.checks.asking.Use.TheVariants.{Admit, Activate}

-- the identifiers that are used, and a state that is sound
pub record IsStanding (op : Operator) (used_sfids used_sids : List ℕ) : Type 0 where
  pub sfids : used_sfids ≡ sfids_of op.state.flows
  pub sids : used_sids ≡ sids_of op.state.flows
  pub sound : IsSound op

-- what a request is about and asks for
pub record AreAsked (op : Operator) (said : Said) (about : List (Option Flow)) (to_admit to_activate : List (Option ParamFields)) : Type 0 where
  pub subjects : about ≡ subjects_of op said
  pub admitted : to_admit ≡ encoding_sets Admit op said
  pub active : to_activate ≡ encoding_sets Activate op said
