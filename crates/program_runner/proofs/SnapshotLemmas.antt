-- A script that is performed, of which no snapshot is written.
use Rattle.std.proofs.Common.{◌≡◌, ◌≢◌, ℕ, List, Option, Some, None, inl, inr, subst}
use Rattle.program_runner.proofs.Common.{Appends, memory_line, state_line, RefusesToBegin, IsSnapshotAnswer}
use Rattle.plant_core.specs.declared.live.rest_fault.RestFault.{RestFault}
use Rattle.state_service.specs.declared.resumed.begin_fault.BeginFault.{BeginFault}
use Rattle.state_service.specs.declared.resumed.begin_fault.BeginFault.TheVariants as begin
use Rattle.state_service.specs.declared.resumed.saving.SnapshotEnd.{SnapshotEnd}
use Rattle.state_service.specs.declared.resumed.saving.SnapshotEnd.TheVariants.{Unfinished, NoMemory, NotBegun}
use Rattle.state_service.specs.resumed.SavedAfter.{EndsWithSnapshot}

pub unfinished : (known old mid new : Option (List ℕ)) (status : ℕ) (end : SnapshotEnd) (why : RestFault) (operator : Option (List ℕ)) → end ≡ Unfinished why operator
    → EndsWithSnapshot known None None old mid end → (status ≢ 6 → (status ≡ 3) × Appends mid new state_line) → IsSnapshotAnswer known status old new
unfinished None old mid new status end why operator is ends wrote = λ not_six. tt
unfinished (Some input) old mid new status end why operator is ends wrote =
    let after = subst (λ (e : SnapshotEnd). EndsWithSnapshot (Some input) None None old mid e) is ends in
    λ not_six. inr (inl ((wrote not_six).0, (why, (operator, (mid, after, (wrote not_six).1)))))

pub unsaved : (known old mid new : Option (List ℕ)) (status : ℕ) (end : SnapshotEnd) → end ≡ NoMemory → EndsWithSnapshot known None None old mid end
    → (status ≢ 6 → (status ≡ 5) × Appends mid new memory_line) → IsSnapshotAnswer known status old new
unsaved None old mid new status end is ends wrote = λ not_six. tt
unsaved (Some input) old mid new status end is ends wrote =
    let after = subst (λ (e : SnapshotEnd). EndsWithSnapshot (Some input) None None old mid e) is ends in
    λ not_six. inr (inr (inl ((wrote not_six).0, (mid, after, (wrote not_six).1))))

pub not_begun : (known old mid new : Option (List ℕ)) (status : ℕ) (end : SnapshotEnd) (fault : BeginFault) → end ≡ NotBegun fault → EndsWithSnapshot known None None old mid end
    → (status ≢ 6 → RefusesToBegin fault status mid new) → IsSnapshotAnswer known status old new
not_begun None old mid new status end fault is ends wrote = λ not_six. tt
not_begun (Some input) old mid new status end fault is ends wrote =
    let refused = subst (λ (e : SnapshotEnd). EndsWithSnapshot (Some input) None None old mid e) is ends in
    λ not_six. elim (subst (λ (w : Option (List ℕ)). RefusesToBegin fault status w new) refused.2 (wrote not_six)) [
      | inl line ↦ inr (inr (inr (fault, refused.0, line.0, line.1)))
      | inr memory ↦ inr (inr (inr (begin.NoMemory, tt, memory.0, memory.1)))
    ]
