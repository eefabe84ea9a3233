-- Rankings that follow the policies of a plant's rows.
use Rattle.std.proofs.Common.{◌≡◌, ℕ, List, map, Option, Some, None, option_map, refl, sym, ap, ◌∙◌}
use Rattle.plant_core.proofs.LiveLemmas.Common.{slice_get, slice_get-map}
use Rattle.grant_policy.specs.declared.policy.Policy.{Policy}
use Rattle.plant.specs.declared.operator_row.RowFields.{RowFields}
use Rattle.operator_model.specs.Replay.{BookView}
use Rattle.plant_core.specs.live.Following.{FollowRows}

same_policy : (a b : Policy) → Some a ≡ Some b → a ≡ b
same_policy a b h = cc

-- rankings for all rows, each by its row's policy
pub follow_rows : (policies : List Policy) (rows : List RowFields) → policies ≡ map (λ row. row.policy) rows → FollowRows policies rows
follow_rows policies rows are = λ op policy row here there.
    same_policy policy row.policy
    (sym here ∙ (ap (λ (ps : List Policy). slice_get ps op) are ∙ (slice_get-map (λ (r : RowFields). r.policy) rows op ∙ ap (option_map (λ (r : RowFields). r.policy)) there)))

-- a policy that is that of the row that is found, if one is
of_found : (policy : Policy) (found : Option RowFields) (other : Policy) → option_map (λ (r : RowFields). r.policy) found ≡ Some other
    → ((row : RowFields) → found ≡ Some row → policy ≡ row.policy) → policy ≡ other
of_found policy None other there follows = absurd (cc)
of_found policy (Some row) other there follows = follows row refl ∙ same_policy row.policy other there

-- a ranking that follows the row at a place follows the book there, which has that row's policy
pub book_policy : (books : List BookView) (rows : List RowFields) (op : ℕ) (policy : Policy) → map (λ (book : BookView). book.row.policy) books ≡ map (λ (row : RowFields). row.policy) rows
    → ((row : RowFields) → slice_get rows op ≡ Some row → policy ≡ row.policy) → (book : BookView) → slice_get books op ≡ Some book → policy ≡ book.row.policy
book_policy books rows op policy are follows = λ book here.
    of_found policy (slice_get rows op) book.row.policy
    (sym (slice_get-map (λ (r : RowFields). r.policy) rows op) ∙ (ap (λ (ps : List Policy). slice_get ps op) (sym are)
    ∙ (slice_get-map (λ (b : BookView). b.row.policy) books op ∙ ap (option_map (λ (b : BookView). b.row.policy)) here))) follows

-- one of several rankings follows the row at its place
pub at_place : {X : Type 0} (policy : X → Policy) (rankings : List X) (rows : List RowFields) (op : ℕ) (ranking : X) → slice_get rankings op ≡ Some ranking
    → FollowRows (map policy rankings) rows → (row : RowFields) → slice_get rows op ≡ Some row → policy ranking ≡ row.policy
at_place policy rankings rows op ranking there follow = λ row here.
    follow op (policy ranking) row (slice_get-map policy rankings op ∙ ap (option_map policy) there) here
