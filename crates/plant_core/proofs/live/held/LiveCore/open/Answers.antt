use Rattle.std.proofs.Common.{ℕ, List, map, ap, ap₂, ◌∙◌}
use Rattle.plant_core.proofs.LiveLemmas.Common.{ConstsFields, RowFields, started_core, sound_of, live_view, start_with}
use Rattle.plant_core.proofs.LiveLemmas.OpenLemmas.{as_opened, opened_view, opened_is_after, rows_seen, consts_seen}
use Rattle.plant_core.proofs.live.held.LiveCore.open.Goals as goal

pub resume-requires-clause-rows : goal.resume-requires-clause-rows
resume-requires-clause-rows c =
    rows_seen sound_of c.args.plant.consts c.args.plant.rows c.in_ok-lives.lives.items
    (c.in_ok-lives.ensures ∙ ap₂ (λ (consts : ConstsFields) (rows : List RowFields). map (as_opened consts) rows) c.consts.ensures.value c.rows.ensures.value)

pub resume-requires-clause-consts : goal.resume-requires-clause-consts
resume-requires-clause-consts c =
    consts_seen sound_of c.args.plant.consts c.args.plant.rows c.in_ok-lives.lives.items
    (c.in_ok-lives.ensures ∙ ap₂ (λ (consts : ConstsFields) (rows : List RowFields). map (as_opened consts) rows) c.consts.ensures.value c.rows.ensures.value)

pub returns-in-Ok-clause-ok : goal.returns-in-Ok-clause-ok
returns-in-Ok-clause-ok c =
    opened_view c.args.plant c.rows.ensures.valid (map sound_of c.in_ok-lives.lives.items) (live_view c.in-Ok.core)
    (c.in_ok-lives.ensures ∙ ap₂ (λ (consts : ConstsFields) (rows : List RowFields). map (as_opened consts) rows) c.consts.ensures.value c.rows.ensures.value)
    (c.in-Ok.ensures.ok
    ∙ ap (λ (n : ℕ). started_core c.args.plant (start_with c.args.plant n (map sound_of c.in_ok-lives.lives.items)))
    (ap (λ (f : ConstsFields). f.channel.first_frame) (c.get_fields.ensures.value ∙ c.consts-2.ensures.value)))

pub returns-in-Ok-clause-reached : goal.returns-in-Ok-clause-reached
returns-in-Ok-clause-reached c =
    opened_is_after c.args.plant (live_view c.in-Ok.core) c.rows.ensures.valid
    (opened_view c.args.plant c.rows.ensures.valid (map sound_of c.in_ok-lives.lives.items) (live_view c.in-Ok.core)
    (c.in_ok-lives.ensures ∙ ap₂ (λ (consts : ConstsFields) (rows : List RowFields). map (as_opened consts) rows) c.consts.ensures.value c.rows.ensures.value)
    (c.in-Ok.ensures.ok
    ∙ ap (λ (n : ℕ). started_core c.args.plant (start_with c.args.plant n (map sound_of c.in_ok-lives.lives.items)))
    (ap (λ (f : ConstsFields). f.channel.first_frame) (c.get_fields.ensures.value ∙ c.consts-2.ensures.value))))
    c.always.ensures.gathering
