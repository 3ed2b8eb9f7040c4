use Rattle.std.proofs.Common.{◌∙◌, ap}
use Rattle.std.specs.List.{list_any, range_with_len}
use Rattle.machine_calls.specs.Machine.{spm_of_objects}
use Rattle.view_places.specs.Waits.{is_blocked_actor}
use Rattle.view_places.proofs.Ranges.{any_found, any_none, any_step}
use Rattle.view_places.proofs.waits.is_some_blocked.Goals as goal

pub loop-actor-preserved : goal.loop-actor-preserved
loop-actor-preserved c = any_step (is_blocked_actor (spm_of_objects c.args.objects.now)) c.loop-actor.actor _ _ _ c.loop-actor-test.true c.is_blocked.ensures c.if-is_blocked.false c.loop-actor.invariant

pub returns-then-is_blocked : goal.returns-then-is_blocked
returns-then-is_blocked c = any_found (is_blocked_actor (spm_of_objects c.args.objects.now)) c.loop-actor.actor _ _ _ c.loop-actor-test.true c.is_blocked.ensures c.if-is_blocked.true c.loop-actor.invariant
    ∙ ap (λ n. list_any (is_blocked_actor (spm_of_objects c.args.objects.now)) (range_with_len 0 n)) c.actor_count-actor-end.ensures

pub returns : goal.returns
returns c = any_none (is_blocked_actor (spm_of_objects c.args.objects.now)) c.loop-actor.actor _ _ c.loop-actor-test.false c.loop-actor.invariant
    ∙ ap (λ n. list_any (is_blocked_actor (spm_of_objects c.args.objects.now)) (range_with_len 0 n)) c.actor_count-actor-end.ensures
