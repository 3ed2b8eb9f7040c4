use Rattle.std.proofs.Common.{◌∙◌, ap}
use Rattle.std.specs.List.{list_any, range_with_len}
use Rattle.machine_calls.specs.Machine.{spm_of_objects}
use Rattle.ffm_model.specs.Signals.{enabled}
use Rattle.view_places.proofs.Ranges.{any_found, any_none, any_step}
use Rattle.view_places.proofs.waits.is_some_enabled.Goals as goal

pub loop-actor-preserved : goal.loop-actor-preserved
loop-actor-preserved c = any_step (enabled c.args.system.now (spm_of_objects c.args.objects.now)) c.loop-actor.actor _ _ _ c.loop-actor-test.true c.is_enabled.ensures c.if-is_enabled.false c.loop-actor.invariant

pub returns-then-is_enabled : goal.returns-then-is_enabled
returns-then-is_enabled c = any_found (enabled c.args.system.now (spm_of_objects c.args.objects.now)) c.loop-actor.actor _ _ _ c.loop-actor-test.true c.is_enabled.ensures c.if-is_enabled.true c.loop-actor.invariant
    ∙ ap (λ n. list_any (enabled c.args.system.now (spm_of_objects c.args.objects.now)) (range_with_len 0 n)) c.actor_count-actor-end.ensures

pub returns : goal.returns
returns c = any_none (enabled c.args.system.now (spm_of_objects c.args.objects.now)) c.loop-actor.actor _ _ c.loop-actor-test.false c.loop-actor.invariant
    ∙ ap (λ n. list_any (enabled c.args.system.now (spm_of_objects c.args.objects.now)) (range_with_len 0 n)) c.actor_count-actor-end.ensures
