use Rattle.std.proofs.Common.{◌++◌, [], ap, ◌∙◌}
use Rattle.std.specs.List.{cons_option}
use Rattle.machine_calls.specs.Machine.{spm_of_objects}
use Rattle.view_diagram.specs.Arrows.{release_arrow}
use Rattle.machine_calls.proofs.Leaving.{filter_map_more}
use Rattle.view_diagram.proofs.arrows.push_releases.Goals as goal

pub loop-message-preserved : goal.loop-message-preserved
loop-message-preserved c =
    filter_map_more (release_arrow c.args.system.now (spm_of_objects c.args.objects.now) c.args.partition.0) c.args.messages.now c.loop-message.message-index _ c.args.arrows.now.items c.loop-message.arrows.items _
    c.loop-message-test.true c.loop-message.invariant (c.in_ok-push_arrow.ensures ∙ ap (λ o. c.loop-message.arrows.items ++ cons_option o []) c.release_arrow-release.ensures)
