use Rattle.std.proofs.Common.{option_map}
use Rattle.view_diagram.specs.Diagrams.{has_lane}
use Rattle.view_diagram.proofs.LaneSteps.{filter_step}
use Rattle.view_diagram.proofs.lanes.Lanes.of.Goals as goal

pub loop-actor-preserved : goal.loop-actor-preserved
loop-actor-preserved c =
    filter_step (has_lane (option_map (λ actors. actors.now) c.args.chosen) c.args.arrows.now) c.loop-actor.actor _ _ _ _ _
    c.loop-actor-test.true c.has_lane-is_there.ensures c.in_ok-add_where.ensures c.loop-actor.invariant
