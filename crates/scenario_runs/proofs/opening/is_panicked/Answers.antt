use Rattle.std.proofs.Common.{◌∙◌}
use Rattle.memory_image.specs.Pieces.{byte_at}
use Rattle.ffm_model.specs.declared.machine.Phase.TheVariants.{Panicked}
use Rattle.scenario_runs.proofs.Panics.{panicked_as_shown, shows_none}
use Rattle.scenario_runs.proofs.opening.is_panicked.Goals as goal

pub returns-in-Panicked : goal.returns-in-Panicked
returns-in-Panicked c =
    let e = c.args.ended.now in
    panicked_as_shown e.opening.system (byte_at e.opening.memory) e.history c.args.partition Panicked c.in-Panicked.ensures

pub returns-in_default : goal.returns-in_default
returns-in_default c =
    let e = c.args.ended.now in
    shows_none c.phase.result c.in_default.not-Panicked ∙ panicked_as_shown e.opening.system (byte_at e.opening.memory) e.history c.args.partition c.phase.result c.phase.ensures
