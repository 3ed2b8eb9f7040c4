use Rattle.spm_core.proofs.Kept.{objects-kept, phase-kept}
use Rattle.spm_core.proofs.spm.Spm.phase.Goals as goal

pub shown-requires : goal.shown-requires
shown-requires c = objects-kept _ _ _ _ _ c.self.invariant

pub returns : goal.returns
returns c = rw (← c.self.view_is) (phase-kept _ _ _ _ _ c.args.actor.0 c.shown.result c.self.invariant c.shown.ensures)
