use Rattle.spm_core.proofs.Kept.{memory-kept}
use Rattle.spm_core.proofs.spm.Spm.image.Goals as goal

pub returns-clause-memory : goal.returns-clause-memory
returns-clause-memory c = rw (← c.self.view_is) (memory-kept _ _ _ _ _ c.self.invariant)
