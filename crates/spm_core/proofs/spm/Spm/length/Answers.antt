use Rattle.spm_core.proofs.Kept.{run-kept}
use Rattle.spm_core.proofs.spm.Spm.length.Goals as goal

pub returns-clause-run : goal.returns-clause-run
returns-clause-run c = rw (← c.self.view_is) (run-kept _ _ _ _ _ c.self.invariant)
