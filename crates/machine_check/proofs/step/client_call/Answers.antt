use Rattle.machine_check.proofs.Kept.{kept_after}
use Rattle.machine_check.proofs.step.client_call.Goals as goal

pub returns-in-Connect-clause-kept : goal.returns-in-Connect-clause-kept
returns-in-Connect-clause-kept c = kept_after _ _ _ _ c.requires.kept c.connect.ensures.fits

pub returns-in-Close-clause-kept : goal.returns-in-Close-clause-kept
returns-in-Close-clause-kept c = kept_after _ _ _ _ c.requires.kept c.close.ensures.fits
