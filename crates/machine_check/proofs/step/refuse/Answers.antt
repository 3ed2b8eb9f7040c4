use Rattle.machine_check.proofs.Kept.{kept_with}
use Rattle.machine_check.proofs.step.refuse.Goals as goal

pub returns-in_ok-panic-in-Partition-clause-kept : goal.returns-in_ok-panic-in-Partition-clause-kept
returns-in_ok-panic-in-Partition-clause-kept c = kept_with _ _ _ c.requires.kept c.panic.ensures.fits
