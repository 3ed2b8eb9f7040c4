use Rattle.std.proofs.Common.{subst}
use Rattle.ffm_model.specs.Ranges.{ranges_of}
use Rattle.machine_rules.specs.Vectors.{AreWithin}
use Rattle.machine_calls.proofs.machine.Machine.call_connection.Goals as goal

pub returns-clause-kept : goal.returns-clause-kept
returns-clause-kept c = record {
  regions = c.requires.regions;
  messages = c.call_on.ensures.fits (ranges_of c.args.system.now.regions) (subst (λ rs. AreWithin rs c.in-Some-snapshot.vectors) c.requires.regions c.in-Some-snapshot.ensures.within) c.requires.messages;
}
