use Rattle.std.proofs.Common.{sym, subst}
use Rattle.ffm_model.specs.Ranges.{ranges_of}
use Rattle.ffm_model.specs.ServiceCalls.{output_at}
use Rattle.memory_image.proofs.Messages.{request_has}
use Rattle.machine_rules.specs.Vectors.{IsWithin, AreWithin}
use Rattle.machine_rules.proofs.Fitting.{output_at_within}
use Rattle.machine_calls.specs.Machine.{spm_of_objects}
use Rattle.machine_check.proofs.written.written_by_write.Goals as goal

pub next_bytes-requires : goal.next_bytes-requires
next_bytes-requires c =
    subst (λ rs. IsWithin rs (output_at c.in-Some.message c.args.index)) (sym c.requires.regions)
    (output_at_within _ c.in-Some.message.vectors c.args.index
    (request_has (λ x. AreWithin (ranges_of c.args.system.now.regions) x.vectors) c.args.system.now (spm_of_objects c.args.machine.now.objects) c.args.actor.0 c.args.handle c.args.index c.in-Some.message (sym c.in-Some.ensures) c.requires.messages))
