use Rattle.std.proofs.Common.{sym, subst}
use Rattle.ffm_model.specs.Ranges.{ranges_of}
use Rattle.memory_image.proofs.Messages.{held_has}
use Rattle.machine_rules.specs.Vectors.{AreWithin}
use Rattle.machine_calls.specs.Machine.{spm_of_objects}
use Rattle.machine_check.proofs.written.written_by_reply.Goals as goal

pub length_words-requires : goal.length_words-requires
length_words-requires c =
    subst (λ rs. AreWithin rs c.in-Some.message.vectors) (sym c.requires.regions)
    (held_has (λ x. AreWithin (ranges_of c.args.system.now.regions) x.vectors) c.args.system.now (spm_of_objects c.args.machine.now.objects) c.args.actor.0 c.args.handle c.in-Some.message (sym c.in-Some.ensures) c.requires.messages)
