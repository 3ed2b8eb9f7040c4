use Rattle.std.proofs.Common.{sym, subst, ◌∙◌}
use Rattle.ffm_model.specs.Ranges.{ranges_of}
use Rattle.memory_image.proofs.Systems.{buffer_inside}
use Rattle.machine_rules.specs.Vectors.{AreWithin}
use Rattle.machine_calls.proofs.MessageLemmas.{kept_vectors, request_fits}
use Rattle.machine_calls.proofs.machine.Machine.read.Goals as goal

pub read-count-requires-clause-within : goal.read-count-requires-clause-within
read-count-requires-clause-within c =
    subst (λ rs. AreWithin rs c.in_ok-message.message.vectors) (sym c.requires.regions) (request_fits (ranges_of c.args.system.now.regions) c.args.system.now c.args.self.now.objects c.args.actor.0 c.args.handle c.args.index _ c.in_ok-message.ensures c.requires.messages)

pub read-count-requires-clause-buffer : goal.read-count-requires-clause-buffer
read-count-requires-clause-buffer c = rw c.requires.regions (buffer_inside c.args.system.now c.args.actor.0 c.args.buffer c.args.len (sym c.if-not-valid_buffer.ensures))

pub returns-clause-kept : goal.returns-clause-kept
returns-clause-kept c =
    kept_vectors c.args.system.now c.args.self.now c.set_vectors.new.self c.read-count.new.image c.args.handle c.read-count.new.vectors c.requires c.read-count.ensures.regions c.set_vectors.ensures.state
    (subst (λ rs. AreWithin rs c.read-count.new.vectors) (c.read-count.ensures.regions ∙ c.requires.regions) c.read-count.ensures.within)
