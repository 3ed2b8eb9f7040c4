use Rattle.std.proofs.Common.{refl}
use Rattle.ffm_model.specs.Ranges.{ranges_of}
use Rattle.machine_calls.proofs.MessageLemmas.{kept_vectors, request_fits}
use Rattle.machine_calls.proofs.machine.Machine.skip.Goals as goal

pub skip-count-requires-clause-moved : goal.skip-count-requires-clause-moved
skip-count-requires-clause-moved c = (request_fits (ranges_of c.args.system.now.regions) c.args.system.now c.args.self.now.objects c.args.actor.0 c.args.handle c.args.index _ c.in_ok-message.ensures c.requires.messages).moved

pub returns-clause-kept : goal.returns-clause-kept
returns-clause-kept c =
    kept_vectors c.args.system.now c.args.self.now c.set_vectors.new.self c.args.self.now.memory c.args.handle c.skip-count.new.vectors c.requires refl c.set_vectors.ensures.state
    (c.skip-count.ensures.within _ (request_fits (ranges_of c.args.system.now.regions) c.args.system.now c.args.self.now.objects c.args.actor.0 c.args.handle c.args.index _ c.in_ok-message.ensures c.requires.messages))
