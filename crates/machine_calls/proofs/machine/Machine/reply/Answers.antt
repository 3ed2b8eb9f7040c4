use Rattle.std.proofs.Common.{refl, to_z, of_z, w32}
use Rattle.ffm_model.specs.Ranges.{ranges_of}
use Rattle.machine_calls.proofs.MessageLemmas.{kept_messages, reply_fits}
use Rattle.machine_calls.proofs.machine.Machine.reply.Goals as goal

pub finish-requires : goal.finish-requires
finish-requires c =
    rw c.requires.regions (reply_fits (ranges_of c.args.system.now.regions) c.args.system.now c.args.self.now.objects c.args.actor.0 c.args.handle (to_z w32 (of_z w32 c.args.status.0)) c.in-Some.message c.in-Some.ensures c.requires.messages)

pub returns-then-message-ge-PSA_IPC_CALL-clause-kept : goal.returns-then-message-ge-PSA_IPC_CALL-clause-kept
returns-then-message-ge-PSA_IPC_CALL-clause-kept c =
    kept_messages c.args.system.now c.args.self.now c.reply.new.self c.finish.new.image c.requires c.finish.ensures.regions (c.in_ok-reply.ensures.fits _ c.requires.messages)

pub returns-else-message-ge-PSA_IPC_CALL-clause-kept : goal.returns-else-message-ge-PSA_IPC_CALL-clause-kept
returns-else-message-ge-PSA_IPC_CALL-clause-kept c =
    kept_messages c.args.system.now c.args.self.now c.reply.new.self c.args.self.now.memory c.requires refl (c.in_ok-reply.ensures.fits _ c.requires.messages)
