use Rattle.std.proofs.Common.{sym}
use Rattle.memory_image.proofs.Systems.{buffer_inside}
use Rattle.machine_calls.proofs.MessageLemmas.{got_due, kept_delivered}
use Rattle.machine_calls.proofs.machine.Machine.get.Goals as goal

pub store_words-requires : goal.store_words-requires
store_words-requires c = rw (c.words_of.ensures.count, c.requires.regions) (buffer_inside c.args.system.now c.args.actor.0 c.args.msg 48 (sym c.if-not-valid_buffer.ensures))

pub returns-clause-gets : goal.returns-clause-gets
returns-clause-gets c = λ given.
    got_due c.args.system.now c.args.self.now (record { objects = c.deliver.new.self; memory = c.store_words.new.self }) given c.args.actor.0 c.args.signal c.args.msg c.in_ok-service.service c.args.handle c.in_ok-message.message c.shown-shown.result c.words_of.result
    c.in_ok-service.ensures c.in_ok-message.ensures (sym c.if-not-valid_buffer.ensures) c.shown-shown.ensures c.words_of.ensures.words c.deliver.ensures.state c.store_words.ensures.stored

pub returns-clause-kept : goal.returns-clause-kept
returns-clause-kept c = kept_delivered c.args.system.now c.args.self.now c.deliver.new.self c.store_words.new.self c.in_ok-service.service c.args.handle c.requires c.store_words.ensures.regions c.deliver.ensures.state
