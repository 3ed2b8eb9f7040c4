use Rattle.std.proofs.Common.{◌≡◌, ◌∙◌, ap, sym}
use Rattle.std.specs.Prelude.{◌&&◌, Some}
use Rattle.std.specs.Option.{option_map}
use Rattle.ffm_model.specs.Actors.{is_service_of}
use Rattle.ffm_model.specs.State.{has_handle}
use Rattle.memory_image.specs.Pieces.{regions_of}
use Rattle.machine_rules.specs.Vectors.{AreWithin}
use Rattle.spm_tables.specs.declared.item.MessageItem.{MessageItem}
use Rattle.spm_tables.specs.TablesView.{item_of, message_of, spm_of}
use Rattle.service_calls.proofs.Held.{holds-at, message-is}
use Rattle.service_calls.proofs.Partners.{connection-there}
use Rattle.service_calls.proofs.ReplyLemmas.{IsReplied, was-replied, left-due, reply-due, owing-fits}
use Rattle.service_calls.proofs.Kept.{unchanged-names}
use Rattle.std.proofs.Common.{refl, subst}
use Rattle.std.specs.Prelude.{All}
use Rattle.spm_tables.specs.TablesView.{TablesView}
use Rattle.service_calls.proofs.Kept.{all-out, reply-names}
use Rattle.service_calls.proofs.replies.reply.Goals as goal
use Rattle.service_calls.proofs.ReplyLemmas.{settled-fits}
use Rattle.memory_image.proofs.Messages.{reply_is}

pub connection_of-connection-requires-clause-there : goal.connection_of-connection-requires-clause-there
connection_of-connection-requires-clause-there c =
    let s = c.args.system.now in
    let found = message-is c.args.tables.now c.in-Some.slot c.queued-message.result _ c.queued-message.ensures (c.in-Some.ensures.message s c.requires.premises.tables.made) in
    connection-there s (spm_of c.args.tables.now) (λ m. is_service_of s c.args.actor.0 m.service && has_handle m.handle c.args.handle) (message_of c.in-Some.slot c.queued-message.result) c.requires.premises.tables.fits
    (reply_is s (spm_of c.args.tables.now) c.args.actor.0 c.args.handle c.args.status.0 (message_of c.in-Some.slot c.queued-message.result) found)

pub tell_lengths-requires : goal.tell_lengths-requires
tell_lengths-requires c =
    holds-at (λ m. AreWithin (regions_of c.args.image.now) m.vectors) c.args.tables.now c.in-Some.slot c.queued-message.result c.requires.premises.vectors c.queued-message.ensures

replied-so : (c : goal.After-answer) → IsReplied c.args.system.now c.args.tables.now c.answer.new.tables c.args.actor.0 c.args.handle c.args.status.0 c.in-Some.slot c.queued-message.result c.answer.result
replied-so c =
    let s = c.args.system.now in
    let found = message-is c.args.tables.now c.in-Some.slot c.queued-message.result _ c.queued-message.ensures (c.in-Some.ensures.message s c.requires.premises.tables.made) in
    let both : Some c.drop_message.result ≡ Some (item_of c.queued-message.result) = sym c.drop_message.ensures.item ∙ ap (option_map item_of) c.queued-message.ensures in
    let same : c.drop_message.result ≡ item_of c.queued-message.result = cc in
    was-replied s c.args.tables.now c.drop_message.new.self c.answer.new.tables c.args.actor.0 c.args.handle c.args.status.0 c.in-Some.slot c.queued-message.result c.answer.result found
    (λ on. c.drop_message.ensures.state (ap (λ (m : MessageItem). m.delivered) same ∙ on)) c.answer.ensures.state c.answer.ensures.owing

pub returns-clause-left : goal.returns-clause-left
returns-clause-left c =
    left-due c.args.system.now c.args.tables.now c.answer.new.tables c.args.actor.0 c.args.handle c.args.status.0 c.in-Some.slot c.queued-message.result c.answer.result (replied-so c)

pub returns-clause-answer : goal.returns-clause-answer
returns-clause-answer c = λ given.
    reply-due c.args.system.now c.args.tables.now c.answer.new.tables given c.args.image.now c.tell_lengths.new.image c.args.actor.0 c.args.handle c.args.status.0 c.in-Some.slot c.queued-message.result c.answer.result
    (replied-so c) c.tell_lengths.ensures.bytes

pub returns-clause-owed : goal.returns-clause-owed
returns-clause-owed c =
    owing-fits c.args.system.now c.args.tables.now c.answer.new.tables c.args.actor.0 c.args.handle c.args.status.0 c.in-Some.slot c.queued-message.result c.answer.result c.requires.premises.tables.fits (replied-so c)

pub returns-in_default-clause-names : goal.returns-in_default-clause-names
returns-in_default-clause-names c = unchanged-names c.args.system.now c.args.tables.now c.args.tables.now refl

pub returns-clause-vectors : goal.returns-clause-vectors
returns-clause-vectors c =
    let of_messages = c.answer.ensures.messages ∙ ap (λ (d : TablesView). d.messages) c.drop_message.ensures.after in
    subst (λ rs. All (λ m. AreWithin rs m.vectors) (spm_of c.answer.new.tables).messages) (sym c.tell_lengths.ensures.regions)
    (all-out (λ m. AreWithin (regions_of c.args.image.now) m.vectors) c.args.tables.now c.answer.new.tables c.in-Some.slot of_messages c.requires.premises.vectors)

pub returns-clause-names : goal.returns-clause-names
returns-clause-names c =
    reply-names c.args.system.now c.args.tables.now c.drop_message.new.self c.answer.new.tables c.in-Some.slot c.connection_of-connection.result c.requires.premises.tables.fits c.law.ensures.connections c.drop_message.ensures.after
    c.answer.ensures.connections c.answer.ensures.messages

pub returns-clause-settled : goal.returns-clause-settled
returns-clause-settled c =
    settled-fits c.args.system.now c.args.tables.now c.answer.new.tables c.args.actor.0 c.args.handle c.args.status.0 c.in-Some.slot c.queued-message.result c.answer.result c.requires.premises.tables.fits (replied-so c)
