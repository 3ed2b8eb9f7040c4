use Rattle.std.proofs.Common.{ℕ, Some, ◌≡◌, ◌<◌, arith, ap, sym, subst, ◌∙◌}
use Rattle.std.specs.Prelude.{IfSome, IsSome, Option}
use Rattle.ffm_model.specs.Actors.{actor_count}
use Rattle.ffm_model.specs.State.{connection_by_serial, is_undelivered}
use Rattle.memory_image.proofs.Systems.{buffer_inside}
use Rattle.spm_tables.specs.declared.item.QueuedMessage.{QueuedMessage}
use Rattle.spm_tables.specs.TablesView.{TablesView, message_of, spm_of}
use Rattle.service_calls.proofs.Partners.{connection-there, client-counted}
use Rattle.service_calls.proofs.DeliveryLemmas.{was-delivered, get-due}
use Rattle.service_calls.proofs.Kept.{unchanged-names}
use Rattle.std.proofs.Common.{refl}
use Rattle.memory_image.specs.Pieces.{byte_at}
use Rattle.ffm_model.specs.declared.machine.Message.{Message as ShownMessage}
use Rattle.service_calls.proofs.DeliveryLemmas.{IsDelivered, due-name, delivered-names, delivered-within}
use Rattle.service_calls.proofs.delivery.get.Goals as goal
use Rattle.std.specs.Prelude.{true}
use Rattle.ffm_model.specs.State.{fresh}
use Rattle.handle_table.specs.declared.handles.Family.TheVariants.{Message}
use Rattle.handle_table.proofs.FreshLemmas.{fresh-at}
use Rattle.service_calls.proofs.DeliveryLemmas.{was-undelivered}
use Rattle.ffm_model.specs.State.{SpmState}
use Rattle.law_counting.specs.Objects.{ObjectsFit}
use Rattle.law_counting.proofs.CallsFit.{get-fits}
use Rattle.handle_table.specs.Handles.{handle_at}
use Rattle.service_calls.proofs.FreshHandle.{objects-without}

pub shown-shown-requires-clause-there : goal.shown-shown-requires-clause-there
shown-shown-requires-clause-there c =
    let it = was-delivered c.args.tables.now c.dequeue.new.self c.in-Some.service c.in-Some-dequeue.slot c.queued-message.result c.in-Some-dequeue.ensures.found c.in-Some-dequeue.ensures.oldest
    c.in-Some-dequeue.ensures.after c.queued-message.ensures in
    let there : IfSome it.item.serial (λ n. IsSome (connection_by_serial (spm_of c.args.tables.now) n)) =
    connection-there c.args.system.now (spm_of c.args.tables.now) (is_undelivered c.in-Some.service) (message_of c.in-Some-dequeue.slot it.item) c.requires.premises.tables.fits it.first in
    let same : it.item.serial ≡ c.queued-message.result.serial = ap (λ (m : QueuedMessage). m.serial) (sym it.since) in
    subst (λ (d : TablesView). IfSome c.queued-message.result.serial (λ n. IsSome (connection_by_serial (spm_of d) n))) (sym it.after)
    (subst (λ (o : Option ℕ). IfSome o (λ n. IsSome (connection_by_serial (spm_of c.args.tables.now) n))) same there)

pub shown-shown-requires-clause-client : goal.shown-shown-requires-clause-client
shown-shown-requires-clause-client c =
    let it = was-delivered c.args.tables.now c.dequeue.new.self c.in-Some.service c.in-Some-dequeue.slot c.queued-message.result c.in-Some-dequeue.ensures.found c.in-Some-dequeue.ensures.oldest
    c.in-Some-dequeue.ensures.after c.queued-message.ensures in
    subst (λ (m : QueuedMessage). m.client.0 < actor_count c.args.system.now) (sym it.since)
    (client-counted c.args.system.now c.args.tables.now (is_undelivered c.in-Some.service) (message_of c.in-Some-dequeue.slot it.item) c.requires.premises.tables.made c.requires.premises.tables.fits it.first)

pub store_words-requires : goal.store_words-requires
store_words-requires c = rw (c.words_of.ensures.count, c.requires.premises.regions) (buffer_inside c.args.system.now c.args.actor.0 c.args.msg 48 (sym c.if-not-valid_buffer.ensures))

pub returns-clause-answer : goal.returns-clause-answer
returns-clause-answer c =
    let it = was-delivered c.args.tables.now c.dequeue.new.self c.in-Some.service c.in-Some-dequeue.slot c.queued-message.result c.in-Some-dequeue.ensures.found c.in-Some-dequeue.ensures.oldest
    c.in-Some-dequeue.ensures.after c.queued-message.ensures in
    let stored = rw c.words_of.ensures.words at c.store_words.ensures.stored in
    λ given.
    get-due c.args.system.now c.args.tables.now c.dequeue.new.self given c.args.image.now c.store_words.new.self c.args.actor.0 c.args.signal c.args.msg c.in-Some.service c.in-Some-dequeue.slot
    c.queued-message.result c.shown-shown.result (sym c.in-Some.ensures) (sym c.if-not-valid_buffer.ensures) it c.shown-shown.ensures c.in-Some-dequeue.ensures.state stored

delivered-so : (c : goal.After-store_words) → IsDelivered c.args.tables.now c.dequeue.new.self c.in-Some.service c.in-Some-dequeue.slot c.queued-message.result
delivered-so c =
    was-delivered c.args.tables.now c.dequeue.new.self c.in-Some.service c.in-Some-dequeue.slot c.queued-message.result c.in-Some-dequeue.ensures.found c.in-Some-dequeue.ensures.oldest
    c.in-Some-dequeue.ensures.after c.queued-message.ensures

pub returns-in_default-clause-names : goal.returns-in_default-clause-names
returns-in_default-clause-names c = unchanged-names c.args.system.now c.args.tables.now c.args.tables.now refl

pub returns-then-not-valid_buffer-clause-names : goal.returns-then-not-valid_buffer-clause-names
returns-then-not-valid_buffer-clause-names c = unchanged-names c.args.system.now c.args.tables.now c.args.tables.now refl

pub returns-in_default-dequeue-clause-names : goal.returns-in_default-dequeue-clause-names
returns-in_default-dequeue-clause-names c = unchanged-names c.args.system.now c.args.tables.now c.dequeue.new.self c.in_default-dequeue.ensures.after

pub returns-clause-name : goal.returns-clause-name
returns-clause-name c = λ k named given.
    due-name c.args.system.now c.args.tables.now c.dequeue.new.self given (byte_at c.args.image.now) c.args.actor.0 c.args.signal c.args.msg c.in-Some.service c.in-Some-dequeue.slot c.queued-message.result k
    (sym c.in-Some.ensures) (delivered-so c) c.in-Some-dequeue.ensures.state named
    ∙ ap (λ (m : ShownMessage). Some m.handle) (sym c.shown-shown.ensures)

pub returns-clause-within : goal.returns-clause-within
returns-clause-within c = λ regions. delivered-within regions c.args.tables.now c.dequeue.new.self c.in-Some.service c.in-Some-dequeue.slot c.queued-message.result (delivered-so c)

pub returns-clause-names : goal.returns-clause-names
returns-clause-names c =
    delivered-names c.args.system.now c.args.tables.now c.dequeue.new.self c.in-Some.service c.in-Some-dequeue.slot c.queued-message.result c.law.ensures.messages (delivered-so c)

pub returns-clause-fresh : goal.returns-clause-fresh
returns-clause-fresh c = λ st stands.
    let it = delivered-so c in
    let waited = was-undelivered c.args.tables.now c.dequeue.new.self c.in-Some.service c.in-Some-dequeue.slot c.queued-message.result it in
    subst (λ (m : ShownMessage). fresh st m.handle ≡ true) (sym c.shown-shown.ensures)
    (fresh-at Message 304 (λ (m : QueuedMessage). m.delivered) c.args.tables.now.messages st c.in-Some-dequeue.slot it.item (omega arith) c.law.ensures.messages stands.messages it.live waited)

pub returns-clause-fits : goal.returns-clause-fits
returns-clause-fits c =
    let s = c.args.system.now in
    let d = c.args.tables.now in
    let t = c.in-Some-dequeue.slot in
    let it = delivered-so c in
    let waited = was-undelivered d c.dequeue.new.self c.in-Some.service t c.queued-message.result it in
    let none = objects-without d t it.item c.law.ensures.messages c.law.ensures.connections c.law.ensures.table it.live waited in
    subst (λ (b : SpmState). ObjectsFit s b) (sym c.in-Some-dequeue.ensures.state) (get-fits s (spm_of d) c.in-Some.service (handle_at Message t) c.requires.premises.tables.fits none)
