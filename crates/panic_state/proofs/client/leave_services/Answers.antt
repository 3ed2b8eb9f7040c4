use Rattle.std.proofs.Common.{◌≡◌, ◌+◌, ◌++◌, [], ◌∷◌, length, map, arith, ap, sym, ◌∙◌, subst}
use Rattle.std.specs.Prelude.{IsSome}
use Rattle.std.proofs.lemmas.List.{length-map}
use Rattle.std.proofs.lemmas.Bool.{eq-eqb, ne_eqb}
use Rattle.ffm_model.specs.declared.objects.OpenConnection.{OpenConnection}
use Rattle.ffm_model.specs.declared.objects.PendingMessage.{PendingMessage}
use Rattle.ffm_model.specs.State.{SpmState}
use Rattle.ffm_model.specs.Panic.{disconnect_message}
use Rattle.object_pools.specs.Pool.{Places, item_at, taken}
use Rattle.spm_tables.specs.TablesView.{TablesView, fresh_message, held_message, queued}
use Rattle.spm_tables.proofs.SlotLemmas.{queued-live}
use Rattle.panic_state.proofs.Leaving.{messages_of, leaves-other, leaves-dead, dead-shorter, leaves-closing, closing-both, closing-length, room-left, takes-left, service-known, left-connections, left-messages, left-names, left-takes}
use Rattle.panic_state.proofs.client.leave_services.Goals as goal

pub loop-place-preserved-then-held-partition : goal.loop-place-preserved-then-held-partition
loop-place-preserved-then-held-partition c =
    leaves-other c.args.partition.0 c.loop-place.place c.args.tables.now c.loop-place.tables c.connection_at-held.result c.loop-place.invariant c.connection_at-held.ensures.at (ne_eqb c.connection_at-held.result.item.client.0 c.args.partition.0 c.if-held-partition.true)

pub loop-place-smaller-then-is_dead : goal.loop-place-smaller-then-is_dead
loop-place-smaller-then-is_dead c =
    let shorter : length c.free.new.self.connections.held + 1 ≡ length c.loop-place.tables.connections.held = dead-shorter c.loop-place.place c.loop-place.tables c.free.new.self c.connection_at-held.result c.connection_at-held.ensures.kept c.connection_at-held.ensures.at c.free.ensures.after in
    omega (arith, shorter, c.live.ensures, c.loop-place-test.true, ap (λ (q : Places OpenConnection). length q.held) c.connections.ensures)

pub loop-place-preserved-then-is_dead : goal.loop-place-preserved-then-is_dead
loop-place-preserved-then-is_dead c =
    leaves-dead c.args.partition.0 c.loop-place.place c.args.tables.now c.loop-place.tables c.free.new.self c.connection_at-held.result c.loop-place.invariant c.connection_at-held.ensures.kept c.connection_at-held.ensures.at
    (eq-eqb c.connection_at-held.result.item.client.0 c.args.partition.0 c.if-held-partition.false) (sym c.is_dead.ensures ∙ c.if-is_dead.true) c.free.ensures.after

pub enqueue-requires-clause-service : goal.enqueue-requires-clause-service
enqueue-requires-clause-service c =
    omega (
      arith,
      service-known c.args.partition.0 c.loop-place.place c.args.tables.now c.loop-place.tables c.connection_at-held.result c.loop-place.invariant c.connection_at-held.ensures.at,
      ap (λ (m : PendingMessage). m.service) c.disconnect_message.ensures.message,
    )

pub enqueue-requires-clause-room : goal.enqueue-requires-clause-room
enqueue-requires-clause-room c =
    room-left c.args.partition.0 c.loop-place.place c.args.tables.now c.loop-place.tables c.connection_at-held.result c.loop-place.invariant c.connection_at-held.ensures.at
    (eq-eqb c.connection_at-held.result.item.client.0 c.args.partition.0 c.if-held-partition.false) (sym c.is_dead.ensures ∙ c.if-is_dead.false)
    (omega (arith, c.requires.room, length-map c.args.tables.now.messages.held held_message))

pub enqueue-requires-clause-few : goal.enqueue-requires-clause-few
enqueue-requires-clause-few c =
    takes-left c.args.partition.0 c.loop-place.place c.args.tables.now c.loop-place.tables c.connection_at-held.result c.loop-place.invariant c.connection_at-held.ensures.at
    (eq-eqb c.connection_at-held.result.item.client.0 c.args.partition.0 c.if-held-partition.false) (sym c.is_dead.ensures ∙ c.if-is_dead.false) c.requires.few

pub set_connection_phase-requires : goal.set_connection_phase-requires
set_connection_phase-requires c = subst (λ (d : TablesView). IsSome (item_at d.connections c.connection_at-held.result.slot)) (sym c.enqueue.ensures.after) c.connection_at-held.ensures.live

pub loop-place-smaller : goal.loop-place-smaller
loop-place-smaller c =
    let same_length : length c.set_connection_phase.new.self.connections.held ≡ length c.loop-place.tables.connections.held =
    closing-length c.loop-place.tables c.set_connection_phase.new.self (taken c.loop-place.tables.messages c.enqueue.result (queued c.loop-place.tables.connections c.disconnect_message.result)) c.connection_at-held.result.slot c.connection_at-held.result.item
    (closing-both c.loop-place.tables c.enqueue.new.self c.set_connection_phase.new.self (taken c.loop-place.tables.messages c.enqueue.result (queued c.loop-place.tables.connections c.disconnect_message.result)) c.connection_at-held.result.slot c.connection_at-held.result.item c.enqueue.ensures.after c.connection_at-held.ensures.item c.set_connection_phase.ensures.item) in
    omega (arith, same_length, c.live.ensures, c.loop-place-test.true, ap (λ (q : Places OpenConnection). length q.held) c.connections.ensures)

pub loop-place-preserved : goal.loop-place-preserved
loop-place-preserved c =
    let as_queued = queued-live c.loop-place.tables.connections c.connection_at-held.result.slot c.connection_at-held.result.item c.disconnect_message.result c.disconnect_message.ensures.connection c.connection_at-held.ensures.item in
    let sent : map held_message (taken c.loop-place.tables.messages c.enqueue.result (queued c.loop-place.tables.connections c.disconnect_message.result)).held ≡ messages_of c.loop-place.tables ++ disconnect_message c.connection_at-held.result.item ∷ [] =
    sym (ap (λ (d : TablesView). messages_of d) c.enqueue.ensures.after) ∙ ap (λ (b : SpmState). b.messages) c.enqueue.ensures.state ∙ ap (λ (m : PendingMessage). messages_of c.loop-place.tables ++ m ∷ []) (ap fresh_message as_queued ∙ c.disconnect_message.ensures.message) in
    leaves-closing c.args.partition.0 c.loop-place.place c.args.tables.now c.loop-place.tables c.set_connection_phase.new.self c.connection_at-held.result c.enqueue.result (queued c.loop-place.tables.connections c.disconnect_message.result) c.loop-place.invariant c.connection_at-held.ensures.kept c.connection_at-held.ensures.at
    c.connection_at-held.ensures.item c.enqueue.ensures.slot (eq-eqb c.connection_at-held.result.item.client.0 c.args.partition.0 c.if-held-partition.false) (sym c.is_dead.ensures ∙ c.if-is_dead.false) sent
    (closing-both c.loop-place.tables c.enqueue.new.self c.set_connection_phase.new.self (taken c.loop-place.tables.messages c.enqueue.result (queued c.loop-place.tables.connections c.disconnect_message.result)) c.connection_at-held.result.slot c.connection_at-held.result.item c.enqueue.ensures.after c.connection_at-held.ensures.item c.set_connection_phase.ensures.item)

pub returns-clause-connections : goal.returns-clause-connections
returns-clause-connections c =
    left-connections c.args.partition.0 c.loop-place.place c.args.tables.now c.loop-place.tables c.loop-place.invariant
    (omega (arith, c.live.ensures, c.loop-place-test.false, ap (λ (q : Places OpenConnection). length q.held) c.connections.ensures))

pub returns-clause-messages : goal.returns-clause-messages
returns-clause-messages c =
    left-messages c.args.partition.0 c.loop-place.place c.args.tables.now c.loop-place.tables c.loop-place.invariant
    (omega (arith, c.live.ensures, c.loop-place-test.false, ap (λ (q : Places OpenConnection). length q.held) c.connections.ensures))

pub returns-clause-takes : goal.returns-clause-takes
returns-clause-takes c =
    left-takes c.args.partition.0 c.loop-place.place c.args.tables.now c.loop-place.tables c.loop-place.invariant
    (omega (arith, c.live.ensures, c.loop-place-test.false, ap (λ (q : Places OpenConnection). length q.held) c.connections.ensures))

pub returns-clause-names : goal.returns-clause-names
returns-clause-names c =
    left-names c.args.partition.0 c.loop-place.place c.args.tables.now c.loop-place.tables c.loop-place.invariant
    (omega (arith, c.live.ensures, c.loop-place-test.false, ap (λ (q : Places OpenConnection). length q.held) c.connections.ensures))
