use Rattle.std.proofs.Common.{◌≡◌, ap, ◌∙◌, Some, sym, false, rules, ℤ, pos, int_lt, w32, to_z, of_z}
use Rattle.std.proofs.lemmas.Int.{to_z-of_z}
use Rattle.ffm_model.specs.declared.machine.Outcome.TheVariants.{Blocked as Blocks}
use Rattle.ffm_model.specs.declared.objects.ConnPhase.TheVariants.{Busy}
use Rattle.ffm_model.specs.Panic.{is_dead}
use Rattle.ffm_model.specs.declared.objects.ActorPhase.TheVariants.{Blocked}
use Rattle.ffm_model.specs.declared.objects.Vectors.{Vectors}
use Rattle.ffm_model.specs.State.{SpmState, with_connection_phase, with_message, with_phase}
use Rattle.ffm_model.specs.ClientCalls.{move, refuses_requests}
use Rattle.client_calls.proofs.HeldLemmas.{held-item, told-phase, may-send, has-room, sent-state, call-sends}
use Rattle.spm_tables.specs.TablesView.{spm_of}
use Rattle.spm_tables.specs.Answers.{state_with}
use Rattle.memory_image.specs.Pieces.{byte_at}
use Rattle.client_calls.proofs.NameLemmas.{names-held}
use Rattle.client_calls.proofs.requests.call_connection.Goals as goal
use Rattle.law_calls.proofs.Changes.{names_kept}

pub send-requires-clause-connection : goal.send-requires-clause-connection
send-requires-clause-connection c =
    let d = c.args.tables.now in
    let m = c.set_connection_phase.new.self in
    let a = c.args.actor.0 in
    let it = held-item d c.connections.result.now a c.args.handle c.in-Some.slot c.connections.ensures c.in-Some.ensures.live c.in-Some.ensures.connection in
    may-send d m a c.args.handle c.in-Some.slot it.0 Busy it.1 c.set_connection_phase.ensures.item c.args.system.now c.requires.premises.tables.made c.requires.premises.tables.fits

pub send-requires-clause-room : goal.send-requires-clause-room
send-requires-clause-room c =
    let d = c.args.tables.now in
    let m = c.set_connection_phase.new.self in
    let a = c.args.actor.0 in
    let it = held-item d c.connections.result.now a c.args.handle c.in-Some.slot c.connections.ensures c.in-Some.ensures.live c.in-Some.ensures.connection in
    let phase = told-phase d c.connections-2.result.now c.in-Some.slot it.0 c.connection-phase.result c.connections-2.ensures (it.1).live c.connection-phase.ensures in
    let alive : is_dead (it.0).phase ≡ false = ap is_dead (sym phase) ∙ sym c.is_dead.ensures ∙ c.if-is_dead.false in
    has-room d m a c.args.handle c.in-Some.slot it.0 Busy it.1 c.set_connection_phase.ensures.item c.args.system.now c.requires.premises.tables.made c.requires.premises.tables.fits c.requires.running alive

pub returns-clause-answer : goal.returns-clause-answer
returns-clause-answer c =
    let d = c.args.tables.now in
    let m = c.set_connection_phase.new.self in
    let a = c.args.actor.0 in
    let it = held-item d c.connections.result.now a c.args.handle c.in-Some.slot c.connections.ensures c.in-Some.ensures.live c.in-Some.ensures.connection in
    let phase = told-phase d c.connections-2.result.now c.in-Some.slot it.0 c.connection-phase.result c.connections-2.ensures (it.1).live c.connection-phase.ensures in
    let alive : is_dead (it.0).phase ≡ false = ap is_dead (sym phase) ∙ sym c.is_dead.ensures ∙ c.if-is_dead.false in
    let ready : refuses_requests (it.0).phase ≡ false = ap refuses_requests (sym phase) ∙ sym c.refuses_requests.ensures ∙ c.if-refuses_requests.false in
    let kind : ℤ = to_z w32 (of_z w32 c.args.kind) in
    let same : kind ≡ c.args.kind = to_z-of_z w32 c.args.kind c.ranges.kind in
    let v : Vectors = c.in-Some-snapshot.vectors in
    let sent = sent-state d m a c.args.handle c.in-Some.slot it.0 Busy it.1 c.set_connection_phase.ensures.item c.send.new.tables kind v c.set_connection_phase.ensures.state c.send.ensures.state in
    let request : int_lt c.args.kind (pos 0) ≡ false = search (rules, to_z-of_z) in
    λ given.
    call-sends c.args.system.now (state_with d given (byte_at c.args.image.now)) a c.args.handle it.0 c.args.kind c.args.in_vec c.args.in_len c.args.out_vec c.args.out_len v (it.1).held (sym c.in-Some-snapshot.ensures.exact) ready request alive
    ∙ ap (λ (k : ℤ). Some (move Blocks (with_phase (with_message (with_connection_phase (spm_of d) (it.0).serial Busy) it.0 k v) a Blocked))) (sym same)
    ∙ ap (λ (b : SpmState). Some (move Blocks b)) (sym sent)

pub returns-in_default-clause-names : goal.returns-in_default-clause-names
returns-in_default-clause-names c = names_kept c.args.system.now c.args.tables.now

pub returns-in_default-snapshot-clause-names : goal.returns-in_default-snapshot-clause-names
returns-in_default-snapshot-clause-names c = names_kept c.args.system.now c.args.tables.now

pub returns-then-refuses_requests-clause-names : goal.returns-then-refuses_requests-clause-names
returns-then-refuses_requests-clause-names c = names_kept c.args.system.now c.args.tables.now

pub returns-then-is_dead-clause-names : goal.returns-then-is_dead-clause-names
returns-then-is_dead-clause-names c = names_kept c.args.system.now c.args.tables.now

pub returns-clause-names : goal.returns-clause-names
returns-clause-names c =
    let d = c.args.tables.now in
    let a = c.args.actor.0 in
    let it = held-item d c.connections.result.now a c.args.handle c.in-Some.slot c.connections.ensures c.in-Some.ensures.live c.in-Some.ensures.connection in
    names-held c.args.system.now d c.set_connection_phase.new.self c.send.new.tables a c.args.handle c.in-Some.slot it.0 Busy (to_z w32 (of_z w32 c.args.kind)) c.in-Some-snapshot.vectors it.1 c.set_connection_phase.ensures.item
    c.requires.premises.tables.made c.law.ensures.connections c.send.ensures.connections c.send.ensures.messages
