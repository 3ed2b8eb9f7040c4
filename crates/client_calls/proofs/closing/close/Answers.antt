use Rattle.std.proofs.Common.{◌≡◌, ap, ◌∙◌, Some, sym, false, rules}
use Rattle.std.specs.Ordering.{int_eq}
use Rattle.ffm_model.specs.declared.constants.TheConstants.{PSA_IPC_DISCONNECT, PSA_NULL_HANDLE}
use Rattle.ffm_model.specs.declared.machine.Outcome.TheVariants.{Blocked as Blocks}
use Rattle.ffm_model.specs.declared.objects.ConnPhase.TheVariants.{Closing}
use Rattle.ffm_model.specs.Memory.{no_vectors}
use Rattle.ffm_model.specs.Panic.{is_dead}
use Rattle.ffm_model.specs.State.{SpmState}
use Rattle.ffm_model.specs.ClientCalls.{is_busy, move}
use Rattle.client_calls.proofs.HeldLemmas.{held-item, told-phase, may-send, has-room, sent-state, not-busy, not-dead, close-sends}
use Rattle.spm_tables.specs.TablesView.{spm_of}
use Rattle.client_calls.proofs.NameLemmas.{names_gone, names-held}
use Rattle.client_calls.proofs.closing.close.Goals as goal
use Rattle.std.proofs.Common.{subst}
use Rattle.std.specs.Prelude.{All}
use Rattle.ffm_model.specs.declared.machine.Outcome.TheVariants.{Done}
use Rattle.ffm_model.specs.ClientCalls.{psa_close}
use Rattle.machine_rules.specs.Vectors.{AreWithin}
use Rattle.spm_tables.specs.TablesView.{TablesView}
use Rattle.law_counting.proofs.CallsFit.{close-fits-after}
use Rattle.law_calls.proofs.CallsWithin.{close-within}
use Rattle.law_calls.proofs.Changes.{names_kept}

pub send-requires-clause-connection : goal.send-requires-clause-connection
send-requires-clause-connection c =
    let d = c.args.tables.now in
    let m = c.set_connection_phase.new.self in
    let a = c.args.actor.0 in
    let it = held-item d c.connections.result.now a c.args.handle c.in-Some.slot c.connections.ensures c.in-Some.ensures.live c.in-Some.ensures.connection in
    may-send d m a c.args.handle c.in-Some.slot it.0 Closing it.1 c.set_connection_phase.ensures.item c.requires.premises.0 c.requires.premises.1.made c.requires.premises.1.fits

pub send-requires-clause-room : goal.send-requires-clause-room
send-requires-clause-room c =
    let d = c.args.tables.now in
    let m = c.set_connection_phase.new.self in
    let a = c.args.actor.0 in
    let it = held-item d c.connections.result.now a c.args.handle c.in-Some.slot c.connections.ensures c.in-Some.ensures.live c.in-Some.ensures.connection in
    let phase = told-phase d c.connections-2.result.now c.in-Some.slot it.0 c.connection.result c.connections-2.ensures (it.1).live c.connection.ensures in
    let alive : is_dead (it.0).phase ≡ false = ap is_dead (sym phase) ∙ not-dead c.connection.result.phase c.in_default-phase.not-Dead in
    has-room d m a c.args.handle c.in-Some.slot it.0 Closing it.1 c.set_connection_phase.ensures.item c.requires.premises.0 c.requires.premises.1.made c.requires.premises.1.fits c.requires.running alive

pub returns-in_default-phase-clause-answer : goal.returns-in_default-phase-clause-answer
returns-in_default-phase-clause-answer c =
    let d = c.args.tables.now in
    let m = c.set_connection_phase.new.self in
    let a = c.args.actor.0 in
    let it = held-item d c.connections.result.now a c.args.handle c.in-Some.slot c.connections.ensures c.in-Some.ensures.live c.in-Some.ensures.connection in
    let phase = told-phase d c.connections-2.result.now c.in-Some.slot it.0 c.connection.result c.connections-2.ensures (it.1).live c.connection.ensures in
    let alive : is_dead (it.0).phase ≡ false = ap is_dead (sym phase) ∙ not-dead c.connection.result.phase c.in_default-phase.not-Dead in
    let free : is_busy (it.0).phase ≡ false = ap is_busy (sym phase) ∙ not-busy c.connection.result.phase c.in_default-phase.not-Busy in
    let some : int_eq c.args.handle.0 PSA_NULL_HANDLE ≡ false = search rules in
    let sent = sent-state d m a c.args.handle c.in-Some.slot it.0 Closing it.1 c.set_connection_phase.ensures.item c.send.new.tables PSA_IPC_DISCONNECT no_vectors c.set_connection_phase.ensures.state c.send.ensures.state in
    close-sends (spm_of d) a c.args.handle it.0 some (it.1).held free alive ∙ ap (λ (b : SpmState). Some (move Blocks b)) (sym sent)

pub returns-then-handle-eq-PSA_NULL_HANDLE-clause-names : goal.returns-then-handle-eq-PSA_NULL_HANDLE-clause-names
returns-then-handle-eq-PSA_NULL_HANDLE-clause-names c = λ s made. names_kept s c.args.tables.now

pub returns-in_default-clause-names : goal.returns-in_default-clause-names
returns-in_default-clause-names c = λ s made. names_kept s c.args.tables.now

pub returns-in-Busy-clause-names : goal.returns-in-Busy-clause-names
returns-in-Busy-clause-names c = λ s made. names_kept s c.args.tables.now

pub returns-in-Dead-clause-names : goal.returns-in-Dead-clause-names
returns-in-Dead-clause-names c = λ s made. search (rules, names_gone)

pub returns-in_default-phase-clause-names : goal.returns-in_default-phase-clause-names
returns-in_default-phase-clause-names c = λ s made.
    let d = c.args.tables.now in
    let a = c.args.actor.0 in
    let it = held-item d c.connections.result.now a c.args.handle c.in-Some.slot c.connections.ensures c.in-Some.ensures.live c.in-Some.ensures.connection in
    names-held s d c.set_connection_phase.new.self c.send.new.tables a c.args.handle c.in-Some.slot it.0 Closing PSA_IPC_DISCONNECT no_vectors it.1 c.set_connection_phase.ensures.item
    made c.law.ensures.connections c.send.ensures.connections c.send.ensures.messages

pub returns-in_default-phase-clause-fits : goal.returns-in_default-phase-clause-fits
returns-in_default-phase-clause-fits c = λ s fit.
    close-fits-after s (spm_of c.args.tables.now) c.args.actor.0 c.args.handle (move Blocks (spm_of c.send.new.tables)) fit c.requires.running (returns-in_default-phase-clause-answer c)

pub returns-in_default-phase-clause-within : goal.returns-in_default-phase-clause-within
returns-in_default-phase-clause-within c = λ ranges.
    close-within ranges (spm_of c.args.tables.now) c.args.actor.0 c.args.handle (move Blocks (spm_of c.send.new.tables)) (returns-in_default-phase-clause-answer c)

pub returns-in-Dead-clause-fits : goal.returns-in-Dead-clause-fits
returns-in-Dead-clause-fits c = λ s fit.
    let due : psa_close (spm_of c.args.tables.now) c.args.actor.0 c.args.handle ≡ Some (move Done (spm_of c.free.new.self)) = search rules in
    close-fits-after s (spm_of c.args.tables.now) c.args.actor.0 c.args.handle (move Done (spm_of c.free.new.self)) fit c.requires.running due

pub returns-in-Dead-clause-within : goal.returns-in-Dead-clause-within
returns-in-Dead-clause-within c = λ ranges all. subst (λ (d : TablesView). All (λ m. AreWithin ranges m.vectors) (spm_of d).messages) (sym c.free.ensures.after) all
