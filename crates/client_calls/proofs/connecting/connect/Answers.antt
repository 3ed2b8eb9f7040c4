use Rattle.std.proofs.Common.{◌≡◌, ◌<◌, length, arith, refl, rules, subst, sym, ap, ◌∙◌, Some}
use Rattle.law_lists.proofs.Options.{some-and, if-some}
use Rattle.ffm_model.specs.declared.objects.ActorPhase.TheVariants.{Blocked}
use Rattle.ffm_model.specs.declared.objects.OpenConnection.{OpenConnection}
use Rattle.ffm_model.specs.State.{SpmState, in_use, with_message, with_phase}
use Rattle.ffm_model.specs.declared.constants.TheConstants.{PSA_IPC_CONNECT}
use Rattle.ffm_model.specs.Memory.{no_vectors}
use Rattle.ffm_model.specs.ClientCalls.{new_connection, connect_issued, move}
use Rattle.ffm_model.specs.declared.machine.Outcome.TheVariants.{Blocked as Blocks}
use Rattle.object_pools.specs.Pool.{item_at}
use Rattle.spm_tables.specs.TablesView.{TablesView, spm_of}
use Rattle.spm_tables.proofs.PoolLemmas.{item-taken}
use Rattle.client_calls.proofs.ServiceLemmas.{taking-service, made-services}
use Rattle.client_calls.proofs.SendLemmas.{room-for-connection, room-for-message}
use Rattle.client_calls.proofs.ConnectLemmas.{connect-rooms, connect-issues}
use Rattle.client_calls.proofs.NameLemmas.{names-connect}
use Rattle.client_calls.proofs.connecting.connect.Goals as goal
use Rattle.law_counting.proofs.CallsFit.{connect-keeps}
use Rattle.law_calls.proofs.CallsWithin.{connect-within}
use Rattle.law_calls.proofs.Changes.{names_kept}

pub start-slot-requires-clause-room : goal.start-slot-requires-clause-room
start-slot-requires-clause-room c =
    let s = c.args.system.now in
    let d = c.args.tables.now in
    let free : in_use (spm_of d) c.args.actor.0 c.in-Some.place ≡ c.in-Some-budget.budget → ⊥ = λ e. c.if-in_use-budget.false (cc) in
    let rooms = connect-rooms s (spm_of d) c.args.actor.0 c.in-Some.place c.in-Some-budget.budget c.requires.premises.fits c.requires.running (sym c.in-Some-budget.ensures) free in
    room-for-connection d s c.requires.premises.made rooms.0

pub send-requires-clause-connection : goal.send-requires-clause-connection
send-requires-clause-connection c =
    let s = c.args.system.now in
    let d = c.args.tables.now in
    let m = c.start-slot.new.self in
    let new : OpenConnection = new_connection (spm_of d) c.args.actor.0 c.in-Some.place in
    let live : item_at m.connections c.start-slot.result ≡ Some new = ap (λ (x : TablesView). item_at x.connections c.start-slot.result) c.start-slot.ensures.after ∙ item-taken d.connections c.start-slot.result new c.start-slot.ensures.slot in
    let there : c.in-Some.place < length s.services = taking-service s c.in-Some.place c.args.version (search rules) in
    some-and (item_at m.connections c.start-slot.result) new (λ x. x.service < length m.services) live
    (omega (arith, made-services d s c.requires.premises.made, ap (λ (x : TablesView). length x.services) c.start-slot.ensures.after))

pub send-requires-clause-room : goal.send-requires-clause-room
send-requires-clause-room c =
    let s = c.args.system.now in
    let d = c.args.tables.now in
    let free : in_use (spm_of d) c.args.actor.0 c.in-Some.place ≡ c.in-Some-budget.budget → ⊥ = λ e. c.if-in_use-budget.false (cc) in
    let rooms = connect-rooms s (spm_of d) c.args.actor.0 c.in-Some.place c.in-Some-budget.budget c.requires.premises.fits c.requires.running (sym c.in-Some-budget.ensures) free in
    let room : length (spm_of d).messages < length d.messages.generations = room-for-message d s c.requires.premises.made rooms.1 in
    let P : TablesView → Type 0 = λ x. length (spm_of x).messages < length x.messages.generations in
    subst P (sym c.start-slot.ensures.after) room

pub returns-clause-answer : goal.returns-clause-answer
returns-clause-answer c =
    let s = c.args.system.now in
    let d = c.args.tables.now in
    let m = c.start-slot.new.self in
    let a = c.args.actor.0 in
    let new : OpenConnection = new_connection (spm_of d) c.args.actor.0 c.in-Some.place in
    let free : in_use (spm_of d) c.args.actor.0 c.in-Some.place ≡ c.in-Some-budget.budget → ⊥ = λ e. c.if-in_use-budget.false (cc) in
    let live : item_at m.connections c.start-slot.result ≡ Some new = ap (λ (x : TablesView). item_at x.connections c.start-slot.result) c.start-slot.ensures.after ∙ item-taken d.connections c.start-slot.result new c.start-slot.ensures.slot in
    let sent : spm_of c.send.new.tables ≡ with_phase (with_message (spm_of m) new PSA_IPC_CONNECT no_vectors) a Blocked =
    if-some (item_at m.connections c.start-slot.result) new (λ x. spm_of c.send.new.tables ≡ with_phase (with_message (spm_of m) x PSA_IPC_CONNECT no_vectors) x.client.0 Blocked) live c.send.ensures.state in
    let issued : spm_of c.send.new.tables ≡ connect_issued (spm_of d) a c.in-Some.place =
    sent ∙ ap (λ (b : SpmState). with_phase (with_message b new PSA_IPC_CONNECT no_vectors) a Blocked) c.start-slot.ensures.state in
    connect-issues s (spm_of d) a c.args.version c.in-Some.place c.in-Some-budget.budget c.args.sid (sym c.in-Some.ensures) (sym c.in-Some-budget.ensures) (search rules) (search rules) (search rules) free
    ∙ ap (λ (b : SpmState). Some (move Blocks b)) (sym issued)

pub returns-in_default-clause-names : goal.returns-in_default-clause-names
returns-in_default-clause-names c = names_kept c.args.system.now c.args.tables.now

pub returns-in_default-budget-clause-names : goal.returns-in_default-budget-clause-names
returns-in_default-budget-clause-names c = names_kept c.args.system.now c.args.tables.now

pub returns-then-is_stateless-clause-names : goal.returns-then-is_stateless-clause-names
returns-then-is_stateless-clause-names c = names_kept c.args.system.now c.args.tables.now

pub returns-then-is_service_panicked-clause-names : goal.returns-then-is_service_panicked-clause-names
returns-then-is_service_panicked-clause-names c = names_kept c.args.system.now c.args.tables.now

pub returns-then-in_use-budget-clause-names : goal.returns-then-in_use-budget-clause-names
returns-then-in_use-budget-clause-names c = names_kept c.args.system.now c.args.tables.now

pub returns-clause-names : goal.returns-clause-names
returns-clause-names c =
    let d = c.args.tables.now in
    names-connect c.args.system.now d c.start-slot.new.self c.send.new.tables c.start-slot.result (new_connection (spm_of d) c.args.actor.0 c.in-Some.place) PSA_IPC_CONNECT no_vectors
    c.requires.premises.made c.law.ensures.table c.start-slot.ensures.slot refl c.start-slot.ensures.after c.send.ensures.connections c.send.ensures.messages

pub returns-clause-fits : goal.returns-clause-fits
returns-clause-fits c =
    connect-keeps c.args.system.now (spm_of c.args.tables.now) c.args.actor.0 c.args.sid c.args.version (move Blocks (spm_of c.send.new.tables)) c.requires.premises.fits c.requires.running (returns-clause-answer c)

pub returns-clause-within : goal.returns-clause-within
returns-clause-within c = λ ranges.
    connect-within ranges c.args.system.now (spm_of c.args.tables.now) c.args.actor.0 c.args.sid c.args.version (move Blocks (spm_of c.send.new.tables)) (returns-clause-answer c)
