use Rattle.std.proofs.Common.{◌≡◌, true, false, arith, rules, ap, ◌∙◌, Some, sym, ℤ, pos, int_lt, w32, to_z, of_z}
use Rattle.std.proofs.lemmas.Int.{to_z-of_z}
use Rattle.ffm_model.specs.declared.machine.Outcome.TheVariants.{Blocked as Blocks}
use Rattle.ffm_model.specs.declared.objects.ActorPhase.TheVariants.{Blocked}
use Rattle.ffm_model.specs.Actors.{permits}
use Rattle.ffm_model.specs.State.{SpmState, with_phase, with_request}
use Rattle.ffm_model.specs.ClientCalls.{move}
use Rattle.law_counting.proofs.Events.{stateless_is}
use Rattle.law_counting.proofs.Rooms.{call-room}
use Rattle.memory_image.specs.Pieces.{byte_at}
use Rattle.spm_tables.specs.TablesView.{spm_of}
use Rattle.spm_tables.specs.Answers.{state_with}
use Rattle.client_calls.specs.Sending.{request_message}
use Rattle.client_calls.proofs.RequestLemmas.{request-sends}
use Rattle.client_calls.proofs.SendLemmas.{room-for-message}
use Rattle.client_calls.proofs.ServiceLemmas.{made-services, stateless-service}
use Rattle.client_calls.proofs.NameLemmas.{names-asked-of}
use Rattle.client_calls.proofs.requests.call_service.Goals as goal
use Rattle.law_calls.proofs.Changes.{names_kept}

pub send_request-requires-clause-service : goal.send_request-requires-clause-service
send_request-requires-clause-service c =
    let s = c.args.system.now in
    omega (arith, made-services c.args.tables.now s c.requires.premises.tables.made, stateless-service s c.in-Some.service (stateless_is s c.args.index c.in-Some.service (sym c.in-Some.ensures)))

pub send_request-requires-clause-room : goal.send_request-requires-clause-room
send_request-requires-clause-room c =
    let s = c.args.system.now in
    let d = c.args.tables.now in
    let may : permits s c.args.actor.0 c.in-Some.service ≡ true = search rules in
    room-for-message d s c.requires.premises.tables.made (call-room s (spm_of d) c.args.actor.0 c.in-Some.service c.requires.premises.tables.fits c.requires.running (stateless_is s c.args.index c.in-Some.service (sym c.in-Some.ensures)) may)

pub returns-clause-answer : goal.returns-clause-answer
returns-clause-answer c =
    let s = c.args.system.now in
    let d = c.args.tables.now in
    let may : permits s c.args.actor.0 c.in-Some.service ≡ true = search rules in
    let request : int_lt c.args.kind (pos 0) ≡ false = search (rules, to_z-of_z) in
    λ given.
    request-sends s (state_with d given (byte_at c.args.image.now)) c.args.actor.0 c.args.index c.in-Some.service c.args.kind c.args.in_vec c.args.in_len c.args.out_vec c.args.out_len c.in-Some-snapshot.vectors
    (sym c.in-Some.ensures) (sym c.in-Some-snapshot.ensures.exact) may request (search rules)
    ∙ ap (λ (k : ℤ). Some (move Blocks (with_phase (with_request (spm_of d) c.args.actor.0 c.in-Some.service k c.in-Some-snapshot.vectors) c.args.actor.0 Blocked))) (sym (to_z-of_z w32 c.args.kind c.ranges.kind))
    ∙ ap (λ (b : SpmState). Some (move Blocks b)) (sym c.send_request.ensures.state)

pub returns-in_default-clause-names : goal.returns-in_default-clause-names
returns-in_default-clause-names c = names_kept c.args.system.now c.args.tables.now

pub returns-in_default-snapshot-clause-names : goal.returns-in_default-snapshot-clause-names
returns-in_default-snapshot-clause-names c = names_kept c.args.system.now c.args.tables.now

pub returns-then-is_none-clause-names : goal.returns-then-is_none-clause-names
returns-then-is_none-clause-names c = names_kept c.args.system.now c.args.tables.now

pub returns-then-is_service_panicked-clause-names : goal.returns-then-is_service_panicked-clause-names
returns-then-is_service_panicked-clause-names c = names_kept c.args.system.now c.args.tables.now

pub returns-clause-names : goal.returns-clause-names
returns-clause-names c =
    names-asked-of c.args.system.now c.args.tables.now c.send_request.new.tables (request_message c.args.actor c.in-Some.service (to_z w32 (of_z w32 c.args.kind)) c.in-Some-snapshot.vectors) c.requires.premises.tables.made
    c.send_request.ensures.connections c.send_request.ensures.messages
