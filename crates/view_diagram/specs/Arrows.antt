-- The arrows of a sequence diagram: what an entry of a trace sends from which actor to which, by the state before it.
-- Source: FF-M 1.0, IPC model: messages from the call that makes them to psa_reply, psa_notify, interrupts, PROGRAMMER ERROR of a partition; FF-M 1.1 Extensions, requests by a stateless handle. Which of these are arrows is this simulator's choice.
use Rattle.std.specs.Prelude.{ℕ, ℤ, ◌==◌, Bool, true, false, not, ◌&&◌, if◌then◌else◌, List, [], ◌∷◌, Option, None, Some, option_and_then, slice_get}
use Rattle.std.specs.List.{cons_option, filter_map}
use Rattle.std.specs.Option.{option_map, option_map_or}
use Rattle.ffm_model.specs.declared.constants.TheConstants.{PSA_IPC_CONNECT, PSA_IPC_DISCONNECT}
use Rattle.ffm_model.specs.declared.system.System.{System}
use Rattle.ffm_model.specs.declared.machine.Handle.{Handle}
use Rattle.ffm_model.specs.declared.machine.Entry.{Entry}
use Rattle.ffm_model.specs.declared.machine.Call.{Call}
use Rattle.ffm_model.specs.declared.machine.Call.TheVariants as call
use Rattle.ffm_model.specs.declared.machine.Outcome.{Outcome}
use Rattle.ffm_model.specs.declared.machine.Outcome.TheVariants as outcome
use Rattle.ffm_model.specs.declared.objects.PendingMessage.{PendingMessage}
use Rattle.ffm_model.specs.Actors.{service_at, owner_of, is_service_of, stateless_at, stateless_index}
use Rattle.ffm_model.specs.State.{SpmState, phase_of, connection_held, message_held}
use Rattle.ffm_model.specs.Signals.{is_blocked}
use Rattle.ffm_model.specs.ServiceCalls.{owes_panic}
use Rattle.ffm_model.specs.SignalCalls.{place_of_id}
use Rattle.view_diagram.specs.declared.arrows.Arrow.{Arrow}
use Rattle.view_diagram.specs.declared.arrows.Meaning.{Meaning}
use Rattle.view_diagram.specs.declared.arrows.Meaning.TheVariants as meaning

abbrev pub arrow : ℕ → ℕ → Meaning → Arrow
arrow from to m = record { from = record { 0 = from }; to = record { 0 = to }; meaning = m }

-- ---- messages

-- the service that a handle of the caller names: a stateless handle, or that of a connection
abbrev pub service_of_handle : System → SpmState → ℕ → Handle → Option ℕ
service_of_handle s b a h = option_map_or (stateless_at s) (stateless_index h) (option_map (λ c. c.service) (connection_held b a h))

-- from an actor to the partition of a service
abbrev pub message_arrow : System → ℕ → ℤ → ℕ → Option Arrow
message_arrow s a kind service = option_map (λ p. arrow a p (meaning.Message service kind)) (owner_of s service)

-- the message that a blocked call issues; psa_wait issues none
abbrev pub issued : System → SpmState → ℕ → Call → Option Arrow
issued s b a (call.Connect sid version) = option_and_then (message_arrow s a PSA_IPC_CONNECT) (service_at s sid)
issued s b a (call.Invoke h kind in_vec in_len out_vec out_len) = option_and_then (message_arrow s a kind) (service_of_handle s b a h)
issued s b a (call.Close h) = option_and_then (λ c. message_arrow s a PSA_IPC_DISCONNECT c.service) (connection_held b a h)
issued s b a _ = None

-- ---- what a call that is done sends: a message's answer, a doorbell's ring, an interrupt

abbrev pub reply_arrow : ℕ → ℤ → PendingMessage → Arrow
reply_arrow a status m = arrow a m.client.0 (meaning.Reply m.service m.kind status)

-- the source becomes pending, or a first-level handler answered 0 and nothing changed
abbrev pub interrupt_arrow : System → ℕ → ℕ → Bool → Option Arrow
interrupt_arrow s a source pending = option_map (λ x. arrow a x.owner (meaning.Interrupt source pending)) (slice_get s.sources source)

abbrev pub sent : System → SpmState → ℕ → Call → Option Arrow
sent s b a (call.Reply h status) = option_map (reply_arrow a status.0) (message_held s b a h)
sent s b a (call.Notify id) = Some (arrow a (place_of_id id) meaning.Notify)
sent s b a (call.Raise source) = interrupt_arrow s a source true
sent s b a (call.Fire source result) = interrupt_arrow s a source (not (result == 0))
sent s b a _ = None

-- ---- the arrow of an entry; one from an actor to itself is a mark

-- a call that isn't a return
abbrev pub arrow_of_call : System → SpmState → ℕ → Call → Outcome → Option Arrow
arrow_of_call s b a c outcome.Blocked = issued s b a c
arrow_of_call s b a c outcome.Done = sent s b a c
arrow_of_call s b a c (outcome.Value status) = Some (arrow a a (meaning.Refusal status))
arrow_of_call s b a c _ = None

abbrev pub is_return : Call → Bool
is_return call.Resume = true
is_return _ = false

abbrev pub arrow_of : System → SpmState → Entry → Option Arrow
arrow_of s b e = if is_return e.call then Some (arrow e.actor.0 e.actor.0 (meaning.Wake e.outcome)) else arrow_of_call s b e.actor.0 e.call e.outcome

-- ---- panics

-- the partition that panics: the caller, or the client whose request is answered with PROGRAMMER ERROR
abbrev pub panicking_by : System → SpmState → ℕ → Call → Outcome → Option ℕ
panicking_by s b a c outcome.Panicked = Some a
panicking_by s b a (call.Reply h status) outcome.Done = option_and_then (λ m. if owes_panic s m status.0 then Some m.client.0 else None) (message_held s b a h)
panicking_by s b a c _ = None

abbrev pub panicking : System → SpmState → Entry → Option ℕ
panicking s b e = panicking_by s b e.actor.0 e.call e.outcome

-- the panic of a partition frees the client that waits for the answer to a message of its services
abbrev pub release_arrow : System → SpmState → ℕ → PendingMessage → Option Arrow
release_arrow s b p m =
    if is_service_of s p m.service && is_blocked (phase_of b m.client.0)
    then Some (arrow p m.client.0 (meaning.Release m.service m.kind))
    else None

-- its mark, and then the clients that it frees, in the order of their messages
abbrev pub panic_arrows : System → SpmState → ℕ → List Arrow
panic_arrows s b p = arrow p p meaning.Panic ∷ filter_map (release_arrow s b p) b.messages

-- all arrows of an entry: its own, and then those of a panic
abbrev pub arrows_of : System → SpmState → Entry → List Arrow
arrows_of s b e = cons_option (arrow_of s b e) (option_map_or (panic_arrows s b) (panicking s b e) [])
