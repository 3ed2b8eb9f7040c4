-- Who waits for whom in a state.
-- Source: this simulator's; messages, signals and doorbells are those of FF-M 1.0, the first-level handling of interrupts that of FF-M 1.1.
use Rattle.std.specs.Prelude.{ℕ, ◌+◌, ◌==◌, nat_lt, nat_le, Bool, true, false, not, ◌&&◌, ◌||◌, if◌then◌else◌, List, [], ◌∷◌, ◌++◌, length, find, Option, Some, None}
use Rattle.std.specs.List.{enumerate_from, filter_map, list_any, range_with_len}
use Rattle.std.specs.Option.{option_map_or}
use Rattle.ffm_model.specs.declared.constants.TheConstants.{PSA_DOORBELL}
use Rattle.ffm_model.specs.declared.objects.ActorPhase.{ActorPhase}
use Rattle.ffm_model.specs.declared.objects.ActorPhase.TheVariants.{Blocked, Waiting, Ended, Panicked}
use Rattle.ffm_model.specs.declared.objects.PendingMessage.{PendingMessage}
use Rattle.ffm_model.specs.declared.system.Service.{Service}
use Rattle.ffm_model.specs.declared.system.Source.{Source}
use Rattle.ffm_model.specs.declared.system.System.{System}
use Rattle.ffm_model.specs.Actors.{actor_count, is_service_of}
use Rattle.ffm_model.specs.Circles.{first_circle}
use Rattle.ffm_model.specs.Signals.{enabled, has_signal_of, is_blocked}
use Rattle.ffm_model.specs.State.{SpmState, flags_at, phase_of}
use Rattle.view_places.specs.declared.waits.Signal.{Signal}
use Rattle.view_places.specs.declared.waits.Signal.TheVariants as signal

-- ---- the signals of a partition

abbrev pub service_signal_at : ℕ → ℕ → ℕ × Service → Option Signal
service_signal_at p mask e = if (e.1.owner == p) && has_signal_of e.1.signal mask then Some (signal.Service e.0) else None

abbrev pub service_signals : List Service → ℕ → ℕ → List Signal
service_signals services p mask = filter_map (service_signal_at p mask) (enumerate_from 0 services)

abbrev pub source_signal_at : ℕ → ℕ → ℕ × Source → Option Signal
source_signal_at p mask e = if (e.1.owner == p) && has_signal_of e.1.signal mask then Some (signal.Source e.0) else None

abbrev pub source_signals : List Source → ℕ → ℕ → List Signal
source_signals sources p mask = filter_map (source_signal_at p mask) (enumerate_from 0 sources)

abbrev pub doorbell_signal : ℕ → List Signal
doorbell_signal mask = if has_signal_of mask PSA_DOORBELL then signal.Doorbell ∷ [] else []

-- a partition's signals in a mask: its services', its interrupts', and the doorbell
unfoldable pub signals_in : System → ℕ → ℕ → List Signal
signals_in s p mask = service_signals s.services p mask ++ (source_signals s.sources p mask ++ doorbell_signal mask)

-- ---- who could give a signal

abbrev pub is_gone_phase : ActorPhase → Bool
is_gone_phase Ended = true
is_gone_phase Panicked = true
is_gone_phase _ = false

-- the actor has ended or panicked
abbrev pub is_gone : SpmState → ℕ → Bool
is_gone b a = is_gone_phase (phase_of b a)

-- the actor may use the service at a place
abbrev pub may_use : System → ℕ → ℕ → Bool
may_use s a place = list_any (λ g. (g.client.0 == a) && (g.service == place)) s.budgets

-- the actor is the device
abbrev pub is_device : System → ℕ → Bool
is_device s a = nat_le (length s.partitions + length s.clients) a

-- an actor could give a partition's signal, were it not gone: who may use the service, the device
-- while the source is enabled, another partition
abbrev pub is_giver : System → SpmState → ℕ → Signal → ℕ → Bool
is_giver s b p (signal.Service place) a = may_use s a place
is_giver s b p (signal.Source place) a = (flags_at b place).enabled && is_device s a
is_giver s b p signal.Doorbell a = nat_lt a (length s.partitions) && not (a == p)

-- an actor that isn't gone could give a partition's signal
unfoldable pub could_give : System → SpmState → ℕ → Signal → ℕ → Bool
could_give s b p x a = not (is_gone b a) && is_giver s b p x a

-- ---- who waits for whom

-- the message for whose answer a blocked actor waits
unfoldable pub message_awaited : SpmState → ℕ → Option PendingMessage
message_awaited b a = find (λ m. m.client.0 == a) b.messages

-- the signal of a partition's service is in a mask, and another actor could give it
abbrev pub is_service_awaited : System → SpmState → ℕ → ℕ → ℕ → ℕ × Service → Bool
is_service_awaited s b p mask other e =
    (e.1.owner == p) && has_signal_of e.1.signal mask && could_give s b p (signal.Service e.0) other

-- the signal of a partition's interrupt is in a mask, and another actor could give it
abbrev pub is_source_awaited : System → SpmState → ℕ → ℕ → ℕ → ℕ × Source → Bool
is_source_awaited s b p mask other e =
    (e.1.owner == p) && has_signal_of e.1.signal mask && could_give s b p (signal.Source e.0) other

-- an actor could give one of a partition's signals in a mask
abbrev pub is_awaited : System → SpmState → ℕ → ℕ → ℕ → Bool
is_awaited s b p mask other =
    list_any (is_service_awaited s b p mask other) (enumerate_from 0 s.services)
    || (list_any (is_source_awaited s b p mask other) (enumerate_from 0 s.sources)
    || (has_signal_of mask PSA_DOORBELL && could_give s b p signal.Doorbell other))

-- an actor that does this waits for another one: a partition for who could give one of its signals, a
-- client for the partition of the service that has its message
abbrev pub awaits : System → SpmState → ℕ → ℕ → ActorPhase → Bool
awaits s b a other (Waiting mask) = is_awaited s b a mask other
awaits s b a other Blocked = option_map_or (λ m. is_service_of s other m.service) (message_awaited b a) false
awaits s b a other _ = false

-- an actor waits for another one
unfoldable pub waits_for : System → SpmState → ℕ → ℕ → Bool
waits_for s b a other = awaits s b a other (phase_of b a)

-- the actors, by their numbers
abbrev pub actors : System → List ℕ
actors s = range_with_len 0 (actor_count s)

-- the first circle of actors each of which waits for the next
unfoldable pub circle_of : System → SpmState → Option (List ℕ)
circle_of s b = first_circle (actor_count s) (waits_for s b)

abbrev pub is_blocked_actor : SpmState → ℕ → Bool
is_blocked_actor b a = is_blocked (phase_of b a)

-- no actor can go on, and some waits for an answer
unfoldable pub is_stalled : System → SpmState → Bool
is_stalled s b = not (list_any (enabled s b) (actors s)) && list_any (is_blocked_actor b) (actors s)
