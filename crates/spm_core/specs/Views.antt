-- What a manager shows of its actors and its memory.
-- Source: this simulator's.
use Rattle.std.specs.Prelude.{ℕ, Bool, Option, get_or}
use Rattle.std.specs.Option.{option_map}
use Rattle.ffm_model.specs.declared.machine.Outcome.TheVariants.{Value}
use Rattle.ffm_model.specs.declared.machine.Phase.{Phase}
use Rattle.ffm_model.specs.declared.machine.Phase.TheVariants as shown
use Rattle.ffm_model.specs.declared.objects.ActorPhase.{ActorPhase}
use Rattle.ffm_model.specs.declared.objects.ActorPhase.TheVariants as phase
use Rattle.ffm_model.specs.Memory.{ByteMap}
use Rattle.ffm_model.specs.State.{phase_of}
use Rattle.ffm_model.specs.Signals.{enabled}
use Rattle.ffm_model.specs.Names.{NamesSoFar, named_after, name_of, no_slot}
use Rattle.law_counting.specs.Pending.{is_pending}
use Rattle.memory_image.specs.Pieces.{byte_at}
use Rattle.spm_core.specs.Manager.{Managed, state_of}

-- an actor's phase; a client whose connection was accepted is ready to be told the connection's handle
abbrev pub shown_phase : NamesSoFar → ActorPhase → Phase
shown_phase k phase.Running = shown.Running
shown_phase k phase.Blocked = shown.Blocked
shown_phase k (phase.Waiting mask) = shown.Waiting mask
shown_phase k (phase.Ready o) = shown.Ready o
shown_phase k (phase.Connected c) = shown.Ready (Value (name_of 0 (get_or k.connections c no_slot)).0)
shown_phase k phase.Ended = shown.Ended
shown_phase k phase.Panicked = shown.Panicked

abbrev pub phase_in : Managed → ℕ → Option Phase
phase_in m a = option_map (λ w. shown_phase w.names (phase_of w.state.spm a)) (named_after m.opening.system (byte_at m.opening.memory) m.history)

-- the actor's last call hasn't returned yet
abbrev pub pending_in : Managed → ℕ → Option Bool
pending_in m a = option_map (λ st. is_pending (phase_of st.spm a)) (state_of m)

abbrev pub enabled_in : Managed → ℕ → Option Bool
enabled_in m a = option_map (λ st. enabled m.opening.system st.spm a) (state_of m)

abbrev pub memory_in : Managed → Option ByteMap
memory_in m = option_map (λ st. st.memory) (state_of m)
