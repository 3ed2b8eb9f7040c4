-- The manager: what contracts see of it, when it refuses an event, and what a made event leaves.
-- Source: the Secure Partition Manager (SPM) of FF-M 1.0; the history and the order of refusals are this simulator's.
use Rattle.std.specs.Prelude.{ℕ, ◌≡◌, ◌⊎◌, nat_le, Bool, true, false, not, if◌then◌else◌, List, [], ◌∷◌, ◌++◌, length, Some, None, Option, option_and_then, IsSome}
use Rattle.std.specs.Option.{option_map_or}
use Rattle.ffm_model.specs.declared.system.System.{System}
use Rattle.ffm_model.specs.declared.scenario.Bytes.{Bytes}
use Rattle.ffm_model.specs.declared.machine.Entry.{Entry}
use Rattle.ffm_model.specs.declared.machine.Call.{Call}
use Rattle.ffm_model.specs.declared.machine.Call.TheVariants as call
use Rattle.ffm_model.specs.declared.machine.Answer.{Answer}
use Rattle.ffm_model.specs.declared.machine.Answer.TheVariants as answer
use Rattle.ffm_model.specs.declared.objects.ActorPhase.{ActorPhase}
use Rattle.ffm_model.specs.declared.objects.ActorPhase.TheVariants as phase
use Rattle.ffm_model.specs.State.{SpmState, State, phase_of}
use Rattle.ffm_model.specs.Signals.{enabled}
use Rattle.ffm_model.specs.Step.{step, after}
use Rattle.ffm_model.specs.Verdicts.{some_enabled}
use Rattle.ffm_model.specs.Records.{entries_of, outcomes_of, ends_blocked}
use Rattle.memory_image.specs.Pieces.{byte_at}

-- what a manager was made of: its system, the memory at the start, and the most entries of its history
pub record Opening : Type 0 where
  pub system : System
  pub memory : List Bytes
  pub limit : ℕ

-- a manager: its opening, the entries so far, and the present bytes
pub record Managed : Type 0 where
  pub opening : Opening
  pub history : List Entry
  pub bytes : List Bytes

-- the state of the machine after a history, or nothing where the history is no run
abbrev pub state_after : Opening → List Entry → Option State
state_after o history = after o.system (byte_at o.memory) history

abbrev pub state_of : Managed → Option State
state_of m = state_after m.opening m.history

-- ---- when an event is refused

-- the actor makes no further event
abbrev pub is_gone : ActorPhase → Bool
is_gone phase.Running = false
is_gone phase.Blocked = false
is_gone (phase.Waiting mask) = false
is_gone (phase.Ready o) = false
is_gone (phase.Connected c) = false
is_gone phase.Ended = true
is_gone phase.Panicked = true

-- the first of the four refusals that holds
abbrev pub refusal_at : System → ℕ → ℕ → SpmState → ℕ → Option Answer
refusal_at s limit count b a =
    if is_gone (phase_of b a)
    then Some answer.Gone
    else (if not (some_enabled s b)
    then Some answer.Over
    else (if nat_le limit count
    then Some answer.Full
    else (if enabled s b a then None else Some answer.NotYet)))

-- why an actor's event isn't made after a history, or nothing where it is made
abbrev pub refusal : Opening → List Entry → ℕ → Option Answer
refusal o history a = option_and_then (λ st. refusal_at o.system o.limit (length history) st.spm a) (state_after o history)

-- ---- which call an actor may make

abbrev pub is_resume : Call → Bool
is_resume call.Resume = true
is_resume _ = false

-- the actor is Ended or Panicked
abbrev pub is_actor_gone : Opening → List Entry → ℕ → Bool
is_actor_gone o history a = option_map_or (λ st. is_gone (phase_of st.spm a)) (state_after o history) false

-- the actor's last call was answered Blocked
abbrev pub awaits_return : List Entry → ℕ → Bool
awaits_return history a = ends_blocked (outcomes_of (entries_of a history))

-- the call is Resume exactly where the actor's last entry is Blocked; any call will do for an actor that is gone
abbrev pub CallDue : Opening → List Entry → ℕ → Call → Type 0
CallDue o history a c = (is_resume c ≡ awaits_return history a) ⊎ (is_actor_gone o history a ≡ true)

-- ---- what a step answers and leaves

-- an entry of that actor with that call is added last, and the machine makes it a step
pub record IsMade (o : Opening) (old : List Entry) (a : ℕ) (c : Call) (place : ℕ) (e : Entry) (new : List Entry) : Type 0 where
  pub due : refusal o old a ≡ None
  pub actor : e.actor.0 ≡ a
  pub called : e.call ≡ c
  pub added : new ≡ old ++ e ∷ []
  pub place_is : place ≡ length new
  pub stepped : state_after o new ≡ option_and_then (λ st. step o.system st e) (state_after o old)
  pub is_state : IsSome (state_after o new)

-- that refusal is the one due, and nothing is added
pub record IsRefused (o : Opening) (old : List Entry) (a : ℕ) (answered : Answer) (new : List Entry) : Type 0 where
  pub due : refusal o old a ≡ Some answered
  pub unchanged : new ≡ old

abbrev pub StepAnswers : Opening → List Entry → ℕ → Call → Answer → List Entry → Type 0
StepAnswers o old a c (answer.Made place e) new = IsMade o old a c place e new
StepAnswers o old a c answer.Gone new = IsRefused o old a answer.Gone new
StepAnswers o old a c answer.Over new = IsRefused o old a answer.Over new
StepAnswers o old a c answer.Full new = IsRefused o old a answer.Full new
StepAnswers o old a c answer.NotYet new = IsRefused o old a answer.NotYet new
