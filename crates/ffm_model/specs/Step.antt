-- Steps and runs: which entries may follow which.
-- Source: this simulator's reading of FF-M 1.0: one entry is one API call, memory access, interrupt, stop or return of one actor.
use Rattle.std.specs.Prelude.{ℕ, pos, ◌==◌, nat_lt, Bool, true, false, not, ◌&&◌, ◌||◌, if◌then◌else◌, List, Some, None, Option, option_and_then, fold, IsSome}
use Rattle.std.specs.Str.{bytes_eq}
use Rattle.std.specs.Ordering.{int_eq}
use Rattle.ffm_model.specs.declared.system.System.{System}
use Rattle.ffm_model.specs.declared.machine.Handle.{Handle}
use Rattle.ffm_model.specs.declared.machine.Message.{Message}
use Rattle.ffm_model.specs.declared.machine.Entry.{Entry}
use Rattle.ffm_model.specs.declared.machine.Call.{Call}
use Rattle.ffm_model.specs.declared.machine.Call.TheVariants as call
use Rattle.ffm_model.specs.declared.machine.Outcome.{Outcome}
use Rattle.ffm_model.specs.declared.machine.Outcome.TheVariants.{Value, Number, Signals, Got, Blocked, Done, Panicked}
use Rattle.ffm_model.specs.declared.objects.ActorPhase.{ActorPhase}
use Rattle.ffm_model.specs.declared.objects.ActorPhase.TheVariants as phase
use Rattle.ffm_model.specs.Actors.{actor_count}
use Rattle.ffm_model.specs.Memory.{ByteMap}
use Rattle.ffm_model.specs.State.{SpmState, State, opening, phase_of, handle_eq, fresh}
use Rattle.ffm_model.specs.Signals.{enabled, may_resume}
use Rattle.ffm_model.specs.Calls.{programmer_error, effect_of}

abbrev pub message_eq : Message → Message → Bool
message_eq m n =
    int_eq m.kind n.kind && (handle_eq m.handle n.handle && (int_eq m.client_id n.client_id
    && ((m.rhandle == n.rhandle) && (bytes_eq m.in_size n.in_size && bytes_eq m.out_size n.out_size))))

abbrev pub outcome_eq : Outcome → Outcome → Bool
outcome_eq (Value z) (Value w) = int_eq z w
outcome_eq (Number n) (Number m) = n == m
outcome_eq (Signals n) (Signals m) = n == m
outcome_eq (Got m) (Got n) = message_eq m n
outcome_eq Blocked Blocked = true
outcome_eq Done Done = true
outcome_eq Panicked Panicked = true
outcome_eq _ _ = false

-- the handle that an outcome shows, where it shows one
abbrev pub handle_shown : Outcome → Handle
handle_shown (Value z) = record { 0 = z }
handle_shown (Got m) = m.handle
handle_shown _ = record { 0 = pos 0 }

-- psa_get gives a handle, and so does the return of psa_connect
abbrev pub gives_handle : ActorPhase → Call → Bool
gives_handle p (call.Get signal msg) = true
gives_handle (phase.Connected c) call.Resume = true
gives_handle _ _ = false

-- a call returns exactly where it is to return
abbrev pub returns_when_due : Call → ActorPhase → Bool
returns_when_due call.Resume p = may_resume p
returns_when_due _ p = not (may_resume p)

-- the actor exists, is enabled, and makes no call while one is to return
abbrev pub may_call : System → SpmState → ℕ → Call → Bool
may_call s b a c = nat_lt a (actor_count s) && (enabled s b a && returns_when_due c (phase_of b a))

-- a handle that the call gives is a fresh one, and the machine leaves open which
abbrev pub handle_allowed : System → State → ℕ → Call → Handle → Bool
handle_allowed s st a c h = programmer_error s st a c || (not (gives_handle (phase_of st.spm a) c) || fresh st h)

-- the state after an entry, or nothing where the entry is no step: its outcome is that of its call
unfoldable pub step : System → State → Entry → Option State
step s st e =
    let h = handle_shown e.outcome in
    let due = effect_of s st e.actor.0 e.call h in
    if may_call s st.spm e.actor.0 e.call && handle_allowed s st e.actor.0 e.call h && outcome_eq due.outcome e.outcome
    then Some due.state
    else None

-- one entry further, where the entries before it are a run
abbrev pub step_on : System → Option State → Entry → Option State
step_on s st e = option_and_then (λ x. step s x e) st

-- the state after the entries, or nothing as soon as one is no step
abbrev pub after : System → ByteMap → List Entry → Option State
after s m es = fold (step_on s) (Some (opening s m)) es

-- the entries are a run of the machine
abbrev pub Run : System → ByteMap → List Entry → Type 0
Run s m es = IsSome (after s m es)
