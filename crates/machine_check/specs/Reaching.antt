-- The state after the first entries of a trace, and what the machine answers there.
-- Source: this simulator's; `after` and `step` of the model.
use Rattle.std.specs.Prelude.{ℕ, ◌≡◌, ◌+◌, ◌≤◌, ◌⊎◌, List, length, take, Option, Some, None, IsSome}
use Rattle.ffm_model.specs.declared.system.System.{System}
use Rattle.ffm_model.specs.declared.machine.Call.{Call}
use Rattle.ffm_model.specs.declared.machine.Entry.{Entry}
use Rattle.ffm_model.specs.declared.machine.Handle.{Handle}
use Rattle.ffm_model.specs.declared.machine.Outcome.{Outcome}
use Rattle.ffm_model.specs.Memory.{ByteMap}
use Rattle.ffm_model.specs.State.{State}
use Rattle.ffm_model.specs.Step.{step, after}
use Rattle.machine_calls.specs.Machine.{state_of, IsMachineOf}
use Rattle.machine_check.specs.declared.judging.Checker.{Checker}
use Rattle.machine_check.specs.Performed.{Knows}

-- the entries are a run, and the state after them is the one that is kept
pub record IsAfter (s : System) (m : ByteMap) (es : List Entry) (c : Checker) : Type 0 where
  pub count : c.count ≡ length es
  pub handles : List Handle
  pub knows : Knows c.given handles
  pub state : after s m es ≡ Some (state_of c.machine handles)
  pub kept : IsMachineOf s c.machine
  pub made : c.machine.objects.connections_made ≤ c.count

-- there are no more entries than these, no more are within the limit, or with the next one they are no run
abbrev pub IsLast : System → ByteMap → ℕ → List Entry → ℕ → Type 0
IsLast s m limit es n = (n ≡ length es) ⊎ ((n ≡ limit) ⊎ (after s m (take (n + 1) es) ≡ None))

-- the state is that after as many entries as are a run within the limit
pub record IsReached (s : System) (m : ByteMap) (limit : ℕ) (es : List Entry) (c : Checker) : Type 0 where
  pub few : c.count ≤ length es
  pub within : c.count ≤ limit
  pub behind : IsAfter s m (take c.count es) c
  pub last : IsLast s m limit es c.count

-- the outcome with which an actor's call is a step; none where it is one with no outcome
abbrev pub IsDue : System → State → ℕ → Call → Option Outcome → Type 0
IsDue s st a c (Some o) = IsSome (step s st (record { actor = record { 0 = a }; call = c; outcome = o }))
IsDue s st a c None = (o : Outcome) → step s st (record { actor = record { 0 = a }; call = c; outcome = o }) ≡ None
