-- A trace as far as it was checked.
-- Source: this checker's; `judged` of the model. The contracts of `Checker` cite `Starts`, `Accepts` and `ChecksTo`; the others serve its own proof.
use Rattle.std.specs.Prelude.{ℕ, ◌≡◌, ◌+◌, ◌<◌, ◌≤◌, ◌⊎◌, Bool, true, false, List, [], ◌∷◌, ◌++◌, length, None, Some, Result, Ok, Err}
use Rattle.ffm_model.specs.declared.system.System.{System}
use Rattle.ffm_model.specs.declared.machine.Entry.{Entry}
use Rattle.ffm_model.specs.declared.machine.Handle.{Handle}
use Rattle.ffm_model.specs.declared.machine.Memory.{Memory}
use Rattle.ffm_model.specs.declared.machine.Verdict.{Verdict}
use Rattle.ffm_model.specs.Memory.{ByteMap}
use Rattle.ffm_model.specs.State.{opening}
use Rattle.ffm_model.specs.Step.{step, after, Run}
use Rattle.ffm_model.specs.Verdicts.{Judgement, judged_from}
use Rattle.machine_check.specs.declared.judging.Checker.{Checker}
use Rattle.machine_check.specs.declared.judging.Followed.{Followed}
use Rattle.machine_check.specs.declared.judging.Followed.TheVariants as followed
use Rattle.machine_calls.specs.Machine.{state_of, IsMachineOf}
use Rattle.machine_check.specs.Performed.{Knows}
use Rattle.machine_check.specs.Reaching.{IsAfter}

-- the judgement of the whole trace is that of the entries left, from the state and the count that are kept
pub record ChecksTo (s : System) (limit : ℕ) (v : Verdict) (j : Judgement) (c : Checker) (left : List Entry) : Type 0 where
  pub all : List Handle
  pub knows : Knows c.given all
  pub kept : IsMachineOf s c.machine
  pub made : c.machine.objects.connections_made ≤ c.count
  pub judged : j ≡ judged_from s limit v c.count left (state_of c.machine all)

-- the state that a run begins with
pub record Starts (s : System) (m : ByteMap) (c : Checker) : Type 0 where
  pub knows : Knows c.given []
  pub kept : IsMachineOf s c.machine
  pub state : state_of c.machine [] ≡ opening s m
  pub made : c.machine.objects.connections_made ≡ 0
  pub count : c.count ≡ 0

-- an entry was accepted: it is a step, and not above the limit
pub record IsAccepted (s : System) (limit : ℕ) (old : Checker) (all : List Handle) (e : Entry) (new : Checker) : Type 0 where
  pub below : old.count < limit
  pub count : new.count ≡ old.count + 1
  pub given : List Handle
  pub knows : Knows new.given given
  pub is_step : step s (state_of old.machine all) e ≡ Some (state_of new.machine given)
  pub kept : IsMachineOf s new.machine
  pub made : new.machine.objects.connections_made ≤ new.count

-- or it was not: it is above the limit, or no step
abbrev pub Accepts : System → ℕ → Checker → List Handle → Entry → Result Bool Memory → Checker → Type 0
Accepts s limit old all e (Ok true) new = IsAccepted s limit old all e new
Accepts s limit old all e (Ok false) new = ((limit ≤ old.count) ⊎ (step s (state_of old.machine all) e ≡ None)) × (new.count ≡ old.count)
Accepts s limit old all e (Err x) new = Unit {0}

-- so many entries are a run within the limit, and the next one is above it or no step
pub record Stops (s : System) (m : ByteMap) (limit : ℕ) (es : List Entry) (n : ℕ) : Type 0 where
  pub front : List Entry
  pub entry : Entry
  pub rest : List Entry
  pub parts : es ≡ front ++ entry ∷ rest
  pub count : n ≡ length front
  pub within : n ≤ limit
  pub run : Run s m front
  pub next : (n ≡ limit) ⊎ (after s m (front ++ entry ∷ []) ≡ None)

-- all entries are within the limit and lead to the state that is kept, or so many do and no more
abbrev pub Follows : System → ByteMap → ℕ → List Entry → Followed → Type 0
Follows s m limit es (followed.All c) = IsAfter s m es c × (c.count ≤ limit)
Follows s m limit es (followed.Part n) = Stops s m limit es n
