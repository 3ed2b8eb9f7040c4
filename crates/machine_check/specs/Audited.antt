-- A trace as far as it was audited.
-- Source: this simulator's. These serve the audit's own proof; no public contract cites them.
use Rattle.std.specs.Prelude.{ℕ, ◌≡◌, ◌+◌, ◌≤◌, Bool, true, false, List, [], ◌++◌, length, Option, Result, Ok, Err}
use Rattle.std.specs.List.{cons_option}
use Rattle.std.specs.Option.{option_map}
use Rattle.ffm_model.specs.declared.system.System.{System}
use Rattle.ffm_model.specs.declared.machine.Entry.{Entry}
use Rattle.ffm_model.specs.declared.machine.Handle.{Handle}
use Rattle.ffm_model.specs.declared.machine.Memory.{Memory}
use Rattle.ffm_model.specs.declared.machine.Verdict.{Verdict}
use Rattle.ffm_model.specs.Memory.{ByteMap}
use Rattle.ffm_model.specs.State.{opening}
use Rattle.ffm_model.specs.Verdicts.{judged}
use Rattle.machine_calls.specs.Machine.{state_of, IsMachineOf}
use Rattle.ffm_model.specs.Ranges.{ranges_of}
use Rattle.memory_image.specs.Pieces.{byte_at, regions_of}
use Rattle.machine_check.specs.declared.auditing.Auditor.{Auditor}
use Rattle.machine_check.specs.declared.auditing.Change.{Change}
use Rattle.machine_check.specs.declared.differences.Differences.{Differences}
use Rattle.machine_check.specs.Auditing.{AreChanges, IsChangeOf}
use Rattle.machine_check.specs.Checking.{Accepts, ChecksTo, IsAccepted, Starts}
use Rattle.machine_check.specs.Performed.{Knows}

abbrev pub change_of : ℕ → Differences → Option Change
change_of place found = option_map (λ lowest. record { place = place; lowest = lowest; count = found.count; outside = found.outside }) found.lowest

-- the memory before the next entry is the one that is kept beside
pub record IsUpToDate (s : System) (a : Auditor) : Type 0 where
  pub regions : regions_of a.before ≡ ranges_of s.regions
  pub bytes : byte_at a.before ≡ byte_at a.checker.machine.memory

pub record Begins (s : System) (m : ByteMap) (a : Auditor) : Type 0 where
  pub starts : Starts s m a.checker
  pub same : IsUpToDate s a
  pub changes : a.changes.items ≡ []

-- what has to hold before an entry
pub record IsReady (s : System) (a : Auditor) : Type 0 where
  pub all : List Handle
  pub knows : Knows a.checker.given all
  pub kept : IsMachineOf s a.checker.machine
  pub made : a.checker.machine.objects.connections_made ≤ a.checker.count
  pub same : IsUpToDate s a

-- the change of an actor's entry was told, where it has one
pub record Tells (s : System) (a : ℕ) (old new : Auditor) : Type 0 where
  pub here : Option Change
  pub is_change : IsChangeOf s old.checker.count a (byte_at old.before) (byte_at old.checker.machine.memory) here
  pub changes : new.changes.items ≡ old.changes.items ++ cons_option here []
  pub same : IsUpToDate s new

-- an entry was accepted, and its change told
pub record IsAudited (s : System) (limit : ℕ) (old : Auditor) (all : List Handle) (e : Entry) (new : Auditor) : Type 0 where
  pub accepted : IsAccepted s limit old.checker all e new.checker
  pub here : Option Change
  pub is_change : IsChangeOf s new.checker.count e.actor.0 (byte_at old.checker.machine.memory) (byte_at new.checker.machine.memory) here
  pub changes : new.changes.items ≡ old.changes.items ++ cons_option here []
  pub same : IsUpToDate s new

-- or it was not, and nothing is told
abbrev pub Audits : System → ℕ → Auditor → List Handle → Entry → Result Bool Memory → Auditor → Type 0
Audits s limit old all e (Ok true) new = IsAudited s limit old all e new
Audits s limit old all e (Ok false) new = Accepts s limit old.checker all e (Ok false) new.checker × (new.changes ≡ old.changes)
Audits s limit old all e (Err x) new = Unit {0}

-- the judgement of the whole trace is that of the entries left, and what was told are the changes of those before them
pub record AuditsTo (s : System) (m : ByteMap) (limit : ℕ) (es : List Entry) (v : Verdict) (a : Auditor) (left : List Entry) : Type 0 where
  pub checks : ChecksTo s limit v (judged s m limit es v) a.checker left
  pub front : List Entry
  pub passed : es ≡ front ++ left
  pub count : length front ≡ a.checker.count
  pub same : IsUpToDate s a
  pub changes : (more : List Entry) (later : List Change) → AreChanges s (a.checker.count + 1) (state_of a.checker.machine checks.all) more later
      → AreChanges s 1 (opening s m) (front ++ more) (a.changes.items ++ later)
