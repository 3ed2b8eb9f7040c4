-- What the manager keeps true of itself, and what its calls do.
-- Source: this manager's. These serve its own proof; no public contract cites them.
use Rattle.std.specs.Prelude.{ℕ, ◌≡◌, ◌≤◌, true, List, length, Some, None, Result, Ok, Err, IsSomeAnd}
use Rattle.ffm_model.specs.declared.constants.TheConstants.{MAX_ENTRIES}
use Rattle.ffm_model.specs.declared.system.System.{System}
use Rattle.ffm_model.specs.declared.scenario.Bytes.{Bytes}
use Rattle.ffm_model.specs.declared.machine.Entry.{Entry}
use Rattle.ffm_model.specs.declared.machine.Call.{Call}
use Rattle.ffm_model.specs.declared.machine.Fault.{Fault}
use Rattle.ffm_model.specs.declared.machine.Handle.{Handle}
use Rattle.ffm_model.specs.declared.machine.Outcome.{Outcome}
use Rattle.ffm_model.specs.declared.machine.Outcome.TheVariants as outcome
use Rattle.ffm_model.specs.Actors.{kind_of}
use Rattle.ffm_model.specs.Memory.{ByteMap}
use Rattle.ffm_model.specs.State.{phase_of}
use Rattle.ffm_model.specs.ClientCalls.{Effect, effect, returned}
use Rattle.ffm_model.specs.Accesses.{load, store}
use Rattle.ffm_model.specs.Calls.{call_case, effect_of, error_effect}
use Rattle.ffm_model.specs.Step.{handle_shown}
use Rattle.ffm_model.specs.Names.{NamedState, NamesSoFar, named_after, shows_name}
use Rattle.ffm_model.specs.Ranges.{ranges_of}
use Rattle.memory_image.specs.Pieces.{byte_at, regions_of}
use Rattle.law_calls.specs.Named.{NamesAre}
use Rattle.law_calls.specs.Stands.{Stands}
use Rattle.spm_tables.specs.Answers.{state_with}
use Rattle.spm_tables.specs.TablesView.{TablesView, spm_of, MadeFor}
use Rattle.spm_core.specs.Manager.{Opening}

-- ---- loads and stores

-- the number is that of the machine, over any other state
abbrev pub Loads : System → ℕ → ℕ → ℕ → List Bytes → Result ℕ Fault → Type 0
Loads s a address size bytes (Ok n) = (d : TablesView) (given : List Handle) → load s (state_with d given (byte_at bytes)) a address size ≡ Some (effect (outcome.Number n) (state_with d given (byte_at bytes)))
Loads s a address size bytes (Err fault) = (d : TablesView) (given : List Handle) → load s (state_with d given (byte_at bytes)) a address size ≡ None

-- the memory is that of the machine, over any other state
abbrev pub Stores : System → ℕ → ℕ → ℕ → ℕ → List Bytes → Result (Unit {0}) Fault → List Bytes → Type 0
Stores s a address size value old (Ok u) new = (d : TablesView) (given : List Handle) → store s (state_with d given (byte_at old)) a address size value ≡ Some (effect outcome.Done (state_with d given (byte_at new)))
Stores s a address size value old (Err fault) new = ((d : TablesView) (given : List Handle) → store s (state_with d given (byte_at old)) a address size value ≡ None) × (new ≡ old)

-- ---- calls

abbrev pub entry_of : ℕ → Call → Outcome → Entry
entry_of a c o = record { actor = record { 0 = a }; call = c; outcome = o }

-- an effect with this outcome, and a state of these tables and this memory
pub record IsEffect (e : Effect) (o : Outcome) (new : TablesView) (after : ByteMap) : Type 0 where
  pub outcome : e.outcome ≡ o
  pub spm : e.state.spm ≡ spm_of new
  pub memory : e.state.memory ≡ after

-- the handle shown is the name due, whatever was given before
abbrev pub ShowsName : System → ℕ → Call → TablesView → ByteMap → Outcome → Type 0
ShowsName s a c old m o = (given : List Handle) (k : NamesSoFar) → NamesAre old k → shows_name s (state_with old given m) (entry_of a c o) k ≡ true

-- a call is a PROGRAMMER ERROR and nothing changed, or what it answers and leaves is what is due
abbrev pub Attempts : System → ℕ → Call → TablesView → List Bytes → Result Outcome Fault → TablesView → List Bytes → Type 0
Attempts s a c old bytes (Ok o) new after = (given : List Handle) → IsSomeAnd (call_case s (state_with old given (byte_at bytes)) a c (handle_shown o)) (λ e. IsEffect e o new (byte_at after))
Attempts s a c old bytes (Err fault) new after = ((given : List Handle) (h : Handle) → call_case s (state_with old given (byte_at bytes)) a c h ≡ None) × ((new ≡ old) × (after ≡ bytes))

-- the outcome and the state are those that the machine makes of the call, whatever handles were given before
abbrev pub Does : System → ℕ → Call → TablesView → List Bytes → Outcome → TablesView → List Bytes → Type 0
Does s a c old bytes o new after = (given : List Handle) → IsEffect (effect_of s (state_with old given (byte_at bytes)) a c (handle_shown o)) o new (byte_at after)

-- ---- what a manager keeps

-- the state and the names after the history are those of the tables and the bytes
pub record Holds (d : TablesView) (bytes : List Bytes) (w : NamedState) : Type 0 where
  pub stands : Stands d bytes w.state
  pub names : NamesAre d w.names

-- its history is a run, with the names of handles, to the state that it holds, and there is room up to the limit
pub record Keeps (o : Opening) (history : List Entry) (bytes : List Bytes) (d : TablesView) (capacity : ℕ) : Type 0 where
  pub limited : o.limit ≤ MAX_ENTRIES
  pub within : length history ≤ o.limit
  pub room : o.limit ≤ capacity
  pub regions : regions_of bytes ≡ ranges_of o.system.regions
  pub made : MadeFor d o.system
  pub run : IsSomeAnd (named_after o.system (byte_at o.memory) history) (λ w. Holds d bytes w)

-- the return of a call that waited: the outcome and the tables are those due
abbrev pub IsReturned : System → ℕ → TablesView → Outcome → TablesView → Type 0
IsReturned s a old o new = (given : List Handle) (m : ByteMap) → IsEffect (returned s (state_with old given m) a (phase_of (spm_of old) a) (handle_shown o)) o new m

-- a call that is a PROGRAMMER ERROR: a partition panics, and to others nothing happens
abbrev pub IsRefusedCall : System → ℕ → Call → TablesView → Outcome → TablesView → Type 0
IsRefusedCall s a c old o new = (given : List Handle) (m : ByteMap) → IsEffect (error_effect (kind_of s a) s (state_with old given m) a c) o new m
