-- What a call of an actor answers, and what it leaves of the tables, in the machine's words.
-- Source: FF-M 1.0; the machine's definition of each call is an outcome and a state, or nothing where the call is a PROGRAMMER ERROR.
use Rattle.std.specs.Prelude.{◌≡◌, List, Option, Some, None, Result, Ok, Err}
use Rattle.ffm_model.specs.declared.machine.Fault.{Fault}
use Rattle.ffm_model.specs.declared.machine.Handle.{Handle}
use Rattle.ffm_model.specs.declared.machine.Outcome.{Outcome}
use Rattle.ffm_model.specs.ClientCalls.{Move, move}
use Rattle.ffm_model.specs.Memory.{ByteMap}
use Rattle.ffm_model.specs.State.{State}
use Rattle.spm_tables.specs.TablesView.{TablesView, spm_of}

-- the machine's state that tables, the handles given so far and a memory make up
abbrev pub state_with : TablesView → List Handle → ByteMap → State
state_with d given m = record { spm = spm_of d; handles_given = given; memory = m }

-- the outcome and the state are those due; a fault comes exactly where none are due, and then nothing changed
abbrev pub Answers : {R : Type 0} → (R → Outcome) → Option Move → TablesView → Result R Fault → TablesView → Type 0
Answers shown due old (Ok r) new = due ≡ Some (move (shown r) (spm_of new))
Answers shown due old (Err fault) new = (due ≡ None) × (new ≡ old)
