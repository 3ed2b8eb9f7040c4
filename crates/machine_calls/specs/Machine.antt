-- The checker's state as the machine's definitions have it, and what a call answers and leaves of it.
-- Source: FF-M 1.0; the machine's definition of each call is an outcome and a state, or nothing where the call is a PROGRAMMER ERROR.
use Rattle.std.specs.Prelude.{ℕ, ◌≡◌, List, [], ◌∷◌, ◌++◌, Option, Some, None, Result, Ok, Err, All}
use Rattle.ffm_model.specs.declared.system.System.{System}
use Rattle.ffm_model.specs.declared.machine.Handle.{Handle}
use Rattle.ffm_model.specs.declared.machine.Memory.{Memory}
use Rattle.ffm_model.specs.declared.machine.Message.{Message}
use Rattle.ffm_model.specs.declared.machine.Outcome.{Outcome}
use Rattle.ffm_model.specs.declared.machine.Outcome.TheVariants.{Got}
use Rattle.ffm_model.specs.ClientCalls.{Move, move, Effect, effect}
use Rattle.ffm_model.specs.State.{SpmState, State}
use Rattle.ffm_model.specs.Ranges.{ranges_of}
use Rattle.memory_image.specs.Pieces.{byte_at, regions_of}
use Rattle.machine_rules.specs.Vectors.{AreWithin}
use Rattle.machine_calls.specs.declared.machine.Objects.{Objects}
use Rattle.machine_calls.specs.declared.machine.Machine.{Machine}

-- the state without its memory and without the handles of the past
abbrev pub spm_of_objects : Objects → SpmState
spm_of_objects o = record {
  connections = o.connections.items;
  connections_made = o.connections_made;
  messages = o.messages.items;
  phases = o.phases.items;
  doorbells = o.doorbells.items;
  sources = o.sources.items;
}

-- the whole state, with the handles given so far
abbrev pub state_of : Machine → List Handle → State
state_of m given = record { spm = spm_of_objects m.objects; handles_given = given; memory = byte_at m.memory }

-- the outcome and the state are those due; a PROGRAMMER ERROR is told exactly where none are due, and then nothing changed
abbrev pub Moves : Option Move → Objects → Result (Option Outcome) Memory → Objects → Type 0
Moves due old (Ok (Some o)) new = due ≡ Some (move o (spm_of_objects new))
Moves due old (Ok None) new = (due ≡ None) × (new ≡ old)
Moves due old (Err e) new = Unit {0}

-- the same for a call that reads or changes the memory, and gives no handle
abbrev pub Does : (List Handle → Option Effect) → Machine → Result (Option Outcome) Memory → Machine → Type 0
Does due old (Ok (Some o)) new = (given : List Handle) → due given ≡ Some (effect o (state_of new given))
Does due old (Ok None) new = ((given : List Handle) → due given ≡ None) × (new ≡ old)
Does due old (Err e) new = Unit {0}

-- ---- what is kept of the messages and the memory

-- the vectors of all messages fit the regions
abbrev pub MessagesFit : List (ℕ × ℕ) → Objects → Type 0
MessagesFit regions o = All (λ m. AreWithin regions m.vectors) o.messages.items

-- the machine has the memory of the system, and the vectors of its messages fit it
pub record IsMachineOf (s : System) (m : Machine) : Type 0 where
  pub regions : regions_of m.memory ≡ ranges_of s.regions
  pub messages : MessagesFit (ranges_of s.regions) m.objects

-- what psa_get answers and leaves, where it gives the handle
abbrev pub Gets : (List Handle → Option Effect) → Handle → Machine → Option Message → Machine → Type 0
Gets due h old (Some m) new = (given : List Handle) → due given ≡ Some (effect (Got m) (state_of new (given ++ h ∷ [])))
Gets due h old None new = ((given : List Handle) → due given ≡ None) × (new ≡ old)
